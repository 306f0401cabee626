-- The declaration at the front of a message.
use Rattle.std.specs.Prelude.{ℕ, ◌+◌, Bool, cond, ◌&&◌, List, [], ◌∷◌, take, drop, Some, None, codes, Option, ◌==◌, slice_index}
use Rattle.std.specs.Option.{option_map}
use Rattle.std.specs.Str.{bytes_eq}

-- whether a message has a declaration
abbrev pub is_declared : List ℕ → Bool
is_declared msg = bytes_eq (take 5 msg) (codes "<?xml")

-- how many bytes there are through the first `?>`
abbrev pub through_close : List ℕ → Option ℕ
through_close [] = None
through_close (b ∷ bs) = cond (b == 63 && slice_index bs 0 == 62) (Some 2) (option_map (λ n. n + 1) (through_close bs))

-- how many bytes the declaration has, none where a message has no declaration; nothing where it has no `?>`
unfoldable pub declaration_len : List ℕ → Option ℕ
declaration_len msg = cond (is_declared msg) (option_map (λ n. n + 5) (through_close (drop 5 msg))) (Some 0)
