-- Booleans.
use Rattle.std.specs.Prelude.{ℕ, Bool, true, false, cond, List, [], ◌∷◌, length, Some, None, Option, ◌==◌, slice_index}
use Rattle.texts.specs.Bytes.{unblanked}

-- `0` is false and `1` is true
abbrev pub truth : ℕ → Option Bool
truth b = cond (b == 48) (Some false) (cond (b == 49) (Some true) None)

-- one such byte, blanks round it
abbrev pub boolean_of : List ℕ → Option Bool
boolean_of bs = cond (length (unblanked bs) == 1) (truth (slice_index (unblanked bs) 0)) None

abbrev pub boolean_spelling : Bool → List ℕ
boolean_spelling b = cond b 49 48 ∷ []
