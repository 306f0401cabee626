-- Method names.
use Rattle.std.specs.Prelude.{ℕ, Bool, ◌&&◌, ◌||◌, List, length, ◌==◌, nat_le}
use Rattle.std.specs.List.{prefix_len}
use Rattle.texts.specs.Bytes.{within}

-- a letter, a digit, `_`, `.`, `:` or `/`
abbrev pub is_method_byte : ℕ → Bool
is_method_byte b = within 65 90 b || (within 97 122 b || (within 48 57 b || (b == 95 || (b == 46 || (b == 58 || b == 47)))))

-- 1 to 64 such bytes
abbrev pub is_method_name : List ℕ → Bool
is_method_name bs = nat_le 1 (length bs) && (nat_le (length bs) 64 && prefix_len is_method_byte bs == length bs)
