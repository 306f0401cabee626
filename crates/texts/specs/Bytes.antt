-- Bytes and the blanks round a text.
use Rattle.std.specs.Prelude.{ℕ, ◌-◌, Bool, ◌&&◌, ◌||◌, List, length, take, drop, ◌==◌, nat_le}
use Rattle.std.specs.List.{prefix_len, suffix_len}

-- a byte from lo to hi
abbrev pub within : ℕ → ℕ → ℕ → Bool
within lo hi b = nat_le lo b && nat_le b hi

-- tab, line feed, carriage return and space
abbrev pub is_blank : ℕ → Bool
is_blank b = b == 32 || (b == 10 || (b == 9 || b == 13))

-- a text without the blanks in front of it
abbrev pub after_blanks : List ℕ → List ℕ
after_blanks bs = drop (prefix_len is_blank bs) bs

-- a text without the blanks round it
abbrev pub unblanked : List ℕ → List ℕ
unblanked bs = take (length (after_blanks bs) - suffix_len is_blank (after_blanks bs)) (after_blanks bs)
