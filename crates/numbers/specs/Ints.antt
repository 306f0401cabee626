-- Ints: an optional sign and one or more digits, blanks round them, in the range of 32 bits.
use Rattle.std.specs.Prelude.{ℕ, Bool, cond, ◌&&◌, List, length, ℤ, Some, None, Option, ◌==◌, nat_le, unsigned_abs}
use Rattle.std.specs.List.{prefix_len}
use Rattle.texts.specs.Bytes.{unblanked}
use Rattle.texts.specs.Digits.{is_digit, worth}
use Rattle.numbers.specs.Signs.{is_minus, after_sign, signed, signed_spelling, is_negative}

-- one or more digits and nothing else
abbrev pub is_numeral : List ℕ → Bool
is_numeral ds = nat_le 1 (length ds) && prefix_len is_digit ds == length ds

-- the largest magnitude: one more below zero than above
abbrev pub largest : Bool → ℕ
largest minus = cond minus 2147483648 2147483647

-- the int that a sign and the digits behind it spell
abbrev pub signed_int : Bool → List ℕ → Option ℤ
signed_int minus ds = cond (is_numeral ds && nat_le (worth ds) (largest minus)) (Some (signed minus (worth ds))) None

-- the int that a text without blanks round it spells
abbrev pub plain_int : List ℕ → Option ℤ
plain_int bs = signed_int (is_minus bs) (after_sign bs)

-- the int that a text spells
abbrev pub int_of : List ℕ → Option ℤ
int_of bs = plain_int (unblanked bs)

-- how an int is written
abbrev pub int_spelling : ℤ → List ℕ
int_spelling z = signed_spelling (is_negative z) (unsigned_abs z)
