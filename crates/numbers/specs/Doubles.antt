-- Doubles: an optional sign, one or more digits, and optionally a point and one or more digits.
use Rattle.std.specs.Prelude.{◌≡◌, ℕ, ◌+◌, ◌-◌, ◌/◌, ◌%◌, ◌^◌, max, Bool, true, cond, ◌&&◌, ◌||◌, List, ◌∷◌, ◌++◌, length, take, drop, ℤ, Some, None, Option, ◌==◌, nat_le, slice_index, unsigned_abs}
use Rattle.std.specs.List.{prefix_len, suffix_len, AllByRecursion}
use Rattle.texts.specs.Bytes.{within, unblanked}
use Rattle.texts.specs.Digits.{is_digit, worth, padded}
use Rattle.numbers.specs.Signs.{is_minus, after_sign, signed, signed_spelling, is_negative}
use Rattle.numbers.specs.Ints.{is_numeral}

abbrev pub is_zero : ℕ → Bool
is_zero b = within 48 48 b

abbrev pub AllDigits : List ℕ → Type 0
AllDigits ds = AllByRecursion (λ d. is_digit d ≡ true) ds

-- the digits at the front, and what follows them
abbrev pub whole : List ℕ → List ℕ
whole bs = take (prefix_len is_digit bs) bs

abbrev pub behind : List ℕ → List ℕ
behind bs = drop (prefix_len is_digit bs) bs

-- what follows the whole digits is nothing, or a point and one or more digits
abbrev pub is_fraction : List ℕ → Bool
is_fraction rest = length rest == 0 || (slice_index rest 0 == 46 && is_numeral (drop 1 rest))

-- the digits that count: the whole ones after their leading zeros, the fraction's before its trailing zeros
abbrev pub counted_whole : List ℕ → List ℕ
counted_whole ds = drop (prefix_len is_zero ds) ds

abbrev pub counted_fraction : List ℕ → List ℕ
counted_fraction ds = take (length ds - suffix_len is_zero ds) ds

-- the digits of the fraction, none where there is no point
abbrev pub fraction : List ℕ → List ℕ
fraction bs = drop 1 (behind bs)

abbrev pub counted : List ℕ → List ℕ → List ℕ
counted ws fs = counted_whole ws ++ counted_fraction fs

-- one or more digits, optionally a fraction, and at most 18 digits that count
abbrev pub is_plain_double : List ℕ → Bool
is_plain_double bs = nat_le 1 (prefix_len is_digit bs) && (is_fraction (behind bs) && nat_le (length (counted (whole bs) (fraction bs))) 18)

-- the number and the scale that a sign and what stands behind it spell: the counted digits as one
-- signed whole number, and how many of them are the fraction's
abbrev pub signed_double : Bool → List ℕ → Option (ℤ × ℕ)
signed_double minus bs =
    cond (is_plain_double bs) (Some (signed minus (worth (counted (whole bs) (fraction bs))), length (counted_fraction (fraction bs)))) None

-- the number and the scale that a text without blanks round it spells
abbrev pub plain_double : List ℕ → Option (ℤ × ℕ)
plain_double bs = signed_double (is_minus bs) (after_sign bs)

-- the number and the scale that a text spells
abbrev pub double_of : List ℕ → Option (ℤ × ℕ)
double_of bs = plain_double (unblanked bs)

-- the digits behind the point: the last `scale` digits of the number, or a single zero where it has none
abbrev pub fraction_spelling : ℕ → ℕ → List ℕ
fraction_spelling n scale = padded (max scale 1) (cond (scale == 0) 0 n)

-- how a double is written: a digit at least on each side of the point, `-` only below zero
abbrev pub double_spelling : ℤ → ℕ → List ℕ
double_spelling z scale = signed_spelling (is_negative z) (unsigned_abs z / 10 ^ scale) ++ (46 ∷ fraction_spelling (unsigned_abs z) scale)

-- a number and a scale that some double has: at most 18 digits, and no trailing zero in the fraction
abbrev pub is_double : ℤ → ℕ → Bool
is_double z scale = nat_le (unsigned_abs z + 1) (10 ^ 18) && (nat_le scale 18 && (scale == 0 || nat_le 1 (unsigned_abs z % 10)))
