-- Decimal digits and what they are worth.
use Rattle.std.specs.Prelude.{ℕ, zero, suc, ◌+◌, ◌-◌, ◌*◌, ◌/◌, ◌%◌, Bool, List, [], ◌∷◌, ◌++◌}
use Rattle.texts.specs.Bytes.{within}

abbrev pub is_digit : ℕ → Bool
is_digit b = within 48 57 b

-- what digits are worth after a number n: each multiplies it by ten and adds itself
abbrev pub worth_after : ℕ → List ℕ → ℕ
worth_after n [] = n
worth_after n (d ∷ ds) = worth_after (n * 10 + (d - 48)) ds

-- what digits are worth
abbrev pub worth : List ℕ → ℕ
worth ds = worth_after 0 ds

-- the last w decimal digits of n, zeros in front where it has fewer
abbrev pub padded : ℕ → ℕ → List ℕ
padded zero n = []
padded (suc w) n = padded w (n / 10) ++ (48 + n % 10) ∷ []
