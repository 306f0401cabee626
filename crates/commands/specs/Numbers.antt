-- Numbers on a line: decimal, of any size, one space before each.
use Rattle.std.specs.Prelude.{◌≡◌, ℕ, ◌-◌, ◌^◌, ◌<◌, min, true, List, [], ◌∷◌, ◌++◌, length}
use Rattle.std.specs.List.{AllByRecursion}
use Rattle.texts.specs.Digits.{is_digit, worth}

-- a number as a machine number: itself, or the largest one where it is larger
abbrev pub capped : ℕ → ℕ
capped n = min n (2 ^ 64 - 1)

-- one or more digits that stand for a number
pub record Numeral (ds : List ℕ) (n : ℕ) : Type 0 where
  pub some : 0 < length ds
  pub digits : AllByRecursion (λ d. is_digit d ≡ true) ds
  pub value : n ≡ capped (worth ds)

-- a text that is these numbers, one space before each, and nothing else
unfoldable pub Spaced : List ℕ → List ℕ → Type 0
Spaced text [] = text ≡ []
Spaced text (n ∷ ns) = (ds : List ℕ) × (rest : List ℕ) × (text ≡ 32 ∷ (ds ++ rest)) × Numeral ds n × Spaced rest ns
