-- How the texts of rows are written, byte by byte.
use Rattle.std.specs.Prelude.{ℕ, List, [], ◌∷◌, Some, None, Option}

-- a byte that stands for itself
abbrev pub itself : ℕ → List ℕ
itself b = b ∷ []

-- up to three bytes
abbrev pub group_of : ℕ → Option ℕ → Option ℕ → List ℕ
group_of a None c = a ∷ []
group_of a (Some b) None = a ∷ b ∷ []
group_of a (Some b) (Some c) = a ∷ b ∷ c ∷ []
