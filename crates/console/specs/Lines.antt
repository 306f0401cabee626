-- Lines of the input.
use Rattle.std.specs.Prelude.{ℕ, ◌≤◌, IfSome, Option}

-- a length, if there is one, that is at most so long
abbrev pub Within : Option ℕ → ℕ → Type 0
Within length most = IfSome length (λ n. n ≤ most)
