-- The order in which names are kept to find them again: character by character, a shorter one before its continuations.
use Rattle.std.specs.Prelude.{◌≡◌, ℕ, ◌<◌, ◌⊎◌, Bool, ◌&&◌, ◌==◌, List, [], ◌∷◌}
use Rattle.std.specs.declared.cmp.Ordering.{Ordering}
use Rattle.std.specs.Ordering.{MatchOrdering}
use Rattle.characters.specs.Decoding.{is_plain}

abbrev pub Precedes : List ℕ → List ℕ → Type 0
Precedes xs [] = ⊥
Precedes [] (y ∷ ys) = Unit {0}
Precedes (x ∷ xs) (y ∷ ys) = (x < y) ⊎ ((x ≡ y) × Precedes xs ys)

-- an answer that tells how two names stand to each other
abbrev pub Orders : Ordering → List ℕ → List ℕ → Type 0
Orders o xs ys = MatchOrdering o (Precedes xs ys) (xs ≡ ys) (Precedes ys xs)

-- the same byte twice, one that stands for itself
abbrev pub same_plain : ℕ → ℕ → Bool
same_plain x y = x == y && is_plain x
