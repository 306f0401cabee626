-- How rows hold one another: a row is followed by the rows of its parts, and it counts its parts.
use Rattle.std.specs.Prelude.{ℕ, zero, suc, ◌+◌, List, [], ◌∷◌, map, drop}
use Rattle.wire.specs.declared.row.Row.{Row}

-- how many rows the next n parts take, given the counts of the rows from there on
abbrev pub extent : ℕ → List ℕ → ℕ
extent zero counts = 0
extent (suc n) [] = 0
extent (suc n) (count ∷ counts) = 1 + extent (n + count) counts

-- the row at which part k of row s begins
abbrev pub part_at : List ℕ → ℕ → ℕ → ℕ
part_at counts s zero = s + 1
part_at counts s (suc k) = part_at counts s k + extent 1 (drop (part_at counts s k) counts)

-- how many parts each row holds
abbrev pub counts_of : List Row → List ℕ
counts_of rows = map (λ row. row.count) rows
