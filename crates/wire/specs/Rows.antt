-- Rows that are not in use, and the memory that texts lie in.
use Rattle.std.specs.Prelude.{ℕ, min, List, ◌++◌, length, take, drop, replicate, pos}
use Rattle.wire.specs.declared.kind.Kind.TheVariants.{Blank}
use Rattle.wire.specs.declared.row.Store.TheVariants.{Message}
use Rattle.wire.specs.declared.row.Span.{Span}
use Rattle.wire.specs.declared.row.Row.{Row}

abbrev pub blank_row : Row
blank_row = record { kind = Blank; count = 0; number = pos 0; scale = 0; text = record { store = Message; start = 0; len = 0 } }

-- the part of a memory that a span names, as far as the memory reaches
abbrev pub cut_from : List ℕ → Span → List ℕ
cut_from memory span = take span.len (drop span.start memory)

-- memory whose first n places hold x, or all of them where there are fewer, and the rest as before
abbrev pub cleared : {X : Type 0} → X → ℕ → List X → List X
cleared x n memory = replicate (min n (length memory)) x ++ drop (min n (length memory)) memory
