-- What a held message tells of a row.
use Rattle.std.specs.Prelude.{◌≡◌, ℕ, ◌<◌, ◌≤◌, List, [], length, Option, MatchOption, slice_index_or}
use Rattle.wire.specs.declared.kind.Kind.TheVariants as kind
use Rattle.wire.specs.Trees.{Content, text_row}
use Rattle.held.specs.declared.held.Facts.{Facts}

-- what is said past the last row
abbrev pub no_row : Content
no_row = text_row kind.Blank []

-- all that a row says but its text
abbrev pub facts_of : Content → Facts
facts_of c = record { kind = c.kind; count = c.count; number = c.number; scale = c.scale }

-- what is told of row i: there is none past the last
abbrev pub TellsRow : List Content → ℕ → Option Facts → Type 0
TellsRow rows i r = MatchOption r (length rows ≤ i) (λ f. (i < length rows) × (f ≡ facts_of (slice_index_or rows i no_row)))
