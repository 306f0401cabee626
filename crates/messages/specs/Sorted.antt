-- The rows of members in the order of their names.
use Rattle.std.specs.Prelude.{◌≡◌, ℕ, ◌<◌, ◌≤◌, List, length, get_or, Option, MatchOption, Result, MatchResult, ◌≢◌, slice_index, slice_index_or}
use Rattle.wire.specs.declared.row.Row.{Row}
use Rattle.wire.specs.Rows.{blank_row}
use Rattle.characters.specs.Decoding.{decoded}
use Rattle.reader.specs.Contents.{stored_in}
use Rattle.messages.specs.Holding.{part_at, counts_of}
use Rattle.messages.specs.Order.{Precedes}

module _ (msg : List ℕ) (rows : List Row) where
  -- the name of the member at a row, as read
  abbrev pub name_at : ℕ → List ℕ
  name_at i = decoded (stored_in msg (slice_index_or rows i blank_row))

  -- rows that are in the order of their names
  pub record Ascends (sorted : List ℕ) : Type 0 where
    pub inside : (a : ℕ) → a < length sorted → slice_index sorted a < length rows
    pub ascends : (a b : ℕ) → a < b → b < length sorted → Precedes (name_at (slice_index sorted a)) (name_at (slice_index sorted b))

  -- a name that none of the sorted rows has belongs before the row at p
  pub record Belongs (sorted name : List ℕ) (p : ℕ) : Type 0 where
    pub within : p ≤ length sorted
    pub below : (a : ℕ) → a < p → Precedes (name_at (slice_index sorted a)) name
    pub above : (a : ℕ) → p ≤ a → a < length sorted → Precedes name (name_at (slice_index sorted a))

  -- where a name stands among sorted rows, or else where it belongs
  abbrev pub IsPlaceOf : List ℕ → List ℕ → Result ℕ ℕ → Type 0
  IsPlaceOf sorted name r = MatchResult r (λ k. (k < length sorted) × (name_at (slice_index sorted k) ≡ name)) (Belongs sorted name)

  -- the name of member k of the struct at row s
  abbrev pub member_name : ℕ → ℕ → List ℕ
  member_name s k = name_at (part_at (counts_of rows) s k)

  -- the first n members of the struct at row s have different names
  abbrev pub Differ : ℕ → ℕ → Type 0
  Differ s n = (j k : ℕ) → j < k → k < n → member_name s j ≢ member_name s k

  -- the first member of the struct at row s whose name came before is member n, at row i
  pub record Comes (s n i : ℕ) : Type 0 where
    pub here : i ≡ part_at (counts_of rows) s n
    pub differ : Differ s n
    pub earlier : ℕ
    pub before : earlier < n
    pub same : member_name s earlier ≡ member_name s n

  -- the first of the struct's members whose name came before, if any
  abbrev pub ComesIn : ℕ → Option ℕ → Type 0
  ComesIn s r = MatchOption r (Differ s (get_or rows s blank_row).count) (λ i. (n : ℕ) × (n < (get_or rows s blank_row).count) × Comes s n i)
