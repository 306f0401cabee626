-- Member names that come twice in a struct.
use Rattle.std.specs.Prelude.{◌≡◌, ℕ, ◌<◌, ◌≤◌, min, List, [], map, length, get_or, Some, None, Option, MatchOption, slice_index_or}
use Rattle.wire.specs.declared.kind.Kind.TheVariants as kind
use Rattle.wire.specs.Trees.{Content, text_row}
use Rattle.wire.specs.declared.row.Row.{Row}
use Rattle.wire.specs.Rows.{blank_row}
use Rattle.messages.specs.Holding.{part_at, counts_of}

-- what is said by a row past the last
abbrev pub no_row : Content
no_row = text_row kind.Blank []

abbrev pub row_at : List Content → ℕ → Content
row_at rows i = slice_index_or rows i no_row

-- the row of member k of the struct whose row is s
abbrev pub member_at : List Content → ℕ → ℕ → ℕ
member_at rows s k = part_at (map (λ row. row.count) rows) s k

-- row i is that of a member of the struct at row s, and its name is that of an earlier member there
pub record RepeatIn (rows : List Content) (s i : ℕ) : Type 0 where
  pub is_struct : (row_at rows s).kind ≡ kind.Struct
  pub inside : i < length rows
  pub member : ℕ
  pub held : member < (row_at rows s).count
  pub here : i ≡ member_at rows s member
  pub earlier : ℕ
  pub before : earlier < member
  pub same : (row_at rows (member_at rows s earlier)).text ≡ (row_at rows i).text

-- row i is that of a member whose name came before in the same struct
abbrev pub RepeatAt : List Content → ℕ → Type 0
RepeatAt rows i = (s : ℕ) × RepeatIn rows s i

-- no name comes twice in a struct
abbrev pub NoRepeat : List Content → Type 0
NoRepeat rows = (i : ℕ) → RepeatAt rows i → ⊥

-- the least number of which something holds, if there is any
abbrev pub Least : (ℕ → Type 0) → Option ℕ → Type 0
Least P r = MatchOption r ((i : ℕ) → P i → ⊥) (λ i. P i × ((j : ℕ) → P j → i ≤ j))

-- the first row, in the order of the message, whose name came before in the same struct
abbrev pub FirstRepeat : List Content → ℕ → Type 0
FirstRepeat rows i = Least (RepeatAt rows) (Some i)

-- row i repeats a name in a struct whose row is one of the first n
abbrev pub RepeatBelow : List Content → ℕ → ℕ → Type 0
RepeatBelow rows n i = (s : ℕ) × (s < n) × RepeatIn rows s i

-- the parts of each struct are members, which stand among the rows
abbrev pub StructsHold : List Row → Type 0
StructsHold rows =
    (s k : ℕ) → s < length rows → (get_or rows s blank_row).kind ≡ kind.Struct → k < (get_or rows s blank_row).count →
    (part_at (counts_of rows) s k < length rows) × ((get_or rows (part_at (counts_of rows) s k) blank_row).kind ≡ kind.Member)

-- the earlier of two rows, where there are any
abbrev pub earlier_of : Option ℕ → Option ℕ → Option ℕ
earlier_of None b = b
earlier_of (Some i) None = Some i
earlier_of (Some i) (Some j) = Some (min i j)
