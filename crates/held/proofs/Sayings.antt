-- What rows over a message and ink say, one by one.
use Rattle.std.proofs.Common.{◌≡◌, ℕ, ◌<◌, ◌≤◌, List, length, get_or, arith}
use Rattle.std.proofs.lemmas.List.{length-map, get_or-map, get_or_past}
use Rattle.wire.specs.declared.row.Row.{Row}
use Rattle.wire.specs.Rows.{blank_row}
use Rattle.held.specs.Stored.{said_by, sayings}
use Rattle.held.specs.Told.{no_row}

module _ (msg ink : List ℕ) (rows : List Row) where
  pub many : length (sayings msg ink rows) ≡ length rows
  unfolding sayings
  many = length-map rows (said_by msg ink)

  pub at : (i : ℕ) → i < length rows → get_or (sayings msg ink rows) i no_row ≡ said_by msg ink (get_or rows i blank_row)
  unfolding sayings
  at i lt = get_or-map (said_by msg ink) rows i blank_row no_row lt

  pub past : (i : ℕ) → length rows ≤ i → get_or (sayings msg ink rows) i no_row ≡ no_row
  past i le = get_or_past (sayings msg ink rows) i no_row (omega (arith, le, many))
