-- Passing over the rows of parts.
use Rattle.std.proofs.Common.{◌≡◌, ℕ, zero, suc, ◌+◌, ◌-◌, ◌<◌, List, length, get_or, drop, ap, ◌∙◌, arith}
use Rattle.std.proofs.lemmas.List.{at_drop_more, get_or-map, length-map}
use Rattle.wire.specs.declared.row.Row.{Row}
use Rattle.wire.specs.Rows.{blank_row}
use Rattle.messages.specs.Holding.{extent, counts_of}

-- a row is passed, and its parts are owed
pub extent_more : (n : ℕ) (counts : List ℕ) (i : ℕ) → 0 < n → i < length counts → extent n (drop i counts) ≡ 1 + extent (n - 1 + get_or counts i 0) (drop (i + 1) counts)
extent_more zero counts i pos lt = absurd (omega arith)
extent_more (suc n) counts i pos lt =
    at_drop_more (extent (suc n)) counts i 0 lt
    ∙ ap (λ k. 1 + extent (k + get_or counts i 0) (drop (i + 1) counts)) (omega arith)

pub count_at : (rows : List Row) (i : ℕ) → i < length rows → get_or (counts_of rows) i 0 ≡ (get_or rows i blank_row).count
count_at rows i lt = get_or-map (λ row. row.count) rows i blank_row 0 lt

pub counts_length : (rows : List Row) → length (counts_of rows) ≡ length rows
counts_length rows = length-map rows (λ row. row.count)
