-- The lines of rows that are joined, and of one row more.
use Rattle.std.proofs.Common.{◌≡◌, ℕ, ◌+◌, ◌<◌, List, [], ◌∷◌, ◌++◌, length, get_or, take, codes, sym, refl, ap, ◌∙◌, append_assoc}
use Rattle.std.proofs.lemmas.List.{take_more}
use Rattle.wire.specs.declared.row.Row.{Row}
use Rattle.wire.specs.Rows.{blank_row}
use Rattle.reader.specs.Contents.{content_of}
use Rattle.outcomes.specs.Outcomes.{content_line, row_lines}

row_lines_append : (msg : List ℕ) (xs ys : List Row) → row_lines msg (xs ++ ys) ≡ row_lines msg xs ++ row_lines msg ys
row_lines_append msg [] ys = refl
row_lines_append msg (x ∷ xs) ys =
    let line = content_line (content_of msg x) in
    ap (λ (l : List ℕ). line ++ (codes "\n" ++ l)) (row_lines_append msg xs ys) ∙ sym (append_assoc line (codes "\n" ++ row_lines msg xs) (row_lines msg ys))

pub row_lines_more : (msg : List ℕ) (rows : List Row) (i : ℕ) → i < length rows → row_lines msg (take i rows) ++ (content_line (content_of msg (get_or rows i blank_row)) ++ codes "\n") ≡ row_lines msg (take (i + 1) rows)
row_lines_more msg rows i h = sym (ap (row_lines msg) (take_more rows i blank_row h) ∙ row_lines_append msg (take i rows) (get_or rows i blank_row ∷ []))
