-- What is said of a message: its rows, a line for each, or its refusal.
use Rattle.std.specs.Prelude.{ℕ, List, [], ◌∷◌, ◌++◌, length, codes, decimal}
use Rattle.std.specs.Fmt.{signed_decimal}
use Rattle.wire.specs.declared.refusal.Refusal.{Refusal}
use Rattle.wire.specs.declared.row.Row.{Row}
use Rattle.wire.specs.Kinds.{kind_number}
use Rattle.wire.specs.Refusals.{told}
use Rattle.wire.specs.Trees.{Content}
use Rattle.reader.specs.Contents.{content_of}
use Rattle.hex_texts.specs.Hex.{hex_text}

-- a row: the number of its kind, its count, number and scale, and its text as read
abbrev pub content_line : Content → List ℕ
content_line c = decimal (kind_number c.kind) ++ (codes " " ++ (decimal c.count ++ (codes " " ++ (signed_decimal c.number ++ (codes " " ++ (decimal c.scale ++ (codes " " ++ hex_text c.text)))))))

-- a line for each row
abbrev pub row_lines : List ℕ → List Row → List ℕ
row_lines message [] = []
row_lines message (row ∷ rows) = content_line (content_of message row) ++ (codes "\n" ++ row_lines message rows)

-- what is said of a message that was accepted: how many rows it has, and these
abbrev pub accepted_text : List ℕ → List Row → List ℕ
accepted_text message rows = codes "rows " ++ (decimal (length rows) ++ (codes "\n" ++ row_lines message rows))

-- what is said of one that was refused: the refusal's number and its place
abbrev pub refused_text : Refusal → List ℕ
refused_text refusal = codes "refusal " ++ (decimal (told refusal).0 ++ (codes " at " ++ (decimal (told refusal).1 ++ codes "\n")))
