-- The words that name a kind of text.
use Rattle.std.specs.Prelude.{ℕ, List, codes}
use Rattle.spell.specs.declared.line.TextKind.{TextKind}
use Rattle.spell.specs.declared.line.TextKind.TheVariants.{Method, Int, Boolean, Double, Date, Base64, String}

abbrev pub word : TextKind → List ℕ
word Method = codes "method"
word Int = codes "int"
word Boolean = codes "boolean"
word Double = codes "double"
word Date = codes "date"
word Base64 = codes "base64"
word String = codes "string"
