-- Whether a text is character data.
use Rattle.std.specs.Prelude.{ℕ, ◌<◌, cond, List, length, Some, None, Ok, Err, Option, Result}
use Rattle.characters.specs.References.{all_characters}
use Rattle.characters.specs.Decoding.{decoded, first_bad}
use Rattle.characters.specs.declared.check.BadCharacters.{BadCharacters}
use Rattle.characters.specs.declared.check.BadCharacters.TheVariants.{Byte, Reference}

-- the number, or else the bad reference
abbrev pub unless_bad : Option ℕ → ℕ → Result ℕ BadCharacters
unless_bad None n = Ok n
unless_bad (Some at) n = Err (Reference at)

-- how many characters a text has as it is read, unless a reference is bad
unfoldable pub counted : List ℕ → Result ℕ BadCharacters
counted text = unless_bad (first_bad text) (length (decoded text))

-- a byte that may not stand raw goes first, wherever it is; then the first bad reference; else how many characters there are
abbrev pub checked : List ℕ → Result ℕ BadCharacters
checked text = cond (all_characters text) (counted text) (Err Byte)

-- a bad reference stands in the text
abbrev pub Within : List ℕ → Result ℕ BadCharacters → Type 0
Within text (Ok n) = Unit {0}
Within text (Err (Reference at)) = at < length text
Within text (Err Byte) = Unit {0}
