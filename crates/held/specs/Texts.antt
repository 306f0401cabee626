-- What a text has still to give.
use Rattle.std.specs.Prelude.{ℕ, List}
use Rattle.std.specs.Slice.Iter.{iter_rest}
use Rattle.base64_texts.specs.Cursor as base64
use Rattle.characters.specs.Left as characters
use Rattle.held.specs.declared.text.Text.{Text}
use Rattle.held.specs.declared.text.Text.TheVariants as text

abbrev pub left : Text → List ℕ
left (text.Plain t) = iter_rest t
left (text.Characters t) = characters.left t
left (text.Base64 t) = base64.left t
