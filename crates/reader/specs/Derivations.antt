-- Which bytes the grammar derives as a message, and that the reading agrees.
use Rattle.std.specs.Prelude.{◌≡◌, ℕ, ◌≤◌, true, List, map, length, drop, Some, Ok}
use Rattle.std.specs.List.{AllByRecursion}
use Rattle.wire.specs.declared.row.Row.{Row}
use Rattle.wire.specs.Trees.{Message, message_rows}
use Rattle.characters.specs.References.{is_character}
use Rattle.parts.specs.Cutting.{Parts, Cuts}
use Rattle.parts.specs.Declarations.{declaration_len}
use Rattle.reader.specs.Contents.{content_of}
use Rattle.reader.specs.Grammar.{AMessage}
use Rattle.reader.specs.Reading.{rows_of}

-- not too many bytes, all of which may stand in a message, whose parts behind the declaration are a message
pub record Derives (msg : List ℕ) (m : Message) : Type 0 where
  pub short : length msg ≤ 65536
  pub bytes : AllByRecursion (λ b. is_character b ≡ true) msg
  pub start : ℕ
  pub declared : declaration_len msg ≡ Some start
  pub parts : Parts
  pub cut : Cuts start (drop start msg) parts
  pub is : AMessage parts m

-- rows over a message's bytes that say a tree
abbrev pub Say : List ℕ → List Row → Message → Type 0
Say msg rs m = map (content_of msg) rs ≡ message_rows m

-- what is derived is read, into rows that say it
abbrev pub DerivedIsRead : List ℕ → Type 0
DerivedIsRead msg = (m : Message) → Derives msg m → (rs : List Row) × (rows_of msg ≡ Ok rs) × Say msg rs m

-- what is read is derived, and the rows say it
abbrev pub ReadIsDerived : List ℕ → Type 0
ReadIsDerived msg = (rs : List Row) → rows_of msg ≡ Ok rs → (m : Message) × Derives msg m × Say msg rs m

-- no bytes are two messages
abbrev pub OneMessage : List ℕ → Type 0
OneMessage msg = (m n : Message) → Derives msg m → Derives msg n → m ≡ n
