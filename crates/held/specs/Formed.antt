-- Rows that form one message.
use Rattle.std.specs.Prelude.{◌≡◌, List}
use Rattle.wire.specs.Trees.{Content, Message, message_rows}
use Rattle.parts.specs.Cutting.{Parts}
use Rattle.reader.specs.Grammar.{AMessage}
use Rattle.reader.specs.Faults.{FaultFits}
use Rattle.messages.specs.Repeats.{NoRepeat}

-- a message of the format: the grammar derives it from some parts, with at most sixteen structs and arrays open
-- together, no name comes twice in a struct, and a fault's value is as asked
pub record OfTheFormat (m : Message) : Type 0 where
  pub parts : Parts
  pub derived : AMessage parts m
  pub names : NoRepeat (message_rows m)
  pub fault : FaultFits m

-- there is a message of the format whose rows these are
abbrev pub Formed : List Content → Type 0
Formed rows = ∥ ((m : Message) × OfTheFormat m × (rows ≡ message_rows m)) ∥₁
