-- What the rows of a message are sure to say of it.
use Rattle.std.specs.Prelude.{◌≡◌, ◌⊎◌, List, ◌∷◌, ◌≢◌}
use Rattle.std.specs.List.{AllByRecursion}
use Rattle.wire.specs.declared.kind.Kind.{Kind}
use Rattle.wire.specs.declared.kind.Kind.TheVariants as kind
use Rattle.wire.specs.Trees.{Content, Message, message_rows}

-- no two messages have the same rows
abbrev pub RowsTellMessages : Type 0
RowsTellMessages = (m n : Message) → message_rows m ≡ message_rows n → m ≡ n

-- the kinds of row that a message begins with: call, response and fault
abbrev pub Opens : Kind → Type 0
Opens k = (k ≡ kind.Call) ⊎ ((k ≡ kind.Response) ⊎ (k ≡ kind.Fault))

-- a message has a first row, which opens it, and no other row does
abbrev pub FirstRowOpens : Type 0
FirstRowOpens = (m : Message) → (first : Content) × (rest : List Content) × (message_rows m ≡ first ∷ rest) × Opens first.kind × AllByRecursion (λ row. Opens row.kind → ⊥) rest

-- no row of a message is blank
abbrev pub NoRowIsBlank : Type 0
NoRowIsBlank = (m : Message) → AllByRecursion (λ row. row.kind ≢ kind.Blank) (message_rows m)
