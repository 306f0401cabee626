-- What is answered for a message with the rows of a level, and what is left in the lent rows.
use Rattle.std.specs.Prelude.{◌≡◌, ℕ, ◌<◌, ◌≤◌, List, ◌++◌, map, length, drop, Ok, Err, Result, slice_index_or}
use Rattle.wire.specs.declared.row.Row.{Row}
use Rattle.wire.specs.declared.refusal.Refusal.{Refusal}
use Rattle.wire.specs.declared.refusal.Refusal.TheVariants.{MemoryTooSmall, TooManyRows, RepeatedName, BadFault}
use Rattle.wire.specs.Rows.{blank_row, cleared}
use Rattle.wire.specs.Trees.{Message, message_rows}
use Rattle.reader.specs.Contents.{content_of}
use Rattle.reader.specs.Derivations.{Derives, Say}
use Rattle.reader.specs.Reading.{rows_of}
use Rattle.reader.specs.Faults.{FaultFits}
use Rattle.messages.specs.Repeats.{FirstRepeat, NoRepeat}

-- the bytes are this message: the grammar derives it, no name comes twice in a struct, and a fault's value is as asked
pub record IsMessage (msg : List ℕ) (m : Message) : Type 0 where
  pub derived : Derives msg m
  pub names : NoRepeat (message_rows m)
  pub fault : FaultFits m

-- rows over a message's bytes that say a message in which no name comes twice and whose fault is as asked
pub record Sound (msg : List ℕ) (rs : List Row) : Type 0 where
  pub tree : Message
  pub says : Say msg rs tree
  pub names : NoRepeat (message_rows tree)
  pub fault : FaultFits tree

-- what is wrong with rows that say a message: first that a name comes twice, then a fault's value
pub data Flawed (msg : List ℕ) (rs : List Row) : Refusal → Type 0 where
  name_repeats : (i : ℕ) → FirstRepeat (map (content_of msg) rs) i → Flawed msg rs (RepeatedName (slice_index_or rs i blank_row).text.start)
  bad_fault : (m : Message) → Say msg rs m → NoRepeat (message_rows m) → (FaultFits m → ⊥) → Flawed msg rs BadFault

-- the first refusal of a message where there is room for so many rows
pub data Refused (room : ℕ) (msg : List ℕ) : Refusal → Type 0 where
  by_its_bytes : {e : Refusal} → rows_of msg ≡ Err e → Refused room msg e
  too_many_rows : (rs : List Row) → rows_of msg ≡ Ok rs → room < length rs → Refused room msg TooManyRows
  flawed : (rs : List Row) {e : Refusal} → rows_of msg ≡ Ok rs → length rs ≤ room → Flawed msg rs e → Refused room msg e

-- the rows of a message that is accepted
pub record Accepted (room : ℕ) (msg : List ℕ) (rs : List Row) : Type 0 where
  pub reads : rows_of msg ≡ Ok rs
  pub fits : length rs ≤ room
  pub sound : Sound msg rs

-- the answer, and the lent rows behind it
pub data Answer (room : ℕ) (msg : List ℕ) (old : List Row) : Result ℕ Refusal → List Row → Type 0 where
  -- where fewer rows are lent than asked for nothing is touched
  small_memory : length old < room → Answer room msg old (Err MemoryTooSmall) old
  -- a refusal leaves the level's rows blank, and those beyond as before
  refused : {e : Refusal} → room ≤ length old → Refused room msg e → Answer room msg old (Err e) (cleared blank_row room old)
  -- the rows of the message stand in front, and those beyond are as before
  accepted : (rs : List Row) → room ≤ length old → Accepted room msg rs → Answer room msg old (Ok (length rs)) (rs ++ drop (length rs) old)

-- there is one answer
abbrev pub OneAnswer : ℕ → List ℕ → List Row → Type 0
OneAnswer room msg old = (r r' : Result ℕ Refusal) (left left' : List Row) → Answer room msg old r left → Answer room msg old r' left' → (r ≡ r') × (left ≡ left')

-- what is accepted is a message, and its rows say it
abbrev pub AcceptedIsMessage : ℕ → List ℕ → Type 0
AcceptedIsMessage room msg = (rs : List Row) → Accepted room msg rs → (m : Message) × IsMessage msg m × Say msg rs m

-- a message whose rows fit is accepted, and the rows say it
abbrev pub MessageIsAccepted : ℕ → List ℕ → Type 0
MessageIsAccepted room msg = (m : Message) → IsMessage msg m → length (message_rows m) ≤ room → (rs : List Row) × Accepted room msg rs × Say msg rs m

-- no bytes are two messages
abbrev pub OneReading : List ℕ → Type 0
OneReading msg = (m n : Message) → IsMessage msg m → IsMessage msg n → m ≡ n
