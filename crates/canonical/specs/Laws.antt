-- What the canonical form is sure to be.
use Rattle.std.specs.Prelude.{◌≡◌, ℕ, ◌≤◌, true, List, length}
use Rattle.std.specs.List.{AllByRecursion}
use Rattle.wire.specs.Trees.{Message}
use Rattle.characters.specs.References.{is_character}
use Rattle.messages.specs.Answers.{IsMessage}
use Rattle.canonical.specs.Forms.{canonical}

-- the canonical form of any message, unless it is too long for one, is that message
abbrev pub WrittenReadsBack : Type 0
WrittenReadsBack = (msg : List ℕ) (m : Message) → IsMessage msg m → length (canonical m) ≤ 65536 → IsMessage (canonical m) m

-- the canonical form of any message, however long, is made of bytes that may stand in one
abbrev pub CanonicalBytesAreGood : Type 0
CanonicalBytesAreGood = (msg : List ℕ) (m : Message) → IsMessage msg m → AllByRecursion (λ b. is_character b ≡ true) (canonical m)

-- no two messages have the same canonical form, unless it is too long for one
abbrev pub CanonicalTellsMessages : Type 0
CanonicalTellsMessages =
    (msg msg' : List ℕ) (m n : Message) → IsMessage msg m → IsMessage msg' n → length (canonical m) ≤ 65536 → canonical m ≡ canonical n → m ≡ n
