-- What a cursor is still to give.
use Rattle.std.specs.Prelude.{◌≡◌, ℕ, List, [], ◌∷◌, length, Option, MatchOption, ⊤}
use Rattle.std.specs.Iterator.{item_count}
use Rattle.std.proofs.Common.{ap}
use Rattle.texts.specs.Streams.{StreamLaws}
use Rattle.characters.specs.Decoding.{decoded}
use Rattle.characters.specs.declared.cursor.Characters.{Characters}

-- the characters of the text that a cursor has not read
abbrev pub left : Characters → List ℕ
left cursor = decoded cursor.rest.now

-- a step of the cursor gives the first character that is left and leaves the others; or nothing is left, and it stays
abbrev pub Gives : Characters → Option ℕ → Characters → Type 0
Gives cursor given next = MatchOption given ((left cursor ≡ []) × (next ≡ cursor)) (λ c. left cursor ≡ c ∷ left next)

-- so a cursor gives what is left, byte by byte, and ends
pub laws_of_characters : StreamLaws (λ s. ⊤) Gives (item_count left) left
laws_of_characters = record { askable = λ s. tt; ends = λ s. tt; stops = λ s t h. ap length h.0; goes = λ s c t h. h }
