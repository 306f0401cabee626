-- The rule of character data.
use Rattle.std.specs.Prelude.{◌≡◌, ℕ, true, List, [], ◌∷◌, ◌++◌, length, Some, Result, MatchResult, ◌≢◌, slice_index}
use Rattle.std.specs.List.{AllByRecursion}
use Rattle.characters.specs.References.{is_character, referenced}
use Rattle.characters.specs.Decoding.{decoded}
use Rattle.characters.specs.declared.check.BadCharacters.{BadCharacters}

-- a text of character data, and the characters that it stands for
pub data CharacterData : List ℕ → List ℕ → Type 0 where
  -- an empty text stands for none
  nothing : CharacterData [] []
  -- any other byte than `&` and a carriage return stands for itself
  itself : {b : ℕ} {text cs : List ℕ} → is_character b ≡ true → (b ≢ 38) → (b ≢ 13) → CharacterData text cs → CharacterData (b ∷ text) (b ∷ cs)
  -- a carriage return and the line feed right behind it stand for one line feed
  return_and_feed : {text cs : List ℕ} → CharacterData text cs → CharacterData (13 ∷ 10 ∷ text) (10 ∷ cs)
  -- and so does a carriage return with no line feed right behind it
  return_alone : {text cs : List ℕ} → (slice_index text 0 ≢ 10) → CharacterData text cs → CharacterData (13 ∷ text) (10 ∷ cs)
  -- `&`, a body up to the first `;`, and that stand for what the body names
  reference : {c : ℕ} (body : List ℕ) {text cs : List ℕ} → AllByRecursion (λ b. b ≢ 59) body → referenced body ≡ Some c → CharacterData text cs → CharacterData (38 ∷ (body ++ (59 ∷ text))) (c ∷ cs)

-- a text that is passed is character data and stands for its characters alone, which are so many; one that is refused is no character data
abbrev pub Judges : List ℕ → Result ℕ BadCharacters → Type 0
Judges text verdict =
    MatchResult verdict
    (λ n. CharacterData text (decoded text) × ((cs : List ℕ) → CharacterData text cs → cs ≡ decoded text) × (n ≡ length (decoded text)))
    (λ _. (cs : List ℕ) → CharacterData text cs → ⊥)
