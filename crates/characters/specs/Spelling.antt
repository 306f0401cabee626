-- How characters are written.
use Rattle.std.specs.Prelude.{◌≡◌, ℕ, true, cond, List, [], ◌∷◌, Some, None, codes, Option, ◌==◌}
use Rattle.std.specs.List.{flat_map}
use Rattle.characters.specs.References.{all_characters}
use Rattle.characters.specs.Decoding.{decoded, first_bad}

-- the reference that is written for a character, where one is
abbrev pub reference_for : ℕ → Option (List ℕ)
reference_for c =
    cond (c == 38) (Some (codes "&amp;"))
    (cond (c == 60) (Some (codes "&lt;"))
    (cond (c == 62) (Some (codes "&gt;"))
    (cond (c == 13) (Some (codes "&#13;")) None)))

-- the reference, or the character itself where there is none
abbrev pub or_itself : Option (List ℕ) → ℕ → List ℕ
or_itself None c = c ∷ []
or_itself (Some bs) c = bs

-- how a character is written
unfoldable pub escape : ℕ → List ℕ
escape c = or_itself (reference_for c) c

-- the canonical spelling of characters
abbrev pub characters_spelling : List ℕ → List ℕ
characters_spelling cs = flat_map escape cs

-- characters that are written are read again as they were
pub record ReadsBack (cs : List ℕ) : Type 0 where
  pub good : all_characters (characters_spelling cs) ≡ true
  pub references : first_bad (characters_spelling cs) ≡ None
  pub characters : decoded (characters_spelling cs) ≡ cs
