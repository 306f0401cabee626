-- Characters that are written are read again as they were.
use Rattle.std.proofs.Common.{◌≡◌, ℕ, ◌+◌, true, List, [], ◌∷◌, ◌++◌, length, Some, None, codes, sym, refl, ap, ◌∙◌, subst, ⊎_elim, append_assoc}
use Rattle.std.specs.List.{AllByRecursion}
use Rattle.std.proofs.ByRecursion.{All-append}
use Rattle.std.proofs.lemmas.Bool.{cases_eq, ne_eqb}
use Rattle.characters.specs.References.{is_character, all_characters, referenced, numbered, numeral}
use Rattle.characters.specs.Decoding.{body_len, decoded, first_bad_from}
use Rattle.characters.specs.Spelling.{escape, characters_spelling, ReadsBack}
use Rattle.characters.proofs.Leading.{all_from_test, test_from_all, without_end}
use Rattle.characters.proofs.Bodies.{reference_decodes, reference_good, byte_decodes, byte_good}

-- how a character is written, and that it is read as it
record Escaped (c : ℕ) : Type 0 where
  decodes : (rest : List ℕ) → decoded (escape c ++ rest) ≡ c ∷ decoded rest
  good : (rest : List ℕ) (at : ℕ) → (k : ℕ) × (first_bad_from at 0 (escape c ++ rest) ≡ first_bad_from k 0 rest)
  bytes : AllByRecursion (λ b. is_character b ≡ true) (escape c)

by_reference : (c : ℕ) (body : List ℕ) → body_len body ≡ length body → referenced body ≡ Some c → escape c ≡ 38 ∷ body ++ 59 ∷ [] → all_characters (38 ∷ body ++ 59 ∷ []) ≡ true → Escaped c
by_reference c body h r e a =
    let none = without_end body h in
    let spelt : (rest : List ℕ) → escape c ++ rest ≡ 38 ∷ body ++ 59 ∷ rest = λ rest. ap (λ l. l ++ rest) e ∙ ap (λ l. 38 ∷ l) (append_assoc body (59 ∷ []) rest) in
    record {
      decodes = λ rest. ap decoded (spelt rest) ∙ reference_decodes body rest c none r;
      good = λ rest at. (at + 1 + (length body + 1), ap (first_bad_from at 0) (spelt rest) ∙ reference_good body rest c none r at);
      bytes = subst (AllByRecursion (λ b. is_character b ≡ true)) (sym e) (all_from_test (38 ∷ body ++ 59 ∷ []) a);
    }

-- the four that are written as references
amp : Escaped 38
unfolding escape all_characters referenced numbered numeral
amp = by_reference 38 (codes "amp") refl refl refl refl

lt : Escaped 60
unfolding escape all_characters referenced numbered numeral
lt = by_reference 60 (codes "lt") refl refl refl refl

gt : Escaped 62
unfolding escape all_characters referenced numbered numeral
gt = by_reference 62 (codes "gt") refl refl refl refl

return : Escaped 13
unfolding escape all_characters referenced numbered numeral
return = by_reference 13 (codes "#13") refl refl refl refl

-- and the others
itself : (c : ℕ) → is_character c ≡ true → (c ≡ 38 → ⊥) → (c ≡ 60 → ⊥) → (c ≡ 62 → ⊥) → (c ≡ 13 → ⊥) → Escaped c
unfolding escape
itself c h a l g r =
    let e : escape c ≡ c ∷ [] = simp (ne_eqb c 38 a, ne_eqb c 60 l, ne_eqb c 62 g, ne_eqb c 13 r) in
    record {
      decodes = λ rest. ap (λ l. decoded (l ++ rest)) e ∙ byte_decodes c rest a r;
      good = λ rest at. (at + 1, ap (λ l. first_bad_from at 0 (l ++ rest)) e ∙ byte_good c rest a r at);
      bytes = subst (AllByRecursion (λ b. is_character b ≡ true)) (sym e) (h, tt);
    }

escaped : (c : ℕ) → is_character c ≡ true → Escaped c
escaped c h =
    ⊎_elim (λ e. subst Escaped (sym e) amp) (λ a.
    ⊎_elim (λ e. subst Escaped (sym e) lt) (λ l.
    ⊎_elim (λ e. subst Escaped (sym e) gt) (λ g.
    ⊎_elim (λ e. subst Escaped (sym e) return) (λ r. itself c h a l g r)
    (cases_eq c 13)) (cases_eq c 62)) (cases_eq c 60)) (cases_eq c 38)

characters_back : (cs : List ℕ) → AllByRecursion (λ b. is_character b ≡ true) cs → decoded (characters_spelling cs) ≡ cs
characters_back [] h = refl
characters_back (c ∷ cs) h = (escaped c h.0).decodes (characters_spelling cs) ∙ ap (λ l. c ∷ l) (characters_back cs h.1)

references_good : (cs : List ℕ) (at : ℕ) → AllByRecursion (λ b. is_character b ≡ true) cs → first_bad_from at 0 (characters_spelling cs) ≡ None
references_good [] at h = refl
references_good (c ∷ cs) at h = let g = (escaped c h.0).good (characters_spelling cs) at in g.1 ∙ references_good cs g.0 h.1

bytes_good : (cs : List ℕ) → AllByRecursion (λ b. is_character b ≡ true) cs → AllByRecursion (λ b. is_character b ≡ true) (characters_spelling cs)
bytes_good [] h = tt
bytes_good (c ∷ cs) h = All-append (λ b. is_character b ≡ true) (escape c) (characters_spelling cs) (escaped c h.0).bytes (bytes_good cs h.1)

pub reads_back : (cs : List ℕ) → all_characters cs ≡ true → ReadsBack cs
reads_back cs h =
    let all = all_from_test cs h in
    record { good = test_from_all (characters_spelling cs) (bytes_good cs all); references = references_good cs 0 all; characters = characters_back cs all }
