-- Character data stands for characters, and how characters are written is character data that stands for them.
use Rattle.std.proofs.Common.{◌≡◌, ℕ, true, not, eqb, List, [], ◌∷◌, length, sym, refl, ap, subst, ⊎_elim}
use Rattle.std.specs.List.{prefix_len, AllByRecursion}
use Rattle.std.proofs.ByRecursion.{All-append}
use Rattle.std.proofs.lemmas.Bool.{cases_eq, ne_eqb}
use Rattle.characters.specs.Rule.{CharacterData}
use Rattle.characters.specs.Rule.CharacterData.{nothing, itself, return_and_feed, return_alone, reference}
use Rattle.characters.specs.Spelling.{escape, characters_spelling}
use Rattle.characters.proofs.BodyBytes.{Good, names_character}
use Rattle.characters.proofs.Leading.{all_from_leading, all_from_test, test_from_all}
use Rattle.characters.proofs.ReadBack.{reads_back}
use Rattle.characters.proofs.Reading.{sound}

pub stands_for_characters : {text cs : List ℕ} → CharacterData text cs → Good cs
stands_for_characters nothing = tt
stands_for_characters (itself good no-amp no-cr d) = (good, stands_for_characters d)
stands_for_characters (return_and_feed d) = (refl, stands_for_characters d)
stands_for_characters (return_alone other d) = (refl, stands_for_characters d)
stands_for_characters (reference {c} body no_end names d) = (names_character body c names, stands_for_characters d)

pub spelling_derived : (cs : List ℕ) → Good cs → CharacterData (characters_spelling cs) cs
spelling_derived cs good =
    let back = reads_back cs (test_from_all cs good) in
    subst (CharacterData (characters_spelling cs)) back.characters (sound (characters_spelling cs) 0 0 (all_from_test (characters_spelling cs) back.good) back.references)

pub spelling_good : (cs : List ℕ) → Good cs → Good (characters_spelling cs)
spelling_good cs good = all_from_test (characters_spelling cs) (reads_back cs (test_from_all cs good)).good

-- no `<` is written
abbrev pub NoLess : List ℕ → Type 0
NoLess bs = AllByRecursion (λ b. not (eqb b 60) ≡ true) bs

escape_no_less : (c : ℕ) → NoLess (escape c)
unfolding escape
escape_no_less c =
    ⊎_elim (known 38 refl) (λ a.
    ⊎_elim (known 60 refl) (λ l.
    ⊎_elim (known 62 refl) (λ g.
    ⊎_elim (known 13 refl) (λ r.
    let e : escape c ≡ c ∷ [] = simp (ne_eqb c 38 a, ne_eqb c 60 l, ne_eqb c 62 g, ne_eqb c 13 r) in
    subst NoLess (sym e) (ap not (ne_eqb c 60 l), tt))
    (cases_eq c 13)) (cases_eq c 62)) (cases_eq c 60)) (cases_eq c 38) where
      known : (x : ℕ) → prefix_len (λ b. not (eqb b 60)) (escape x) ≡ length (escape x) → c ≡ x → NoLess (escape c)
      known x test e = subst (λ y. NoLess (escape y)) (sym e) (all_from_leading (λ b. not (eqb b 60)) (escape x) test)

pub spelling_no_less : (cs : List ℕ) → NoLess (characters_spelling cs)
spelling_no_less [] = tt
spelling_no_less (c ∷ cs) = All-append (λ b. not (eqb b 60) ≡ true) (escape c) (characters_spelling cs) (escape_no_less c) (spelling_no_less cs)
