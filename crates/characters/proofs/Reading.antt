-- The check passes just the texts of character data, and each has one reading.
use Rattle.std.proofs.Common.{◌≡◌, ℕ, zero, suc, ◌+◌, ◌<◌, Bool, true, false, cond, eqb, ltb, List, [], ◌∷◌, ◌++◌, length, get_or, take, drop, Some, None, Err, Option, sym, refl, ap, ◌∙◌, subst, ⊎_elim, one-add, arith}
use Rattle.std.specs.Option.{option_map}
use Rattle.std.specs.List.{AllByRecursion}
use Rattle.std.proofs.ByRecursion.{All-append}
use Rattle.std.proofs.lemmas.Bool.{cases_eq, eq-eqb, ne_eqb, ltb-true, both_ways}
use Rattle.characters.specs.References.{is_character, all_characters, referenced}
use Rattle.characters.specs.Decoding.{body_len, reference_at, unit_at, before, bad_or, decoded_from, decoded, first_bad_from, first_bad}
use Rattle.characters.specs.Checking.{unless_bad, counted, checked}
use Rattle.characters.specs.Rule.{CharacterData, Judges}
use Rattle.characters.specs.Rule.CharacterData.{nothing, itself, return_and_feed, return_alone, reference}
use Rattle.characters.specs.declared.check.BadCharacters.TheVariants.{Byte}
use Rattle.characters.proofs.Leading.{all_from_test, test_from_all}
use Rattle.characters.proofs.Bodies.{reference_decodes, reference_good, byte_decodes, byte_good}
use Rattle.characters.proofs.BodyBytes.{Good, body_good}

never : {X : Type 0} (x : X) → None ≡ Some x → ⊥
never x e = let z : ◌≡◌ {A = ℕ} 0 1 = cc in omega arith

-- what a reference tells that is good
inverted : (t : Bool) (o : Option ℕ) (n : ℕ) (u : ℕ × ℕ) → cond t (option_map (λ c. (c, n + 1)) o) None ≡ Some u → (t ≡ true) × (o ≡ Some u.0) × (u.1 ≡ n + 1)
inverted true (Some c) n u e = let p : (c, n + 1) ≡ u = cc in (refl, ap (λ (v : ℕ × ℕ). Some v.0) p, sym (ap (λ (v : ℕ × ℕ). v.1) p))
inverted true None n u e = absurd (never u e)
inverted false o n u e = absurd (never u e)

-- the body of a reference, its `;` and what follows
split : (bs : List ℕ) → body_len bs < length bs → (bs ≡ take (body_len bs) bs ++ (59 ∷ drop (body_len bs + 1) bs)) × AllByRecursion (λ b. b ≡ 59 → ⊥) (take (body_len bs) bs)
split [] h = absurd (omega arith)
split (b ∷ bs) h =
    ⊎_elim
    (λ (e : b ≡ 59).
    let n : body_len (b ∷ bs) ≡ 0 = simp (eq-eqb b 59 e) in
    let P : ℕ → Type 0 = λ k. (b ∷ bs ≡ take k (b ∷ bs) ++ (59 ∷ drop (k + 1) (b ∷ bs))) × AllByRecursion (λ b. b ≡ 59 → ⊥) (take k (b ∷ bs)) in
    subst P (sym n) (ap (λ c. c ∷ bs) e, tt))
    (λ (e : b ≡ 59 → ⊥).
    let n : body_len (b ∷ bs) ≡ suc (body_len bs) = (let s : body_len (b ∷ bs) ≡ 1 + body_len bs = simp (ne_eqb b 59 e) in s ∙ one-add (body_len bs)) in
    let ih = split bs (omega arith) in
    let P : ℕ → Type 0 = λ k. (b ∷ bs ≡ take k (b ∷ bs) ++ (59 ∷ drop (k + 1) (b ∷ bs))) × AllByRecursion (λ b. b ≡ 59 → ⊥) (take k (b ∷ bs)) in
    let next : suc (body_len bs) + 1 ≡ suc (body_len bs + 1) = omega arith in
    subst P (sym n) (ap (λ l. b ∷ l) ih.0 ∙ ap (λ k. b ∷ (take (body_len bs) bs ++ (59 ∷ drop k (b ∷ bs)))) (sym next), (e, ih.1)))
    (cases_eq b 59)

-- a unit's derivation, from one of what follows it: a reference, the end of a line, any unit
reference_reads : (bs : List ℕ) (u : ℕ × ℕ) (cs : List ℕ) → reference_at bs ≡ Some u → CharacterData (drop u.1 bs) cs → CharacterData (38 ∷ bs) (u.0 ∷ cs)
unfolding reference_at
reference_reads bs u cs e rest =
    let i = inverted (ltb (body_len bs) (length bs)) (referenced (take (body_len bs) bs)) (body_len bs) u e in
    let s = split bs (ltb-true _ _ i.0) in
    let r : CharacterData (drop (body_len bs + 1) bs) cs = subst (λ k. CharacterData (drop k bs) cs) i.2 rest in
    subst (λ l. CharacterData (38 ∷ l) (u.0 ∷ cs)) (sym s.0) (reference (take (body_len bs) bs) s.1 i.1 r)

return_reads : (bs cs : List ℕ) → CharacterData (drop (cond (eqb (get_or bs 0 0) 10) 1 0) bs) cs → CharacterData (13 ∷ bs) (10 ∷ cs)
return_reads [] cs rest = return_alone (λ e. omega arith) rest
return_reads (b ∷ bs) cs rest =
    ⊎_elim
    (λ (e : b ≡ 10). let r : CharacterData bs cs = simp (eq-eqb b 10 e) at rest in subst (λ x. CharacterData (13 ∷ x ∷ bs) (10 ∷ cs)) (sym e) (return_and_feed r))
    (λ (e : b ≡ 10 → ⊥). let r : CharacterData (b ∷ bs) cs = simp (ne_eqb b 10 e) at rest in return_alone e r)
    (cases_eq b 10)

unit_reads : (b : ℕ) (bs : List ℕ) (u : ℕ × ℕ) (cs : List ℕ) → is_character b ≡ true → unit_at b bs ≡ Some u → CharacterData (drop u.1 bs) cs → CharacterData (b ∷ bs) (u.0 ∷ cs)
unfolding unit_at
unit_reads b bs u cs good e rest =
    let P : ℕ × ℕ → Type 0 = λ v. CharacterData (drop v.1 bs) cs → CharacterData (b ∷ bs) (v.0 ∷ cs) in
    ⊎_elim
    (λ (amp : b ≡ 38).
    let r : reference_at bs ≡ Some u = simp (eq-eqb b 38 amp) at e in
    subst (λ x. CharacterData (x ∷ bs) (u.0 ∷ cs)) (sym amp) (reference_reads bs u cs r rest))
    (λ (no-amp : b ≡ 38 → ⊥).
    ⊎_elim
    (λ (cr : b ≡ 13).
    let r : Some (10, cond (eqb (get_or bs 0 0) 10) 1 0) ≡ Some u = simp (ne_eqb b 38 no-amp, eq-eqb b 13 cr) at e in
    let p : (10, cond (eqb (get_or bs 0 0) 10) 1 0) ≡ u = cc in
    subst P p (λ d. subst (λ x. CharacterData (x ∷ bs) (10 ∷ cs)) (sym cr) (return_reads bs cs d)) rest)
    (λ (no-cr : b ≡ 13 → ⊥).
    let r : Some (b, 0) ≡ Some u = simp (ne_eqb b 38 no-amp, ne_eqb b 13 no-cr) at e in
    let p : (b, 0) ≡ u = cc in
    subst P p (λ d. itself good no-amp no-cr d) rest)
    (cases_eq b 13))
    (cases_eq b 38)

unit_sound : (b : ℕ) (bs : List ℕ) (at : ℕ) → is_character b ≡ true → ((k : ℕ) → first_bad_from (at + 1) k bs ≡ None → CharacterData (drop k bs) (decoded_from k bs)) → (o : Option (ℕ × ℕ)) → unit_at b bs ≡ o → bad_or at o (λ k. first_bad_from (at + 1) k bs) ≡ None → CharacterData (b ∷ bs) (before (unit_at b bs) (λ k. decoded_from k bs))
unit_sound b bs at good rest (Some u) p q = subst (λ o. CharacterData (b ∷ bs) (before o (λ k. decoded_from k bs))) (sym p) (unit_reads b bs u (decoded_from u.1 bs) good p (rest u.1 q))
unit_sound b bs at good rest None p q = absurd (never at (sym q))

-- a text with no bad reference is character data
pub sound : (bs : List ℕ) (k at : ℕ) → Good bs → first_bad_from at k bs ≡ None → CharacterData (drop k bs) (decoded_from k bs)
sound [] zero at good e = nothing
sound [] (suc k) at good e = nothing
sound (b ∷ bs) (suc k) at good e = sound bs k (at + 1) good.1 e
sound (b ∷ bs) zero at good e = unit_sound b bs at good.0 (λ k. sound bs k (at + 1) good.1) (unit_at b bs) refl e

-- and the other way round
pub complete : {text cs : List ℕ} → CharacterData text cs → (cs ≡ decoded text) × ((at : ℕ) → first_bad_from at 0 text ≡ None) × Good text
unfolding unit_at
complete nothing = (refl, λ at. refl, tt)
complete (itself {b} {text} good no-amp no-cr d) =
    let ih = complete d in
    (ap (λ l. b ∷ l) ih.0 ∙ sym (byte_decodes b text no-amp no-cr), λ at. byte_good b text no-amp no-cr at ∙ ih.1 (at + 1), (good, ih.2))
complete (return_and_feed {text} d) =
    let ih = complete d in
    (ap (λ l. 10 ∷ l) ih.0, λ at. ih.1 (at + 1 + 1), (refl, (refl, ih.2)))
complete (return_alone {text} other d) =
    let ih = complete d in
    let u : unit_at 13 text ≡ Some (10, 0) = simp (ne_eqb (get_or text 0 0) 10 other) in
    (ap (λ l. 10 ∷ l) ih.0 ∙ sym (ap (λ o. before o (λ k. decoded_from k text)) u), λ at. ap (λ o. bad_or at o (λ k. first_bad_from (at + 1) k text)) u ∙ ih.1 (at + 1), (refl, ih.2))
complete (reference {c} body {text} no_end names d) =
    let ih = complete d in (
      ap (λ l. c ∷ l) ih.0 ∙ sym (reference_decodes body text c no_end names),
      λ at. reference_good body text c no_end names at ∙ ih.1 (at + 1 + (length body + 1)),
      (refl, All-append (λ b. is_character b ≡ true) body (59 ∷ text) (body_good body c names) (refl, ih.2)),
    )

pub judges : (text : List ℕ) → Judges text (checked text)
unfolding counted
judges text = go (all_characters text) refl where
  bad : (at : ℕ) → first_bad text ≡ Some at → (cs : List ℕ) → CharacterData text cs → ⊥
  bad at e cs d = never at (sym ((complete d).1 0) ∙ e)

  read : (o : Option ℕ) → first_bad text ≡ o → all_characters text ≡ true → Judges text (unless_bad o (length (decoded text)))
  read None e good = (sound text 0 0 (all_from_test text good) e, λ cs d. (complete d).0, refl)
  read (Some at) e good = bad at e

  go : (t : Bool) → all_characters text ≡ t → Judges text (cond t (counted text) (Err Byte))
  go true e = read (first_bad text) refl e
  go false e = λ cs d. both_ways (all_characters text) e (test_from_all text (complete d).2)
