-- Bytes are cut in one way.
use Rattle.std.proofs.Common.{◌≡◌, ℕ, zero, suc, ◌+◌, ◌≤◌, Bool, true, false, not, eqb, List, [], ◌∷◌, ◌++◌, length, get_or, take, drop, Some, None, codes, Option, sym, refl, ap, ◌∙◌, subst, ⊎_elim, arith}
use Rattle.std.specs.List.{prefix_len}
use Rattle.std.proofs.lemmas.List.{take-append-drop, length-append, length-drop, take_all, drop_all, take_at, drop_at, drop_more}
use Rattle.std.proofs.lemmas.List.Sums.{prefix_len_stops}
use Rattle.std.proofs.lemmas.Bool.{cases_Bool, cases_lt, eqb-true}
use Rattle.texts.proofs.Fronts.{leading_all, leading_stops, all_leading}
use Rattle.parts.specs.declared.tag.Tag.{Tag}
use Rattle.parts.specs.declared.tag.Tag.TheVariants.{Open, Close}
use Rattle.parts.specs.declared.tag.Spelling.{Spelling}
use Rattle.parts.specs.Names.{spelled}
use Rattle.parts.specs.Tags.{spelling, tag_of}
use Rattle.parts.specs.Cutting.{Parts, run, tag, ends, broken, ◌then◌, in_run, IsRun, Spells, opens, opens_and_closes, closes, Cuts, last_run, no_tag, a_tag, both_tags, run_at, emptied, tagged, parts_from, parts_at_tag, CutInOneWay}
use Rattle.parts.proofs.Walk.{parts_are}
use Rattle.parts.proofs.Found.{found, split}

-- a run with nothing behind it
parts_run : (p : ℕ) (r : List ℕ) → IsRun r → parts_from p r ≡ run p r then ends
parts_run p r h =
    parts_are p r
    ∙ ap (λ k. run p (take k r) then parts_at_tag (p + k) (drop k r)) (leading_all in_run r h)
    ∙ (λ i. run p (take_all (length r) r (omega arith) i) then parts_at_tag (p + length r) (drop_all (length r) r (omega arith) i))

-- a run and the `<` behind it
parts_behind : (p : ℕ) (r bs : List ℕ) → IsRun r →
    parts_from p (r ++ (60 ∷ bs)) ≡ run p r then tagged (p + length r) (tag_of bs) (λ n. parts_from (p + length r + 1 + n) (drop n bs))
parts_behind p r bs h =
    parts_are p (r ++ (60 ∷ bs))
    ∙ ap (λ k. run p (take k (r ++ (60 ∷ bs))) then parts_at_tag (p + k) (drop k (r ++ (60 ∷ bs)))) (leading_stops in_run r 60 bs h refl)
    ∙ (λ i. run p (take_at r (60 ∷ bs) (length r) refl i) then parts_at_tag (p + length r) (drop_at r (60 ∷ bs) (length r) refl i))

parts_broken : (p : ℕ) (r bs : List ℕ) → IsRun r → tag_of bs ≡ None → parts_from p (r ++ (60 ∷ bs)) ≡ run p r then broken (p + length r)
parts_broken p r bs h none =
    parts_behind p r bs h ∙ ap (λ o. run p r then tagged (p + length r) o (λ n. parts_from (p + length r + 1 + n) (drop n bs))) none

-- what stands behind a spelled tag is cut by itself
parts_tag : {t : Tag} {e : Bool} {s : List ℕ} → Spells t e s → (p : ℕ) (r bs : List ℕ) → IsRun r →
    parts_from p (r ++ (60 ∷ (s ++ bs)))
    ≡ run p r then tag (p + length r) t then emptied e t (p + length r) (p + length r + 1 + length s) (parts_from (p + length r + 1 + length s) bs)
parts_tag {t} {e} {s} w p r bs h =
    let q = p + length r in
    parts_behind p r (s ++ bs) h
    ∙ ap (λ o. run p r then tagged q o (λ n. parts_from (q + 1 + n) (drop n (s ++ bs)))) (found w bs)
    ∙ ap (λ l. run p r then tag q t then emptied e t q (q + 1 + length s) (parts_from (q + 1 + length s) l)) (drop_at s bs (length s) refl)

-- where no tag is spelled, none is found
none_found : (bs : List ℕ) → ((t : Tag) (e : Bool) (s rest : List ℕ) → Spells t e s → bs ≡ s ++ rest → ⊥) → tag_of bs ≡ None
none_found bs none = go (tag_of bs) refl
  where
    go : (o : Option Spelling) → tag_of bs ≡ o → o ≡ None
    go None e = refl
    go (Some c) e = let x = split bs c e in absurd (none c.tag c.empty x.word x.rest x.spells x.whole)

-- where none is found, none is spelled
none_spelled : (bs : List ℕ) → tag_of bs ≡ None → (t : Tag) (e : Bool) (s rest : List ℕ) → Spells t e s → bs ≡ s ++ rest → ⊥
none_spelled bs none t e s rest w whole =
    let there : tag_of bs ≡ Some (spelling t e (length s)) = ap tag_of whole ∙ found w rest in
    let z : ◌≡◌ {A = ℕ} 0 1 = cc in
    omega arith

-- the parts that a cut has are those of the function
only : {p : ℕ} {bs : List ℕ} {ps : Parts} → Cuts p bs ps → ps ≡ parts_from p bs
only {p} (last_run {r = r} h) = sym (parts_run p r h)
only {p} (no_tag r bs h none) = sym (parts_broken p r bs h (none_found bs none))
only {p} (a_tag r s bs {t = t} h w c) = ap (λ ps. run p r then tag (p + length r) t then ps) (only c) ∙ sym (parts_tag w p r bs h)
only {p} (both_tags r s bs {n = n} h w c) =
    let q = p + length r in
    ap (λ ps. run p r then tag q (Open n) then run (q + 1 + length s) [] then tag q (Close n) then ps) (only c) ∙ sym (parts_tag w p r bs h)

-- a run, a tag, and a cut of what stands behind them
cut_tag : {t : Tag} {e : Bool} {s : List ℕ} → Spells t e s → (p : ℕ) (r bs : List ℕ) {ps : Parts} → IsRun r → Cuts (p + length r + 1 + length s) bs ps →
    Cuts p (r ++ (60 ∷ (s ++ bs))) (run p r then tag (p + length r) t then emptied e t (p + length r) (p + length r + 1 + length s) ps)
cut_tag (opens n blanks k) p r bs h c = a_tag r (spelled n ++ (blanks ++ codes ">")) bs h (opens n blanks k) c
cut_tag (opens_and_closes n blanks k) p r bs h c = both_tags r (spelled n ++ (blanks ++ codes "/>")) bs h (opens_and_closes n blanks k) c
cut_tag (closes n blanks k) p r bs h c = a_tag r (47 ∷ (spelled n ++ (blanks ++ codes ">"))) bs h (closes n blanks k) c

-- a byte that ends a run
less : (b : ℕ) → in_run b ≡ false → b ≡ 60
less b h = ⊎_elim
    (λ same. eqb-true b 60 same)
    (λ other. absurd (let clash : ◌≡◌ {A = Bool} true false = sym (ap not other) ∙ h in let z : ◌≡◌ {A = ℕ} 0 1 = cc in omega arith))
    (cases_Bool (eqb b 60))

-- at the end of a run, given that fewer bytes are cut
cut_behind : (n : ℕ) → ((p : ℕ) (bs : List ℕ) → length bs ≤ n → Cuts p bs (parts_from p bs)) →
    (p : ℕ) (r bs : List ℕ) → IsRun r → length bs ≤ n → Cuts p (r ++ (60 ∷ bs)) (parts_from p (r ++ (60 ∷ bs)))
cut_behind n shorter p r bs h low = go (tag_of bs) refl
  where
    go : (o : Option Spelling) → tag_of bs ≡ o → Cuts p (r ++ (60 ∷ bs)) (parts_from p (r ++ (60 ∷ bs)))
    go None none = subst (Cuts p (r ++ (60 ∷ bs))) (sym (parts_broken p r bs h none)) (no_tag r bs h (none_spelled bs none))
    go (Some c) e =
        let x = split bs c e in
        let less_left : length x.rest ≤ n = omega (arith, ap length x.whole, length-append x.word x.rest) in
        subst (λ l. Cuts p (r ++ (60 ∷ l)) (parts_from p (r ++ (60 ∷ l)))) (sym x.whole)
        (subst (Cuts p (r ++ (60 ∷ (x.word ++ x.rest)))) (sym (parts_tag x.spells p r x.rest h))
        (cut_tag x.spells p r x.rest h (shorter (p + length r + 1 + length x.word) x.rest less_left)))

-- bytes up to a length are cut
cut_within : (n p : ℕ) (bs : List ℕ) → length bs ≤ n → Cuts p bs (parts_from p bs)
cut_within zero p [] h = subst (Cuts p []) (sym (parts_run p [] tt)) (last_run tt)
cut_within zero p (b ∷ bs) h = absurd (omega arith)
cut_within (suc n) p bs h = ⊎_elim
    (λ stops.
    let k = prefix_len in_run bs in
    let whole : bs ≡ run_at bs ++ (60 ∷ drop (k + 1) bs) =
    sym (take-append-drop k bs)
    ∙ ap (λ l. run_at bs ++ l) (drop_more bs k 0 stops ∙ ap (λ b. b ∷ drop (k + 1) bs) (less (get_or bs k 0) (prefix_len_stops in_run bs 0 stops))) in
    subst (λ l. Cuts p l (parts_from p l)) (sym whole)
    (cut_behind n (cut_within n) p (run_at bs) (drop (k + 1) bs) (all_leading in_run bs) (omega (arith, length-drop (k + 1) bs))))
    (λ all.
    let is_run : IsRun bs = subst IsRun (take_all (prefix_len in_run bs) bs all) (all_leading in_run bs) in
    subst (Cuts p bs) (sym (parts_run p bs is_run)) (last_run is_run))
    (cases_lt (prefix_len in_run bs) (length bs))

pub one_way : (p : ℕ) (bs : List ℕ) → CutInOneWay p bs
one_way p bs = (cut_within (length bs) p bs (omega arith), λ ps c. only c)
