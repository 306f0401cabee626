-- The parts of bytes: a run, and then what the `<` behind it begins.
use Rattle.std.proofs.Common.{◌≡◌, ℕ, zero, suc, ◌+◌, List, [], ◌∷◌, drop, Some, None, Option, sym, refl, ap, ◌∙◌, ⊎_elim, add-zero, arith}
use Rattle.std.specs.List.{prefix_len}
use Rattle.std.proofs.lemmas.Bool.{cond-true, cond-false, cases_Bool}
use Rattle.parts.specs.declared.tag.Spelling.{Spelling}
use Rattle.parts.specs.Tags.{tag_of}
use Rattle.parts.specs.Cutting.{run, tag, ◌then◌, in_run, run_at, emptied, tagged, behind_run, parts_from, parts_at_tag}

-- bytes that belong to a tag are passed over
behind_skip : (p k : ℕ) (bs : List ℕ) → behind_run p k bs ≡ behind_run (p + k) 0 (drop k bs)
behind_skip p zero [] = refl
behind_skip p (suc k) [] = refl
behind_skip p zero (b ∷ bs) = ap (λ q. behind_run q 0 (b ∷ bs)) (sym (add-zero p))
behind_skip p (suc k) (b ∷ bs) =
    let on : p + 1 + k ≡ p + suc k = omega arith in
    behind_skip (p + 1) k bs ∙ ap (λ q. behind_run q 0 (drop k bs)) on

-- and so are those of the run
behind_walk : (p : ℕ) (bs : List ℕ) → behind_run p 0 bs ≡ behind_run (p + prefix_len in_run bs) 0 (drop (prefix_len in_run bs) bs)
behind_walk p [] = refl
behind_walk p (b ∷ bs) = ⊎_elim
    (λ yes.
    let more : prefix_len in_run (b ∷ bs) ≡ suc (prefix_len in_run bs) = cond-true (in_run b) (1 + prefix_len in_run bs) 0 yes ∙ omega arith in
    let on : p + 1 + prefix_len in_run bs ≡ p + suc (prefix_len in_run bs) = omega arith in
    cond-true (in_run b) (behind_run (p + 1) 0 bs) (tagged p (tag_of bs) (λ n. run (p + 1 + n) (run_at (drop n bs)) then behind_run (p + 1) n bs)) yes ∙ behind_walk (p + 1) bs ∙ ap (λ q. behind_run q 0 (drop (prefix_len in_run bs) bs)) on
    ∙ ap (λ k. behind_run (p + k) 0 (drop k (b ∷ bs))) (sym more))
    (λ other.
    let none : prefix_len in_run (b ∷ bs) ≡ 0 = cond-false (in_run b) (1 + prefix_len in_run bs) 0 other in
    ap (λ q. behind_run q 0 (b ∷ bs)) (sym (add-zero p)) ∙ ap (λ k. behind_run (p + k) 0 (drop k (b ∷ bs))) (sym none))
    (cases_Bool (in_run b))

-- what stands behind a tag is cut by itself
tagged_on : (q : ℕ) (o : Option Spelling) (bs : List ℕ) →
    tagged q o (λ n. run (q + 1 + n) (run_at (drop n bs)) then behind_run (q + 1) n bs) ≡ tagged q o (λ n. parts_from (q + 1 + n) (drop n bs))
unfolding parts_from
tagged_on q None bs = refl
tagged_on q (Some s) bs =
    ap (λ ps. tag q s.tag then emptied s.empty s.tag q (q + 1 + s.len) (run (q + 1 + s.len) (run_at (drop s.len bs)) then ps))
    (behind_skip (q + 1) s.len bs)

-- at the end of a run stands a `<`, or nothing
at_stop : (q : ℕ) (bs : List ℕ) → prefix_len in_run bs ≡ 0 → behind_run q 0 bs ≡ parts_at_tag q bs
at_stop q [] h = refl
at_stop q (b ∷ bs) h = ⊎_elim
    (λ yes. absurd (omega (arith, h, cond-true (in_run b) (1 + prefix_len in_run bs) 0 yes)))
    (λ other. cond-false (in_run b) (behind_run (q + 1) 0 bs) (tagged q (tag_of bs) (λ n. run (q + 1 + n) (run_at (drop n bs)) then behind_run (q + 1) n bs)) other ∙ tagged_on q (tag_of bs) bs)
    (cases_Bool (in_run b))

leading_spent : (bs : List ℕ) → prefix_len in_run (drop (prefix_len in_run bs) bs) ≡ 0
leading_spent [] = refl
leading_spent (b ∷ bs) = ⊎_elim
    (λ yes.
    let more : prefix_len in_run (b ∷ bs) ≡ suc (prefix_len in_run bs) = cond-true (in_run b) (1 + prefix_len in_run bs) 0 yes ∙ omega arith in
    ap (λ k. prefix_len in_run (drop k (b ∷ bs))) more ∙ leading_spent bs)
    (λ other.
    let none : prefix_len in_run (b ∷ bs) ≡ 0 = cond-false (in_run b) (1 + prefix_len in_run bs) 0 other in
    ap (λ k. prefix_len in_run (drop k (b ∷ bs))) none ∙ none)
    (cases_Bool (in_run b))

pub parts_are : (p : ℕ) (bs : List ℕ) → parts_from p bs ≡ run p (run_at bs) then parts_at_tag (p + prefix_len in_run bs) (drop (prefix_len in_run bs) bs)
unfolding parts_from
parts_are p bs = ap (λ ps. run p (run_at bs) then ps) (behind_walk p bs ∙ at_stop (p + prefix_len in_run bs) (drop (prefix_len in_run bs) bs) (leading_spent bs))
