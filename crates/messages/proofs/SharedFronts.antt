-- Names that begin with the same bytes.
use Rattle.std.proofs.Common.{◌≡◌, ℕ, suc, ◌+◌, true, List, [], ◌∷◌, drop, Ordering, Equal, refl, sym, ap, ◌∙◌, subst, ⊎_elim, arith}
use Rattle.std.specs.Ordering.{nat_cmp, ordering_then}
use Rattle.std.specs.Cmp.{nat_cmp_is}
use Rattle.std.specs.Cmp.Lexicographic.{slice_cmp}
use Rattle.std.specs.List.{common_prefix_len}
use Rattle.std.proofs.lemmas.Bool.{cond-true, cond-false, cases_Bool}
use Rattle.std.proofs.lemmas.Bool.Decides.{nat_tests}
use Rattle.characters.specs.Decoding.{is_plain, decoded}
use Rattle.characters.proofs.Bodies.{byte_decodes}
use Rattle.messages.specs.Order.{same_plain}

-- a character that both begin with does not order them
same_head : (x : ℕ) (xs ys : List ℕ) → slice_cmp nat_cmp (x ∷ xs) (x ∷ ys) ≡ slice_cmp nat_cmp xs ys
same_head x xs ys = ap (λ o. ordering_then o (slice_cmp nat_cmp xs ys)) (sym (nat_cmp_is x x Equal refl))

plain_head : (x : ℕ) (xs : List ℕ) → is_plain x ≡ true → decoded (x ∷ xs) ≡ x ∷ decoded xs
plain_head x xs h = byte_decodes x xs (λ e. grind (arith, nat_tests)) (λ e. grind (arith, nat_tests))

abbrev front : List ℕ → List ℕ → ℕ
front xs ys = common_prefix_len same_plain xs ys

-- bytes at the front that both share, and that stand for themselves, do not order them
pub behind_front : (xs ys : List ℕ) → slice_cmp nat_cmp (decoded (drop (front xs ys) xs)) (decoded (drop (front xs ys) ys)) ≡ slice_cmp nat_cmp (decoded xs) (decoded ys)
behind_front [] ys = refl
behind_front (x ∷ xs) [] = refl
behind_front (x ∷ xs) (y ∷ ys) =
    let at : ℕ → Ordering = λ k. slice_cmp nat_cmp (decoded (drop k (x ∷ xs))) (decoded (drop k (y ∷ ys))) in
    ⊎_elim
    (λ (yes : same_plain x y ≡ true).
    let more : front (x ∷ xs) (y ∷ ys) ≡ suc (front xs ys) = cond-true (same_plain x y) (1 + front xs ys) 0 yes ∙ omega arith in
    let same : x ≡ y = grind (arith, nat_tests) in
    let plain : is_plain x ≡ true = grind (arith, nat_tests) in
    let ours = plain_head x xs plain in
    let theirs : decoded (y ∷ ys) ≡ x ∷ decoded ys = subst (λ z. decoded (z ∷ ys) ≡ x ∷ decoded ys) same (plain_head x ys plain) in
    ap at more ∙ behind_front xs ys ∙ sym (same_head x (decoded xs) (decoded ys)) ∙ ap (λ l. slice_cmp nat_cmp l (x ∷ decoded ys)) (sym ours) ∙ ap (slice_cmp nat_cmp (decoded (x ∷ xs))) (sym theirs))
    (λ other. ap at (cond-false (same_plain x y) (1 + front xs ys) 0 other))
    (cases_Bool (same_plain x y))
