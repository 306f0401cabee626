-- What is left of a text, one unit on.
use Rattle.std.proofs.Common.{◌≡◌, ℕ, zero, suc, ◌+◌, true, false, eqb, List, [], ◌∷◌, length, drop, Some, None, sym, refl, ap, ◌∙◌, ⊎_elim, arith}
use Rattle.std.specs.List.{prefix_len}
use Rattle.std.proofs.lemmas.Bool.{cond-true, cond-false, cases_Bool}
use Rattle.std.proofs.lemmas.Bool.Decides.{nat_tests}
use Rattle.characters.specs.Decoding.{is_plain, unit_at, before, bad_or, decoded_from, decoded, first_bad_from}

-- bytes that belong to the character before are passed over
pub decoded_skips : (k : ℕ) (bs : List ℕ) → decoded_from k bs ≡ decoded (drop k bs)
decoded_skips zero bs = refl
decoded_skips (suc k) [] = refl
decoded_skips (suc k) (b ∷ bs) = decoded_skips k bs

pub bad_skips : (at k : ℕ) (bs : List ℕ) → first_bad_from at k bs ≡ first_bad_from (at + k) 0 (drop k bs)
bad_skips at zero bs = let e : at ≡ at + 0 = omega arith in ap (λ n. first_bad_from n 0 bs) e
bad_skips at (suc k) [] = refl
bad_skips at (suc k) (b ∷ bs) = let e : at + 1 + k ≡ at + suc k = omega arith in bad_skips (at + 1) k bs ∙ ap (λ n. first_bad_from n 0 (drop k bs)) e

-- a byte that stands for itself is one character
plain_unit : (b : ℕ) (bs : List ℕ) → is_plain b ≡ true → unit_at b bs ≡ Some (b, 0)
unfolding unit_at
plain_unit b bs h =
    let no_reference : eqb b 38 ≡ false = grind (arith, nat_tests) in
    let no_return : eqb b 13 ≡ false = grind (arith, nat_tests) in
    cond-false (eqb b 38) _ _ no_reference ∙ cond-false (eqb b 13) _ _ no_return

-- such bytes at the front are as many characters, and no bad reference
abbrev plain_len : List ℕ → ℕ
plain_len bs = prefix_len is_plain bs

pub decoded_plain : (bs : List ℕ) → length (decoded bs) ≡ plain_len bs + length (decoded (drop (plain_len bs) bs))
decoded_plain [] = refl
decoded_plain (b ∷ bs) = ⊎_elim
    (λ yes.
    let more : plain_len (b ∷ bs) ≡ suc (plain_len bs) = cond-true (is_plain b) (1 + plain_len bs) 0 yes ∙ omega arith in
    let one : length (decoded (b ∷ bs)) ≡ suc (length (decoded bs)) = ap (λ o. length (before o (λ k. decoded_from k bs))) (plain_unit b bs yes) in
    omega (arith, one, decoded_plain bs, more, ap (λ k. length (decoded (drop k (b ∷ bs)))) more))
    (λ other.
    let none : plain_len (b ∷ bs) ≡ 0 = cond-false (is_plain b) (1 + plain_len bs) 0 other in
    omega (arith, none, ap (λ k. length (decoded (drop k (b ∷ bs)))) none))
    (cases_Bool (is_plain b))

pub bad_plain : (at : ℕ) (bs : List ℕ) → first_bad_from at 0 bs ≡ first_bad_from (at + plain_len bs) 0 (drop (plain_len bs) bs)
bad_plain at [] = refl
bad_plain at (b ∷ bs) = ⊎_elim
    (λ yes.
    let more : plain_len (b ∷ bs) ≡ suc (plain_len bs) = cond-true (is_plain b) (1 + plain_len bs) 0 yes ∙ omega arith in
    let on : at + 1 + plain_len bs ≡ at + suc (plain_len bs) = omega arith in
    ap (λ o. bad_or at o (λ k. first_bad_from (at + 1) k bs)) (plain_unit b bs yes) ∙ bad_plain (at + 1) bs
    ∙ ap (λ n. first_bad_from n 0 (drop (plain_len bs) bs)) on ∙ ap (λ k. first_bad_from (at + k) 0 (drop k (b ∷ bs))) (sym more))
    (λ other.
    let none : plain_len (b ∷ bs) ≡ 0 = cond-false (is_plain b) (1 + plain_len bs) 0 other in
    let on : at ≡ at + 0 = omega arith in
    ap (λ n. first_bad_from n 0 (b ∷ bs)) on ∙ ap (λ k. first_bad_from (at + k) 0 (drop k (b ∷ bs))) (sym none))
    (cases_Bool (is_plain b))

-- the unit at the front of a text: its character, and then the characters behind it
module _ (b : ℕ) (bs : List ℕ) where
  pub decoded_some : (u : ℕ × ℕ) → unit_at b bs ≡ Some u → decoded (b ∷ bs) ≡ u.0 ∷ decoded (drop u.1 bs)
  decoded_some u e = ap (λ o. before o (λ k. decoded_from k bs)) e ∙ ap (λ cs. u.0 ∷ cs) (decoded_skips u.1 bs)

  pub bad_some : (at : ℕ) (u : ℕ × ℕ) → unit_at b bs ≡ Some u → first_bad_from at 0 (b ∷ bs) ≡ first_bad_from (at + 1 + u.1) 0 (drop u.1 bs)
  bad_some at u e = ap (λ o. bad_or at o (λ k. first_bad_from (at + 1) k bs)) e ∙ bad_skips (at + 1) u.1 bs

  pub bad_none : (at : ℕ) → unit_at b bs ≡ None → first_bad_from at 0 (b ∷ bs) ≡ Some at
  bad_none at e = ap (λ o. bad_or at o (λ k. first_bad_from (at + 1) k bs)) e
