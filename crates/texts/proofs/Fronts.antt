-- How far a class of bytes reaches from either end.
use Rattle.std.proofs.Common.{◌≡◌, ℕ, suc, ◌+◌, Bool, true, false, List, [], ◌∷◌, ◌++◌, length, get_or, take, refl, ap, ◌∙◌, ⊎_elim, arith}
use Rattle.std.specs.List.{prefix_len, suffix_len, AllByRecursion}
use Rattle.std.proofs.lemmas.List.{reverse-append}
use Rattle.std.proofs.lemmas.Bool.{cases_Bool, cond-true, cond-false}

-- every element of a class: all of them lead
pub leading_all : {X : Type 0} (p : X → Bool) (xs : List X) → AllByRecursion (λ x. p x ≡ true) xs → prefix_len p xs ≡ length xs
leading_all p [] h = refl
leading_all p (x ∷ xs) h = cond-true (p x) _ _ h.0 ∙ omega (arith, leading_all p xs h.1)

-- elements of a class in front of one that is not
pub leading_stops : {X : Type 0} (p : X → Bool) (xs : List X) (y : X) (ys : List X) → AllByRecursion (λ x. p x ≡ true) xs → p y ≡ false → prefix_len p (xs ++ y ∷ ys) ≡ length xs
leading_stops p [] y ys h other = cond-false (p y) _ _ other
leading_stops p (x ∷ xs) y ys h other = cond-true (p x) _ _ h.0 ∙ omega (arith, leading_stops p xs y ys h.1 other)

-- none leads where the first is not of the class
pub leading_none : (p : ℕ → Bool) (xs : List ℕ) → p (get_or xs 0 0) ≡ false → prefix_len p xs ≡ 0
leading_none p [] other = refl
leading_none p (x ∷ xs) other = cond-false (p x) _ _ other

-- none ends where the last is not of the class
pub ending_none : {X : Type 0} (p : X → Bool) (xs : List X) (x : X) → p x ≡ false → suffix_len p (xs ++ x ∷ []) ≡ 0
ending_none p xs x other = ap (prefix_len p) (reverse-append xs (x ∷ [])) ∙ cond-false (p x) _ _ other

-- each of the leading elements is of the class
pub all_leading : {X : Type 0} (p : X → Bool) (xs : List X) → AllByRecursion (λ x. p x ≡ true) (take (prefix_len p xs) xs)
all_leading p [] = tt
all_leading p (x ∷ xs) = ⊎_elim
    (λ yes. rw (cond-true (p x) (1 + prefix_len p xs) 0 yes) (let more : 1 + prefix_len p xs ≡ suc (prefix_len p xs) = omega arith in rw more (yes, all_leading p xs)))
    (λ other. rw (cond-false (p x) (1 + prefix_len p xs) 0 other) tt)
    (cases_Bool (p x))
