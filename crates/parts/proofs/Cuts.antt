-- Pieces of a list that may reach past its end.
use Rattle.std.proofs.Common.{◌≡◌, ℕ, min, List, length, take, drop, sym, ap, ◌∙◌, ⊎_elim, arith}
use Rattle.std.proofs.lemmas.List.{take_all, drop_all}
use Rattle.std.proofs.lemmas.Bool.{cases_lt}

pub take_min : (n : ℕ) (xs : List ℕ) → take (min n (length xs)) xs ≡ take n xs
take_min n xs = ⊎_elim
    (λ lt. let e : min n (length xs) ≡ n = omega arith in ap (λ k. take k xs) e)
    (λ ge. let e : min n (length xs) ≡ length xs = omega arith in ap (λ k. take k xs) e ∙ take_all (length xs) xs (omega arith) ∙ sym (take_all n xs ge))
    (cases_lt n (length xs))

pub drop_min : (n : ℕ) (xs : List ℕ) → drop (min n (length xs)) xs ≡ drop n xs
drop_min n xs = ⊎_elim
    (λ lt. let e : min n (length xs) ≡ n = omega arith in ap (λ k. drop k xs) e)
    (λ ge. let e : min n (length xs) ≡ length xs = omega arith in ap (λ k. drop k xs) e ∙ drop_all (length xs) xs (omega arith) ∙ sym (drop_all n xs ge))
    (cases_lt n (length xs))
