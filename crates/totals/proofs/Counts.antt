-- What is said of numbers of refusals that are joined, and of one more.
use Rattle.std.proofs.Common.{◌≡◌, ℕ, ◌+◌, ◌<◌, List, [], ◌∷◌, ◌++◌, length, get_or, take, sym, ap, ◌∙◌, append_assoc, append-nil, arith}
use Rattle.std.proofs.lemmas.List.{take_more, length-take-le}
use Rattle.totals.specs.Totals.{refusal_count, refusal_counts}

refusal_counts_append : (k : ℕ) (xs ys : List ℕ) → refusal_counts k (xs ++ ys) ≡ refusal_counts k xs ++ refusal_counts (k + length xs) ys
refusal_counts_append k [] ys = ap (λ j. refusal_counts j ys) (omega arith)
refusal_counts_append k (x ∷ xs) ys =
    ap (λ (l : List ℕ). refusal_count k x ++ l) (refusal_counts_append (k + 1) xs ys ∙ ap (λ j. refusal_counts (k + 1) xs ++ refusal_counts j ys) (omega arith))
    ∙ sym (append_assoc (refusal_count k x) (refusal_counts (k + 1) xs) (refusal_counts (k + length (x ∷ xs)) ys))

pub refusal_counts_more : (xs : List ℕ) (i : ℕ) → i < length xs → refusal_counts 1 (take i xs) ++ refusal_count (i + 1) (get_or xs i 0) ≡ refusal_counts 1 (take (i + 1) xs)
refusal_counts_more xs i h =
    let next : 1 + length (take i xs) ≡ i + 1 = omega (arith, length-take-le i xs (omega arith)) in
    sym (
    ap (refusal_counts 1) (take_more xs i 0 h) ∙ refusal_counts_append 1 (take i xs) (get_or xs i 0 ∷ [])
    ∙ ap (λ j. refusal_counts 1 (take i xs) ++ (refusal_count j (get_or xs i 0) ++ [])) next
    ∙ ap (λ (l : List ℕ). refusal_counts 1 (take i xs) ++ l) (append-nil (refusal_count (i + 1) (get_or xs i 0)))
    )
