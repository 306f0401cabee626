use Rattle.std.proofs.Common.{rules, ◌≡◌, ℕ, ◌+◌, ◌%◌, ◌∷◌, ◌++◌, [], suc, ⊎_elim, ◌*◌, ◌^◌, ◌<◌, ◌≤◌, length, decimal, arith}
use Rattle.std.proofs.lemmas.Fmt.{decimal_digit, decimal_by_steps, length-decimal-le}
use Rattle.std.proofs.lemmas.Bool.{cases_lt}
use Rattle.std.proofs.lemmas.List.{length_push}
use Rattle.std.proofs.Math.Nat.{pow-suc, pow-succ', pow-le-pow_right}
use Rattle.texts.proofs.digits.digit_count.Goals as goal

-- a number is below the power of ten that its digits count
below_power : (n : ℕ) → n < 2 ^ 64 → n < 10 ^ length (decimal n)
below_power = decimal_by_steps (λ n ds. n < 10 ^ length ds)
    (λ n small. small)
    (λ n ds big h.
    let longer : length (ds ++ (48 + n % 10) ∷ []) ≡ suc (length ds) = omega (arith, length_push ds (48 + n % 10)) in
    rw longer (omega (arith, pow-suc 10 (length ds), h)))

count_is : (n k : ℕ) → n < 2 ^ 64 → 10 ^ k ≤ n → n < 10 * 10 ^ k → length (decimal n) ≡ k + 1
count_is n k small low high =
    let power : 10 ^ suc k ≡ 10 * 10 ^ k = pow-succ' 10 k in
    let most : length (decimal n) ≤ suc k = length-decimal-le (suc k) n (omega arith) (omega (arith, power)) small in
    ⊎_elim
    (λ more. omega arith)
    (λ less. absurd (omega (arith, pow-le-pow_right {n = 10} (omega arith) less, below_power n small)))
    (cases_lt k (length (decimal n)))

pub returns-clause-value : goal.returns-clause-value
returns-clause-value c = search (rules, count_is, decimal_digit)
