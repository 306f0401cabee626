-- What digits are worth, and the digits that are written of a number.
use Rattle.std.proofs.Common.{◌≡◌, ℕ, zero, suc, ◌+◌, ◌-◌, ◌*◌, ◌/◌, ◌%◌, ◌^◌, ◌<◌, ◌≤◌, true, List, [], ◌∷◌, ◌++◌, length, get_or, decimal, sym, refl, ap, ◌∙◌, subst, mul_assoc, pow-suc, arith}
use native.Mathlib.Nat.{pow-succ', mod-add-div, mod-one, div-div-eq-div-mul}
use Rattle.std.specs.List.{AllByRecursion}
use Rattle.std.proofs.lemmas.Fmt.{decimal_by_steps}
use Rattle.std.proofs.ByRecursion.{All-push, All-get_or}
use Rattle.std.proofs.lemmas.List.{length_push}
use Rattle.std.proofs.lemmas.Bool.Decides.{nat_tests}
use Rattle.texts.specs.Digits.{is_digit, worth, worth_after, padded}

-- more digits are never worth less
pub worth_after-ge : (n : ℕ) (ds : List ℕ) → n ≤ worth_after n ds
worth_after-ge n [] = omega arith
worth_after-ge n (d ∷ ds) = omega (arith, worth_after-ge (n * 10 + (d - 48)) ds)

pub worth_after-append : (n : ℕ) (ds es : List ℕ) → worth_after n (ds ++ es) ≡ worth_after (worth_after n ds) es
worth_after-append n [] es = refl
worth_after-append n (d ∷ ds) es = worth_after-append (n * 10 + (d - 48)) ds es

-- each of the digits lies from `0` to `9`
pub digit_at : (ds : List ℕ) (i : ℕ) → AllByRecursion (λ d. is_digit d ≡ true) ds → i < length ds → (48 ≤ get_or ds i 0) × (get_or ds i 0 ≤ 57)
digit_at ds i h lt = let p = All-get_or (λ d. is_digit d ≡ true) ds i 0 lt h in grind (arith, nat_tests)

pub length-padded : (w n : ℕ) → length (padded w n) ≡ w
length-padded zero n = refl
length-padded (suc w) n = omega (arith, length_push (padded w (n / 10)) (48 + n % 10), length-padded w (n / 10))

pub all_padded : (w n : ℕ) → AllByRecursion (λ d. is_digit d ≡ true) (padded w n)
all_padded zero n = tt
all_padded (suc w) n = All-push (λ d. is_digit d ≡ true) (padded w (n / 10)) (48 + n % 10) (all_padded w (n / 10)) (grind (arith, nat_tests))

-- what is written of a number: its digits, worth the number
pub decimal_worth : (n : ℕ) → n < 2 ^ 64 → (decimal n ≡ padded (length (decimal n)) n) × (worth (decimal n) ≡ n)
decimal_worth = decimal_by_steps (λ n ds. (ds ≡ padded (length ds) n) × (worth ds ≡ n))
    (λ n small. let same : n % 10 ≡ n = omega arith in (ap (λ k. (48 + k) ∷ []) (sym same), omega arith))
    (λ n ds big h.
    let longer : length (ds ++ (48 + n % 10) ∷ []) ≡ suc (length ds) = omega (arith, length_push ds (48 + n % 10)) in (
      ap (λ l. l ++ (48 + n % 10) ∷ []) h.0 ∙ ap (λ k. padded k n) (sym longer),
      worth_after-append 0 ds ((48 + n % 10) ∷ []) ∙ omega (arith, h.1),
    ))

pub all_decimal : (n : ℕ) → n < 2 ^ 64 → AllByRecursion (λ d. is_digit d ≡ true) (decimal n)
all_decimal n small = subst (AllByRecursion (λ d. is_digit d ≡ true)) (sym (decimal_worth n small).0) (all_padded (length (decimal n)) n)

-- the last digits of a number: those of a tenth of it, and one more
mod_step : (w n : ℕ) → n % 10 ^ suc w ≡ n / 10 % 10 ^ w * 10 + n % 10
mod_step w n =
    let p = 10 ^ w in
    let whole : n % (10 * p) + 10 * p * (n / (10 * p)) ≡ n = mod-add-div n (10 * p) in
    let tenth : n / 10 % p + p * (n / 10 / p) ≡ n / 10 = mod-add-div (n / 10) p in
    let same : n / 10 / p ≡ n / (10 * p) = div-div-eq-div-mul n 10 p in
    let joined : 10 * p * (n / (10 * p)) ≡ 10 * (p * (n / 10 / p)) = mul_assoc 10 p (n / (10 * p)) ∙ ap (λ k. 10 * (p * k)) (sym same) in
    ap (λ k. n % k) (pow-succ' 10 w) ∙ omega arith

-- the last digits of a number go on from what stands in front of them
pub worth_after-padded : (a w n : ℕ) → worth_after a (padded w n) ≡ a * 10 ^ w + n % 10 ^ w
worth_after-padded a zero n = omega (arith, mod-one n)
worth_after-padded a (suc w) n =
    let p = 10 ^ w in
    let more : a * 10 ^ suc w ≡ a * p * 10 = ap (λ k. a * k) (pow-suc 10 w) ∙ sym (mul_assoc a p 10) in
    worth_after-append a (padded w (n / 10)) ((48 + n % 10) ∷ [])
    ∙ omega (arith, worth_after-padded a w (n / 10), mod_step w n)
