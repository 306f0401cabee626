-- What a double's text reads as has at most 18 digits and no trailing zero in its fraction.
use Rattle.std.proofs.Common.{◌≡◌, ℕ, zero, suc, ◌+◌, ◌-◌, ◌*◌, ◌%◌, ◌^◌, ◌<◌, ◌≤◌, Bool, true, false, ◌&&◌, ◌||◌, eqb, leb, List, [], ◌∷◌, ◌++◌, reverse, length, get_or, take, drop, ℤ, nat_abs, Some, None, Option, sym, refl, ap, ◌∙◌, subst, ⊎_elim, append_assoc, pow-suc, arith, length-append, length-take}
use native.Mathlib.Nat.{pow-le-pow_right}
use Rattle.std.specs.List.{prefix_len, suffix_len}
use Rattle.std.proofs.ByRecursion.{All-append, All-take, All-drop}
use Rattle.std.proofs.lemmas.List.{get_or-reverse, length-reverse, take_all, take_more}
use Rattle.std.proofs.lemmas.List.Sums.{suffix_len-le-length, prefix_len_stops}
use Rattle.std.proofs.lemmas.Bool.{le-leb, leb-true, eq-eqb, eqb-true, and_from, and_parts, or_left, or_right, or_cases, cond-true, cond-false, cases_Bool, cases_lt}
use Rattle.std.proofs.lemmas.Bool.Decides.{nat_tests}
use Rattle.texts.specs.Bytes.{unblanked}
use Rattle.texts.specs.Digits.{is_digit, worth, worth_after}
use Rattle.texts.proofs.Fronts.{all_leading}
use Rattle.texts.proofs.Numerals.{digit_at, worth_after-append}
use Rattle.numbers.specs.Signs.{is_minus, after_sign, signed}
use Rattle.numbers.specs.Ints.{is_numeral}
use Rattle.numbers.specs.Doubles.{is_zero, AllDigits, whole, behind, fraction, is_fraction, counted_whole, counted_fraction, counted, is_plain_double, signed_double, double_of, is_double}

-- digits are worth less than a power of ten with as many zeros
worth_below : (n k : ℕ) (ds : List ℕ) → AllDigits ds → n < 10 ^ k → worth_after n ds < 10 ^ (k + length ds)
worth_below n k [] h lt = subst (λ e. n < 10 ^ e) (omega arith) lt
worth_below n k (d ∷ ds) h lt =
    let digit : (48 ≤ d) × (d ≤ 57) = digit_at (d ∷ ds) 0 h (omega arith) in
    let more : n * 10 + (d - 48) < 10 ^ suc k = omega (arith, pow-suc 10 k) in
    let same : suc k + length ds ≡ k + length (d ∷ ds) = omega arith in
    subst (λ e. worth_after n (d ∷ ds) < 10 ^ e) same (worth_below (n * 10 + (d - 48)) (suc k) ds h.1 more)

-- a fraction is digits
fraction_digits : (rest : List ℕ) → is_fraction rest ≡ true → AllDigits (drop 1 rest)
fraction_digits [] h = tt
fraction_digits (b ∷ ds) h = ⊎_elim
    (λ e. absurd (omega (arith, eqb-true (length (b ∷ ds)) 0 e)))
    (λ e.
    let n = (and_parts (eqb b 46) (is_numeral ds) e).1 in
    let all = eqb-true (prefix_len is_digit ds) (length ds) (and_parts (leb 1 (length ds)) (eqb (prefix_len is_digit ds) (length ds)) n).1 in
    subst AllDigits (ap (λ k. take k ds) all ∙ take_all (length ds) ds (omega arith)) (all_leading is_digit ds))
    (or_cases (eqb (length (b ∷ ds)) 0) (eqb b 46 && is_numeral ds) h)

-- the last digit that counts is no zero
last_counts : (ws fs : List ℕ) → AllDigits fs → 0 < length (counted_fraction fs) → 1 ≤ worth (counted ws fs) % 10
last_counts ws fs h some =
    let e = suffix_len is_zero fs in
    let s = length fs - e in
    let most = suffix_len-le-length is_zero fs in
    let cut = length-take s fs in
    let lt : e < length (reverse fs) = omega (arith, length-reverse fs, cut, some) in
    let x = get_or fs (length fs - 1 - e) 0 in
    let place : length fs - 1 - e ≡ s - 1 = omega arith in
    let stop : is_zero x ≡ false = sym (ap is_zero (get_or-reverse fs e 0 (omega (arith, length-reverse fs)))) ∙ prefix_len_stops is_zero (reverse fs) 0 lt in
    let digit = digit_at fs (length fs - 1 - e) h (omega arith) in
    let big : 49 ≤ x = grind (arith, nat_tests) in
    let back : s - 1 + 1 ≡ s = omega arith in
    let split : counted_fraction fs ≡ take (s - 1) fs ++ x ∷ [] = ap (λ k. take k fs) (sym back) ∙ take_more fs (s - 1) 0 (omega arith) ∙ ap (λ k. take (s - 1) fs ++ get_or fs k 0 ∷ []) (sym place) in
    let front = counted_whole ws ++ take (s - 1) fs in
    let whole' : counted ws fs ≡ front ++ x ∷ [] = ap (λ l. counted_whole ws ++ l) split ∙ sym (append_assoc (counted_whole ws) (take (s - 1) fs) (x ∷ [])) in
    let value : worth (counted ws fs) ≡ worth front * 10 + (x - 48) = ap worth whole' ∙ worth_after-append 0 front (x ∷ []) in
    omega (arith, value, big, digit.1)

nat_abs-signed : (minus : Bool) (n : ℕ) → nat_abs (signed minus n) ≡ n
nat_abs-signed true zero = refl
nat_abs-signed true (suc n) = refl
nat_abs-signed false n = refl

counted_is : (minus : Bool) (bs : List ℕ) → is_plain_double bs ≡ true →
    is_double (signed minus (worth (counted (whole bs) (fraction bs)))) (length (counted_fraction (fraction bs))) ≡ true
counted_is minus bs h =
    let n = worth (counted (whole bs) (fraction bs)) in
    let s = length (counted_fraction (fraction bs)) in
    let p = and_parts (leb 1 (prefix_len is_digit bs)) (is_fraction (behind bs) && leb (length (counted (whole bs) (fraction bs))) 18) h in
    let q = and_parts (is_fraction (behind bs)) (leb (length (counted (whole bs) (fraction bs))) 18) p.1 in
    let few = leb-true (length (counted (whole bs) (fraction bs))) 18 q.1 in
    let fs = fraction_digits (behind bs) q.0 in
    let ws = all_leading is_digit bs in
    let all : AllDigits (counted (whole bs) (fraction bs)) = All-append (λ d. is_digit d ≡ true) (counted_whole (whole bs)) (counted_fraction (fraction bs)) (All-drop _ (prefix_len is_zero (whole bs)) (whole bs) ws) (All-take _ (length (fraction bs) - suffix_len is_zero (fraction bs)) (fraction bs) fs) in
    let small : n < 10 ^ (0 + length (counted (whole bs) (fraction bs))) = worth_below 0 0 (counted (whole bs) (fraction bs)) all (omega arith) in
    let most : 10 ^ (0 + length (counted (whole bs) (fraction bs))) ≤ 10 ^ 18 = let fits : 0 + length (counted (whole bs) (fraction bs)) ≤ 18 = omega (arith, few) in pow-le-pow_right (omega arith) fits in
    let short : s ≤ 18 = omega (arith, few, length-append (counted_whole (whole bs)) (counted_fraction (fraction bs))) in
    let tail : (eqb s 0 || leb 1 (n % 10)) ≡ true = ⊎_elim
    (λ some. or_right (eqb s 0) (leb 1 (n % 10)) (le-leb 1 (n % 10) (last_counts (whole bs) (fraction bs) fs some)))
    (λ none. or_left (eqb s 0) (leb 1 (n % 10)) (eq-eqb s 0 (omega arith)))
    (cases_lt 0 s) in
    let same : nat_abs (signed minus n) ≡ n = nat_abs-signed minus n in
    ap (λ k. leb (k + 1) (10 ^ 18) && (leb s 18 && (eqb s 0 || leb 1 (k % 10)))) same
    ∙ and_from (leb (n + 1) (10 ^ 18)) (leb s 18 && (eqb s 0 || leb 1 (n % 10))) (le-leb (n + 1) (10 ^ 18) (omega (arith, small, most)))
    (and_from (leb s 18) (eqb s 0 || leb 1 (n % 10)) (le-leb s 18 short) tail)

abbrev Is : Option (ℤ × ℕ) → Type 0
Is None = Unit {0}
Is (Some p) = is_double p.0 p.1 ≡ true

plain_is : (minus : Bool) (bs : List ℕ) → Is (signed_double minus bs)
plain_is minus bs = ⊎_elim
    (λ yes. subst Is (sym (cond-true (is_plain_double bs) _ None yes)) (counted_is minus bs yes))
    (λ other. subst Is (sym (cond-false (is_plain_double bs) (Some (signed minus (worth (counted (whole bs) (fraction bs))), length (counted_fraction (fraction bs)))) None other)) tt)
    (cases_Bool (is_plain_double bs))

pub double_is : (bs : List ℕ) (z : ℤ) (scale : ℕ) → double_of bs ≡ Some (z, scale) → is_double z scale ≡ true
double_is bs z scale e = subst Is e (plain_is (is_minus (unblanked bs)) (after_sign (unblanked bs)))
