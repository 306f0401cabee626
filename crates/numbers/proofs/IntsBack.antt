-- The spelling of an int reads as that int.
use Rattle.std.proofs.Common.{◌≡◌, ℕ, suc, ◌^◌, ◌<◌, ◌≤◌, Bool, true, false, ◌&&◌, eqb, leb, List, length, get_or, ℤ, pos, negsuc, Some, decimal, refl, ap, ◌∙◌, arith, w32, SFits}
use Rattle.std.specs.List.{AllByRecursion}
use Rattle.std.proofs.lemmas.Fmt.{decimal_nonempty}
use Rattle.std.proofs.ByRecursion.{All-get_or, All-weaker}
use Rattle.std.proofs.lemmas.Bool.{le-leb, le-ltb, eq-eqb, and_from, cond-true}
use Rattle.std.proofs.lemmas.Bool.Decides.{nat_tests}
use Rattle.texts.specs.Bytes.{is_blank}
use Rattle.texts.specs.Digits.{is_digit, worth}
use Rattle.texts.proofs.Bare.{unblanked_bare, digit_bare}
use Rattle.texts.proofs.Fronts.{leading_all}
use Rattle.texts.proofs.Numerals.{all_decimal, decimal_worth}
use Rattle.numbers.specs.Signs.{is_minus, after_sign, signed, signed_spelling, is_negative}
use Rattle.numbers.specs.Ints.{is_numeral, largest, signed_int, plain_int, int_of, int_spelling}

-- digits begin with no sign
pub first_digit : (ds : List ℕ) → AllByRecursion (λ d. is_digit d ≡ true) ds → 0 < length ds → is_digit (get_or ds 0 0) ≡ true
first_digit ds h some = All-get_or (λ d. is_digit d ≡ true) ds 0 0 some h

pub no_sign : (bs : List ℕ) → is_digit (get_or bs 0 0) ≡ true → (is_minus bs ≡ false) × (after_sign bs ≡ bs)
no_sign bs h =
    let p : eqb (get_or bs 0 0) 45 ≡ false = grind (arith, nat_tests) in
    let q : eqb (get_or bs 0 0) 43 ≡ false = grind (arith, nat_tests) in
    (p, simp (p, q))

pub numeral_decimal : (n : ℕ) → n < 2 ^ 64 → is_numeral (decimal n) ≡ true
numeral_decimal n small =
    and_from _ _ (le-leb 1 (length (decimal n)) (decimal_nonempty n small))
    (eq-eqb _ _ (leading_all is_digit (decimal n) (all_decimal n small)))

-- what holds of a minus and of digits holds of every byte of a magnitude with its sign
pub all_signed : (P : ℕ → Type 0) → P 45 → ((d : ℕ) → is_digit d ≡ true → P d) → (minus : Bool) (n : ℕ) → n < 2 ^ 64 → AllByRecursion P (signed_spelling minus n)
all_signed P sign digit true n small = (sign, All-weaker (λ d. is_digit d ≡ true) P digit (decimal n) (all_decimal n small))
all_signed P sign digit false n small = All-weaker (λ d. is_digit d ≡ true) P digit (decimal n) (all_decimal n small)

pub bare_signed : (minus : Bool) (n : ℕ) → n < 2 ^ 64 → AllByRecursion (λ b. is_blank b ≡ false) (signed_spelling minus n)
bare_signed = all_signed (λ b. is_blank b ≡ false) refl digit_bare

-- a text whose sign and digits are known
plain_reads : (bs : List ℕ) (minus : Bool) (n : ℕ) → n < 2 ^ 64 → is_minus bs ≡ minus → after_sign bs ≡ decimal n → n ≤ largest minus → plain_int bs ≡ Some (signed minus n)
plain_reads bs minus n small sign digits fits =
    let good : (is_numeral (decimal n) && leb (worth (decimal n)) (largest minus)) ≡ true = and_from _ _ (numeral_decimal n small) (le-leb _ _ (omega (arith, (decimal_worth n small).1))) in
    (λ i. signed_int (sign i) (digits i)) ∙ cond-true _ _ _ good ∙ ap (λ k. Some (signed minus k)) (decimal_worth n small).1

signed_reads : (minus : Bool) (n : ℕ) → n < 2 ^ 64 → n ≤ largest minus → int_of (signed_spelling minus n) ≡ Some (signed minus n)
signed_reads true n small fits = ap plain_int (unblanked_bare (signed_spelling true n) (bare_signed true n small)) ∙ plain_reads (signed_spelling true n) true n small refl refl fits
signed_reads false n small fits =
    let plain = no_sign (decimal n) (first_digit (decimal n) (all_decimal n small) (decimal_nonempty n small)) in
    ap plain_int (unblanked_bare (decimal n) (bare_signed false n small)) ∙ plain_reads (decimal n) false n small plain.0 plain.1 fits

pub int_reads_back : (z : ℤ) → SFits w32 z → int_of (int_spelling z) ≡ Some z
int_reads_back (pos n) f =
    let h = f.sfits in
    ap (λ minus. int_of (signed_spelling minus n)) (le-ltb n 0 (omega arith)) ∙ signed_reads false n (omega arith) (omega arith)
int_reads_back (negsuc n) f = let h = f.sfits in signed_reads true (suc n) (omega arith) (omega arith)

pub all_int : (P : ℕ → Type 0) → P 45 → ((d : ℕ) → is_digit d ≡ true → P d) → (z : ℤ) → SFits w32 z → AllByRecursion P (int_spelling z)
all_int P sign digit (pos n) f = let h = f.sfits in all_signed P sign digit (is_negative (pos n)) n (omega arith)
all_int P sign digit (negsuc n) f = let h = f.sfits in all_signed P sign digit true (suc n) (omega arith)
