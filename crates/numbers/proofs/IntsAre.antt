-- What an int's text reads as is a number of 32 bits.
use Rattle.std.proofs.Common.{◌≡◌, ℕ, zero, suc, ◌≤◌, Bool, true, false, ◌&&◌, leb, List, ℤ, Some, None, Option, sym, subst, ⊎_elim, arith, w32, SFits}
use Rattle.std.proofs.lemmas.Bool.{leb-true, and_parts, cond-true, cond-false, cases_Bool}
use Rattle.texts.specs.Bytes.{unblanked}
use Rattle.texts.specs.Digits.{worth}
use Rattle.numbers.specs.Signs.{is_minus, after_sign, signed}
use Rattle.numbers.specs.Ints.{is_numeral, largest, signed_int, int_of}

signed_fits : (minus : Bool) (n : ℕ) → n ≤ largest minus → SFits w32 (signed minus n)
signed_fits false n h = record { sfits = omega arith }
signed_fits true zero h = record { sfits = omega arith }
signed_fits true (suc n) h = record { sfits = omega arith }

abbrev Fit : Option ℤ → Type 0
Fit None = Unit {0}
Fit (Some z) = SFits w32 z

plain_fits : (minus : Bool) (ds : List ℕ) → Fit (signed_int minus ds)
plain_fits minus ds =
    let test = is_numeral ds && leb (worth ds) (largest minus) in
    ⊎_elim
    (λ good. subst Fit (sym (cond-true test (Some (signed minus (worth ds))) None good)) (signed_fits minus (worth ds) (leb-true (worth ds) (largest minus) (and_parts (is_numeral ds) (leb (worth ds) (largest minus)) good).1)))
    (λ other. subst Fit (sym (cond-false test (Some (signed minus (worth ds))) None other)) tt)
    (cases_Bool test)

pub int_fits : (bs : List ℕ) (z : ℤ) → int_of bs ≡ Some z → SFits w32 z
int_fits bs z e = subst Fit e (plain_fits (is_minus (unblanked bs)) (after_sign (unblanked bs)))
