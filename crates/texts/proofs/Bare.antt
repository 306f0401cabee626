-- A text without a blank in it has none round it.
use Rattle.std.proofs.Common.{◌≡◌, ℕ, ◌-◌, true, false, List, [], ◌∷◌, reverse, length, get_or, take, drop, refl, ap, ◌∙◌, arith}
use Rattle.std.specs.List.{suffix_len, AllByRecursion}
use Rattle.std.proofs.ByRecursion.{All-get_or, All-weaker}
use Rattle.std.proofs.lemmas.List.{get_or-reverse, take_all}
use Rattle.std.proofs.lemmas.Bool.Decides.{nat_tests}
use Rattle.texts.specs.Bytes.{is_blank, unblanked, after_blanks}
use Rattle.texts.specs.Digits.{is_digit}
use Rattle.texts.proofs.Fronts.{leading_none}

first_bare : (bs : List ℕ) → AllByRecursion (λ b. is_blank b ≡ false) bs → is_blank (get_or bs 0 0) ≡ false
first_bare [] h = refl
first_bare (b ∷ bs) h = h.0

last_bare : (bs : List ℕ) → AllByRecursion (λ b. is_blank b ≡ false) bs → is_blank (get_or (reverse bs) 0 0) ≡ false
last_bare [] h = refl
last_bare (b ∷ bs) h =
    ap is_blank (get_or-reverse (b ∷ bs) 0 0 (omega arith))
    ∙ All-get_or (λ x. is_blank x ≡ false) (b ∷ bs) (length (b ∷ bs) - 1 - 0) 0 (omega arith) h

pub unblanked_bare : (bs : List ℕ) → AllByRecursion (λ b. is_blank b ≡ false) bs → unblanked bs ≡ bs
unblanked_bare bs h =
    let front : after_blanks bs ≡ bs = ap (λ n. drop n bs) (leading_none is_blank bs (first_bare bs h)) in
    let end : suffix_len is_blank bs ≡ 0 = leading_none is_blank (reverse bs) (last_bare bs h) in
    ap (λ l. take (length l - suffix_len is_blank l) l) front ∙ take_all (length bs - suffix_len is_blank bs) bs (omega arith)

pub digit_bare : (d : ℕ) → is_digit d ≡ true → is_blank d ≡ false
digit_bare d h = grind (arith, nat_tests)

pub digits_bare : (ds : List ℕ) → AllByRecursion (λ d. is_digit d ≡ true) ds → AllByRecursion (λ d. is_blank d ≡ false) ds
digits_bare = All-weaker (λ d. is_digit d ≡ true) (λ d. is_blank d ≡ false) digit_bare
