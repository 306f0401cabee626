-- The spelling of a double: how long it is, and that it reads as that double.
use Rattle.std.proofs.Common.{◌≡◌, ℕ, zero, suc, ◌+◌, ◌-◌, ◌*◌, ◌/◌, ◌%◌, ◌^◌, ◌<◌, ◌≤◌, max, Bool, true, false, cond, ◌&&◌, ◌||◌, eqb, leb, ◌⊎◌, List, [], ◌∷◌, ◌++◌, length, take, drop, set, ℤ, pos, negsuc, nat_abs, Some, None, decimal, Option, sym, refl, ap, ◌∙◌, subst, inl, inr, ⊎_elim, append_assoc, div-le_self, div-one, arith, length-append, length-drop}
use native.Mathlib.Nat.{mod-add-div'}
use borrow.Rule.Slice.PartMut.{put_mid}
use Rattle.std.specs.List.{prefix_len, suffix_len, AllByRecursion}
use Rattle.std.proofs.Math.Nat.{one-le-pow}
use Rattle.std.proofs.lemmas.Nat.{div_below, pow-add}
use Rattle.std.proofs.lemmas.Fmt.{decimal_digit, decimal_nonempty, length-decimal-le}
use Rattle.std.proofs.ByRecursion.{All-append, All-weaker}
use Rattle.std.proofs.lemmas.List.{get_or_append_left, take_at, drop_at, take_all, length_push}
use Rattle.std.proofs.lemmas.Bool.{le-leb, le-ltb, leb-true, eq-eqb, ne_eqb, and_from, and_parts, or_cases, or_right, eqb-true, cond-true, cond-false, cases_Bool, cases_lt}
use Rattle.std.proofs.lemmas.Bool.Decides.{nat_tests}
use Rattle.texts.specs.Bytes.{is_blank}
use Rattle.texts.specs.Digits.{is_digit, worth, worth_after, padded}
use Rattle.texts.proofs.Bare.{unblanked_bare, digit_bare}
use Rattle.texts.proofs.Fronts.{leading_all, leading_stops, ending_none}
use Rattle.texts.proofs.Numerals.{all_decimal, all_padded, decimal_worth, length-padded, worth_after-append, worth_after-padded}
use Rattle.texts.proofs.Written.{put_byte, put_text}
use Rattle.numbers.specs.Signs.{is_minus, after_sign, signed, signed_spelling, is_negative}
use Rattle.numbers.specs.Ints.{is_numeral}
use Rattle.numbers.specs.Doubles.{is_zero, AllDigits, whole, behind, fraction, is_fraction, counted_whole, counted_fraction, counted, signed_double, plain_double, double_of, fraction_spelling, double_spelling, is_double}
use Rattle.numbers.proofs.IntsBack.{first_digit, no_sign, all_signed}

-- a number is its magnitude with its sign
signed_whole : (z : ℤ) → signed (is_negative z) (nat_abs z) ≡ z
signed_whole (pos n) = ap (λ minus. signed minus n) (le-ltb n 0 (omega arith))
signed_whole (negsuc n) = refl

pub length-fraction : (n scale : ℕ) → length (fraction_spelling n scale) ≡ max scale 1
length-fraction n scale = length-padded (max scale 1) (cond (eqb scale 0) 0 n)

pub length-double : (minus : Bool) (m n scale : ℕ) → length (signed_spelling minus m ++ (46 ∷ fraction_spelling n scale)) ≡ length (signed_spelling minus m) + 1 + max scale 1
length-double minus m n scale = omega (arith, length-append (signed_spelling minus m) (46 ∷ fraction_spelling n scale), length-fraction n scale)

-- zeros in front are worth nothing
worth_counted : (ds : List ℕ) → worth (counted_whole ds) ≡ worth ds
worth_counted [] = refl
worth_counted (d ∷ ds) = ⊎_elim
    (λ yes.
    let zero' : 0 * 10 + (d - 48) ≡ 0 = grind (arith, nat_tests) in
    let more : 1 + prefix_len is_zero ds ≡ suc (prefix_len is_zero ds) = omega arith in
    ap (λ k. worth (drop k (d ∷ ds))) (cond-true (is_zero d) _ _ yes ∙ more) ∙ worth_counted ds ∙ ap (λ k. worth_after k ds) (sym zero'))
    (λ other. ap (λ k. worth (drop k (d ∷ ds))) (cond-false (is_zero d) _ _ other))
    (cases_Bool (is_zero d))

-- a number of at most 18 digits without the fraction's
below : (n scale : ℕ) → n < 10 ^ 18 → scale ≤ 18 → n / 10 ^ scale < 10 ^ (18 - scale)
below n scale small le =
    let all : 18 - scale + scale ≡ 18 = omega arith in
    let split : 10 ^ (18 - scale) * 10 ^ scale ≡ 10 ^ 18 = sym (pow-add 10 (18 - scale) scale) ∙ ap (λ e. 10 ^ e) all in
    div_below n (10 ^ scale) (10 ^ (18 - scale)) (one-le-pow scale 10 (omega arith)) (omega (arith, split))

whole_fits : (n scale : ℕ) → n < 10 ^ 18 → n / 10 ^ scale < 2 ^ 64
whole_fits n scale small = omega (arith, div-le_self n (10 ^ scale))

-- what is left of at most 18 digits in front of the point
few_whole : (n scale : ℕ) → n < 10 ^ 18 → scale ≤ 18 → length (counted_whole (decimal (n / 10 ^ scale))) + scale ≤ 18
few_whole n scale small le =
    let m = n / 10 ^ scale in
    let lt = below n scale small le in
    let cut = length-drop (prefix_len is_zero (decimal m)) (decimal m) in
    ⊎_elim
    (λ some. omega (arith, cut, length-decimal-le (18 - scale) m some lt (whole_fits n scale small)))
    (λ none.
    let all : 18 - scale ≡ 0 = omega arith in
    let m0 : m ≡ 0 = omega (arith, subst (λ k. m < 10 ^ k) all lt) in
    let empty : length (counted_whole (decimal m)) ≡ 0 = ap (λ l. length (counted_whole l)) (ap decimal m0 ∙ decimal_digit 0 (omega arith)) in
    omega (arith, empty))
    (cases_lt 0 (18 - scale))

-- the fraction: all its digits count, and with the whole part in front it is worth the number
fraction_counts : (n scale : ℕ) → (scale ≡ 0) ⊎ (1 ≤ n % 10) →
    (length (counted_fraction (fraction_spelling n scale)) ≡ scale) × (worth_after (n / 10 ^ scale) (counted_fraction (fraction_spelling n scale)) ≡ n)
fraction_counts n zero h = (refl, div-one n)
fraction_counts n (suc s) (inl e) = absurd (omega (arith, e))
fraction_counts n (suc s) (inr h) =
    let wide : max (suc s) 1 ≡ suc s = omega arith in
    let number : cond (eqb (suc s) 0) 0 n ≡ n = cond-false _ _ _ (ne_eqb (suc s) 0 (λ e. omega (arith, e))) in
    let digits : fraction_spelling n (suc s) ≡ padded (suc s) n = (λ i. padded (wide i) (number i)) in
    let last : is_zero (48 + n % 10) ≡ false = grind (arith, nat_tests) in
    let none : suffix_len is_zero (padded (suc s) n) ≡ 0 = ending_none is_zero (padded s (n / 10)) (48 + n % 10) last in
    let all : counted_fraction (padded (suc s) n) ≡ padded (suc s) n = take_all (length (padded (suc s) n) - suffix_len is_zero (padded (suc s) n)) (padded (suc s) n) (omega (arith, none)) in
    let same : counted_fraction (fraction_spelling n (suc s)) ≡ padded (suc s) n = ap counted_fraction digits ∙ all in (
      ap length same ∙ length-padded (suc s) n,
      ap (worth_after (n / 10 ^ suc s)) same ∙ worth_after-padded (n / 10 ^ suc s) (suc s) n ∙ omega (arith, mod-add-div' n (10 ^ suc s)),
    )

numeral : (ds : List ℕ) → AllDigits ds → 0 < length ds → is_numeral ds ≡ true
numeral ds h some = and_from (leb 1 (length ds)) (eqb (prefix_len is_digit ds) (length ds)) (le-leb 1 (length ds) some) (eq-eqb _ _ (leading_all is_digit ds h))

-- the reading of digits, a point and digits
abbrev judged : Bool → ℕ → List ℕ → List ℕ → List ℕ → Option (ℤ × ℕ)
judged minus lead rest ws fs =
    cond (leb 1 lead && (is_fraction rest && leb (length (counted ws fs)) 18)) (Some (signed minus (worth (counted ws fs)), length (counted_fraction fs))) None

pointed : (minus : Bool) (ws fs : List ℕ) → AllDigits ws → AllDigits fs → 0 < length ws → 0 < length fs → length (counted ws fs) ≤ 18 →
    signed_double minus (ws ++ 46 ∷ fs) ≡ Some (signed minus (worth (counted ws fs)), length (counted_fraction fs))
pointed minus ws fs aw af lw lf few =
    let text = ws ++ 46 ∷ fs in
    let lead : prefix_len is_digit text ≡ length ws = leading_stops is_digit ws 46 fs aw refl in
    let w : whole text ≡ ws = ap (λ k. take k text) lead ∙ take_at ws (46 ∷ fs) (length ws) refl in
    let b : behind text ≡ 46 ∷ fs = ap (λ k. drop k text) lead ∙ drop_at ws (46 ∷ fs) (length ws) refl in
    let f : fraction text ≡ fs = ap (drop 1) b in
    let good : (leb 1 (length ws) && (is_fraction (46 ∷ fs) && leb (length (counted ws fs)) 18)) ≡ true =
    and_from (leb 1 (length ws)) (is_fraction (46 ∷ fs) && leb (length (counted ws fs)) 18) (le-leb 1 (length ws) lw)
    (and_from (is_fraction (46 ∷ fs)) (leb (length (counted ws fs)) 18) (or_right (eqb (length (46 ∷ fs)) 0) (is_numeral fs) (numeral fs af lf)) (le-leb _ 18 few)) in
    (λ i. judged minus (lead i) (b i) (w i) (f i)) ∙ cond-true _ _ _ good

all_fraction : (n scale : ℕ) → AllDigits (fraction_spelling n scale)
all_fraction n scale = all_padded (max scale 1) (cond (eqb scale 0) 0 n)

-- what holds of a minus, a point and digits holds of every byte of a sign, digits, a point and digits
all_pointed : (P : ℕ → Type 0) → P 45 → P 46 → ((d : ℕ) → is_digit d ≡ true → P d) → (minus : Bool) (m n scale : ℕ) → m < 2 ^ 64 → AllByRecursion P (signed_spelling minus m ++ (46 ∷ fraction_spelling n scale))
all_pointed P sign point digit minus m n scale fits =
    All-append P (signed_spelling minus m) (46 ∷ fraction_spelling n scale) (all_signed P sign digit minus m fits)
    (point, All-weaker (λ d. is_digit d ≡ true) P digit (fraction_spelling n scale) (all_fraction n scale))

signed_parts : (minus : Bool) (ws rest : List ℕ) → AllDigits ws → 0 < length ws →
    (is_minus ((cond minus (45 ∷ []) [] ++ ws) ++ rest) ≡ minus) × (after_sign ((cond minus (45 ∷ []) [] ++ ws) ++ rest) ≡ ws ++ rest)
signed_parts true ws rest h some = (refl, refl)
signed_parts false ws rest h some = no_sign (ws ++ rest) (ap is_digit (get_or_append_left ws rest 0 0 some) ∙ first_digit ws h some)

double_reads : (minus : Bool) (n scale : ℕ) → n < 10 ^ 18 → scale ≤ 18 → (scale ≡ 0) ⊎ (1 ≤ n % 10) →
    double_of (signed_spelling minus (n / 10 ^ scale) ++ (46 ∷ fraction_spelling n scale)) ≡ Some (signed minus n, scale)
double_reads minus n scale small le tail =
    let m = n / 10 ^ scale in
    let fs = fraction_spelling n scale in
    let text = signed_spelling minus m ++ (46 ∷ fs) in
    let fits = whole_fits n scale small in
    let aw = all_decimal m fits in
    let lw = decimal_nonempty m fits in
    let lf : 0 < length fs = omega (arith, length-fraction n scale) in
    let bare : AllByRecursion (λ b. is_blank b ≡ false) text = all_pointed (λ b. is_blank b ≡ false) refl refl digit_bare minus m n scale fits in
    let parts = signed_parts minus (decimal m) (46 ∷ fs) aw lw in
    let counts = fraction_counts n scale tail in
    let few : length (counted (decimal m) fs) ≤ 18 = omega (arith, length-append (counted_whole (decimal m)) (counted_fraction fs), few_whole n scale small le, counts.0) in
    let value : worth (counted (decimal m) fs) ≡ n = worth_after-append 0 (counted_whole (decimal m)) (counted_fraction fs) ∙ ap (λ k. worth_after k (counted_fraction fs)) (worth_counted (decimal m) ∙ (decimal_worth m fits).1) ∙ counts.1 in
    ap plain_double (unblanked_bare text bare)
    ∙ (λ i. signed_double (parts.0 i) (parts.1 i))
    ∙ pointed minus (decimal m) fs aw (all_fraction n scale) lw lf few
    ∙ (λ i. Some (signed minus (value i), counts.0 i))

pub double_reads_back : (z : ℤ) (scale : ℕ) → is_double z scale ≡ true → double_of (double_spelling z scale) ≡ Some (z, scale)
double_reads_back z scale h =
    let p = and_parts (leb (nat_abs z + 1) (10 ^ 18)) (leb scale 18 && (eqb scale 0 || leb 1 (nat_abs z % 10))) h in
    let q = and_parts (leb scale 18) (eqb scale 0 || leb 1 (nat_abs z % 10)) p.1 in
    let small = leb-true (nat_abs z + 1) (10 ^ 18) p.0 in
    let tail : (scale ≡ 0) ⊎ (1 ≤ nat_abs z % 10) = ⊎_elim (λ e. inl (eqb-true scale 0 e)) (λ e. inr (leb-true 1 (nat_abs z % 10) e)) (or_cases (eqb scale 0) (leb 1 (nat_abs z % 10)) q.1) in
    double_reads (is_negative z) (nat_abs z) scale (omega (arith, small)) (leb-true scale 18 q.0) tail ∙ ap (λ k. Some (k, scale)) (signed_whole z)

pub all_double : (P : ℕ → Type 0) → P 45 → P 46 → ((d : ℕ) → is_digit d ≡ true → P d) → (z : ℤ) (scale : ℕ) → is_double z scale ≡ true → AllByRecursion P (double_spelling z scale)
all_double P sign point digit z scale h =
    let small = leb-true (nat_abs z + 1) (10 ^ 18) (and_parts (leb (nat_abs z + 1) (10 ^ 18)) (leb scale 18 && (eqb scale 0 || leb 1 (nat_abs z % 10))) h).0 in
    all_pointed P sign point digit (is_negative z) (nat_abs z / 10 ^ scale) (nat_abs z) scale (whole_fits (nat_abs z) scale (omega (arith, small)))

-- a sign and digits on the page, then a point, then the fraction
pub put_double : (front digits old page filled : List ℕ) (point len : ℕ) → point ≡ length front → len ≡ point + 1 + length digits → len ≤ length old →
    page ≡ front ++ drop point old → filled ≡ digits →
    put_mid (point + 1) (len - (point + 1)) (set page point 46) filled ≡ (front ++ (46 ∷ digits)) ++ drop len old
put_double front digits old page filled point len p l h e d =
    (λ i. put_mid (point + 1) (len - (point + 1)) (set (e i) point 46) (d i))
    ∙ ap (λ x. put_mid (point + 1) (len - (point + 1)) x digits) (put_byte front old point 46 p (omega arith))
    ∙ put_text (front ++ 46 ∷ []) digits old (point + 1) len (omega (arith, length_push front 46)) l
    ∙ ap (λ x. x ++ drop len old) (append_assoc front (46 ∷ []) digits)
