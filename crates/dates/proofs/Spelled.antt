-- A text that is a date is the spelling of its moment, and the spelling of a moment reads as that moment.
use Rattle.std.proofs.Common.{◌≡◌, ℕ, ◌+◌, ◌-◌, ◌*◌, ◌/◌, ◌%◌, ◌≤◌, Bool, true, false, ◌&&◌, eqb, leb, List, [], ◌∷◌, ◌++◌, length, get_or, Some, None, Option, MatchOption, sym, refl, ap, ◌∙◌, ⊎_elim, arith}
use Rattle.std.specs.List.{AllByRecursion}
use Rattle.std.proofs.ByRecursion.{All-append, All-weaker}
use Rattle.std.proofs.lemmas.Slice.Eq.{text_from_reads}
use Rattle.std.proofs.lemmas.Bool.{and_parts, and_from, and_left, and_right, eq-eqb, leb-true, eqb-true, cond-true, cond-false, cases_Bool}
use Rattle.std.proofs.lemmas.Bool.Decides.{nat_tests}
use Rattle.texts.specs.Bytes.{is_blank, unblanked}
use Rattle.texts.specs.Digits.{is_digit, padded}
use Rattle.texts.proofs.Bare.{unblanked_bare, digit_bare}
use Rattle.texts.proofs.Numerals.{all_padded}
use Rattle.dates.specs.Calendar.{every, days_in}
use Rattle.std.specs.Option.{option_map}
use Rattle.dates.specs.declared.date.Date.{Date}
use Rattle.dates.specs.Dates.{moment_of}
use Rattle.dates.specs.Moments.{Moment, is_moment, are_digits, is_shaped, moment_at, plain_date, date_of, date_spelling}

every_all : (tests : List Bool) → every tests ≡ true → AllByRecursion (λ t. t ≡ true) tests
every_all [] h = tt
every_all (t ∷ ts) h = let p = and_parts t (every ts) h in (p.0, every_all ts p.1)

all_every : (tests : List Bool) → AllByRecursion (λ t. t ≡ true) tests → every tests ≡ true
all_every [] h = refl
all_every (t ∷ ts) h = and_from t (every ts) h.0 (all_every ts h.1)

-- two digits lie from `0` to `9`
digits : (a b : ℕ) → (is_digit a && is_digit b) ≡ true → ((48 ≤ a) × (a ≤ 57)) × ((48 ≤ b) × (b ≤ 57))
digits a b h = let p = and_parts (is_digit a) (is_digit b) h in let q : ((48 ≤ a) × (a ≤ 57)) = grind (arith, nat_tests) in let r : ((48 ≤ b) × (b ≤ 57)) = grind (arith, nat_tests) in (q, r)

-- two digits are what is written of what they are worth
pair : (a b : ℕ) → (is_digit a && is_digit b) ≡ true →
    (a ≡ 48 + ((a - 48) * 10 + (b - 48)) / 10 % 10) × (b ≡ 48 + ((a - 48) * 10 + (b - 48)) % 10)
pair a b h = let d = digits a b h in (omega arith, omega arith)

last_digit : (a n q : ℕ) → (48 ≤ a) × (a ≤ 57) → n ≡ q * 10 + (a - 48) → a ≡ 48 + n % 10
last_digit a n q d e = omega arith

four : (a b c d : ℕ) → (is_digit a && is_digit b) ≡ true → (is_digit c && is_digit d) ≡ true →
    let n = ((a - 48) * 10 + (b - 48)) * 100 + ((c - 48) * 10 + (d - 48)) in
    (a ≡ 48 + n / 10 / 10 / 10 % 10) × (b ≡ 48 + n / 10 / 10 % 10) × (c ≡ 48 + n / 10 % 10) × (d ≡ 48 + n % 10)
four a b c d h k =
    let p = digits a b h in
    let q = digits c d k in
    let n = ((a - 48) * 10 + (b - 48)) * 100 + ((c - 48) * 10 + (d - 48)) in
    let tens : n / 10 ≡ ((a - 48) * 10 + (b - 48)) * 10 + (c - 48) = omega arith in
    let hundreds : n / 10 / 10 ≡ (a - 48) * 10 + (b - 48) = omega arith in
    let thousands : n / 10 / 10 / 10 ≡ 0 * 10 + (a - 48) = omega arith in (
      last_digit a (n / 10 / 10 / 10) 0 p.0 thousands,
      last_digit b (n / 10 / 10) (a - 48) p.1 hundreds,
      last_digit c (n / 10) ((a - 48) * 10 + (b - 48)) q.0 tens,
      omega arith,
    )

-- the tests of the shape, one by one
tests : (bs : List ℕ) → is_shaped bs ≡ true → AllByRecursion (λ t. t ≡ true) (
    eqb (length bs) 17 ∷ are_digits bs 0 ∷ are_digits bs 2 ∷ are_digits bs 4 ∷ are_digits bs 6 ∷ eqb (get_or bs 8 0) 84 ∷
    are_digits bs 9 ∷ eqb (get_or bs 11 0) 58 ∷ are_digits bs 12 ∷ eqb (get_or bs 14 0) 58 ∷ are_digits bs 15 ∷ [])
tests bs h = every_all (
    eqb (length bs) 17 ∷ are_digits bs 0 ∷ are_digits bs 2 ∷ are_digits bs 4 ∷ are_digits bs 6 ∷ eqb (get_or bs 8 0) 84 ∷
    are_digits bs 9 ∷ eqb (get_or bs 11 0) 58 ∷ are_digits bs 12 ∷ eqb (get_or bs 14 0) 58 ∷ are_digits bs 15 ∷ []) h

pub marks : (bs : List ℕ) → is_shaped bs ≡ true → (get_or bs 8 0 ≡ 84) × (get_or bs 11 0 ≡ 58) × (get_or bs 14 0 ≡ 58)
marks bs h =
    let t = tests bs h in
    (eqb-true (get_or bs 8 0) 84 t.1.1.1.1.1.0, eqb-true (get_or bs 11 0) 58 t.1.1.1.1.1.1.1.0, eqb-true (get_or bs 14 0) 58 t.1.1.1.1.1.1.1.1.1.0)

-- a text of another shape spells no date
pub unshaped : (bs : List ℕ) → (is_shaped bs ≡ true → ⊥) → None ≡ plain_date bs
unshaped bs other = ⊎_elim
    (λ yes. absurd (other yes))
    (λ bad. sym (cond-false (is_shaped bs && is_moment (moment_at bs)) (Some (moment_at bs)) None (and_left (is_shaped bs) (is_moment (moment_at bs)) bad)))
    (cases_Bool (is_shaped bs))

-- a text with these tests passed has the shape
pub shaped_by : (bs : List ℕ) → length bs ≡ 17 → get_or bs 8 0 ≡ 84 → get_or bs 11 0 ≡ 58 → get_or bs 14 0 ≡ 58 →
    are_digits bs 0 ≡ true → are_digits bs 2 ≡ true → are_digits bs 4 ≡ true → are_digits bs 6 ≡ true → are_digits bs 9 ≡ true → are_digits bs 12 ≡ true → are_digits bs 15 ≡ true →
    is_shaped bs ≡ true
shaped_by bs len mark colon colon-2 century year month day hour minute second =
    all_every (
    eqb (length bs) 17 ∷ are_digits bs 0 ∷ are_digits bs 2 ∷ are_digits bs 4 ∷ are_digits bs 6 ∷ eqb (get_or bs 8 0) 84 ∷
    are_digits bs 9 ∷ eqb (get_or bs 11 0) 58 ∷ are_digits bs 12 ∷ eqb (get_or bs 14 0) 58 ∷ are_digits bs 15 ∷ [])
    (eq-eqb _ _ len, (century, (year, (month, (day, (eq-eqb _ _ mark, (hour, (eq-eqb _ _ colon, (minute, (eq-eqb _ _ colon-2, (second, tt)))))))))))

-- what is made of the moment of such a text is the date that it spells
pub read_by : (bs : List ℕ) (r : Option Date) → is_shaped bs ≡ true → MatchOption r (is_moment (moment_at bs) ≡ false) (λ d. moment_of d ≡ moment_at bs) → option_map moment_of r ≡ plain_date bs
read_by bs None h other = sym (cond-false _ (Some (moment_at bs)) None (and_right (is_shaped bs) (is_moment (moment_at bs)) other))
read_by bs (Some d) h same = ap Some same ∙ sym (cond-true _ (Some (moment_at bs)) None (and_from (is_shaped bs) (is_moment (moment_at bs)) h (sym (ap is_moment same) ∙ d.ok)))

pub spelled : (bs : List ℕ) → is_shaped bs ≡ true → bs ≡ date_spelling (moment_at bs)
spelled bs h =
    let t = tests bs h in
    let at = λ (i : ℕ). get_or bs i 0 in
    let year = four (at 0) (at 1) (at 2) (at 3) t.1.0 t.1.1.0 in
    let month = pair (at 4) (at 5) t.1.1.1.0 in
    let day = pair (at 6) (at 7) t.1.1.1.1.0 in
    let mark = eqb-true (at 8) 84 t.1.1.1.1.1.0 in
    let hour = pair (at 9) (at 10) t.1.1.1.1.1.1.0 in
    let colon = eqb-true (at 11) 58 t.1.1.1.1.1.1.1.0 in
    let minute = pair (at 12) (at 13) t.1.1.1.1.1.1.1.1.0 in
    let second-colon = eqb-true (at 14) 58 t.1.1.1.1.1.1.1.1.1.0 in
    let second = pair (at 15) (at 16) t.1.1.1.1.1.1.1.1.1.1.0 in
    text_from_reads bs (date_spelling (moment_at bs)) (eqb-true (length bs) 17 t.0)
    (year.0, (year.1, (year.2, (year.3, (month.0, (month.1, (day.0, (day.1, (mark, (hour.0, (hour.1, (colon, (minute.0, (minute.1, (second-colon, (second.0, (second.1, tt)))))))))))))))))

digit : (n : ℕ) → is_digit (48 + n % 10) ≡ true
digit n = grind (arith, nat_tests)

both : (m n : ℕ) → (is_digit (48 + m % 10) && is_digit (48 + n % 10)) ≡ true
both m n = and_from (is_digit (48 + m % 10)) (is_digit (48 + n % 10)) (digit m) (digit n)

shaped : (m : Moment) → is_shaped (date_spelling m) ≡ true
shaped m =
    let bs = date_spelling m in
    all_every (
    eqb (length bs) 17 ∷ are_digits bs 0 ∷ are_digits bs 2 ∷ are_digits bs 4 ∷ are_digits bs 6 ∷ eqb (get_or bs 8 0) 84 ∷
    are_digits bs 9 ∷ eqb (get_or bs 11 0) 58 ∷ are_digits bs 12 ∷ eqb (get_or bs 14 0) 58 ∷ are_digits bs 15 ∷ []) (
      refl,
      (
        both (m.year / 10 / 10 / 10) (m.year / 10 / 10),
        (
          both (m.year / 10) m.year,
          (
            both (m.month / 10) m.month,
            (
              both (m.day / 10) m.day,
              (
                refl,
                (both (m.hour / 10) m.hour, (refl, (both (m.minute / 10) m.minute, (refl, (both (m.second / 10) m.second, tt))))),
              ),
            ),
          ),
        ),
      ),
    )

few_days : (y m : ℕ) → days_in y m ≤ 31
few_days y m = grind (arith, nat_tests)

two_again : (n : ℕ) → n ≤ 99 → (48 + n / 10 % 10 - 48) * 10 + (48 + n % 10 - 48) ≡ n
two_again n h = omega arith

four_again : (n : ℕ) → n ≤ 9999 →
    ((48 + n / 10 / 10 / 10 % 10 - 48) * 10 + (48 + n / 10 / 10 % 10 - 48)) * 100 + ((48 + n / 10 % 10 - 48) * 10 + (48 + n % 10 - 48)) ≡ n
four_again n h =
    let tens = two_again (n / 10 / 10) (omega arith) in
    omega arith

moment_again : (m : Moment) → is_moment m ≡ true → moment_at (date_spelling m) ≡ m
moment_again m h =
    let t = every_all (leb m.year 9999 ∷ leb 1 m.month ∷ leb m.month 12 ∷ leb 1 m.day ∷ leb m.day (days_in m.year m.month) ∷ leb m.hour 23 ∷ leb m.minute 59 ∷ leb m.second 59 ∷ []) h in
    let year = four_again m.year (leb-true m.year 9999 t.0) in
    let month = two_again m.month (omega (arith, leb-true m.month 12 t.1.1.0)) in
    let day = two_again m.day (omega (arith, leb-true m.day (days_in m.year m.month) t.1.1.1.1.0, few_days m.year m.month)) in
    let hour = two_again m.hour (omega (arith, leb-true m.hour 23 t.1.1.1.1.1.0)) in
    let minute = two_again m.minute (omega (arith, leb-true m.minute 59 t.1.1.1.1.1.1.0)) in
    let second = two_again m.second (omega (arith, leb-true m.second 59 t.1.1.1.1.1.1.1.0)) in
    (λ i. record { year = year i; month = month i; day = day i; hour = hour i; minute = minute i; second = second i })

-- what holds of `T`, `:` and digits holds of every byte of a date
pub all_date : (P : ℕ → Type 0) → P 84 → P 58 → ((d : ℕ) → is_digit d ≡ true → P d) → (m : Moment) → AllByRecursion P (date_spelling m)
all_date P mark colon digit m =
    let seconds = 58 ∷ padded 2 m.second in
    let minutes = 58 ∷ (padded 2 m.minute ++ seconds) in
    let hours = 84 ∷ (padded 2 m.hour ++ minutes) in
    let days = padded 2 m.day ++ hours in
    front 4 m.year (padded 2 m.month ++ days)
    (front 2 m.month days
    (front 2 m.day hours (mark, front 2 m.hour minutes (colon, front 2 m.minute seconds (colon, digits_are 2 m.second))))) where
      digits_are : (w n : ℕ) → AllByRecursion P (padded w n)
      digits_are w n = All-weaker (λ d. is_digit d ≡ true) P digit (padded w n) (all_padded w n)

      front : (w n : ℕ) (rest : List ℕ) → AllByRecursion P rest → AllByRecursion P (padded w n ++ rest)
      front w n rest h = All-append P (padded w n) rest (digits_are w n) h

some_same : {X : Type 0} (x y : X) → Some x ≡ Some y → x ≡ y
some_same x y e = cc

none_some : {X : Type 0} (x : X) → None ≡ Some x → ⊥
none_some x e = let z : ◌≡◌ {A = ℕ} 0 1 = cc in omega arith

-- a text that spells a moment has the shape of one, and the moment at its places
date_read : (bs : List ℕ) (m : Moment) → date_of bs ≡ Some m → (is_shaped (unblanked bs) ≡ true) × (is_moment m ≡ true) × (moment_at (unblanked bs) ≡ m)
date_read bs m e = ⊎_elim
    (λ good.
    let t = unblanked bs in
    let p = and_parts (is_shaped t) (is_moment (moment_at t)) good in
    let same : moment_at t ≡ m = some_same (moment_at t) m (sym (cond-true _ (Some (moment_at t)) None good) ∙ e) in
    (p.0, sym (ap is_moment same) ∙ p.1, same))
    (λ bad. absurd (none_some m (sym (cond-false _ (Some (moment_at (unblanked bs))) None bad) ∙ e)))
    (cases_Bool (is_shaped (unblanked bs) && is_moment (moment_at (unblanked bs))))

-- it is the moment's spelling, but for the blanks round it
pub date_spelled : (bs : List ℕ) (m : Moment) → date_of bs ≡ Some m → unblanked bs ≡ date_spelling m
date_spelled bs m e = let r = date_read bs m e in spelled (unblanked bs) r.0 ∙ ap date_spelling r.2

pub date_is : (bs : List ℕ) (m : Moment) → date_of bs ≡ Some m → is_moment m ≡ true
date_is bs m e = (date_read bs m e).1

pub date_reads_back : (m : Moment) → is_moment m ≡ true → date_of (date_spelling m) ≡ Some m
date_reads_back m h =
    let again = moment_again m h in
    let good : (is_shaped (date_spelling m) && is_moment (moment_at (date_spelling m))) ≡ true = and_from _ _ (shaped m) (ap is_moment again ∙ h) in
    ap plain_date (unblanked_bare (date_spelling m) (all_date (λ b. is_blank b ≡ false) refl refl digit_bare m)) ∙ cond-true _ _ _ good ∙ ap Some again
