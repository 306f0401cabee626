use Rattle.std.proofs.Common.{◌≡◌, ℕ, ◌+◌, ◌-◌, ◌*◌, ◌&&◌, List, length, get_or, take, drop, true, false, MatchOption, ap, ◌∙◌, sym, subst, arith, length-take, length-drop}
use Rattle.std.proofs.lemmas.List.{take_rest, get_or-drop}
use Rattle.texts.specs.Digits.{is_digit}
use Rattle.dates.specs.Moments.{is_moment, moment_at, is_shaped}
use Rattle.dates.specs.Dates.{moment_of}
use Rattle.dates.proofs.Spelled.{marks, unshaped, shaped_by, read_by}
use Rattle.dates.proofs.text.read_plain.Goals as goal

-- a byte of the time is a byte of the text
timed : (bs : List ℕ) (k : ℕ) → get_or (take (length bs - 9) (drop 9 bs)) k 0 ≡ get_or bs (9 + k) 0
timed bs k = ap (λ l. get_or l k 0) (take_rest bs 9) ∙ get_or-drop 9 bs k 0

-- two of its digits, and what they are worth
pair : (bs : List ℕ) (j k : ℕ) → let t = take (length bs - 9) (drop 9 bs) in (is_digit (get_or bs (9 + j) 0) && is_digit (get_or bs (9 + k) 0)) ≡ (is_digit (get_or t j 0) && is_digit (get_or t k 0))
pair bs j k = sym (λ i. is_digit (timed bs j i) && is_digit (timed bs k i))

worth : (bs : List ℕ) (j k : ℕ) → let t = take (length bs - 9) (drop 9 bs) in (get_or t j 0 - 48) * 10 + (get_or t k 0 - 48) ≡ (get_or bs (9 + j) 0 - 48) * 10 + (get_or bs (9 + k) 0 - 48)
worth bs j k = (λ i. (timed bs j i - 48) * 10 + (timed bs k i - 48))

pub returns-in_default-2 : goal.returns-in_default-2
returns-in_default-2 c = unshaped c.args.text.now (λ h. let m = marks c.args.text.now h in omega arith)

pub returns-in_default-time-2 : goal.returns-in_default-time-2
returns-in_default-time-2 c = unshaped c.args.text.now (λ h. let m = marks c.args.text.now h in omega (arith, timed c.args.text.now 5))

pub returns-in_default-time-3 : goal.returns-in_default-time-3
returns-in_default-time-3 c = unshaped c.args.text.now (λ h. let m = marks c.args.text.now h in omega (arith, timed c.args.text.now 2))

pub returns : goal.returns
returns c =
    let bs = c.args.text.now in
    let at = timed bs in
    let size : length (take (length bs - 9) (drop 9 bs)) ≡ length bs - 9 = simp (length-take, length-drop) (omega arith) in
    let shaped : is_shaped bs ≡ true =
    shaped_by bs (omega (arith, size)) (omega arith) (omega (arith, at 2)) (omega (arith, at 5))
    c.in_ok-century.ensures.0 c.in_ok-year.ensures.0 c.in_ok-month.ensures.0 c.in_ok-day.ensures.0
    (pair bs 0 1 ∙ c.in_ok-hour.ensures.0) (pair bs 3 4 ∙ c.in_ok-minute.ensures.0) (pair bs 6 7 ∙ c.in_ok-second.ensures.0) in
    let same : record { year = c.from.result * 100 + c.from-2.result; month = c.in_ok-month.month; day = c.in_ok-day.day; hour = c.in_ok-hour.hour; minute = c.in_ok-minute.minute; second = c.in_ok-second.second } ≡ moment_at bs =
    (λ i. record {
      year = (c.from.ensures ∙ c.in_ok-century.ensures.1) i * 100 + (c.from-2.ensures ∙ c.in_ok-year.ensures.1) i;
      month = c.in_ok-month.ensures.1 i;
      day = c.in_ok-day.ensures.1 i;
      hour = (c.in_ok-hour.ensures.1 ∙ worth bs 0 1) i;
      minute = (c.in_ok-minute.ensures.1 ∙ worth bs 3 4) i;
      second = (c.in_ok-second.ensures.1 ∙ worth bs 6 7) i;
    }) in
    read_by bs c.new.result shaped (subst (λ m. MatchOption c.new.result (is_moment m ≡ false) (λ d. moment_of d ≡ m)) same c.new.ensures)
