-- A date as text: CCYYMMDDTHH:MM:SS, blanks round it.
use Rattle.std.specs.Prelude.{ℕ, ◌+◌, ◌-◌, ◌*◌, Bool, cond, ◌&&◌, List, [], ◌∷◌, ◌++◌, length, Some, None, Option, ◌==◌, slice_index}
use Rattle.texts.specs.Bytes.{unblanked}
use Rattle.texts.specs.Digits.{is_digit, padded}
use Rattle.dates.specs.Calendar.{every, is_day}

pub record Moment : Type 0 where
  pub year : ℕ
  pub month : ℕ
  pub day : ℕ
  pub hour : ℕ
  pub minute : ℕ
  pub second : ℕ

-- a moment that the calendar and the clock have
abbrev pub is_moment : Moment → Bool
is_moment m = is_day m.year m.month m.day m.hour m.minute m.second

-- two digits at a place, and what they are worth
abbrev pub are_digits : List ℕ → ℕ → Bool
are_digits bs i = is_digit (slice_index bs i) && is_digit (slice_index bs (i + 1))

abbrev pub two : List ℕ → ℕ → ℕ
two bs i = (slice_index bs i - 48) * 10 + (slice_index bs (i + 1) - 48)

-- CCYYMMDDTHH:MM:SS, whatever the digits are worth
abbrev pub is_shaped : List ℕ → Bool
is_shaped bs = every (
    (length bs == 17) ∷ are_digits bs 0 ∷ are_digits bs 2 ∷ are_digits bs 4 ∷ are_digits bs 6 ∷ (slice_index bs 8 == 84) ∷
    are_digits bs 9 ∷ (slice_index bs 11 == 58) ∷ are_digits bs 12 ∷ (slice_index bs 14 == 58) ∷ are_digits bs 15 ∷ [])

abbrev pub moment_at : List ℕ → Moment
moment_at bs = record {
  year = two bs 0 * 100 + two bs 2;
  month = two bs 4;
  day = two bs 6;
  hour = two bs 9;
  minute = two bs 12;
  second = two bs 15;
}

-- the moment that a text without blanks round it spells
abbrev pub plain_date : List ℕ → Option Moment
plain_date bs = cond (is_shaped bs && is_moment (moment_at bs)) (Some (moment_at bs)) None

-- the moment that a text spells
abbrev pub date_of : List ℕ → Option Moment
date_of bs = plain_date (unblanked bs)

-- how a moment is written
abbrev pub date_spelling : Moment → List ℕ
date_spelling m =
    padded 4 m.year ++ (padded 2 m.month ++ (padded 2 m.day ++ (84 ∷ (padded 2 m.hour ++ (58 ∷ (padded 2 m.minute ++ (58 ∷ padded 2 m.second)))))))
