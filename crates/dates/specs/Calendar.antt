-- Days of the Gregorian calendar, and times of day.
use Rattle.std.specs.Prelude.{ℕ, ◌%◌, Bool, true, cond, not, ◌&&◌, ◌||◌, List, [], ◌∷◌, ◌==◌, nat_le}

-- every fourth year, but of the hundreds only every fourth; so year 0 is one
abbrev pub is_leap : ℕ → Bool
is_leap y = y % 4 == 0 && (not (y % 100 == 0) || y % 400 == 0)

-- how many days a month has
abbrev pub days_in : ℕ → ℕ → ℕ
days_in y m = cond (m == 2) (cond (is_leap y) 29 28) (cond (m == 4 || (m == 6 || (m == 9 || m == 11))) 30 31)

-- all of these tests are passed
abbrev pub every : List Bool → Bool
every [] = true
every (test ∷ tests) = test && every tests

-- a day in years 0 to 9999, and a time from 00:00:00 to 23:59:59
abbrev pub is_day : ℕ → ℕ → ℕ → ℕ → ℕ → ℕ → Bool
is_day y mo d h mi s = every (nat_le y 9999 ∷ nat_le 1 mo ∷ nat_le mo 12 ∷ nat_le 1 d ∷ nat_le d (days_in y mo) ∷ nat_le h 23 ∷ nat_le mi 59 ∷ nat_le s 59 ∷ [])
