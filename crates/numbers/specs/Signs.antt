-- An optional sign in front of digits.
use Rattle.std.specs.Prelude.{ℕ, Bool, cond, ◌||◌, List, [], ◌∷◌, ◌++◌, drop, ℤ, pos, neg_ℤ, decimal, ◌==◌, int_lt, slice_index}

-- whether a minus stands first
abbrev pub is_minus : List ℕ → Bool
is_minus bs = slice_index bs 0 == 45

-- what follows the sign, if there is one
abbrev pub after_sign : List ℕ → List ℕ
after_sign bs = cond (slice_index bs 0 == 45 || slice_index bs 0 == 43) (drop 1 bs) bs

-- a magnitude with its sign
abbrev pub signed : Bool → ℕ → ℤ
signed minus n = cond minus (neg_ℤ (pos n)) (pos n)

-- how a magnitude is written with its sign: `-` where it is below zero, else nothing, and no zeros in front
abbrev pub signed_spelling : Bool → ℕ → List ℕ
signed_spelling minus n = cond minus (45 ∷ []) [] ++ decimal n

-- whether a number is below zero
abbrev pub is_negative : ℤ → Bool
is_negative z = int_lt z (pos 0)
