-- The levels and what each has room for.
use Rattle.std.specs.Prelude.{◌≡◌, ℕ, ◌≢◌, cond, Result, MatchResult, nat_le}
use Rattle.wire.specs.declared.level.Level.{Level}
use Rattle.wire.specs.declared.level.Level.TheVariants.{One, Two, Three}
use Rattle.wire.specs.declared.refusal.Refusal.{Refusal}
use Rattle.wire.specs.declared.refusal.Refusal.TheVariants.{BadSetting}

abbrev pub level_number : Level → ℕ
level_number One = 1
level_number Two = 2
level_number Three = 3

-- the level with this number, or the refusal of a number that no level has
abbrev pub IsLevelOf : ℕ → Result Level Refusal → Type 0
IsLevelOf number r = MatchResult r (λ level. number ≡ level_number level) (λ e. (e ≡ BadSetting) × ((level : Level) → number ≢ level_number level))

-- how many rows a level has; a higher one never has fewer
abbrev pub rows_at : ℕ → ℕ
rows_at level = cond (nat_le level 1) 64 (cond (nat_le level 2) 512 4096)

-- how many bytes of ink a level has; a higher one never has fewer
abbrev pub ink_at : ℕ → ℕ
ink_at level = cond (nat_le level 1) 1024 (cond (nat_le level 2) 8192 65536)
