-- Which messages are read at all.
use Rattle.std.specs.Prelude.{◌≡◌, ℕ, ◌<◌, ◌≤◌, Ok, Err, Result, ◌≢◌}
use Rattle.wire.specs.declared.level.Level.{Level}
use Rattle.wire.specs.declared.refusal.Refusal.{Refusal}
use Rattle.wire.specs.declared.refusal.Refusal.TheVariants.{BadSetting, MessageTooLong}
use Rattle.wire.specs.Levels.{level_number}

-- why a message is refused before it is looked at: its level is none, or else it is too long
pub data Unseen (number length : ℕ) : Refusal → Type 0 where
  no_level : ((level : Level) → number ≢ level_number level) → Unseen number length BadSetting
  too_long : (level : Level) → number ≡ level_number level → 65536 < length → Unseen number length MessageTooLong

-- a message of that length at the level of that number: the level to read it at, or why it is refused unseen
abbrev pub Admits : ℕ → ℕ → Result Level Refusal → Type 0
Admits number length (Ok level) = (number ≡ level_number level) × (length ≤ 65536)
Admits number length (Err refusal) = Unseen number length refusal
