-- The number of each refusal, and its place in the message, 0 where it has none.
use Rattle.std.specs.Prelude.{ℕ}
use Rattle.wire.specs.declared.refusal.Refusal.{Refusal}
use Rattle.wire.specs.declared.refusal.Refusal.TheVariants as refusal

abbrev pub told : Refusal → ℕ × ℕ
told refusal.BadSetting = (1, 0)
told refusal.MemoryTooSmall = (2, 0)
told refusal.MessageTooLong = (3, 0)
told (refusal.BadByte place) = (4, place)
told refusal.OpenDeclaration = (5, 0)
told (refusal.Unfinished place) = (6, place)
told (refusal.NotATag place) = (7, place)
told (refusal.StrayText place) = (8, place)
told (refusal.BadReference place) = (9, place)
told (refusal.BadText place) = (10, place)
told (refusal.MisplacedTag place) = (11, place)
told (refusal.TooDeep place) = (12, place)
told refusal.TooManyRows = (13, 0)
told (refusal.RepeatedName place) = (14, place)
told refusal.BadFault = (15, 0)
told refusal.NotACall = (16, 0)
told refusal.ResponseTooLarge = (17, 0)
told refusal.PageTooSmall = (18, 0)
