-- What comes next, told.
use Rattle.std.specs.Prelude.{ℕ}
use Rattle.parts.specs.declared.reader.Next.{Next}
use Rattle.parts.specs.declared.reader.Next.TheVariants.{Run, Tag, EmptyRun, Close}

-- where the tag begins whose close tag is still to come, 0 where none is
abbrev pub begun_at : Next → ℕ
begun_at Run = 0
begun_at Tag = 0
begun_at (EmptyRun t) = t.place
begun_at (Close t) = t.place
