-- The number of each kind of row.
use Rattle.std.specs.Prelude.{ℕ}
use Rattle.wire.specs.declared.kind.Kind.{Kind}
use Rattle.wire.specs.declared.kind.Kind.TheVariants as kind

abbrev pub kind_number : Kind → ℕ
kind_number kind.Blank = 0
kind_number kind.Call = 1
kind_number kind.Response = 2
kind_number kind.Fault = 3
kind_number kind.Int = 4
kind_number kind.Boolean = 5
kind_number kind.String = 6
kind_number kind.Double = 7
kind_number kind.Date = 8
kind_number kind.Base64 = 9
kind_number kind.Struct = 10
kind_number kind.Member = 11
kind_number kind.Array = 12
