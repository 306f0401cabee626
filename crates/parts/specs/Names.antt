-- The names of elements and how they are spelled.
use Rattle.std.specs.Prelude.{ℕ, cond, List, length, codes, ◌==◌, slice_index}
use Rattle.parts.specs.declared.name.Name.{Name}
use Rattle.parts.specs.declared.name.Name.TheVariants.{MethodCall, MethodResponse, MethodName, Params, Param, Value, Fault, Struct, Member, MemberName, Array, Data, Int, I4, Boolean, String, Double, DateTime, Base64}

abbrev pub spelled : Name → List ℕ
spelled MethodCall = codes "methodCall"
spelled MethodResponse = codes "methodResponse"
spelled MethodName = codes "methodName"
spelled Params = codes "params"
spelled Param = codes "param"
spelled Value = codes "value"
spelled Fault = codes "fault"
spelled Struct = codes "struct"
spelled Member = codes "member"
spelled MemberName = codes "name"
spelled Array = codes "array"
spelled Data = codes "data"
spelled Int = codes "int"
spelled I4 = codes "i4"
spelled Boolean = codes "boolean"
spelled String = codes "string"
spelled Double = codes "double"
spelled DateTime = codes "dateTime.iso8601"
spelled Base64 = codes "base64"

-- the one name that bytes may spell, going by their length and one of them
abbrev pub likely : List ℕ → Name
likely bs =
    cond (length bs == 2) I4
    (cond (length bs == 3) Int
    (cond (length bs == 4) (cond (slice_index bs 0 == 110) MemberName Data)
    (cond (length bs == 5) (cond (slice_index bs 0 == 118) Value (cond (slice_index bs 0 == 112) Param (cond (slice_index bs 0 == 102) Fault Array)))
    (cond (length bs == 6)
    (cond (slice_index bs 4 == 101) Member (cond (slice_index bs 4 == 99) Struct (cond (slice_index bs 4 == 110) String
    (cond (slice_index bs 4 == 109) Params (cond (slice_index bs 4 == 108) Double Base64)))))
    (cond (length bs == 7) Boolean
    (cond (length bs == 10) (cond (slice_index bs 6 == 67) MethodCall MethodName)
    (cond (length bs == 14) MethodResponse DateTime)))))))
