-- Which tags the grammar has at each point, and what each does.
use Rattle.std.specs.Prelude.{ℕ, ◌+◌, ◌*◌, cond, List, [], ◌∷◌, Some, None, Option, ◌==◌}
use Rattle.parts.specs.declared.name.Name.{Name}
use Rattle.parts.specs.declared.name.Name.TheVariants as name
use Rattle.parts.specs.declared.tag.Tag.{Tag}
use Rattle.parts.specs.declared.tag.Tag.TheVariants.{Open, Close}
use Rattle.table.specs.declared.mode.Mode.{Mode}
use Rattle.table.specs.declared.mode.Mode.TheVariants.{Start, Call, Response, Value, Struct, Array, Finished}
use Rattle.table.specs.declared.mode.CallMode.{CallMode}
use Rattle.table.specs.declared.mode.CallMode.TheVariants as call
use Rattle.table.specs.declared.mode.ResponseMode.{ResponseMode}
use Rattle.table.specs.declared.mode.ResponseMode.TheVariants as response
use Rattle.table.specs.declared.mode.ValueMode.{ValueMode}
use Rattle.table.specs.declared.mode.ValueMode.TheVariants as value
use Rattle.table.specs.declared.mode.Plain.{Plain}
use Rattle.table.specs.declared.mode.Plain.TheVariants as plain
use Rattle.table.specs.declared.mode.StructMode.{StructMode}
use Rattle.table.specs.declared.mode.StructMode.TheVariants as struct
use Rattle.table.specs.declared.mode.ArrayMode.{ArrayMode}
use Rattle.table.specs.declared.mode.ArrayMode.TheVariants as array
use Rattle.table.specs.declared.mode.Shape.TheVariants as shape
use Rattle.table.specs.declared.mode.Move.{Move}
use Rattle.table.specs.declared.mode.Move.TheVariants as move

-- a number for each name and each tag, so that tags can be compared
abbrev pub name_code : Name → ℕ
name_code name.MethodCall = 0
name_code name.MethodResponse = 1
name_code name.MethodName = 2
name_code name.Params = 3
name_code name.Param = 4
name_code name.Value = 5
name_code name.Fault = 6
name_code name.Struct = 7
name_code name.Member = 8
name_code name.MemberName = 9
name_code name.Array = 10
name_code name.Data = 11
name_code name.Int = 12
name_code name.I4 = 13
name_code name.Boolean = 14
name_code name.String = 15
name_code name.Double = 16
name_code name.DateTime = 17
name_code name.Base64 = 18

abbrev pub code_of : Tag → ℕ
code_of (Open n) = name_code n * 2
code_of (Close n) = name_code n * 2 + 1

infixl 20 ◌does◌
-- one line of the table: a tag, and what it does
pub data Entry : Type 0 where
  ◌does◌ : Tag → Move → Entry

abbrev pub lookup : Tag → List Entry → Option Move
lookup t [] = None
lookup t ((u does v) ∷ es) = cond (code_of t == code_of u) (Some v) (lookup t es)

-- the element of each plain value
abbrev pub element_of : Plain → Name
element_of plain.Int = name.Int
element_of plain.I4 = name.I4
element_of plain.Boolean = name.Boolean
element_of plain.String = name.String
element_of plain.Double = name.Double
element_of plain.Date = name.DateTime
element_of plain.Base64 = name.Base64

abbrev pub call_entries : CallMode → List Entry
call_entries call.Begun = (Open name.MethodName does move.Enter (Call call.Name)) ∷ []
call_entries call.Name = (Close name.MethodName does move.Name) ∷ []
call_entries call.Named = (Open name.Params does move.Enter (Call call.Params)) ∷ (Close name.MethodCall does move.Unnest) ∷ []
call_entries call.Params = (Open name.Param does move.Enter (Call call.Param)) ∷ (Close name.Params does move.Enter (Call call.Done)) ∷ []
call_entries call.Param = (Open name.Value does move.Enter (Value value.Begun)) ∷ []
call_entries call.ParamDone = (Close name.Param does move.Enter (Call call.Params)) ∷ []
call_entries call.Done = (Close name.MethodCall does move.Unnest) ∷ []

abbrev pub response_entries : ResponseMode → List Entry
response_entries response.Begun = (Open name.Params does move.Enter (Response response.Params)) ∷ (Open name.Fault does move.Fault) ∷ []
response_entries response.Params = (Open name.Param does move.Enter (Response response.Param)) ∷ []
response_entries response.Param = (Open name.Value does move.Enter (Value value.Begun)) ∷ []
response_entries response.ParamDone = (Close name.Param does move.Enter (Response response.ParamsDone)) ∷ []
response_entries response.ParamsDone = (Close name.Params does move.Enter (Response response.Done)) ∷ []
response_entries response.Fault = (Open name.Value does move.Enter (Value value.Begun)) ∷ []
response_entries response.FaultDone = (Close name.Fault does move.Enter (Response response.Done)) ∷ []
response_entries response.Done = (Close name.MethodResponse does move.Unnest) ∷ []

-- an open tag of a plain value
abbrev pub plain_entry : Plain → Entry
plain_entry p = Open (element_of p) does move.Enter (Value (value.Text p))

abbrev pub value_entries : ValueMode → List Entry
value_entries value.Begun =
    plain_entry plain.Int ∷ plain_entry plain.I4 ∷ plain_entry plain.Boolean ∷ plain_entry plain.String ∷ plain_entry plain.Double ∷ plain_entry plain.Date ∷ plain_entry plain.Base64
    ∷ (Open name.Struct does move.Nest shape.Struct) ∷ (Open name.Array does move.Nest shape.Array) ∷ (Close name.Value does move.Word) ∷ []
value_entries (value.Text p) = (Close (element_of p) does move.Emit (Value value.Typed)) ∷ []
value_entries value.Typed = (Close name.Value does move.Leave) ∷ []

abbrev pub struct_entries : StructMode → List Entry
struct_entries struct.Members = (Open name.Member does move.Enter (Struct struct.Member)) ∷ (Close name.Struct does move.Unnest) ∷ []
struct_entries struct.Member = (Open name.MemberName does move.Enter (Struct struct.Name)) ∷ []
struct_entries struct.Name = (Close name.MemberName does move.Emit (Struct struct.Named)) ∷ []
struct_entries struct.Named = (Open name.Value does move.Enter (Value value.Begun)) ∷ []
struct_entries struct.MemberDone = (Close name.Member does move.Enter (Struct struct.Members)) ∷ []

abbrev pub array_entries : ArrayMode → List Entry
array_entries array.Begun = (Open name.Data does move.Enter (Array array.Data)) ∷ []
array_entries array.Data = (Open name.Value does move.Enter (Value value.Begun)) ∷ (Close name.Data does move.Enter (Array array.DataDone)) ∷ []
array_entries array.DataDone = (Close name.Array does move.Unnest) ∷ []

-- the table: what may come at each point; any other tag has no place there
abbrev pub entries : Mode → List Entry
entries Start = (Open name.MethodCall does move.Nest shape.Call) ∷ (Open name.MethodResponse does move.Nest shape.Response) ∷ []
entries (Call m) = call_entries m
entries (Response m) = response_entries m
entries (Value m) = value_entries m
entries (Struct m) = struct_entries m
entries (Array m) = array_entries m
entries Finished = []
