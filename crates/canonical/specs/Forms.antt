-- The canonical form of a message: the one way in which it is written.
use Rattle.std.specs.Prelude.{ℕ, List, [], ◌++◌, codes}
use Rattle.wire.specs.Trees.{Value, Members, Values, Message, int, boolean, string, double, date, base64, struct, array, none, member, end, value, call, response, fault}
use Rattle.texts.specs.Booleans.{boolean_spelling}
use Rattle.numbers.specs.Ints.{int_spelling}
use Rattle.numbers.specs.Doubles.{double_spelling}
use Rattle.base64_texts.specs.Base64.{base64_spelling}
use Rattle.characters.specs.Spelling.{characters_spelling}
use Rattle.parts.specs.declared.name.Name.{Name}
use Rattle.parts.specs.declared.name.Name.TheVariants as name
use Rattle.parts.specs.Names.{spelled}

-- what every message begins with
unfoldable pub declaration : List ℕ
declaration = codes "<?xml version=\"1.0\"?>"

-- a tag without blanks
unfoldable pub open_tag : Name → List ℕ
open_tag n = codes "<" ++ (spelled n ++ codes ">")

unfoldable pub close_tag : Name → List ℕ
close_tag n = codes "</" ++ (spelled n ++ codes ">")

-- an element always has both its tags
unfoldable pub element : Name → List ℕ → List ℕ
element n inside = open_tag n ++ (inside ++ close_tag n)

unfoldable mutual
  -- the typed element of a value: an int as `int`, a string with its tags
  pub typed_form : Value → List ℕ
  typed_form (int z) = element name.Int (int_spelling z)
  typed_form (boolean b) = element name.Boolean (boolean_spelling b)
  typed_form (string text) = element name.String (characters_spelling text)
  typed_form (double z scale) = element name.Double (double_spelling z scale)
  typed_form (date text) = element name.DateTime text
  typed_form (base64 bytes) = element name.Base64 (base64_spelling bytes)
  typed_form (struct ms) = element name.Struct (members_form ms)
  typed_form (array vs) = element name.Array (element name.Data (values_form vs))

  pub members_form : Members → List ℕ
  members_form none = []
  members_form (member text v more) =
      element name.Member (element name.MemberName (characters_spelling text) ++ element name.Value (typed_form v)) ++ members_form more

  pub values_form : Values → List ℕ
  values_form end = []
  values_form (value v more) = element name.Value (typed_form v) ++ values_form more

unfoldable pub value_form : Value → List ℕ
value_form v = element name.Value (typed_form v)

-- the parameters of a call, each in its own element
unfoldable pub params_form : Values → List ℕ
params_form end = []
params_form (value v more) = element name.Param (value_form v) ++ params_form more

-- a call without parameters has no params
unfoldable pub call_params : Values → List ℕ
call_params end = []
call_params (value v more) = element name.Params (params_form (value v more))

unfoldable pub message_form : Message → List ℕ
message_form (call method params) = element name.MethodCall (element name.MethodName method ++ call_params params)
message_form (response v) = element name.MethodResponse (element name.Params (element name.Param (value_form v)))
message_form (fault v) = element name.MethodResponse (element name.Fault (value_form v))

-- the canonical form of a message
unfoldable pub canonical : Message → List ℕ
canonical m = declaration ++ message_form m
