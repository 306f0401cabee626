-- The canonical form row by row: what stands round a row's text, what follows its last part, and what stands round each part.
use Rattle.std.specs.Prelude.{ℕ, zero, suc, List, [], codes}
use Rattle.wire.specs.declared.kind.Kind.{Kind}
use Rattle.wire.specs.declared.kind.Kind.TheVariants as kind
use Rattle.wire.specs.Trees.{Content}
use Rattle.numbers.specs.Ints.{int_spelling}
use Rattle.numbers.specs.Doubles.{double_spelling}
use Rattle.base64_texts.specs.Base64.{base64_spelling}
use Rattle.characters.specs.Spelling.{characters_spelling}

-- in front of the text
abbrev pub front_of : Kind → List ℕ
front_of kind.Blank = []
front_of kind.Call = codes "<?xml version=\"1.0\"?><methodCall><methodName>"
front_of kind.Response = codes "<?xml version=\"1.0\"?><methodResponse><params>"
front_of kind.Fault = codes "<?xml version=\"1.0\"?><methodResponse><fault>"
front_of kind.Int = codes "<value><int>"
front_of kind.Boolean = codes "<value><boolean>"
front_of kind.String = codes "<value><string>"
front_of kind.Double = codes "<value><double>"
front_of kind.Date = codes "<value><dateTime.iso8601>"
front_of kind.Base64 = codes "<value><base64>"
front_of kind.Struct = codes "<value><struct>"
front_of kind.Member = codes "<member><name>"
front_of kind.Array = codes "<value><array><data>"

-- the text
abbrev pub spelling_of : Content → Kind → List ℕ
spelling_of c kind.Blank = []
spelling_of c kind.Call = c.text
spelling_of c kind.Response = []
spelling_of c kind.Fault = []
spelling_of c kind.Int = int_spelling c.number
spelling_of c kind.Boolean = int_spelling c.number
spelling_of c kind.String = characters_spelling c.text
spelling_of c kind.Double = double_spelling c.number c.scale
spelling_of c kind.Date = c.text
spelling_of c kind.Base64 = base64_spelling c.text
spelling_of c kind.Struct = []
spelling_of c kind.Member = characters_spelling c.text
spelling_of c kind.Array = []

-- behind the method's name: there is no params without parameters
abbrev pub params_open : ℕ → List ℕ
params_open zero = codes "</methodName>"
params_open (suc n) = codes "</methodName><params>"

abbrev pub params_close : ℕ → List ℕ
params_close zero = codes "</methodCall>"
params_close (suc n) = codes "</params></methodCall>"

-- behind the text, in front of the parts
abbrev pub back_of : Kind → ℕ → List ℕ
back_of kind.Blank n = []
back_of kind.Call n = params_open n
back_of kind.Response n = []
back_of kind.Fault n = []
back_of kind.Int n = codes "</int></value>"
back_of kind.Boolean n = codes "</boolean></value>"
back_of kind.String n = codes "</string></value>"
back_of kind.Double n = codes "</double></value>"
back_of kind.Date n = codes "</dateTime.iso8601></value>"
back_of kind.Base64 n = codes "</base64></value>"
back_of kind.Struct n = []
back_of kind.Member n = codes "</name>"
back_of kind.Array n = []

-- behind the last part
abbrev pub close_of : Kind → ℕ → List ℕ
close_of kind.Blank n = []
close_of kind.Call n = params_close n
close_of kind.Response n = codes "</params></methodResponse>"
close_of kind.Fault n = codes "</fault></methodResponse>"
close_of kind.Int n = []
close_of kind.Boolean n = []
close_of kind.String n = []
close_of kind.Double n = []
close_of kind.Date n = []
close_of kind.Base64 n = []
close_of kind.Struct n = codes "</struct></value>"
close_of kind.Member n = codes "</member>"
close_of kind.Array n = codes "</data></array></value>"

-- round each part of a call and of a response
abbrev pub before_of : Kind → List ℕ
before_of kind.Blank = []
before_of kind.Call = codes "<param>"
before_of kind.Response = codes "<param>"
before_of kind.Fault = []
before_of kind.Int = []
before_of kind.Boolean = []
before_of kind.String = []
before_of kind.Double = []
before_of kind.Date = []
before_of kind.Base64 = []
before_of kind.Struct = []
before_of kind.Member = []
before_of kind.Array = []

abbrev pub after_of : Kind → List ℕ
after_of kind.Blank = []
after_of kind.Call = codes "</param>"
after_of kind.Response = codes "</param>"
after_of kind.Fault = []
after_of kind.Int = []
after_of kind.Boolean = []
after_of kind.String = []
after_of kind.Double = []
after_of kind.Date = []
after_of kind.Base64 = []
after_of kind.Struct = []
after_of kind.Member = []
after_of kind.Array = []
