-- Messages and the bytes that they are written as.
use Rattle.std.specs.Prelude.{◌≡◌, true, List, [], ◌∷◌, pos, negsuc, codes}
use Prim.Native.String.{String}
use Rattle.std.specs.List.{AllByRecursion}
use Rattle.wire.specs.Trees.{Message, int, boolean, string, double, date, base64, struct, array, none, member, end, value, call, response, fault}
use Rattle.canonical.specs.Forms.{canonical}

abbrev pub known_forms : List (Message × String)
known_forms = (
  call (codes "tab.post") (value (string (codes "ABC")) (value (int (pos 500)) end)),
  "<?xml version=\"1.0\"?><methodCall><methodName>tab.post</methodName><params><param><value><string>ABC</string></value></param><param><value><int>500</int></value></param></params></methodCall>",
)
    ∷ (
      response (struct (member (codes "a&b") (array (value (string []) (value (boolean true) end))) (member (codes "t") (double (negsuc 14) 1) none))),
      "<?xml version=\"1.0\"?><methodResponse><params><param><value><struct><member><name>a&amp;b</name><value><array><data><value><string></string></value><value><boolean>1</boolean></value></data></array></value></member><member><name>t</name><value><double>-1.5</double></value></member></struct></value></param></params></methodResponse>",
    )
    ∷ (
      call (codes "tally.read") end,
      "<?xml version=\"1.0\"?><methodCall><methodName>tally.read</methodName></methodCall>",
    )
    ∷ (
      fault (struct (member (codes "faultString") (string (60 ∷ 13 ∷ 62 ∷ [])) (member (codes "faultCode") (int (negsuc 6)) none))),
      "<?xml version=\"1.0\"?><methodResponse><fault><value><struct><member><name>faultString</name><value><string>&lt;&#13;&gt;</string></value></member><member><name>faultCode</name><value><int>-7</int></value></member></struct></value></fault></methodResponse>",
    )
    ∷ (
      response (array (value (date (codes "20000229T23:59:59")) (value (base64 (codes "Hello")) (value (struct none) (value (array end) end))))),
      "<?xml version=\"1.0\"?><methodResponse><params><param><value><array><data><value><dateTime.iso8601>20000229T23:59:59</dateTime.iso8601></value><value><base64>SGVsbG8=</base64></value><value><struct></struct></value><value><array><data></data></array></value></data></array></value></param></params></methodResponse>",
    )
    ∷ []

abbrev pub KnownForms : Type 0
KnownForms = AllByRecursion (λ known. canonical known.0 ≡ codes known.1) known_forms
