-- The canonical form of a value that was read is that value by the grammar, at the same depth.
use Rattle.std.proofs.Common.{◌≡◌, ℕ, suc, Bool, List, ◌++◌, ℤ, Some, subst}
use Rattle.wire.specs.Trees.{Value, Members, Values, int, boolean, string, double, date, base64, struct, array, none, member, end, value}
use Rattle.texts.specs.Booleans.{boolean_spelling}
use Rattle.numbers.specs.Ints.{int_of, int_spelling}
use Rattle.numbers.specs.Doubles.{double_of, double_spelling}
use Rattle.dates.specs.Moments.{Moment, date_of, date_spelling}
use Rattle.base64_texts.specs.Base64.{decoded, base64_spelling}
use Rattle.characters.specs.Rule.{CharacterData}
use Rattle.characters.specs.Spelling.{characters_spelling}
use Rattle.parts.specs.declared.name.Name.TheVariants as name
use Rattle.parts.specs.Cutting.{Parts}
use Rattle.reader.specs.Grammar.{AValue, run_alone, typed, ATyped, an_int, an_i4, a_boolean, a_string, a_double, a_date, a_base64, a_struct, an_array, AreMembers, no_member, a_member, AreValues, no_value, a_value}
use Rattle.canonical.specs.Forms.{element, typed_form, members_form, values_form, value_form}
use Rattle.canonical.proofs.Pieces.{Reads, InTurn, in_turn, HoldsText, text, Holds, inside, nothing, both, so_is, holds_text, holds}
use Rattle.canonical.proofs.Texts.{int_text, boolean_text, double_text, date_text, base64_text, characters_text}

abbrev pub TypedReads : ℕ → Value → Type 0
TypedReads d v = Reads (typed_form v) (λ ps qs. ATyped d ps qs v)

abbrev pub ValueReads : ℕ → Value → Type 0
ValueReads d v = Reads (value_form v) (λ ps qs. AValue d ps qs v)

abbrev pub MembersRead : ℕ → Members → Type 0
MembersRead d ms = Reads (members_form ms) (λ ps qs. AreMembers d ps qs ms)

abbrev pub ValuesRead : ℕ → Values → Type 0
ValuesRead d vs = Reads (values_form vs) (λ ps qs. AreValues d ps qs vs)

-- the plain values
int_reads : {d : ℕ} (t : List ℕ) (z : ℤ) → int_of t ≡ Some z → TypedReads d (int z)
unfolding typed_form
int_reads {d} t z e = so_is (holds_text name.Int (int_spelling z) (int_text t e).1) is where
  is : (ps qs : Parts) → HoldsText name.Int (int_spelling z) ps qs → ATyped d ps qs (int z)
  is ps qs text = an_int tt (int_text t e).0

boolean_reads : {d : ℕ} (b : Bool) → TypedReads d (boolean b)
unfolding typed_form
boolean_reads {d} b = so_is (holds_text name.Boolean (boolean_spelling b) (boolean_text b).1) is where
  is : (ps qs : Parts) → HoldsText name.Boolean (boolean_spelling b) ps qs → ATyped d ps qs (boolean b)
  is ps qs text = a_boolean tt (boolean_text b).0

string_reads : {d : ℕ} {t cs : List ℕ} → CharacterData t cs → TypedReads d (string cs)
unfolding typed_form
string_reads {d} {cs = cs} data' = so_is (holds_text name.String (characters_spelling cs) (characters_text data').1) is where
  is : (ps qs : Parts) → HoldsText name.String (characters_spelling cs) ps qs → ATyped d ps qs (string cs)
  is ps qs text = a_string tt (characters_text data').0

double_reads : {d : ℕ} (t : List ℕ) (z : ℤ) (scale : ℕ) → double_of t ≡ Some (z, scale) → TypedReads d (double z scale)
unfolding typed_form
double_reads {d} t z scale e = so_is (holds_text name.Double (double_spelling z scale) (double_text t e).1) is where
  is : (ps qs : Parts) → HoldsText name.Double (double_spelling z scale) ps qs → ATyped d ps qs (double z scale)
  is ps qs text = a_double tt (double_text t e).0

date_reads : {d : ℕ} (t : List ℕ) (m : Moment) → date_of t ≡ Some m → TypedReads d (date (date_spelling m))
unfolding typed_form
date_reads {d} t m e = so_is (holds_text name.DateTime (date_spelling m) (date_text t e).1) is where
  is : (ps qs : Parts) → HoldsText name.DateTime (date_spelling m) ps qs → ATyped d ps qs (date (date_spelling m))
  is ps qs text = a_date m tt (date_text t e).0

base64_reads : {d : ℕ} (t : List ℕ) → TypedReads d (base64 (decoded t))
unfolding typed_form
base64_reads {d} t = so_is (holds_text name.Base64 (base64_spelling (decoded t)) (base64_text t).2) is where
  is : (ps qs : Parts) → HoldsText name.Base64 (base64_spelling (decoded t)) ps qs → ATyped d ps qs (base64 (decoded t))
  is ps qs text = subst (λ bytes. ATyped d ps qs (base64 bytes)) (base64_text t).1 (a_base64 (base64_spelling (decoded t)) tt (base64_text t).0)

-- what holds others
struct_reads : {d : ℕ} {ms : Members} → MembersRead d ms → TypedReads (suc d) (struct ms)
unfolding typed_form
struct_reads {d} {ms} r = so_is (holds name.Struct (members_form ms) r) is where
  is : (ps qs : Parts) → Holds name.Struct (λ ps qs. AreMembers d ps qs ms) ps qs → ATyped (suc d) ps qs (struct ms)
  is ps qs (inside x) = a_struct tt x tt

array_reads : {d : ℕ} {vs : Values} → ValuesRead d vs → TypedReads (suc d) (array vs)
unfolding typed_form
array_reads {d} {vs} r = so_is (holds name.Array (element name.Data (values_form vs)) (holds name.Data (values_form vs) r)) is where
  is : (ps qs : Parts) → Holds name.Array (Holds name.Data (λ ps qs. AreValues d ps qs vs)) ps qs → ATyped (suc d) ps qs (array vs)
  is ps qs (inside (inside x)) = an_array tt tt x tt tt

in_value : {d : ℕ} {v : Value} → TypedReads d v → ValueReads d v
unfolding value_form
in_value {d} {v} r = so_is (holds name.Value (typed_form v) r) is where
  is : (ps qs : Parts) → Holds name.Value (λ ps qs. ATyped d ps qs v) ps qs → AValue d ps qs v
  is ps qs (inside x) = typed tt x tt

no_members_read : {d : ℕ} → MembersRead d none
unfolding members_form
no_members_read = nothing (λ ps. no_member)

member_reads : {d : ℕ} {t cs : List ℕ} {v : Value} {ms : Members} → CharacterData t cs → ValueReads d v → MembersRead d ms → MembersRead d (member cs v ms)
unfolding members_form value_form
member_reads {d} {cs = cs} {v} {ms} data' r more =
    let text = characters_spelling cs in
    let held = element name.MemberName text ++ value_form v in
    so_is (both (element name.Member held) (members_form ms) (holds name.Member held (both (element name.MemberName text) (value_form v) (holds_text name.MemberName text (characters_text data').1) r)) more) is where
      is : (ps qs : Parts) → InTurn (Holds name.Member (InTurn (HoldsText name.MemberName (characters_spelling cs)) (λ ps qs. AValue d ps qs v))) (λ ps qs. AreMembers d ps qs ms) ps qs → AreMembers d ps qs (member cs v ms)
      is ps qs (in_turn (inside (in_turn text x)) xs) = a_member tt tt (characters_text data').0 x tt xs

no_values_read : {d : ℕ} → ValuesRead d end
unfolding values_form
no_values_read = nothing (λ ps. no_value)

values_read : {d : ℕ} {v : Value} {vs : Values} → ValueReads d v → ValuesRead d vs → ValuesRead d (value v vs)
unfolding values_form value_form
values_read {d} {v} {vs} r more = so_is (both (value_form v) (values_form vs) r more) is where
  is : (ps qs : Parts) → InTurn (λ ps qs. AValue d ps qs v) (λ ps qs. AreValues d ps qs vs) ps qs → AreValues d ps qs (value v vs)
  is ps qs (in_turn x xs) = a_value x xs

mutual
  typed_back : {d : ℕ} {ps qs : Parts} {v : Value} → ATyped d ps qs v → TypedReads d v
  typed_back (an_int {t = t} {z = z} b e) = int_reads t z e
  typed_back (an_i4 {t = t} {z = z} b e) = int_reads t z e
  typed_back (a_boolean {v = v} b e) = boolean_reads v
  typed_back (a_string b e) = string_reads e
  typed_back (a_double {s = s} {t = t} {z = z} b e) = double_reads t z s e
  typed_back (a_date {t = t} m b e) = date_reads t m e
  typed_back (a_base64 t b e) = base64_reads t
  typed_back (a_struct b ms t) = struct_reads (members_back ms)
  typed_back (an_array b c vs t u) = array_reads (values_back vs)

  pub value_back : {d : ℕ} {ps qs : Parts} {v : Value} → AValue d ps qs v → ValueReads d v
  value_back (run_alone b e) = in_value (string_reads e)
  value_back (typed b v t) = in_value (typed_back v)

  members_back : {d : ℕ} {ps qs : Parts} {ms : Members} → AreMembers d ps qs ms → MembersRead d ms
  members_back no_member = no_members_read
  members_back (a_member b c e v u more) = member_reads e (value_back v) (members_back more)

  values_back : {d : ℕ} {ps qs : Parts} {vs : Values} → AreValues d ps qs vs → ValuesRead d vs
  values_back no_value = no_values_read
  values_back (a_value v more) = values_read (value_back v) (values_back more)
