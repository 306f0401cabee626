-- The rows of the message's parts, by how the grammar derives them.
use Rattle.std.proofs.Common.{ℕ, ◌+◌, cond, List, [], ◌∷◌, ◌++◌, length, pos}
use Rattle.std.specs.List.{prefix_len}
use Rattle.wire.specs.declared.kind.Kind.TheVariants as kind
use Rattle.wire.specs.declared.row.Row.{Row}
use Rattle.wire.specs.Trees as tree
use Rattle.texts.specs.Bytes.{is_blank}
use Rattle.parts.specs.Cutting.{Parts}
use Rattle.reader.specs.Runs.{text_row, number_row, span_at}
use Rattle.reader.specs.Grammar.{AValue, ATyped, AreMembers, AreValues, AreParams, MayBeParams, run_alone, typed, an_int, an_i4, a_boolean, a_string, a_double, a_date, a_base64, a_struct, an_array, no_member, a_member, no_value, a_value, no_param, a_param, without, with_params}

unfoldable mutual
  pub value_of : {d : ℕ} {ps qs : Parts} {v : tree.Value} → AValue d ps qs v → List Row
  value_of (run_alone {e = e} {t = t} h c) = text_row kind.String 0 (span_at e (length t)) ∷ []
  value_of (typed h v k) = typed_of v

  pub typed_of : {d : ℕ} {ps qs : Parts} {v : tree.Value} → ATyped d ps qs v → List Row
  typed_of (an_int {z = z} h i) = number_row kind.Int z 0 ∷ []
  typed_of (an_i4 {z = z} h i) = number_row kind.Int z 0 ∷ []
  typed_of (a_boolean {v = v} h i) = number_row kind.Boolean (pos (cond v 1 0)) 0 ∷ []
  typed_of (a_string {e = e} {t = t} h c) = text_row kind.String 0 (span_at e (length t)) ∷ []
  typed_of (a_double {s = s} {z = z} h i) = number_row kind.Double z s ∷ []
  typed_of (a_date {e = e} {t = t} m h i) = text_row kind.Date 0 (span_at (e + prefix_len is_blank t) 17) ∷ []
  typed_of (a_base64 {e = e} t h i) = text_row kind.Base64 0 (span_at e (length t)) ∷ []
  typed_of (a_struct {ms = ms} h m k) = text_row kind.Struct (tree.member_count ms) (span_at 0 0) ∷ members_of m
  typed_of (an_array {vs = vs} h i v j k) = text_row kind.Array (tree.value_count vs) (span_at 0 0) ∷ values_of v

  pub members_of : {d : ℕ} {ps qs : Parts} {ms : tree.Members} → AreMembers d ps qs ms → List Row
  members_of no_member = []
  members_of (a_member {e = e} {t = t} h i c v j ms) = text_row kind.Member 1 (span_at e (length t)) ∷ (value_of v ++ members_of ms)

  pub values_of : {d : ℕ} {ps qs : Parts} {vs : tree.Values} → AreValues d ps qs vs → List Row
  values_of no_value = []
  values_of (a_value v vs) = value_of v ++ values_of vs

unfoldable pub params_of : {ps qs : Parts} {vs : tree.Values} → AreParams ps qs vs → List Row
params_of no_param = []
params_of (a_param h v k vs) = value_of v ++ params_of vs

unfoldable pub may_be_of : {ps qs : Parts} {vs : tree.Values} → MayBeParams ps qs vs → List Row
may_be_of without = []
may_be_of (with_params h vs k) = params_of vs
