-- The rest of a message from where its reading stands.
use Rattle.std.proofs.Common.{◌≡◌, ℕ, suc, true, List, Ok}
use Rattle.wire.specs.declared.kind.Kind.TheVariants as kind
use Rattle.wire.specs.declared.row.Row.{Row}
use Rattle.wire.specs.Trees as tree
use Rattle.texts.specs.Booleans.{boolean_of}
use Rattle.texts.specs.Methods.{is_method_name}
use Rattle.numbers.specs.Ints.{int_of}
use Rattle.numbers.specs.Doubles.{double_of}
use Rattle.dates.specs.Moments.{date_of}
use Rattle.base64_texts.specs.Base64.{is_base64}
use Rattle.characters.specs.Rule.{CharacterData}
use Rattle.characters.proofs.BodyBytes.{Good}
use Rattle.parts.specs.declared.name.Name.TheVariants as name
use Rattle.parts.specs.declared.tag.Tag.TheVariants.{Open, Close}
use Rattle.parts.specs.Cutting.{Parts, run, tag, ◌then◌, ends, AreBlank}
use Rattle.table.specs.declared.mode.Mode.{Mode}
use Rattle.table.specs.declared.mode.Mode.TheVariants.{Value, Struct, Array}
use Rattle.table.specs.declared.mode.CallMode.{CallMode}
use Rattle.table.specs.declared.mode.CallMode.TheVariants as call
use Rattle.table.specs.declared.mode.ResponseMode.{ResponseMode}
use Rattle.table.specs.declared.mode.ResponseMode.TheVariants as response
use Rattle.table.specs.declared.mode.ValueMode.TheVariants as value
use Rattle.table.specs.declared.mode.Plain.{Plain}
use Rattle.table.specs.declared.mode.Plain.TheVariants as plain
use Rattle.table.specs.declared.mode.StructMode.TheVariants as struct
use Rattle.table.specs.declared.mode.ArrayMode.TheVariants as array
use Rattle.table.specs.Entries.{element_of}
use Rattle.reader.specs.Runs.{plain_run}
use Rattle.reader.specs.Grammar.{AValue, ATyped, AreMembers, AreValues, AreParams, MayBeParams, AMessage, run_alone, typed, an_int, an_i4, a_boolean, a_string, a_double, a_date, a_base64, a_struct, an_array, a_member, a_value, a_param, with_params, a_call, a_response, a_fault}
use Rattle.reader.proofs.PassedRuns.{has_value, test_passed, is_characters}

-- the rest of a value: the first parts end it, and the second follow
pub data Tail : Mode → ℕ → Parts → Parts → Type 0 where
  words : {d e q : ℕ} {t cs : List ℕ} {qs : Parts} → CharacterData t cs → Tail (Value value.Begun) d (run e t then tag q (Close name.Value) then qs) qs
  element : {d e q : ℕ} {t : List ℕ} {ps qs : Parts} {v : tree.Value} → ATyped d ps (run e t then tag q (Close name.Value) then qs) v → AreBlank t → Tail (Value value.Begun) d ps qs
  text : {d e q : ℕ} {t : List ℕ} {ps qs : Parts} {k : Plain} {r : Row} → Good t → plain_run k e t ≡ Ok r → Tail (Value value.Typed) d ps qs →
      Tail (Value (value.Text k)) d (run e t then tag q (Close (element_of k)) then ps) qs
  closed : {d e q : ℕ} {t : List ℕ} {qs : Parts} → AreBlank t → Tail (Value value.Typed) d (run e t then tag q (Close name.Value) then qs) qs
  members : {d e q : ℕ} {t : List ℕ} {ps us qs : Parts} {ms : tree.Members} → AreMembers d ps (run e t then tag q (Close name.Struct) then us) ms → AreBlank t → Tail (Value value.Typed) (suc d) us qs →
      Tail (Struct struct.Members) d ps qs
  in_member : {d a p : ℕ} {b : List ℕ} {ps qs : Parts} → AreBlank b → Tail (Struct struct.Name) d ps qs → Tail (Struct struct.Member) d (run a b then tag p (Open name.MemberName) then ps) qs
  in_name : {d e q : ℕ} {t cs : List ℕ} {ps qs : Parts} → CharacterData t cs → Tail (Struct struct.Named) d ps qs → Tail (Struct struct.Name) d (run e t then tag q (Close name.MemberName) then ps) qs
  named : {d : ℕ} {ps us qs : Parts} {v : tree.Value} → AValue d ps us v → Tail (Struct struct.MemberDone) d us qs → Tail (Struct struct.Named) d ps qs
  member_done : {d e q : ℕ} {t : List ℕ} {ps qs : Parts} → AreBlank t → Tail (Struct struct.Members) d ps qs → Tail (Struct struct.MemberDone) d (run e t then tag q (Close name.Member) then ps) qs
  in_array : {d e q : ℕ} {t : List ℕ} {ps qs : Parts} → AreBlank t → Tail (Array array.Data) d ps qs → Tail (Array array.Begun) d (run e t then tag q (Open name.Data) then ps) qs
  values : {d e q : ℕ} {t : List ℕ} {ps us qs : Parts} {vs : tree.Values} → AreValues d ps (run e t then tag q (Close name.Data) then us) vs → AreBlank t → Tail (Array array.DataDone) d us qs →
      Tail (Array array.Data) d ps qs
  data_done : {d e q : ℕ} {t : List ℕ} {ps qs : Parts} → AreBlank t → Tail (Value value.Typed) (suc d) ps qs → Tail (Array array.DataDone) d (run e t then tag q (Close name.Array) then ps) qs

-- the rest of a message that is a call
pub data CallTail : CallMode → Parts → Type 0 where
  begun : {g s : ℕ} {c : List ℕ} {ps : Parts} → AreBlank c → CallTail call.Name ps → CallTail call.Begun (run g c then tag s (Open name.MethodName) then ps)
  method : {e q : ℕ} {t : List ℕ} {ps : Parts} → is_method_name t ≡ true → CallTail call.Named ps → CallTail call.Name (run e t then tag q (Close name.MethodName) then ps)
  may_be : {f r z : ℕ} {u w : List ℕ} {ps : Parts} {vs : tree.Values} → MayBeParams ps (run f u then tag r (Close name.MethodCall) then run z w then ends) vs → AreBlank u → AreBlank w → CallTail call.Named ps
  params : {e q : ℕ} {t : List ℕ} {ps us : Parts} {vs : tree.Values} → AreParams ps (run e t then tag q (Close name.Params) then us) vs → AreBlank t → CallTail call.Done us → CallTail call.Params ps
  param : {ps us : Parts} {v : tree.Value} → AValue 16 ps us v → CallTail call.ParamDone us → CallTail call.Param ps
  param_done : {e q : ℕ} {t : List ℕ} {ps : Parts} → AreBlank t → CallTail call.Params ps → CallTail call.ParamDone (run e t then tag q (Close name.Param) then ps)
  done : {f r z : ℕ} {u w : List ℕ} → AreBlank u → AreBlank w → CallTail call.Done (run f u then tag r (Close name.MethodCall) then run z w then ends)

-- the rest of a message that is a response
pub data ResponseTail : ResponseMode → Parts → Type 0 where
  response_params : {g s : ℕ} {c : List ℕ} {ps : Parts} → AreBlank c → ResponseTail response.Params ps → ResponseTail response.Begun (run g c then tag s (Open name.Params) then ps)
  response_faulted : {g s : ℕ} {c : List ℕ} {ps : Parts} → AreBlank c → ResponseTail response.Fault ps → ResponseTail response.Begun (run g c then tag s (Open name.Fault) then ps)
  response_param : {g s : ℕ} {c : List ℕ} {ps : Parts} → AreBlank c → ResponseTail response.Param ps → ResponseTail response.Params (run g c then tag s (Open name.Param) then ps)
  response_result : {ps us : Parts} {v : tree.Value} → AValue 16 ps us v → ResponseTail response.ParamDone us → ResponseTail response.Param ps
  response_param_done : {e q : ℕ} {t : List ℕ} {ps : Parts} → AreBlank t → ResponseTail response.ParamsDone ps → ResponseTail response.ParamDone (run e t then tag q (Close name.Param) then ps)
  response_params_done : {e q : ℕ} {t : List ℕ} {ps : Parts} → AreBlank t → ResponseTail response.Done ps → ResponseTail response.ParamsDone (run e t then tag q (Close name.Params) then ps)
  response_fault : {ps us : Parts} {v : tree.Value} → AValue 16 ps us v → ResponseTail response.FaultDone us → ResponseTail response.Fault ps
  response_fault_done : {e q : ℕ} {t : List ℕ} {ps : Parts} → AreBlank t → ResponseTail response.Done ps → ResponseTail response.FaultDone (run e t then tag q (Close name.Fault) then ps)
  response_done : {f r z : ℕ} {u w : List ℕ} → AreBlank u → AreBlank w → ResponseTail response.Done (run f u then tag r (Close name.MethodResponse) then run z w then ends)

module _ {a p : ℕ} {b : List ℕ} where
  pub value_opens : {d : ℕ} {ps qs : Parts} → AreBlank b → Tail (Value value.Begun) d ps qs → (v : tree.Value) × AValue d (run a b then tag p (Open name.Value) then ps) qs v
  value_opens h (words c) = (_, run_alone h c)
  value_opens h (element x k) = (_, typed h x k)

  pub plain_opens : {d : ℕ} {ps qs : Parts} (k : Plain) → AreBlank b → Tail (Value (value.Text k)) d ps qs → Tail (Value value.Begun) d (run a b then tag p (Open (element_of k)) then ps) qs
  plain_opens plain.Int h (text {e = e} {t = t} good r (closed c)) = element (an_int h (has_value e (int_of t) _ r).1) c
  plain_opens plain.I4 h (text {e = e} {t = t} good r (closed c)) = element (an_i4 h (has_value e (int_of t) _ r).1) c
  plain_opens plain.Boolean h (text {e = e} {t = t} good r (closed c)) = element (a_boolean h (has_value e (boolean_of t) _ r).1) c
  plain_opens plain.String h (text {e = e} {t = t} good r (closed c)) = element (a_string h (is_characters kind.String 0 e t good r)) c
  plain_opens plain.Double h (text {e = e} {t = t} good r (closed c)) = element (a_double h (has_value e (double_of t) _ r).1) c
  plain_opens plain.Date h (text {e = e} {t = t} good r (closed c)) = let x = has_value e (date_of t) _ r in element (a_date x.0 h x.1) c
  plain_opens plain.Base64 h (text {e = e} {t = t} good r (closed c)) = element (a_base64 t h (test_passed e (is_base64 t) _ r)) c

  pub struct_opens : {d : ℕ} {ps qs : Parts} → AreBlank b → Tail (Struct struct.Members) d ps qs → Tail (Value value.Begun) (suc d) (run a b then tag p (Open name.Struct) then ps) qs
  struct_opens h (members ms t (closed k)) = element (a_struct h ms t) k

  pub array_opens : {d : ℕ} {ps qs : Parts} → AreBlank b → Tail (Array array.Begun) d ps qs → Tail (Value value.Begun) (suc d) (run a b then tag p (Open name.Array) then ps) qs
  array_opens h (in_array c (values vs t (data_done u (closed k)))) = element (an_array h c vs t u) k

  pub member_opens : {d : ℕ} {ps qs : Parts} → AreBlank b → Tail (Struct struct.Member) d ps qs → Tail (Struct struct.Members) d (run a b then tag p (Open name.Member) then ps) qs
  member_opens h (in_member c (in_name t (named v (member_done u (members ms k x))))) = members (a_member h c t v u ms) k x

  pub call_opens : {ps : Parts} → AreBlank b → CallTail call.Begun ps → (m : tree.Message) × AMessage (run a b then tag p (Open name.MethodCall) then ps) m
  call_opens h (begun c (method t (may_be x u w))) = (_, a_call h c t x u w)

  pub params_open_lem : {ps : Parts} → AreBlank b → CallTail call.Params ps → CallTail call.Named (run a b then tag p (Open name.Params) then ps)
  params_open_lem h (params x t (done u w)) = may_be (with_params h x t) u w

  pub param_opens : {ps : Parts} → AreBlank b → CallTail call.Param ps → CallTail call.Params (run a b then tag p (Open name.Param) then ps)
  param_opens h (param v (param_done t (params x u y))) = params (a_param h v t x) u y

  pub response_opens : {ps : Parts} → AreBlank b → ResponseTail response.Begun ps → (m : tree.Message) × AMessage (run a b then tag p (Open name.MethodResponse) then ps) m
  response_opens h (response_params c (response_param k (response_result v (response_param_done t (response_params_done u (response_done x w)))))) = (_, a_response h c k v t u x w)
  response_opens h (response_faulted c (response_fault v (response_fault_done t (response_done u w)))) = (_, a_fault h c v t u w)

pub one_more : {d : ℕ} {ps qs us : Parts} {v : tree.Value} → AValue d ps qs v → Tail (Array array.Data) d qs us → Tail (Array array.Data) d ps us
one_more v (values vs t x) = values (a_value v vs) t x
