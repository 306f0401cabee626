-- What the reading accepts, the grammar derives.
use Rattle.std.proofs.Common.{◌≡◌, ℕ, zero, suc, ◌+◌, Bool, true, false, List, [], ◌∷◌, length, drop, Some, None, Ok, Err, Option, Result, sym, refl, ap, ◌∙◌, subst, ⊎_elim, arith}
use Rattle.std.proofs.ByRecursion.{All-take, All-drop}
use Rattle.std.proofs.lemmas.Bool.{ltb-true}
use Rattle.wire.specs.declared.kind.Kind.TheVariants as kind
use Rattle.wire.specs.declared.row.Row.{Row}
use Rattle.wire.specs.declared.row.Span.{Span}
use Rattle.wire.specs.declared.refusal.Refusal.{Refusal}
use Rattle.wire.specs.Trees as tree
use Rattle.texts.specs.Methods.{is_method_name}
use Rattle.characters.specs.References.{is_character, all_characters}
use Rattle.characters.proofs.BodyBytes.{Good}
use Rattle.characters.proofs.Leading.{all_from_test}
use Rattle.parts.specs.declared.name.Name.TheVariants as name
use Rattle.parts.specs.declared.tag.Tag.{Tag}
use Rattle.parts.specs.declared.tag.Tag.TheVariants.{Open, Close}
use Rattle.parts.specs.Cutting.{Parts, run, tag, ◌then◌, ends, broken, AreBlank}
use Rattle.table.specs.declared.mode.Mode.{Mode}
use Rattle.table.specs.declared.mode.Mode.TheVariants.{Start, Call, Response, Value, Struct, Array, Finished}
use Rattle.table.specs.declared.mode.CallMode.{CallMode}
use Rattle.table.specs.declared.mode.CallMode.TheVariants as call
use Rattle.table.specs.declared.mode.ResponseMode.TheVariants as response
use Rattle.table.specs.declared.mode.ValueMode.{ValueMode}
use Rattle.table.specs.declared.mode.ValueMode.TheVariants as value
use Rattle.table.specs.declared.mode.Plain.{Plain}
use Rattle.table.specs.declared.mode.Plain.TheVariants as plain
use Rattle.table.specs.declared.mode.StructMode.{StructMode}
use Rattle.table.specs.declared.mode.StructMode.TheVariants as struct
use Rattle.table.specs.declared.mode.ArrayMode.{ArrayMode}
use Rattle.table.specs.declared.mode.ArrayMode.TheVariants as array
use Rattle.table.specs.declared.mode.Shape.TheVariants as shape
use Rattle.table.specs.declared.mode.Move.{Move}
use Rattle.table.specs.Entries.{lookup, entries, element_of}
use Rattle.reader.specs.declared.frame.Frame.{Frame}
use Rattle.reader.specs.Runs.{run_row, blank_run}
use Rattle.reader.specs.Steps.{St, st, and_then, frame, leave, nest, act, finish, room_for, judge, put_at}
use Rattle.reader.specs.Contents.{InPlace, FromTag}
use Rattle.reader.specs.Grammar.{AMessage, AValue, no_member, no_value, no_param, without}
use Rattle.reader.proofs.PassedRuns.{never, is_blank_lem, test_passed, is_characters}
use Rattle.reader.proofs.Lines.{Among, among}
use Rattle.reader.proofs.Rest as rest
use Rattle.reader.proofs.Rest.{Tail, CallTail, ResponseTail, value_opens, plain_opens, struct_opens, array_opens, member_opens, call_opens, params_open_lem, param_opens, response_opens, one_more}

both_ok : {A B : Type 0} (o : Result A Refusal) (f : A → Result B Refusal) (y : B) → and_then o f ≡ Ok y → (x : A) × (o ≡ Ok x) × (f x ≡ Ok y)
both_ok (Ok x) f y h = (x, refl, h)
both_ok (Err e) f y h = never e y h

-- what is open round a value: the message, and structs and arrays; so many more may open
pub data Stack : ℕ → List Frame → Type 0 where
  in_call : {w n : ℕ} {s : Span} → Stack 16 (frame shape.Call w n s ∷ [])
  in_response : {w n : ℕ} {s : Span} → Stack 16 (frame shape.Response w n s ∷ [])
  in_fault : {w n : ℕ} {s : Span} → Stack 16 (frame shape.Fault w n s ∷ [])
  in_struct : {d w n : ℕ} {s : Span} {fs : List Frame} → Stack (suc d) fs → Stack d (frame shape.Struct w n s ∷ fs)
  in_array : {d w n : ℕ} {s : Span} {fs : List Frame} → Stack (suc d) fs → Stack d (frame shape.Array w n s ∷ fs)

depth : {d : ℕ} {fs : List Frame} → Stack d fs → length fs + d ≡ 17
depth in_call = refl
depth in_response = refl
depth in_fault = refl
depth (in_struct x) = omega (arith, depth x)
depth (in_array x) = omega (arith, depth x)

-- where a reading can stand, and with what open
pub data At : Mode → List Frame → Type 0 where
  at_start : At Start []
  at_call : (m : CallMode) {w n : ℕ} {s : Span} → At (Call m) (frame shape.Call w n s ∷ [])
  at_begun : {w n : ℕ} {s : Span} → At (Response response.Begun) (frame shape.Response w n s ∷ [])
  at_params : {w n : ℕ} {s : Span} → At (Response response.Params) (frame shape.Response w n s ∷ [])
  at_param : {w n : ℕ} {s : Span} → At (Response response.Param) (frame shape.Response w n s ∷ [])
  at_param_done : {w n : ℕ} {s : Span} → At (Response response.ParamDone) (frame shape.Response w n s ∷ [])
  at_params_done : {w n : ℕ} {s : Span} → At (Response response.ParamsDone) (frame shape.Response w n s ∷ [])
  at_response_done : {w n : ℕ} {s : Span} → At (Response response.Done) (frame shape.Response w n s ∷ [])
  at_fault : {w n : ℕ} {s : Span} → At (Response response.Fault) (frame shape.Fault w n s ∷ [])
  at_fault_done : {w n : ℕ} {s : Span} → At (Response response.FaultDone) (frame shape.Fault w n s ∷ [])
  at_faulted : {w n : ℕ} {s : Span} → At (Response response.Done) (frame shape.Fault w n s ∷ [])
  at_value : (m : ValueMode) {d : ℕ} {fs : List Frame} → Stack d fs → At (Value m) fs
  at_struct : (m : StructMode) {d w n : ℕ} {s : Span} {fs : List Frame} → Stack (suc d) fs → At (Struct m) (frame shape.Struct w n s ∷ fs)
  at_array : (m : ArrayMode) {d w n : ℕ} {s : Span} {fs : List Frame} → Stack (suc d) fs → At (Array m) (frame shape.Array w n s ∷ fs)
  at_end : At Finished []

-- what follows a value: the rest of all that is open round it
abbrev Outer : {d : ℕ} {fs : List Frame} → Stack d fs → Parts → Type 0
Outer in_call qs = CallTail call.ParamDone qs
Outer in_response qs = ResponseTail response.ParamDone qs
Outer in_fault qs = ResponseTail response.FaultDone qs
Outer (in_struct {d = d} x) qs = (us : Parts) × Tail (Struct struct.MemberDone) d qs us × Outer x us
Outer (in_array {d = d} x) qs = (us : Parts) × Tail (Array array.Data) d qs us × Outer x us

abbrev Over : Parts → Type 0
Over ps = (z : ℕ) × (w : List ℕ) × (ps ≡ run z w then ends) × AreBlank w

-- what is left to read
abbrev Left : {m : Mode} {fs : List Frame} → At m fs → Parts → Type 0
Left at_start ps = (m : tree.Message) × AMessage ps m
Left (at_call m) ps = CallTail m ps
Left at_begun ps = ResponseTail response.Begun ps
Left at_params ps = ResponseTail response.Params ps
Left at_param ps = ResponseTail response.Param ps
Left at_param_done ps = ResponseTail response.ParamDone ps
Left at_params_done ps = ResponseTail response.ParamsDone ps
Left at_response_done ps = ResponseTail response.Done ps
Left at_fault ps = ResponseTail response.Fault ps
Left at_fault_done ps = ResponseTail response.FaultDone ps
Left at_faulted ps = ResponseTail response.Done ps
Left (at_value m {d = d} x) ps = (qs : Parts) × Tail (Value m) d ps qs × Outer x qs
Left (at_struct m {d = d} x) ps = (qs : Parts) × Tail (Struct m) d ps qs × Outer x qs
Left (at_array m {d = d} x) ps = (qs : Parts) × Tail (Array m) d ps qs × Outer x qs
Left at_end ps = Over ps

module _ (len : ℕ) (end : St) where
  abbrev go : St → Parts → Result St Refusal
  go s ps = judge put_at s 0 [] ps len

  abbrev Accepts : Parts → Type 0
  Accepts ps = (m : Mode) (fs : List Frame) (at : At m fs) (u : ℕ) (R : List Row) → go (st m fs u R) ps ≡ Ok end → Left at ps

  -- a run and a tag that were passed
  pub record Took (m : Mode) (fs : List Frame) (u : ℕ) (R : List Row) (a : ℕ) (b : List ℕ) (q : ℕ) (t : Tag) (ps : Parts) : Type 0 where
    pub row : Row
    pub mv : Move
    pub passed : run_row m t a b ≡ Ok row
    pub line : Among t mv (entries m)
    pub goes : and_then (act put_at (Some mv) q row fs u R) (λ s. go s ps) ≡ Ok end

  took : (m : Mode) (fs : List Frame) (u : ℕ) (R : List Row) (a : ℕ) (b : List ℕ) (q : ℕ) (t : Tag) (ps : Parts) → go (st m fs u R) (run a b then tag q t then ps) ≡ Ok end → Took m fs u R a b q t ps
  took m fs u R a b q t ps h =
      let x = both_ok _ _ _ h in
      let y = both_ok _ _ _ x.1 in
      acts (lookup t (entries m)) refl y.0 y.1 x.0 y.2 x.2
    where
      acts : (o : Option Move) → lookup t (entries m) ≡ o → (r : Row) → run_row m t a b ≡ Ok r → (s : St) → act put_at o q r fs u R ≡ Ok s → go s ps ≡ Ok end → Took m fs u R a b q t ps
      acts None e r k s f g = never _ _ f
      acts (Some v) e r k s f g = record { row = r; mv = v; passed = k; line = among t v (entries m) e; goes = ap (λ o. and_then o (λ s. go s ps)) f ∙ g }

  module _ (a : ℕ) (b : List ℕ) (q : ℕ) (ps : Parts) (good : Good b) (ih : Accepts ps) where
    abbrev here : Tag → Parts
    here t = run a b then tag q t then ps

    next : {m : Mode} {fs : List Frame} (at : At m fs) (u : ℕ) (R : List Row) → go (st m fs u R) ps ≡ Ok end → Left at ps
    next at u R h = ih _ _ at u R h

    -- one line of the table
    by_line : {m : Mode} {fs : List Frame} (at : At m fs) (u : ℕ) (R : List Row) (t x : Tag) (w : Move) (k : Took m fs u R a b q t ps) → (t ≡ x) × (w ≡ k.mv) →
        (run_row m x a b ≡ Ok k.row → and_then (act put_at (Some w) q k.row fs u R) (λ s. go s ps) ≡ Ok end → Left at (here x)) → Left at (here t)
    by_line {m} {fs} at u R t x w k e f =
        subst (λ t. Left at (here t)) (sym e.0)
        (f (subst (λ t. run_row m t a b ≡ Ok k.row) e.0 k.passed) (subst (λ v. and_then (act put_at (Some v) q k.row fs u R) (λ s. go s ps) ≡ Ok end) (sym e.1) k.goes))

    -- a value is closed
    after : {d : ℕ} {fs : List Frame} (x : Stack d fs) (u : ℕ) (R : List Row) → go (leave fs u R) ps ≡ Ok end → Outer x ps
    after in_call u R h = next (at_call call.ParamDone) u R h
    after in_response u R h = next at_param_done u R h
    after in_fault u R h = next at_fault_done u R h
    after (in_struct x) u R h = next (at_struct struct.MemberDone x) u R h
    after (in_array x) u R h = next (at_array array.Data x) u R h

    from_call : (m : CallMode) {w n : ℕ} {s : Span} (u : ℕ) (R : List Row) (t : Tag) → Took (Call m) (frame shape.Call w n s ∷ []) u R a b q t ps → CallTail m (here t)
    from_call call.Begun u R t k = ⊎_elim
        (λ e. by_line (at_call call.Begun) u R t _ _ k e (λ r h. rest.begun (is_blank_lem a b r) (next (at_call call.Name) u R h)))
        (λ x. absurd x) k.line
    from_call call.Name u R t k = ⊎_elim
        (λ e. by_line (at_call call.Name) u R t _ _ k e (λ r h. rest.method (test_passed a (is_method_name b) _ r) (next (at_call call.Named) u R h)))
        (λ x. absurd x) k.line
    from_call call.Named u R t k = ⊎_elim
        (λ e. by_line (at_call call.Named) u R t _ _ k e (λ r h. params_open_lem (is_blank_lem a b r) (next (at_call call.Params) u R h)))
        (⊎_elim
        (λ e. by_line (at_call call.Named) u R t _ _ k e (λ r h.
        let x = next at_end u _ h in
        subst (λ l. CallTail call.Named (run a b then tag q (Close name.MethodCall) then l)) (sym x.2) (rest.may_be without (is_blank_lem a b r) x.3)))
        (λ x. absurd x)) k.line
    from_call call.Params u R t k = ⊎_elim
        (λ e. by_line (at_call call.Params) u R t _ _ k e (λ r h. param_opens (is_blank_lem a b r) (next (at_call call.Param) u R h)))
        (⊎_elim
        (λ e. by_line (at_call call.Params) u R t _ _ k e (λ r h. rest.params no_param (is_blank_lem a b r) (next (at_call call.Done) u R h)))
        (λ x. absurd x)) k.line
    from_call call.Param u R t k = ⊎_elim
        (λ e. by_line (at_call call.Param) u R t _ _ k e (λ r h. let x = next (at_value value.Begun in_call) u R h in rest.param (value_opens (is_blank_lem a b r) x.1).1 x.2))
        (λ x. absurd x) k.line
    from_call call.ParamDone u R t k = ⊎_elim
        (λ e. by_line (at_call call.ParamDone) u R t _ _ k e (λ r h. rest.param_done (is_blank_lem a b r) (next (at_call call.Params) u R h)))
        (λ x. absurd x) k.line
    from_call call.Done u R t k = ⊎_elim
        (λ e. by_line (at_call call.Done) u R t _ _ k e (λ r h.
        let x = next at_end u _ h in
        subst (λ l. CallTail call.Done (run a b then tag q (Close name.MethodCall) then l)) (sym x.2) (rest.done (is_blank_lem a b r) x.3)))
        (λ x. absurd x) k.line

    closes_response : {r : Row} → blank_run a b ≡ Ok r → Over ps → ResponseTail response.Done (here (Close name.MethodResponse))
    closes_response r x = subst (λ l. ResponseTail response.Done (run a b then tag q (Close name.MethodResponse) then l)) (sym x.2) (rest.response_done (is_blank_lem a b r) x.3)

    value_here : {d : ℕ} {fs : List Frame} (x : Stack d fs) (u : ℕ) (R : List Row) {r : Row} → blank_run a b ≡ Ok r → go (st (Value value.Begun) fs u R) ps ≡ Ok end →
        (qs : Parts) × (v : tree.Value) × AValue d (here (Open name.Value)) qs v × Outer x qs
    value_here x u R r h = let y = next (at_value value.Begun x) u R h in let v = value_opens {a = a} {p = q} (is_blank_lem a b r) y.1 in (y.0, v.0, v.1, y.2)

    plain_here : (k : Plain) {d : ℕ} {fs : List Frame} (x : Stack d fs) (u : ℕ) (R : List Row) {r : Row} → blank_run a b ≡ Ok r → go (st (Value (value.Text k)) fs u R) ps ≡ Ok end →
        Left (at_value value.Begun x) (here (Open (element_of k)))
    plain_here k x u R r h = let y = next (at_value (value.Text k) x) u R h in (y.0, plain_opens k (is_blank_lem a b r) y.1, y.2)

    struct_here : (d : ℕ) {fs : List Frame} (x : Stack d fs) (u : ℕ) (R : List Row) (room : Bool) {r : Row} → room_for fs ≡ room → blank_run a b ≡ Ok r →
        and_then (nest put_at room shape.Struct fs q u R) (λ s. go s ps) ≡ Ok end → Left (at_value value.Begun x) (here (Open name.Struct))
    struct_here d x u R false e r h = never _ _ h
    struct_here zero x u R true e r h = absurd (omega (arith, depth x, ltb-true _ _ e))
    struct_here (suc d) x u R true e r h = let y = next (at_struct struct.Members x) (u + 1) _ h in (y.0, struct_opens (is_blank_lem a b r) y.1, y.2)

    array_here : (d : ℕ) {fs : List Frame} (x : Stack d fs) (u : ℕ) (R : List Row) (room : Bool) {r : Row} → room_for fs ≡ room → blank_run a b ≡ Ok r →
        and_then (nest put_at room shape.Array fs q u R) (λ s. go s ps) ≡ Ok end → Left (at_value value.Begun x) (here (Open name.Array))
    array_here d x u R false e r h = never _ _ h
    array_here zero x u R true e r h = absurd (omega (arith, depth x, ltb-true _ _ e))
    array_here (suc d) x u R true e r h = let y = next (at_array array.Begun x) (u + 1) _ h in (y.0, array_opens (is_blank_lem a b r) y.1, y.2)

    from_value : (m : ValueMode) {d : ℕ} {fs : List Frame} (x : Stack d fs) (u : ℕ) (R : List Row) (t : Tag) → Took (Value m) fs u R a b q t ps → Left (at_value m x) (here t)
    from_value value.Begun {d} {fs} x u R t k = ⊎_elim
        (λ e. by_line (at_value value.Begun x) u R t _ _ k e (λ r h. plain_here plain.Int x u R r h))
        (⊎_elim
        (λ e. by_line (at_value value.Begun x) u R t _ _ k e (λ r h. plain_here plain.I4 x u R r h))
        (⊎_elim
        (λ e. by_line (at_value value.Begun x) u R t _ _ k e (λ r h. plain_here plain.Boolean x u R r h))
        (⊎_elim
        (λ e. by_line (at_value value.Begun x) u R t _ _ k e (λ r h. plain_here plain.String x u R r h))
        (⊎_elim
        (λ e. by_line (at_value value.Begun x) u R t _ _ k e (λ r h. plain_here plain.Double x u R r h))
        (⊎_elim
        (λ e. by_line (at_value value.Begun x) u R t _ _ k e (λ r h. plain_here plain.Date x u R r h))
        (⊎_elim
        (λ e. by_line (at_value value.Begun x) u R t _ _ k e (λ r h. plain_here plain.Base64 x u R r h))
        (⊎_elim
        (λ e. by_line (at_value value.Begun x) u R t _ _ k e (λ r h. struct_here d x u R (room_for fs) refl r h))
        (⊎_elim
        (λ e. by_line (at_value value.Begun x) u R t _ _ k e (λ r h. array_here d x u R (room_for fs) refl r h))
        (⊎_elim
        (λ e. by_line (at_value value.Begun x) u R t _ _ k e (λ r h. (ps, rest.words (is_characters kind.String 0 a b good r), after x (u + 1) _ h)))
        (λ x. absurd x)))))))))) k.line
    from_value (value.Text p) x u R t k = ⊎_elim
        (λ e. by_line (at_value (value.Text p) x) u R t _ _ k e (λ r h. let y = next (at_value value.Typed x) (u + 1) _ h in (y.0, rest.text good r y.1, y.2)))
        (λ x. absurd x) k.line
    from_value value.Typed x u R t k = ⊎_elim
        (λ e. by_line (at_value value.Typed x) u R t _ _ k e (λ r h. (ps, rest.closed (is_blank_lem a b r), after x u R h)))
        (λ x. absurd x) k.line

    from_struct : (m : StructMode) {d w n : ℕ} {s : Span} {fs : List Frame} (x : Stack (suc d) fs) (u : ℕ) (R : List Row) (t : Tag) →
        Took (Struct m) (frame shape.Struct w n s ∷ fs) u R a b q t ps → Left (at_struct m {d = d} {w = w} {n = n} {s = s} x) (here t)
    from_struct struct.Members x u R t k = ⊎_elim
        (λ e. by_line (at_struct struct.Members x) u R t _ _ k e (λ r h. let y = next (at_struct struct.Member x) u R h in (y.0, member_opens (is_blank_lem a b r) y.1, y.2)))
        (⊎_elim
        (λ e. by_line (at_struct struct.Members x) u R t _ _ k e (λ r h. let y = next (at_value value.Typed x) u _ h in (y.0, rest.members no_member (is_blank_lem a b r) y.1, y.2)))
        (λ x. absurd x)) k.line
    from_struct struct.Member x u R t k = ⊎_elim
        (λ e. by_line (at_struct struct.Member x) u R t _ _ k e (λ r h. let y = next (at_struct struct.Name x) u R h in (y.0, rest.in_member (is_blank_lem a b r) y.1, y.2)))
        (λ x. absurd x) k.line
    from_struct struct.Name x u R t k = ⊎_elim
        (λ e. by_line (at_struct struct.Name x) u R t _ _ k e (λ r h. let y = next (at_struct struct.Named x) (u + 1) _ h in (y.0, rest.in_name (is_characters kind.Member 1 a b good r) y.1, y.2)))
        (λ x. absurd x) k.line
    from_struct struct.Named {w = w} {n = n} {s = s} x u R t k = ⊎_elim
        (λ e. by_line (at_struct struct.Named x) u R t _ _ k e (λ r h. let y = value_here (in_struct {w = w} {n = n} {s = s} x) u R r h in (y.3.0, rest.named y.2 y.3.1, y.3.2)))
        (λ x. absurd x) k.line
    from_struct struct.MemberDone x u R t k = ⊎_elim
        (λ e. by_line (at_struct struct.MemberDone x) u R t _ _ k e (λ r h. let y = next (at_struct struct.Members x) u R h in (y.0, rest.member_done (is_blank_lem a b r) y.1, y.2)))
        (λ x. absurd x) k.line

    from_array : (m : ArrayMode) {d w n : ℕ} {s : Span} {fs : List Frame} (x : Stack (suc d) fs) (u : ℕ) (R : List Row) (t : Tag) →
        Took (Array m) (frame shape.Array w n s ∷ fs) u R a b q t ps → Left (at_array m {d = d} {w = w} {n = n} {s = s} x) (here t)
    from_array array.Begun x u R t k = ⊎_elim
        (λ e. by_line (at_array array.Begun x) u R t _ _ k e (λ r h. let y = next (at_array array.Data x) u R h in (y.0, rest.in_array (is_blank_lem a b r) y.1, y.2)))
        (λ x. absurd x) k.line
    from_array array.Data {w = w} {n = n} {s = s} x u R t k = ⊎_elim
        (λ e. by_line (at_array array.Data x) u R t _ _ k e (λ r h. let y = value_here (in_array {w = w} {n = n} {s = s} x) u R r h in (y.3.0, one_more y.2 y.3.1, y.3.2)))
        (⊎_elim
        (λ e. by_line (at_array array.Data x) u R t _ _ k e (λ r h. let y = next (at_array array.DataDone x) u R h in (y.0, rest.values no_value (is_blank_lem a b r) y.1, y.2)))
        (λ x. absurd x)) k.line
    from_array array.DataDone x u R t k = ⊎_elim
        (λ e. by_line (at_array array.DataDone x) u R t _ _ k e (λ r h. let y = next (at_value value.Typed x) u _ h in (y.0, rest.data_done (is_blank_lem a b r) y.1, y.2)))
        (λ x. absurd x) k.line

    from : {m : Mode} {fs : List Frame} (at : At m fs) (u : ℕ) (R : List Row) (t : Tag) → Took m fs u R a b q t ps → Left at (here t)
    from at_start u R t k = ⊎_elim
        (λ e. by_line at_start u R t _ _ k e (λ r h. call_opens (is_blank_lem a b r) (next (at_call call.Begun) (u + 1) _ h)))
        (⊎_elim
        (λ e. by_line at_start u R t _ _ k e (λ r h. response_opens (is_blank_lem a b r) (next at_begun (u + 1) _ h)))
        (λ x. absurd x)) k.line
    from (at_call m) u R t k = from_call m u R t k
    from at_begun u R t k = ⊎_elim
        (λ e. by_line at_begun u R t _ _ k e (λ r h. rest.response_params (is_blank_lem a b r) (next at_params u R h)))
        (⊎_elim
        (λ e. by_line at_begun u R t _ _ k e (λ r h. rest.response_faulted (is_blank_lem a b r) (next at_fault u R h)))
        (λ x. absurd x)) k.line
    from at_params u R t k = ⊎_elim
        (λ e. by_line at_params u R t _ _ k e (λ r h. rest.response_param (is_blank_lem a b r) (next at_param u R h)))
        (λ x. absurd x) k.line
    from (at_param {w} {n} {s}) u R t k = ⊎_elim
        (λ e. by_line at_param u R t _ _ k e (λ r h. let y = value_here (in_response {w = w} {n = n} {s = s}) u R r h in rest.response_result y.2 y.3))
        (λ x. absurd x) k.line
    from at_param_done u R t k = ⊎_elim
        (λ e. by_line at_param_done u R t _ _ k e (λ r h. rest.response_param_done (is_blank_lem a b r) (next at_params_done u R h)))
        (λ x. absurd x) k.line
    from at_params_done u R t k = ⊎_elim
        (λ e. by_line at_params_done u R t _ _ k e (λ r h. rest.response_params_done (is_blank_lem a b r) (next at_response_done u R h)))
        (λ x. absurd x) k.line
    from at_response_done u R t k = ⊎_elim
        (λ e. by_line at_response_done u R t _ _ k e (λ r h. closes_response r (next at_end u _ h)))
        (λ x. absurd x) k.line
    from (at_fault {w} {n} {s}) u R t k = ⊎_elim
        (λ e. by_line at_fault u R t _ _ k e (λ r h. let y = value_here (in_fault {w = w} {n = n} {s = s}) u R r h in rest.response_fault y.2 y.3))
        (λ x. absurd x) k.line
    from at_fault_done u R t k = ⊎_elim
        (λ e. by_line at_fault_done u R t _ _ k e (λ r h. rest.response_fault_done (is_blank_lem a b r) (next at_faulted u R h)))
        (λ x. absurd x) k.line
    from at_faulted u R t k = ⊎_elim
        (λ e. by_line at_faulted u R t _ _ k e (λ r h. closes_response r (next at_end u _ h)))
        (λ x. absurd x) k.line
    from (at_value m x) u R t k = from_value m x u R t k
    from (at_struct m x) u R t k = from_struct m x u R t k
    from (at_array m x) u R t k = from_array m x u R t k
    from at_end u R t k = absurd k.line

  ended : (p : ℕ) (r : List ℕ) {m : Mode} {fs : List Frame} (at : At m fs) (u : ℕ) (R : List Row) → finish put_at (st m fs u R) p r len ≡ Ok end → Left at (run p r then ends)
  ended p r at_start u R h = never _ _ h
  ended p r (at_call m) u R h = never _ _ h
  ended p r at_begun u R h = never _ _ h
  ended p r at_params u R h = never _ _ h
  ended p r at_param u R h = never _ _ h
  ended p r at_param_done u R h = never _ _ h
  ended p r at_params_done u R h = never _ _ h
  ended p r at_response_done u R h = never _ _ h
  ended p r at_fault u R h = never _ _ h
  ended p r at_fault_done u R h = never _ _ h
  ended p r at_faulted u R h = never _ _ h
  ended p r (at_value m x) u R h = never _ _ h
  ended p r (at_struct m x) u R h = never _ _ h
  ended p r (at_array m x) u R h = never _ _ h
  ended p r at_end u R h = (p, r, refl, is_blank_lem p r (both_ok (blank_run p r) _ _ h).1)

-- each run is of characters
abbrev pub OfCharacters : Parts → Type 0
OfCharacters ends = Unit {0}
OfCharacters (broken q) = Unit {0}
OfCharacters (run p r then ps) = Good r × OfCharacters ps
OfCharacters (tag q t then ps) = OfCharacters ps

left : (len : ℕ) (end : St) (p : ℕ) (r : List ℕ) (ps : Parts) → FromTag ps → OfCharacters (run p r then ps) → Accepts len end (run p r then ps)
left len end p r ends f good m fs at u R h = ended len end p r at u R h
left len end p r (broken q) f good m fs at u R h = never _ _ h
left len end p r (run p' r' then ps) f good m fs at u R h = absurd f
left len end p r (tag q t then ends) f good m fs at u R h = absurd f
left len end p r (tag q t then broken q') f good m fs at u R h = absurd f
left len end p r (tag q t then (tag q' t' then ps)) f good m fs at u R h = absurd f
left len end p r (tag q t then (run p' r' then ps)) f good m fs at u R h =
    let qs = run p' r' then ps in
    from len end p r q qs good.0 (left len end p' r' ps f good.1) at u R t (took len end m fs u R p r q t qs h)

-- where every byte of the runs is a character
pub sound : (len p : ℕ) (r : List ℕ) (ps : Parts) (s : St) → FromTag ps → OfCharacters (run p r then ps) → judge put_at (st Start [] 0 []) 0 [] (run p r then ps) len ≡ Ok s →
    (m : tree.Message) × AMessage (run p r then ps) m
sound len p r ps s f good h = left len s p r ps f good Start [] at_start 0 [] h

of_characters : (msg : List ℕ) (ps : Parts) → Good msg → InPlace msg ps → OfCharacters ps
of_characters msg ends good at = tt
of_characters msg (broken q) good at = tt
of_characters msg (run p r then ps) good at =
    let P = λ (c : ℕ). is_character c ≡ true in
    (subst Good (sym at.0) (All-take P (length r) (drop p msg) (All-drop P p msg good)), of_characters msg ps good at.1)
of_characters msg (tag q t then ps) good at = of_characters msg ps good at

-- where the runs stand in a message of characters
pub sound_in : (msg : List ℕ) (len p : ℕ) (r : List ℕ) (ps : Parts) (s : St) → all_characters msg ≡ true → InPlace msg (run p r then ps) → FromTag ps →
    judge put_at (st Start [] 0 []) 0 [] (run p r then ps) len ≡ Ok s → (m : tree.Message) × AMessage (run p r then ps) m
sound_in msg len p r ps s good at f h = sound len p r ps s f (of_characters msg (run p r then ps) (all_from_test msg good) at) h
