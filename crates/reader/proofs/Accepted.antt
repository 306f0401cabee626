-- What the grammar derives is read to its end, with the rows of the derivation.
use Rattle.std.proofs.Common.{◌≡◌, ℕ, suc, ◌+◌, ◌<◌, ◌≤◌, cond, List, [], ◌∷◌, ◌++◌, length, pos, Ok, Result, sym, refl, ap, ◌∙◌, append_assoc, append-nil, arith}
use Rattle.std.specs.List.{prefix_len}
use Rattle.std.proofs.lemmas.List.{length-append}
use Rattle.std.proofs.lemmas.Bool.{lt-ltb}
use Rattle.wire.specs.declared.kind.Kind.TheVariants as kind
use Rattle.wire.specs.declared.row.Row.{Row}
use Rattle.wire.specs.declared.row.Span.{Span}
use Rattle.wire.specs.declared.refusal.Refusal.{Refusal}
use Rattle.wire.specs.Rows.{blank_row}
use Rattle.wire.specs.Trees as tree
use Rattle.texts.specs.Bytes.{is_blank}
use Rattle.parts.specs.declared.name.Name.TheVariants as name
use Rattle.parts.specs.declared.tag.Tag.{Tag}
use Rattle.parts.specs.declared.tag.Tag.TheVariants.{Open, Close}
use Rattle.parts.specs.Cutting.{Parts, run, tag, ◌then◌, ends, AreBlank}
use Rattle.table.specs.declared.mode.Mode.{Mode}
use Rattle.table.specs.declared.mode.Mode.TheVariants.{Call, Response, Value, Struct, Array, Finished}
use Rattle.table.specs.declared.mode.CallMode.TheVariants as call
use Rattle.table.specs.declared.mode.ResponseMode.TheVariants as response
use Rattle.table.specs.declared.mode.ValueMode.TheVariants as value
use Rattle.table.specs.declared.mode.Plain.{Plain}
use Rattle.table.specs.declared.mode.Plain.TheVariants as plain
use Rattle.table.specs.declared.mode.StructMode.TheVariants as struct
use Rattle.table.specs.declared.mode.ArrayMode.TheVariants as array
use Rattle.table.specs.declared.mode.Shape.TheVariants as shape
use Rattle.table.specs.Entries.{lookup, entries, element_of}
use Rattle.reader.specs.declared.frame.Frame.{Frame}
use Rattle.reader.specs.Runs.{run_row, plain_run, text_row, number_row, span_at}
use Rattle.reader.specs.Steps.{St, st, and_then, frame, leave, nest, act, judge, put_at}
use Rattle.reader.specs.Grammar.{AValue, ATyped, AreMembers, AreValues, AreParams, MayBeParams, run_alone, typed, an_int, an_i4, a_boolean, a_string, a_double, a_date, a_base64, a_struct, an_array, no_member, a_member, no_value, a_value, no_param, a_param, without, with_params}
use Rattle.reader.proofs.GoodRuns.{blank_run_lem, characters_run_lem, value_run_lem, test_run}
use Rattle.reader.proofs.Derived.{value_of, typed_of, members_of, values_of, params_of, may_be_of}

put_end : (R : List Row) (u : ℕ) (r : Row) → u ≡ length R → put_at R u r ≡ R ++ r ∷ []
put_end R u r e = ap (λ k. put_at R k r) e ∙ at R
  where
    at : (R : List Row) → put_at R (length R) r ≡ R ++ r ∷ []
    at [] = refl
    at (x ∷ R) = ap (λ l. x ∷ l) (at R)

-- the row of what held others, put where it began
put_begun : (R : List Row) (u : ℕ) (x r : Row) (rs : List Row) → u ≡ length R → put_at (R ++ x ∷ [] ++ rs) u r ≡ R ++ r ∷ rs
put_begun R u x r rs e = ap (λ l. put_at l u r) (append_assoc R (x ∷ []) rs) ∙ ap (λ k. put_at (R ++ x ∷ rs) k r) e ∙ at R
  where
    at : (R : List Row) → put_at (R ++ x ∷ rs) (length R) r ≡ R ++ r ∷ rs
    at [] = refl
    at (y ∷ R) = ap (λ l. y ∷ l) (at R)

-- where a value may begin
pub data Before : Mode → Type 0 where
  in_call : Before (Call call.Param)
  in_response : Before (Response response.Param)
  in_fault : Before (Response response.Fault)
  in_struct : Before (Struct struct.Named)
  in_array : Before (Array array.Data)

module _ (len : ℕ) where
  abbrev pub go : St → Parts → Result St Refusal
  go s ps = judge put_at s 0 [] ps len

  -- one tag, once the run before it is read
  pub took : (m : Mode) (fs : List Frame) (u : ℕ) (R : List Row) (a : ℕ) (b : List ℕ) (q : ℕ) (t : Tag) (ps : Parts) {r : Row} → run_row m t a b ≡ Ok r →
      go (st m fs u R) (run a b then tag q t then ps) ≡ and_then (act put_at (lookup t (entries m)) q r fs u R) (λ s. go s ps)
  took m fs u R a b q t ps e = ap (λ o. and_then (and_then o (λ r. act put_at (lookup t (entries m)) q r fs u R)) (λ s. go s ps)) e

  opened : {m : Mode} (o : Before m) (fs : List Frame) (u : ℕ) (R : List Row) (a p : ℕ) (b : List ℕ) (ps : Parts) → AreBlank b →
      go (st m fs u R) (run a b then tag p (Open name.Value) then ps) ≡ go (st (Value value.Begun) fs u R) ps
  opened in_call fs u R a p b ps h = took (Call call.Param) fs u R a b p (Open name.Value) ps (blank_run_lem a b h)
  opened in_response fs u R a p b ps h = took (Response response.Param) fs u R a b p (Open name.Value) ps (blank_run_lem a b h)
  opened in_fault fs u R a p b ps h = took (Response response.Fault) fs u R a b p (Open name.Value) ps (blank_run_lem a b h)
  opened in_struct fs u R a p b ps h = took (Struct struct.Named) fs u R a b p (Open name.Value) ps (blank_run_lem a b h)
  opened in_array fs u R a p b ps h = took (Array array.Data) fs u R a b p (Open name.Value) ps (blank_run_lem a b h)

  module _ (fs : List Frame) (u : ℕ) (R : List Row) (fit : u ≡ length R) where
    -- a plain value's element
    plain_element : (k : Plain) (a p e q : ℕ) (b t : List ℕ) (qs : Parts) {r : Row} → AreBlank b → plain_run k e t ≡ Ok r →
        go (st (Value value.Begun) fs u R) (run a b then tag p (Open (element_of k)) then run e t then tag q (Close (element_of k)) then qs)
        ≡ go (st (Value value.Typed) fs (u + 1) (R ++ r ∷ [])) qs
    plain_element k a p e q b t qs {r} h good = enters k h ∙ closes k good ∙ ap (λ l. go (st (Value value.Typed) fs (u + 1) l) qs) (put_end R u r fit)
      where
        enters : (k : Plain) → AreBlank b →
            go (st (Value value.Begun) fs u R) (run a b then tag p (Open (element_of k)) then run e t then tag q (Close (element_of k)) then qs)
            ≡ go (st (Value (value.Text k)) fs u R) (run e t then tag q (Close (element_of k)) then qs)
        enters plain.Int h = took (Value value.Begun) fs u R a b p (Open name.Int) (run e t then tag q (Close name.Int) then qs) (blank_run_lem a b h)
        enters plain.I4 h = took (Value value.Begun) fs u R a b p (Open name.I4) (run e t then tag q (Close name.I4) then qs) (blank_run_lem a b h)
        enters plain.Boolean h = took (Value value.Begun) fs u R a b p (Open name.Boolean) (run e t then tag q (Close name.Boolean) then qs) (blank_run_lem a b h)
        enters plain.String h = took (Value value.Begun) fs u R a b p (Open name.String) (run e t then tag q (Close name.String) then qs) (blank_run_lem a b h)
        enters plain.Double h = took (Value value.Begun) fs u R a b p (Open name.Double) (run e t then tag q (Close name.Double) then qs) (blank_run_lem a b h)
        enters plain.Date h = took (Value value.Begun) fs u R a b p (Open name.DateTime) (run e t then tag q (Close name.DateTime) then qs) (blank_run_lem a b h)
        enters plain.Base64 h = took (Value value.Begun) fs u R a b p (Open name.Base64) (run e t then tag q (Close name.Base64) then qs) (blank_run_lem a b h)

        closes : (k : Plain) {r : Row} → plain_run k e t ≡ Ok r →
            go (st (Value (value.Text k)) fs u R) (run e t then tag q (Close (element_of k)) then qs) ≡ go (st (Value value.Typed) fs (u + 1) (put_at R u r)) qs
        closes plain.Int g = took (Value (value.Text plain.Int)) fs u R e t q (Close name.Int) qs g
        closes plain.I4 g = took (Value (value.Text plain.I4)) fs u R e t q (Close name.I4) qs g
        closes plain.Boolean g = took (Value (value.Text plain.Boolean)) fs u R e t q (Close name.Boolean) qs g
        closes plain.String g = took (Value (value.Text plain.String)) fs u R e t q (Close name.String) qs g
        closes plain.Double g = took (Value (value.Text plain.Double)) fs u R e t q (Close name.Double) qs g
        closes plain.Date g = took (Value (value.Text plain.Date)) fs u R e t q (Close name.DateTime) qs g
        closes plain.Base64 g = took (Value (value.Text plain.Base64)) fs u R e t q (Close name.Base64) qs g

  mutual
    unfolding value_of typed_of members_of values_of

    pub value_read : {m : Mode} {d : ℕ} {ps qs : Parts} {v : tree.Value} (x : AValue d ps qs v) → (o : Before m) (fs : List Frame) (u : ℕ) (R : List Row) → length fs + d ≤ 17 → u ≡ length R →
        go (st m fs u R) ps ≡ go (leave fs (u + length (value_of x)) (R ++ value_of x)) qs
    value_read (run_alone {a = a} {p = p} {e = e} {q = q} {b = b} {t = t} {qs = qs} h c) o fs u R low fit =
        opened o fs u R a p b (run e t then tag q (Close name.Value) then qs) h
        ∙ took (Value value.Begun) fs u R e t q (Close name.Value) qs (characters_run_lem kind.String 0 e c)
        ∙ ap (λ l. go (leave fs (u + 1) l) qs) (put_end R u (text_row kind.String 0 (span_at e (length t))) fit)
    value_read (typed {a = a} {p = p} {e = e} {q = q} {b = b} {t = t} {ps = ps} {qs = qs} h v k) o fs u R low fit =
        opened o fs u R a p b ps h
        ∙ typed_read v fs u R low fit
        ∙ took (Value value.Typed) fs (u + length (typed_of v)) (R ++ typed_of v) e t q (Close name.Value) qs (blank_run_lem e t k)

    pub typed_read : {d : ℕ} {ps qs : Parts} {v : tree.Value} (x : ATyped d ps qs v) → (fs : List Frame) (u : ℕ) (R : List Row) → length fs + d ≤ 17 → u ≡ length R →
        go (st (Value value.Begun) fs u R) ps ≡ go (st (Value value.Typed) fs (u + length (typed_of x)) (R ++ typed_of x)) qs
    typed_read (an_int {a = a} {p = p} {e = e} {q = q} {b = b} {t = t} {z = z} {qs = qs} h i) fs u R low fit =
        plain_element fs u R fit plain.Int a p e q b t qs h (value_run_lem e (λ z. number_row kind.Int z 0) i)
    typed_read (an_i4 {a = a} {p = p} {e = e} {q = q} {b = b} {t = t} {z = z} {qs = qs} h i) fs u R low fit =
        plain_element fs u R fit plain.I4 a p e q b t qs h (value_run_lem e (λ z. number_row kind.Int z 0) i)
    typed_read (a_boolean {a = a} {p = p} {e = e} {q = q} {b = b} {t = t} {qs = qs} h i) fs u R low fit =
        plain_element fs u R fit plain.Boolean a p e q b t qs h (value_run_lem e (λ v. number_row kind.Boolean (pos (cond v 1 0)) 0) i)
    typed_read (a_string {a = a} {p = p} {e = e} {q = q} {b = b} {t = t} {qs = qs} h c) fs u R low fit =
        plain_element fs u R fit plain.String a p e q b t qs h (characters_run_lem kind.String 0 e c)
    typed_read (a_double {a = a} {p = p} {e = e} {q = q} {b = b} {t = t} {qs = qs} h i) fs u R low fit =
        plain_element fs u R fit plain.Double a p e q b t qs h (value_run_lem e (λ n. number_row kind.Double n.0 n.1) i)
    typed_read (a_date {a = a} {p = p} {e = e} {q = q} {b = b} {t = t} m {qs = qs} h i) fs u R low fit =
        plain_element fs u R fit plain.Date a p e q b t qs h (value_run_lem e (λ _. text_row kind.Date 0 (span_at (e + prefix_len is_blank t) 17)) i)
    typed_read (a_base64 {a = a} {p = p} {e = e} {q = q} {b = b} t {qs = qs} h i) fs u R low fit =
        plain_element fs u R fit plain.Base64 a p e q b t qs h (test_run e (text_row kind.Base64 0 (span_at e (length t))) i)
    typed_read (a_struct {a = a} {p = p} {e = e} {q = q} {b = b} {t = t} {ps = ps} {qs = qs} {ms = ms} h x k) fs u R low fit =
        let n = tree.member_count ms in
        let rs = members_of x in
        let R1 = R ++ blank_row ∷ [] in
        let lt : length fs < 17 = omega arith in
        let f1 : u + 1 ≡ length R1 = omega (arith, length-append R (blank_row ∷ [])) in
        let n1 : 0 + n ≡ n = omega arith in
        let u1 : u + 1 + length rs ≡ u + suc (length rs) = omega arith in
        let row = λ (n : ℕ). text_row kind.Struct n (span_at 0 0) in
        took (Value value.Begun) fs u R a b p (Open name.Struct) ps (blank_run_lem a b h)
        ∙ ap (λ y. and_then (nest put_at y shape.Struct fs p u R) (λ s. go s ps)) (lt-ltb _ _ lt)
        ∙ ap (λ l. go (st (Struct struct.Members) (frame shape.Struct u 0 (span_at 0 0) ∷ fs) (u + 1) l) ps) (put_end R u blank_row fit)
        ∙ members_read x u 0 fs (u + 1) R1 (omega arith) f1
        ∙ took (Struct struct.Members) (frame shape.Struct u (0 + n) (span_at 0 0) ∷ fs) (u + 1 + length rs) (R1 ++ rs) e t q (Close name.Struct) qs (blank_run_lem e t k)
        ∙ (λ i. go (st (Value value.Typed) fs (u1 i) ((put_begun R u blank_row (row (0 + n)) rs fit ∙ ap (λ y. R ++ row y ∷ rs) n1) i)) qs)
    typed_read (an_array {a = a} {p = p} {o = o} {s = s} {e = e} {q = q} {f = f} {r = r} {b = b} {c = c} {t = t} {u = w} {ps = ps} {qs = qs} {vs = vs} h i x j g) fs u R low fit =
        let n = tree.value_count vs in
        let rs = values_of x in
        let R1 = R ++ blank_row ∷ [] in
        let lt : length fs < 17 = omega arith in
        let f1 : u + 1 ≡ length R1 = omega (arith, length-append R (blank_row ∷ [])) in
        let n1 : 0 + n ≡ n = omega arith in
        let u1 : u + 1 + length rs ≡ u + suc (length rs) = omega arith in
        let row = λ (n : ℕ). text_row kind.Array n (span_at 0 0) in
        let rest = run o c then tag s (Open name.Data) then ps in
        let F = frame shape.Array u 0 (span_at 0 0) ∷ fs in
        let F1 = frame shape.Array u (0 + n) (span_at 0 0) ∷ fs in
        took (Value value.Begun) fs u R a b p (Open name.Array) rest (blank_run_lem a b h)
        ∙ ap (λ y. and_then (nest put_at y shape.Array fs p u R) (λ s. go s rest)) (lt-ltb _ _ lt)
        ∙ took (Array array.Begun) F (u + 1) (put_at R u blank_row) o c s (Open name.Data) ps (blank_run_lem o c i)
        ∙ ap (λ l. go (st (Array array.Data) F (u + 1) l) ps) (put_end R u blank_row fit)
        ∙ values_read x u 0 fs (u + 1) R1 (omega arith) f1
        ∙ took (Array array.Data) F1 (u + 1 + length rs) (R1 ++ rs) e t q (Close name.Data) (run f w then tag r (Close name.Array) then qs) (blank_run_lem e t j)
        ∙ took (Array array.DataDone) F1 (u + 1 + length rs) (R1 ++ rs) f w r (Close name.Array) qs (blank_run_lem f w g)
        ∙ (λ i. go (st (Value value.Typed) fs (u1 i) ((put_begun R u blank_row (row (0 + n)) rs fit ∙ ap (λ y. R ++ row y ∷ rs) n1) i)) qs)

    pub members_read : {d : ℕ} {ps qs : Parts} {ms : tree.Members} (x : AreMembers d ps qs ms) → (w n : ℕ) (fs : List Frame) (u : ℕ) (R : List Row) → suc (length fs) + d ≤ 17 → u ≡ length R →
        go (st (Struct struct.Members) (frame shape.Struct w n (span_at 0 0) ∷ fs) u R) ps
        ≡ go (st (Struct struct.Members) (frame shape.Struct w (n + tree.member_count ms) (span_at 0 0) ∷ fs) (u + length (members_of x)) (R ++ members_of x)) qs
    members_read (no_member {ps = ps}) w n fs u R low fit =
        let n1 : n ≡ n + 0 = omega arith in
        let u1 : u ≡ u + 0 = omega arith in
        λ i. go (st (Struct struct.Members) (frame shape.Struct w (n1 i) (span_at 0 0) ∷ fs) (u1 i) (sym (append-nil R) i)) ps
    members_read (a_member {a = a} {p = p} {g = g} {s = s} {e = e} {q = q} {f = f} {r = r} {b = b} {c = c} {t = t} {u = x} {ps = ps} {qs = qs} {zs = zs} {ms = ms} h i d v j more) w n fs u R low fit =
        let row = text_row kind.Member 1 (span_at e (length t)) in
        let vs = value_of v in
        let rs = members_of more in
        let k = tree.member_count ms in
        let R1 = R ++ row ∷ [] in
        let R2 = R1 ++ vs in
        let f1 : u + 1 ≡ length R1 = omega (arith, length-append R (row ∷ [])) in
        let f2 : u + 1 + length vs ≡ length R2 = omega (arith, length-append R1 vs) in
        let u1 : u + 1 + length vs + length rs ≡ u + suc (length (vs ++ rs)) = omega (arith, length-append vs rs) in
        let n1 : n + 1 + k ≡ n + (1 + k) = omega arith in
        let l1 : R1 ++ vs ++ rs ≡ R ++ row ∷ (vs ++ rs) = append_assoc R1 vs rs ∙ append_assoc R (row ∷ []) (vs ++ rs) in
        let F = frame shape.Struct w n (span_at 0 0) ∷ fs in
        let F1 = frame shape.Struct w (n + 1) (span_at 0 0) ∷ fs in
        let named = run e t then tag q (Close name.MemberName) then ps in
        took (Struct struct.Members) F u R a b p (Open name.Member) (run g c then tag s (Open name.MemberName) then named) (blank_run_lem a b h)
        ∙ took (Struct struct.Member) F u R g c s (Open name.MemberName) named (blank_run_lem g c i)
        ∙ took (Struct struct.Name) F u R e t q (Close name.MemberName) ps (characters_run_lem kind.Member 1 e d)
        ∙ ap (λ l. go (st (Struct struct.Named) F (u + 1) l) ps) (put_end R u row fit)
        ∙ value_read v in_struct F (u + 1) R1 low f1
        ∙ took (Struct struct.MemberDone) F1 (u + 1 + length vs) R2 f x r (Close name.Member) qs (blank_run_lem f x j)
        ∙ members_read more w (n + 1) fs (u + 1 + length vs) R2 low f2
        ∙ (λ i. go (st (Struct struct.Members) (frame shape.Struct w (n1 i) (span_at 0 0) ∷ fs) (u1 i) (l1 i)) zs)

    pub values_read : {d : ℕ} {ps qs : Parts} {vs : tree.Values} (x : AreValues d ps qs vs) → (w n : ℕ) (fs : List Frame) (u : ℕ) (R : List Row) → suc (length fs) + d ≤ 17 → u ≡ length R →
        go (st (Array array.Data) (frame shape.Array w n (span_at 0 0) ∷ fs) u R) ps
        ≡ go (st (Array array.Data) (frame shape.Array w (n + tree.value_count vs) (span_at 0 0) ∷ fs) (u + length (values_of x)) (R ++ values_of x)) qs
    values_read (no_value {ps = ps}) w n fs u R low fit =
        let n1 : n ≡ n + 0 = omega arith in
        let u1 : u ≡ u + 0 = omega arith in
        λ i. go (st (Array array.Data) (frame shape.Array w (n1 i) (span_at 0 0) ∷ fs) (u1 i) (sym (append-nil R) i)) ps
    values_read (a_value {qs = qs} {zs = zs} {vs = vs} v more) w n fs u R low fit =
        let rs = value_of v in
        let ss = values_of more in
        let k = tree.value_count vs in
        let f1 : u + length rs ≡ length (R ++ rs) = omega (arith, length-append R rs) in
        let n1 : n + 1 + k ≡ n + (1 + k) = omega arith in
        let u1 : u + length rs + length ss ≡ u + length (rs ++ ss) = omega (arith, length-append rs ss) in
        value_read v in_array (frame shape.Array w n (span_at 0 0) ∷ fs) u R low fit
        ∙ values_read more w (n + 1) fs (u + length rs) (R ++ rs) low f1
        ∙ (λ i. go (st (Array array.Data) (frame shape.Array w (n1 i) (span_at 0 0) ∷ fs) (u1 i) (append_assoc R rs ss i)) zs)

  -- the frame of a call whose method is named
  module _ (method : Span) where
    abbrev pub called : ℕ → List Frame
    called n = frame shape.Call 0 n method ∷ []

    pub params_read : {ps qs : Parts} {vs : tree.Values} (x : AreParams ps qs vs) → (n u : ℕ) (R : List Row) → u ≡ length R →
        go (st (Call call.Params) (called n) u R) ps ≡ go (st (Call call.Params) (called (n + tree.value_count vs)) (u + length (params_of x)) (R ++ params_of x)) qs
    unfolding params_of
    params_read (no_param {ps = ps}) n u R fit =
        let n1 : n ≡ n + 0 = omega arith in
        let u1 : u ≡ u + 0 = omega arith in
        λ i. go (st (Call call.Params) (called (n1 i)) (u1 i) (sym (append-nil R) i)) ps
    params_read (a_param {a = a} {p = p} {e = e} {q = q} {b = b} {t = t} {ps = ps} {qs = qs} {zs = zs} {vs = vs} h v k more) n u R fit =
        let rs = value_of v in
        let ss = params_of more in
        let c = tree.value_count vs in
        let f1 : u + length rs ≡ length (R ++ rs) = omega (arith, length-append R rs) in
        let n1 : n + 1 + c ≡ n + (1 + c) = omega arith in
        let u1 : u + length rs + length ss ≡ u + length (rs ++ ss) = omega (arith, length-append rs ss) in
        took (Call call.Params) (called n) u R a b p (Open name.Param) ps (blank_run_lem a b h)
        ∙ value_read v in_call (called n) u R (omega arith) fit
        ∙ took (Call call.ParamDone) (called (n + 1)) (u + length rs) (R ++ rs) e t q (Close name.Param) qs (blank_run_lem e t k)
        ∙ params_read more (n + 1) (u + length rs) (R ++ rs) f1
        ∙ (λ i. go (st (Call call.Params) (called (n1 i)) (u1 i) (append_assoc R rs ss i)) zs)

    -- the rest of a call behind its method's name, up to its close tag
    pub call_read : {ps : Parts} {f r : ℕ} {w : List ℕ} {qs : Parts} {vs : tree.Values} (x : MayBeParams ps (run f w then tag r (Close name.MethodCall) then qs) vs) → AreBlank w → (u : ℕ) (R : List Row) → u ≡ length R →
        go (st (Call call.Named) (called 0) u R) ps
        ≡ go (st Finished [] (u + length (may_be_of x)) (put_at (R ++ may_be_of x) 0 (text_row kind.Call (0 + tree.value_count vs) method))) qs
    unfolding may_be_of
    call_read {f = f} {r = r} {w = w} {qs = qs} without blank u R fit =
        let u1 : u ≡ u + 0 = omega arith in
        took (Call call.Named) (called 0) u R f w r (Close name.MethodCall) qs (blank_run_lem f w blank)
        ∙ (λ i. go (st Finished [] (u1 i) (put_at (sym (append-nil R) i) 0 (text_row kind.Call 0 method))) qs)
    call_read {f = f} {r = r} {w = w} {qs = qs} {vs = vs} (with_params {a = a} {p = p} {e = e} {q = q} {b = b} {t = t} {ps = ps} h x k) blank u R fit =
        let n = tree.value_count vs in
        let rs = params_of x in
        let rest = run f w then tag r (Close name.MethodCall) then qs in
        took (Call call.Named) (called 0) u R a b p (Open name.Params) ps (blank_run_lem a b h)
        ∙ params_read x 0 u R fit
        ∙ took (Call call.Params) (called (0 + n)) (u + length rs) (R ++ rs) e t q (Close name.Params) rest (blank_run_lem e t k)
        ∙ took (Call call.Done) (called (0 + n)) (u + length rs) (R ++ rs) f w r (Close name.MethodCall) qs (blank_run_lem f w blank)

  -- the end of the message
  pub end_read : (u : ℕ) (R : List Row) (z : ℕ) (w : List ℕ) → AreBlank w → go (st Finished [] u R) (run z w then ends) ≡ Ok (st Finished [] u R)
  end_read u R z w h = ap (λ o. and_then o (λ _. Ok (st Finished [] u R))) (blank_run_lem z w h)
