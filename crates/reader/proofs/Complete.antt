-- What the grammar derives as a message is accepted, and its rows say the message's tree.
use Rattle.std.proofs.Common.{◌≡◌, ℕ, suc, ◌+◌, List, [], ◌∷◌, map, length, Ok, sym, refl, ap, ◌∙◌, arith}
use Rattle.wire.specs.declared.kind.Kind.TheVariants as kind
use Rattle.wire.specs.declared.row.Row.{Row}
use Rattle.wire.specs.Rows.{blank_row}
use Rattle.wire.specs.Trees as tree
use Rattle.parts.specs.declared.name.Name.TheVariants as name
use Rattle.parts.specs.declared.tag.Tag.TheVariants.{Open, Close}
use Rattle.parts.specs.Cutting.{Parts, run, tag, ◌then◌, ends}
use Rattle.table.specs.declared.mode.Mode.TheVariants.{Start, Call, Response, Finished}
use Rattle.table.specs.declared.mode.CallMode.TheVariants as call
use Rattle.table.specs.declared.mode.ResponseMode.TheVariants as response
use Rattle.table.specs.declared.mode.Shape.TheVariants as shape
use Rattle.reader.specs.Runs.{text_row, span_at}
use Rattle.reader.specs.Steps.{st, frame, judge, put_at}
use Rattle.reader.specs.Contents.{content_of, InPlace}
use Rattle.reader.specs.Grammar.{AMessage, a_call, a_response, a_fault}
use Rattle.reader.proofs.GoodRuns.{blank_run_lem, test_run}
use Rattle.reader.proofs.Derived.{value_of, may_be_of}
use Rattle.reader.proofs.Accepted.{took, value_read, call_read, end_read, in_response, in_fault}
use Rattle.reader.proofs.RowsSay.{value_says, call_says}

pub complete : (msg : List ℕ) (len : ℕ) (ps : Parts) (m : tree.Message) → InPlace msg ps → AMessage ps m →
    (rs : List Row) × (judge put_at (st Start [] 0 []) 0 [] ps len ≡ Ok (st Finished [] (length rs) rs)) × (map (content_of msg) rs ≡ tree.message_rows m)
complete msg len _ _ at (a_call {a = a} {p = p} {g = g} {s = s} {e = e} {q = q} {f = f} {r = r} {z = z} {b = b} {c = c} {t = t} {u = u} {w = w} {ps = ps} {vs = vs} h i good x j k) =
    let n = tree.value_count vs in
    let method = span_at e (length t) in
    let F = frame shape.Call 0 0 (span_at 0 0) ∷ [] in
    let named = run e t then tag q (Close name.MethodName) then ps in
    let rs = may_be_of x in
    let n1 : 0 + n ≡ n = omega arith in
    let u1 : 1 + length rs ≡ suc (length rs) = omega arith in
    let row = λ (n : ℕ). text_row kind.Call n method in
    let said = call_says msg x at.1.1.1 in (
      row n ∷ rs,
      took len Start [] 0 [] a b p (Open name.MethodCall) (run g c then tag s (Open name.MethodName) then named) (blank_run_lem a b h)
          ∙ took len (Call call.Begun) F 1 (blank_row ∷ []) g c s (Open name.MethodName) named (blank_run_lem g c i)
          ∙ took len (Call call.Name) F 1 (blank_row ∷ []) e t q (Close name.MethodName) ps (test_run e (text_row kind.Call 0 method) good)
          ∙ call_read len method x j 1 (blank_row ∷ []) refl
          ∙ end_read len (1 + length rs) (row (0 + n) ∷ rs) z w k
          ∙ (λ i. Ok (st Finished [] (u1 i) (row (n1 i) ∷ rs))),
      (λ i. tree.holder_row kind.Call n (sym at.1.1.0 i) ∷ said.0 i),
    )
complete msg len _ _ at (a_response {a = a} {p = p} {g = g} {s = s} {h = h} {o = o} {e = e} {q = q} {f = f} {r = r} {i = i} {j = j} {z = z} {b = b} {c = c} {k = k} {t = t} {u = u} {x = x} {w = w} {ps = ps} b1 c1 k1 v t1 u1 x1 w') =
    let F = λ (n : ℕ). frame shape.Response 0 n (span_at 0 0) ∷ [] in
    let rs = value_of v in
    let row = text_row kind.Response 1 (span_at 0 0) in
    let param = run h k then tag o (Open name.Param) then ps in
    let last = run z w then ends in
    let closed = run i x then tag j (Close name.MethodResponse) then last in
    let n1 : 1 + length rs ≡ suc (length rs) = omega arith in
    let said = value_says msg v at.1.1.1 in (
      row ∷ rs,
      took len Start [] 0 [] a b p (Open name.MethodResponse) (run g c then tag s (Open name.Params) then param) (blank_run_lem a b b1)
          ∙ took len (Response response.Begun) (F 0) 1 (blank_row ∷ []) g c s (Open name.Params) param (blank_run_lem g c c1)
          ∙ took len (Response response.Params) (F 0) 1 (blank_row ∷ []) h k o (Open name.Param) ps (blank_run_lem h k k1)
          ∙ value_read len v in_response (F 0) 1 (blank_row ∷ []) (omega arith) refl
          ∙ took len (Response response.ParamDone) (F 1) (1 + length rs) (blank_row ∷ rs) e t q (Close name.Param) (run f u then tag r (Close name.Params) then closed) (blank_run_lem e t t1)
          ∙ took len (Response response.ParamsDone) (F 1) (1 + length rs) (blank_row ∷ rs) f u r (Close name.Params) closed (blank_run_lem f u u1)
          ∙ took len (Response response.Done) (F 1) (1 + length rs) (blank_row ∷ rs) i x j (Close name.MethodResponse) last (blank_run_lem i x x1)
          ∙ end_read len (1 + length rs) (row ∷ rs) z w w'
          ∙ (λ i. Ok (st Finished [] (n1 i) (row ∷ rs))),
      ap (λ l. tree.holder_row kind.Response 1 [] ∷ l) said.0,
    )
complete msg len _ _ at (a_fault {a = a} {p = p} {g = g} {s = s} {e = e} {q = q} {f = f} {r = r} {z = z} {b = b} {c = c} {t = t} {u = u} {w = w} {ps = ps} b1 c1 v t1 u1 w') =
    let F = λ (n : ℕ). frame shape.Fault 0 n (span_at 0 0) ∷ [] in
    let R = frame shape.Response 0 0 (span_at 0 0) ∷ [] in
    let rs = value_of v in
    let row = text_row kind.Fault 1 (span_at 0 0) in
    let last = run z w then ends in
    let closed = run f u then tag r (Close name.MethodResponse) then last in
    let n1 : 1 + length rs ≡ suc (length rs) = omega arith in
    let said = value_says msg v at.1.1 in (
      row ∷ rs,
      took len Start [] 0 [] a b p (Open name.MethodResponse) (run g c then tag s (Open name.Fault) then ps) (blank_run_lem a b b1)
          ∙ took len (Response response.Begun) R 1 (blank_row ∷ []) g c s (Open name.Fault) ps (blank_run_lem g c c1)
          ∙ value_read len v in_fault (F 0) 1 (blank_row ∷ []) (omega arith) refl
          ∙ took len (Response response.FaultDone) (F 1) (1 + length rs) (blank_row ∷ rs) e t q (Close name.Fault) closed (blank_run_lem e t t1)
          ∙ took len (Response response.Done) (F 1) (1 + length rs) (blank_row ∷ rs) f u r (Close name.MethodResponse) last (blank_run_lem f u u1)
          ∙ end_read len (1 + length rs) (row ∷ rs) z w w'
          ∙ (λ i. Ok (st Finished [] (n1 i) (row ∷ rs))),
      ap (λ l. tree.holder_row kind.Fault 1 [] ∷ l) said.0,
    )
