use Rattle.std.proofs.Common.{◌≡◌, ℕ, suc, ◌+◌, ◌<◌, ◌++◌, length, get_or, sym, refl, ap, ◌∙◌, subst, add-one, arith, length-append}
use Rattle.held.specs.Told.{no_row, facts_of}
use Rattle.wire.specs.declared.kind.Kind.{Kind}
use Rattle.writer.specs.declared.pen.Pen.{Pen}
use Rattle.writer.specs.Nodes.{none, own_row, parts_of, how_many, node_rows, nodes_rows, nodes_form, node_form, opening_of}
use Rattle.writer.specs.Pages.{Put}
use Rattle.writer.specs.Tables.{before_of, after_of, close_of}
use Rattle.writer.proofs.Kids.{up_to, from, begins, next_part, stands, all_parts, whole_rows, whole_form, own_count}
use Rattle.writer.proofs.Places.{put_none, put_both}
use Rattle.writer.proofs.part.+write_part.Goals as goal

no_parts : (i : ℕ) → i + 1 ≡ i + 1 + length (nodes_rows none)
unfolding nodes_rows
no_parts i = omega arith

none_put : (p : Pen) (k : Kind) → Put p (nodes_form k none) p
unfolding nodes_form
none_put p k = put_none p

pub returns-in_default-clause-part : goal.returns-in_default-clause-part
returns-in_default-clause-part g t c = λ n rest counts e. absurd (omega (arith, (begins (g.M.Held.said c.args.held.now) rest c.args.i n e).inside, c.in_default.ensures.told))

pub loop-init : goal.loop-init
loop-init g t c = (omega arith, refl, λ n rest counts e. (no_parts c.args.i, none_put c.open.new.pen (own_row n).kind))

pub loop-preserved : goal.loop-preserved
loop-preserved g t c = (
  omega (arith, c.loop.invariant.0, c.write_part-next.ensures.rows),
  c.put-in-loop.ensures.same_page ∙ c.write_part-next.ensures.same_page ∙ c.put.ensures.same_page ∙ c.loop.invariant.1,
  λ n rest counts e.
      let said = g.M.Held.said c.args.held.now in
      let b = begins said rest c.args.i n e in
      let oc = own_count n counts in
      let kd = (own_row n).kind in
      let parts = parts_of n in
      let k = c.loop.counter in
      let same : c.in-Some.row ≡ facts_of (own_row n) = c.in-Some.ensures.told.1 ∙ ap facts_of b.own in
      let lt : k < how_many parts = omega (arith, c.loop-test.true, ap (λ f. f.count) same, oc.0) in
      let p = next_part kd parts k lt oc.1 in
      let old = c.loop.invariant.2 n rest counts e in
      let here = stands said rest c.args.i c.loop.next k n kd b p old.0 in
      let did = c.write_part-next.ensures.part p.part (nodes_rows (from (suc k) parts) ++ rest) p.counts here in
      let last = c.put-in-loop.new.self in
      let bf = subst (λ l. Put c.loop.pen l c.put.new.self) (c.before-in-loop.ensures ∙ ap (λ f. before_of f.kind) same) c.put.ensures in
      let af = subst (λ l. Put c.write_part-next.new.pen l last) (c.after.ensures ∙ ap (λ f. after_of f.kind) same) c.put-in-loop.ensures in
      let form = node_form p.part in
      let own = put_both (before_of kd) (form ++ after_of kd) bf (put_both form (after_of kd) did.1 af) in
      let total = put_both (nodes_form kd (up_to k parts)) (before_of kd ++ (form ++ after_of kd)) old.1 own in
      let next : k + 1 ≡ suc k = add-one k in
      let rows = ap length p.more_rows ∙ length-append (nodes_rows (up_to k parts)) (node_rows p.part) in (
        omega (arith, did.0, old.0, rows, ap (λ j. length (nodes_rows (up_to j parts))) next),
        subst (λ l. Put c.open.new.pen l last) (sym (ap (λ j. nodes_form kd (up_to j parts)) next ∙ p.more_form)) total,
      ),
)

pub returns-clause-part : goal.returns-clause-part
returns-clause-part g t c = λ n rest counts e.
    let said = g.M.Held.said c.args.held.now in
    let b = begins said rest c.args.i n e in
    let oc = own_count n counts in
    let kd = (own_row n).kind in
    let parts = parts_of n in
    let same : c.in-Some.row ≡ facts_of (own_row n) = ◌∙◌ {b = facts_of (get_or said c.args.i no_row)} c.in-Some.ensures.told.1 (ap facts_of b.own) in
    let old = c.loop.invariant.2 n rest counts e in
    let all : c.loop.counter ≡ how_many parts = omega (arith, c.loop-test.false, c.loop.auto.counter-end, ap (λ f. f.count) same, oc.0) in
    let done : up_to c.loop.counter parts ≡ parts = ap (λ j. up_to j parts) all ∙ all_parts parts in
    let last = c.put-2.new.self in
    let opened = subst (λ r. Put c.args.pen.now (opening_of r) c.open.new.pen) b.own c.open.ensures in
    let held = subst (λ ns. Put c.open.new.pen (nodes_form kd ns) c.loop.pen) done old.1 in
    let closed = subst (λ l. Put c.loop.pen l last) (c.close.ensures ∙ ap (λ f. close_of f.kind f.count) same) c.put-2.ensures in
    let whole = put_both (opening_of (own_row n)) (nodes_form kd parts ++ close_of kd (own_row n).count) opened (put_both (nodes_form kd parts) (close_of kd (own_row n).count) held closed) in (
      omega (arith, old.0, whole_rows n, ap (λ ns. length (nodes_rows ns)) done),
      subst (λ l. Put c.args.pen.now l last) (sym (whole_form n)) whole,
    )
