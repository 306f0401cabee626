use Rattle.std.proofs.Common.{◌≡◌, ◌+◌, ◌-◌, ◌≤◌, ◌∷◌, length, take, drop, Some, None, sym, ◌∙◌, subst, arith, rules}
use Rattle.std.proofs.lemmas.List.{take_rest}
use Rattle.characters.specs.Decoding.{unit_at}
use Rattle.characters.proofs.Counting.{Counted, counted_none, counted_unit, counted_plain, counted_bad, counted_all}
use Rattle.characters.proofs.check.count_characters.Goals as goal

pub loop-first-init : goal.loop-first-init
loop-first-init c =
    let text = c.args.text.now in
    let n = c.leading_of-count.result in
    subst (Counted text n) (sym (take_rest text n)) (counted_plain text 0 text n n (counted_none text) c.leading_of-count.ensures.value (omega arith))

pub returns-in_err-more-clause-value : goal.returns-in_err-more-clause-value
returns-in_err-more-clause-value c =
    let text = c.args.text.now in
    let count = c.loop-first.count in
    let first = c.in-Some.first.now in
    let behind = c.in-Some.behind.now in
    let here : Counted text count (first ∷ behind) = subst (Counted text count) (search rules) c.loop-first.invariant in
    let is : unit_at first behind ≡ None = sym c.unit.ensures.value ∙ search rules in
    let end = counted_bad text count first behind here is in
    search (rules, end)

pub loop-first-preserved : goal.loop-first-preserved
loop-first-preserved c =
    let text = c.args.text.now in
    let count = c.loop-first.count in
    let first = c.in-Some.first.now in
    let behind = c.in-Some.behind.now in
    let more = c.in_ok-more.more in
    let next = take (length behind - more) (drop more behind) in
    let plain = c.leading_of-plain.result in
    let here : Counted text count (first ∷ behind) = subst (Counted text count) (search rules) c.loop-first.invariant in
    let is : unit_at first behind ≡ Some (c.in_ok-more.field-0-0, more) = sym c.unit.ensures.value ∙ search rules in
    let fits : more ≤ length behind = search (rules, is) in
    let unit = counted_unit text count first behind (c.in_ok-more.field-0-0, more) here is fits in
    let on = subst (Counted text (count + 1)) (sym (take_rest behind more)) unit in
    subst (Counted text (count + (1 + plain))) (sym (take_rest next plain)) (counted_plain text (count + 1) next plain (count + (1 + plain)) on c.leading_of-plain.ensures.value (omega arith))

pub returns-clause-value : goal.returns-clause-value
returns-clause-value c = counted_all c.args.text.now c.loop-first.count c.loop-first.rest.now c.loop-first.invariant (search rules)
