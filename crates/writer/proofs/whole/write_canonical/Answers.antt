use Rattle.std.proofs.Common.{◌≡◌, ◌+◌, ◌^◌, ◌<◌, ◌≤◌, [], ◌++◌, length, drop, ap, ◌∙◌, arith, rules}
use Rattle.canonical.specs.Forms.{canonical}
use Rattle.writer.proofs.AsNodes.{message_node, message_counts, message_form_lem, from_first}
use Rattle.writer.proofs.whole.write_canonical.Goals as goal

pub returns : goal.returns
returns g c = λ m says.
    let page = c.args.page.now in
    let len = c.canonical_len-len.ensures m says in
    let small : length page < 2 ^ 63 = omega arith in
    let fits : length (canonical m) ≤ length page = omega (arith, len, c.if-len-page.false, small) in
    let wrote = c.write_part.ensures.part (message_node m) [] (message_counts m) (from_first (g.M.Held.said c.args.held.now) m says) in
    let form = message_form_lem m in
    let here : 0 + length (canonical m) ≡ length (canonical m) = omega arith in
    let stands = wrote.1.stands (omega (arith, small)) (omega (arith, ap length form, fits)) ∙ ap (λ l. l ++ drop (0 + length l) page) form ∙ ap (λ k. canonical m ++ drop k page) here in
    (omega (arith, len, fits, small), fits, search (rules, stands))
