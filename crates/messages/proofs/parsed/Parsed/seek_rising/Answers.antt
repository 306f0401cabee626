use Rattle.std.proofs.Common.{Less, Equal, Greater, sym, ap, ◌∙◌}
use Rattle.std.specs.Ordering.{nat_cmp}
use Rattle.std.specs.Cmp.Lexicographic.{slice_cmp}
use Rattle.characters.specs.Decoding.{decoded}
use Rattle.messages.specs.Sorted.{name_at}
use Rattle.messages.proofs.Ordered.{orders}
use Rattle.messages.proofs.Seeking.{behind_last, is_last, before_last}
use Rattle.messages.proofs.parsed.Parsed.seek_rising.Goals as goal

pub returns-in-Less : goal.returns-in-Less
returns-in-Less c =
    let msg = c.args.self.message.now in
    let rows = c.args.self.rows.now in
    let name = decoded c.args.name.now in
    let last = c.in-Some.last.now in
    behind_last msg rows c.args.sorted.now c.in-Some.rest.now name last c.in-Some.ensures.cases.0 c.requires (orders Less (name_at msg rows last) name (sym c.in-Less.is ∙ c.name_order.ensures ∙ ap (λ l. slice_cmp nat_cmp (decoded l) name) c.stored_name.ensures))

pub returns-in-Equal : goal.returns-in-Equal
returns-in-Equal c =
    let msg = c.args.self.message.now in
    let rows = c.args.self.rows.now in
    let name = decoded c.args.name.now in
    let last = c.in-Some.last.now in
    is_last msg rows c.args.sorted.now c.in-Some.rest.now name last c.in-Some.ensures.cases.0 c.requires (orders Equal (name_at msg rows last) name (sym c.in-Equal.is ∙ c.name_order.ensures ∙ ap (λ l. slice_cmp nat_cmp (decoded l) name) c.stored_name.ensures))

pub returns-in-Greater : goal.returns-in-Greater
returns-in-Greater c =
    let msg = c.args.self.message.now in
    let rows = c.args.self.rows.now in
    let name = decoded c.args.name.now in
    let last = c.in-Some.last.now in
    before_last msg rows c.args.sorted.now c.in-Some.rest.now name last c.in-Some.ensures.cases.0 c.requires (orders Greater (name_at msg rows last) name (sym c.in-Greater.is ∙ c.name_order.ensures ∙ ap (λ l. slice_cmp nat_cmp (decoded l) name) c.stored_name.ensures)) c.seek.result c.seek.ensures
