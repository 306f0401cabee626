use Rattle.std.proofs.Common.{◌≡◌, ◌<◌, ◌≤◌, length, get_or, sym, ap, ◌∙◌, rules}
use Rattle.wire.specs.Rows.{blank_row}
use Rattle.held.specs.Stored.{said_by}
use Rattle.held.proofs.Sayings.{at, past}
use Rattle.held.proofs.makes.text_at.Goals as goal

pub returns-in-Some : goal.returns-in-Some
returns-in-Some c =
    let msg = c.args.message.now in
    let ink = c.args.ink.now in
    let rows = c.args.rows.now in
    let lt : c.args.i < length rows = search rules in
    let row : c.in-Some.row.now ≡ get_or rows c.args.i blank_row = search rules in
    c.text_of.ensures ∙ ap (λ r. (said_by msg ink r).text) row ∙ sym (ap (λ r. r.text) (at msg ink rows c.args.i lt))

pub returns-in-None : goal.returns-in-None
returns-in-None c =
    let end : length c.args.rows.now ≤ c.args.i = search rules in
    c.plain.ensures ∙ sym (ap (λ r. r.text) (past c.args.message.now c.args.ink.now c.args.rows.now c.args.i end))
