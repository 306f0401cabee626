use Rattle.std.proofs.Common.{◌≡◌, ◌<◌, ◌≤◌, length, get_or, sym, ap, ◌∙◌, arith, rules}
use Rattle.wire.specs.Rows.{blank_row}
use Rattle.held.specs.Stored.{said_by}
use Rattle.held.specs.Told.{facts_of}
use Rattle.held.proofs.Sayings.{many, at}
use Rattle.held.proofs.makes.row_at.Goals as goal

pub returns-in_err-row-clause-told : goal.returns-in_err-row-clause-told
returns-in_err-row-clause-told c =
    let past : length c.args.rows.now ≤ c.args.i = search rules in
    rw c.from_residual.ensures (λ msg ink. omega (arith, many msg ink c.args.rows.now))

pub returns-clause-told : goal.returns-clause-told
returns-clause-told c =
    let rows = c.args.rows.now in
    let lt : c.args.i < length rows = search rules in
    let row : c.in_ok-row.row.now ≡ get_or rows c.args.i blank_row = search rules in
    λ msg ink. (omega (arith, many msg ink rows), c.from.ensures msg ink ∙ ap (λ r. facts_of (said_by msg ink r)) row ∙ sym (ap facts_of (at msg ink rows c.args.i lt)))
