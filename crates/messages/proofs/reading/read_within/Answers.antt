use Rattle.std.proofs.Common.{◌≡◌, length, replicate, sym, refl, ap, ◌∙◌, subst, arith}
use Rattle.std.proofs.lemmas.Result.{err_from_is_err_and}
use Rattle.wire.specs.Rows.{blank_row}
use Rattle.reader.specs.Derivations.{Say}
use Rattle.reader.proofs.Exact.{read_is_derived}
use Rattle.reader.proofs.Whole.{all_cleared}
use Rattle.messages.proofs.Left.{refused_answer, was_read, front, accepted_answer, flawed_answer}
use Rattle.messages.proofs.reading.read_within.Goals as goal

pub returns-in_err-used : goal.returns-in_err-used
returns-in_err-used c =
    let msg = c.args.message.now in
    let old = c.args.rows.now in
    let read = c.in_err-used.ensures in
    let p = err_from_is_err_and c.from_residual.result c.from_residual.ensures.1 in
    rw (p.1, p.2) (refused_answer msg old c.read_rows.new.rows c.in_err-used.field-0.0 read.value read.rows)

pub invariant_of-parsed : goal.invariant_of-parsed
invariant_of-parsed c =
    let msg = c.args.message.now in
    let old = c.args.rows.now in
    let left = c.read_rows.new.rows in
    let n = c.in_ok-used.used in
    let read = c.in_ok-used.ensures in
    let r = was_read msg old left n read.value in
    record { few = omega (arith, ap length (front msg old left n r read.rows), r.fits, c.requires) }

pub judge-requires : goal.judge-requires
judge-requires c =
    let msg = c.args.message.now in
    let old = c.args.rows.now in
    let left = c.read_rows.new.rows in
    let n = c.in_ok-used.used in
    let read = c.in_ok-used.ensures in
    let r = was_read msg old left n read.value in
    let rows = front msg old left n r read.rows in
    let d = read_is_derived msg r.rs r.reads in
    (d.0, subst (λ l. Say msg l d.0) (sym rows) d.2)

pub returns : goal.returns
returns c =
    let msg = c.args.message.now in
    let old = c.args.rows.now in
    let left = c.read_rows.new.rows in
    let n = c.in_ok-used.used in
    let read = c.in_ok-used.ensures in
    let r = was_read msg old left n read.value in
    accepted_answer msg old left n r read.rows c.in_default.ensures

pub returns-in-Err : goal.returns-in-Err
returns-in-Err c =
    let msg = c.args.message.now in
    let old = c.args.rows.now in
    let left = c.read_rows.new.rows in
    let n = c.in_ok-used.used in
    let read = c.in_ok-used.ensures in
    let r = was_read msg old left n read.value in
    let e = c.in-Err.refusal in
    let long : length left ≡ length old = omega (arith, c.read_rows.auto.rows) in
    flawed_answer msg old left n r read.rows e c.blank_first.new.memory c.in-Err.ensures
    (c.blank_first.ensures ∙ all_cleared blank_row (length left) left refl ∙ ap (λ k. replicate k blank_row) long)
