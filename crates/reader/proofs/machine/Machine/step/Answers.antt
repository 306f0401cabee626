use Rattle.std.proofs.Common.{◌≡◌, set, Ok, sym, ap, ◌∙◌}
use Rattle.table.specs.Entries.{lookup, entries}
use Rattle.reader.specs.Runs.{run_row}
use Rattle.reader.specs.Steps.{and_then, act}
use Rattle.reader.proofs.machine.Machine.step.Goals as goal

pub returns-then-must_be_blank : goal.returns-then-must_be_blank
returns-then-must_be_blank c =
    let m = c.args.self.now in
    let rs = m.rows.now in
    let blank = c.in_ok-blank_run.field-0 in
    let row : run_row m.mode c.args.tag c.args.run.place c.args.run.bytes.now ≡ Ok blank = c.must_be_blank.ensures.blank c.if-must_be_blank.true c.args.run.place c.args.run.bytes.now ∙ sym c.in_ok-blank_run.ensures in
    let h = c.pass.ensures blank in
    record {
      same_rows = h.same_rows;
      tick = h.tick;
      does =
          ap (λ o. and_then o (λ r. act set (lookup c.args.tag (entries m.mode)) c.args.place r m.stack m.used rs)) row
          ∙ ap (λ v. act set v c.args.place blank m.stack m.used rs) (sym c.move_at-does.ensures) ∙ h.does;
    }
