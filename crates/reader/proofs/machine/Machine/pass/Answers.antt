use Rattle.std.proofs.Common.{set, Some, ap, ◌∙◌, arith}
use Rattle.reader.specs.Steps.{act}
use Rattle.reader.proofs.machine.Machine.pass.Goals as goal

pub returns-in-Fault : goal.returns-in-Fault
returns-in-Fault c = λ row.
    let m = c.args.self.now in
    let rs = m.rows.now in
    let h = c.fault.ensures in
    record {
      same_rows = h.same_rows;
      tick = omega (arith, h.tick);
      does = ap (λ v. act set v c.args.place row m.stack m.used rs) (c.in_ok-mode.ensures.ok_part ∙ ap Some c.in-Fault.is) ∙ h.does;
    }
