use Rattle.std.proofs.Common.{set, Some, ap, ◌∙◌, arith}
use Rattle.reader.specs.Steps.{act}
use Rattle.reader.proofs.machine.Machine.act.Goals as goal

pub returns-in-Name : goal.returns-in-Name
returns-in-Name c =
    let m = c.args.self.now in
    let rs = m.rows.now in
    let h = c.name.ensures in
    record {
      same_rows = h.same_rows;
      tick = omega (arith, h.tick);
      does = ap (λ v. act set v c.args.place c.args.row m.stack m.used rs) (c.in_ok-mode.ensures.ok_part ∙ ap Some c.in-Name.is) ∙ h.does;
    }

pub returns-in-Enter : goal.returns-in-Enter
returns-in-Enter c = c.pass.ensures c.args.row
