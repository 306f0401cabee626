use Rattle.std.proofs.Common.{arith}
use Rattle.reader.proofs.Frames.{top_counted, counted_again}
use Rattle.reader.proofs.machine.Machine.leave.Goals as goal

pub invariant_of-self-2 : goal.invariant_of-self-2
invariant_of-self-2 c =
    let old = c.args.self.now in
    let was = c.in-Some.ensures.top in
    record { few = omega (arith, old.few); counts = counted_again _ _ _ _ _ _ _ (omega arith) was c.push.ensures (omega (arith, top_counted _ _ _ _ was old.counts)) old.counts }
