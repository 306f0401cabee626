use Rattle.std.proofs.Common.{arith}
use Rattle.reader.proofs.Frames.{was_open, top_counted, counted_again}
use Rattle.reader.proofs.machine.Machine.fault.Goals as goal

pub invariant_of-self-2 : goal.invariant_of-self-2
invariant_of-self-2 c =
    let old = c.args.self.now in
    let was = was_open old.stack c.pop.new.self _ c.in_ok-response.response c.in_ok-response.ensures.ok_part c.pop.ensures.top in
    record { few = old.few; counts = counted_again _ _ _ _ _ _ _ (omega arith) was c.push.ensures (top_counted _ _ _ _ was old.counts) old.counts }
