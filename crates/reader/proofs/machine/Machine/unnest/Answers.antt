use Rattle.reader.proofs.Frames.{counted_left}
use Rattle.reader.proofs.machine.Machine.unnest.Goals as goal

pub invariant_of-self : goal.invariant_of-self
invariant_of-self c = let old = c.args.self.now in record { few = old.few; counts = counted_left _ _ _ _ c.pop.ensures.top old.counts }
