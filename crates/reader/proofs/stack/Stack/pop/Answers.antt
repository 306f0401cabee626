use Rattle.std.proofs.Common.{◌-◌, arith}
use Rattle.reader.proofs.Frames.{stack_length}
use Rattle.reader.proofs.stack.Stack.pop.Goals as goal

pub returns-clause-room : goal.returns-clause-room
returns-clause-room c = let s = c.self.inside in omega (arith, stack_length s.frames (s.depth - 1), c.self.invariant)
