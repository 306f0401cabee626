use Rattle.std.proofs.Common.{length, nat_eq, sym, ap, ◌∙◌, arith}
use Rattle.reader.proofs.Frames.{stack_length}
use Rattle.reader.proofs.stack.Stack.is_full.Goals as goal

pub returns : goal.returns
returns c =
    let s = c.self.inside in
    let deep = sym (stack_length s.frames s.depth) ∙ ap length c.self.view_is in
    record { full = ap (λ d. nat_eq d 17) deep; within = omega (arith, deep, c.self.invariant) }
