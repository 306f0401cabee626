use Rattle.std.proofs.Common.{arith}
use Rattle.characters.proofs.Numerals.{product_fits, sum_fits}
use Rattle.characters.proofs.reference.worth.Goals as goal

pub overflow_mul-n : goal.overflow_mul-n
overflow_mul-n c = let h = product_fits c.args.radix c.loop-d.n c.loop-d.d-index c.args.digits.now (omega arith) (omega arith) c.loop-d.invariant in omega arith

pub overflow_add-n : goal.overflow_add-n
overflow_add-n c = let d = c.in_ok-n.ensures.value in let h = sum_fits c.args.radix c.loop-d.n c.loop-d.d-index c.args.digits.now (omega arith) (omega arith) c.loop-d.invariant c.in_ok-n.field-0 (omega arith) in omega arith
