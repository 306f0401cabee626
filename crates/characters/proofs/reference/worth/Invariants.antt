use Rattle.characters.proofs.Numerals.{Worth}
use Rattle.characters.proofs.reference.worth.Given as goal

abbrev pub invariant-loop-d : goal.invariant-loop-d
invariant-loop-d l = Worth l.radix l.n l.d-index l.digits
