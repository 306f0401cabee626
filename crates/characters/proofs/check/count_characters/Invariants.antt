use Rattle.std.proofs.Common.{length}
use Rattle.characters.proofs.Counting.{Counted}
use Rattle.characters.proofs.check.count_characters.Given as goal

abbrev pub invariant-loop-first : goal.invariant-loop-first
invariant-loop-first l = Counted l.text l.count l.rest

abbrev pub decreases-loop-first : goal.decreases-loop-first
decreases-loop-first l = length l.rest
