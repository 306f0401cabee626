use Rattle.std.proofs.Common.{◌≡◌, ◌+◌, ◌^◌, ◌<◌, drop}
use Rattle.texts.specs.Digits.{worth_after}
use Rattle.numbers.proofs.doubles.worth_after.Given as goal

abbrev pub invariant-loop-digit : goal.invariant-loop-digit
invariant-loop-digit l = (worth_after l.sum (drop l.digit-index l.digits) ≡ worth_after l.n l.digits) × (l.sum < 10 ^ (l.done + l.digit-index))
