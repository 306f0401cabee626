use Rattle.std.proofs.Common.{◌≡◌, ◌/◌, ◌^◌, ◌++◌, length, drop}
use Rattle.texts.specs.Digits.{padded}
use Rattle.texts.proofs.digits.fill_digits.Given as goal

abbrev pub invariant-loop-i : goal.invariant-loop-i
invariant-loop-i l = (padded l.i l.rest ++ drop l.i l.page ≡ padded (length l.initial.page) l.n) × (l.rest / 10 ^ l.i ≡ l.n / 10 ^ length l.initial.page)
