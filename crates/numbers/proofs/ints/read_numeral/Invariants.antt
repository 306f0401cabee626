use Rattle.std.proofs.Common.{◌≡◌, ◌+◌, ◌≤◌, drop}
use Rattle.std.specs.List.{prefix_len}
use Rattle.texts.specs.Digits.{is_digit, worth, worth_after}
use Rattle.numbers.specs.declared.ints.TheConstants.{LARGEST}
use Rattle.numbers.proofs.ints.read_numeral.Given as goal

abbrev pub invariant-loop-digit : goal.invariant-loop-digit
invariant-loop-digit l = (worth_after l.n (drop l.digit-index l.digits) ≡ worth l.digits) × (l.n ≤ LARGEST) × (l.digit-index + prefix_len is_digit (drop l.digit-index l.digits) ≡ prefix_len is_digit l.digits)
