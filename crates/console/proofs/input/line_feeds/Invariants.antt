use Rattle.std.proofs.Common.{◌≡◌, ◌≤◌, eqb, take, count_by}
use Rattle.console.proofs.input.line_feeds.Given as goal

abbrev pub invariant-loop-byte : goal.invariant-loop-byte
invariant-loop-byte l = (l.count ≡ count_by (λ b. eqb b 10) (take l.byte-index l.bytes)) × (l.count ≤ l.byte-index)
