use Rattle.std.proofs.Common.{◌≡◌, ◌+◌, ◌*◌, ◌^◌, ◌≤◌, drop}
use Rattle.messages.specs.Holding.{extent, counts_of}
use Rattle.messages.proofs.parsed.Parsed.past_part.Given as goal

abbrev pub invariant-loop-passed : goal.invariant-loop-passed
invariant-loop-passed l =
    (l.passed + extent l.owed (drop l.passed (drop l.start (counts_of l.self.rows.now))) ≡ extent 1 (drop l.start (counts_of l.self.rows.now)))
    × (l.owed ≤ 1 + l.passed * 2 ^ 32)
