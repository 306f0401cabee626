use Rattle.messages.proofs.Seen.{Seen}
use Rattle.messages.proofs.parsed.Parsed.repeat_in.Given as goal

abbrev pub invariant-loop-known : goal.invariant-loop-known
invariant-loop-known l = Seen l.self.message.now l.self.rows.now l.at l.known l.member l.sorted
