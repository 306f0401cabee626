use Rattle.std.proofs.Common.{map}
use Rattle.reader.specs.Contents.{content_of}
use Rattle.messages.specs.Repeats.{RepeatBelow, Least}
use Rattle.messages.proofs.parsed.Parsed.first_repeat.Given as goal

abbrev pub invariant-loop-at : goal.invariant-loop-at
invariant-loop-at l = Least (RepeatBelow (map (content_of l.self.message.now) l.self.rows.now) l.at) l.first
