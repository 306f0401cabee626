use Rattle.std.proofs.Common.{take}
use Rattle.std.specs.Fmt.{IsPlainFormatter, HasWritten}
use Rattle.outcomes.specs.Outcomes.{row_lines}
use Rattle.outcomes.proofs.outcome.RowLinesDisplay.fmt.Given as goal

abbrev pub invariant-loop-row : goal.invariant-loop-row
invariant-loop-row g l = IsPlainFormatter l.initial.f → HasWritten g.W.Write.write_str_gives l.initial.f (row_lines l.message (take l.row-index l.self.rows.now)) l.f
