use Rattle.std.proofs.Common.{refl, ap, arith}
use Rattle.std.proofs.lemmas.List.{take_all}
use Rattle.std.proofs.Output.{has_written_of_eq, has_written_append}
use Rattle.outcomes.specs.Outcomes.{row_lines}
use Rattle.outcomes.proofs.Lines.{row_lines_more}
use Rattle.outcomes.proofs.outcome.RowLinesDisplay.fmt.Goals as goal

pub loop-row-preserved : goal.loop-row-preserved
loop-row-preserved g c = λ p.
    let took = g.W.Write.write_str_gives in
    let before = c.loop-row.invariant p in
    let more = c.in_ok-writeln.ensures.writes before.plain refl in
    has_written_of_eq took _ _ _ _ (row_lines_more c.args.self.now.message.now c.args.self.now.rows.now c.loop-row.row-index (omega arith)) (has_written_append took _ _ _ _ _ before more)

pub returns-clause-writes : goal.returns-clause-writes
returns-clause-writes g c = λ p ok.
    let rows = c.args.self.now.rows.now in
    has_written_of_eq g.W.Write.write_str_gives _ _ _ _ (ap (row_lines c.args.self.now.message.now) (take_all c.loop-row.row-index rows (omega arith))) (c.loop-row.invariant p)
