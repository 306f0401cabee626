use Rattle.std.proofs.Common.{refl, arith}
use Rattle.std.proofs.Output.{has_written_of_eq, has_written_append}
use Rattle.totals.proofs.Counts.{refusal_counts_more}
use Rattle.totals.proofs.RefusalCountsDisplay.fmt.Goals as goal

pub loop-place-preserved : goal.loop-place-preserved
loop-place-preserved g c = λ p.
    let took = g.W.Write.write_str_gives in
    let before = c.loop-place.invariant p in
    let more = c.in_ok-write.ensures.writes before.plain refl in
    has_written_of_eq took _ _ _ _ (refusal_counts_more c.args.self.now.0.now c.loop-place.place (omega arith)) (has_written_append took _ _ _ _ _ before more)
