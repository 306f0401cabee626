use Rattle.std.proofs.Common.{ap}
use Rattle.std.specs.List.{flat_map}
use Rattle.held.specs.Texts.{left}
use Rattle.writer.proofs.Places.{some_more}
use Rattle.writer.proofs.put.put_text.Goals as goal

pub loop-byte-preserved : goal.loop-byte-preserved
loop-byte-preserved g c =
    let spelled = flat_map g.S.Spelling.spelled in
    some_more (g.S.Spelling.spelled c.in-Some.byte) (spelled (left c.next.new.self)) c.loop-byte.invariant (ap spelled c.in-Some.ensures.steps) c.put_byte.ensures
