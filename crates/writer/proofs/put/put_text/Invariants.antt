use Rattle.std.specs.List.{flat_map}
use Rattle.held.specs.Texts.{left}
use Rattle.writer.proofs.Places.{PutSome}
use Rattle.writer.proofs.put.put_text.Given as goal

abbrev pub invariant-loop-byte : goal.invariant-loop-byte
invariant-loop-byte g l = PutSome l.initial.pen (flat_map g.S.Spelling.spelled (left l.text)) (flat_map g.S.Spelling.spelled (left l.byte-iterator)) l.pen
