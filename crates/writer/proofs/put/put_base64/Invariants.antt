use Rattle.std.proofs.Common.{length}
use Rattle.base64_texts.specs.Base64.{base64_spelling}
use Rattle.held.specs.Texts.{left}
use Rattle.writer.proofs.Places.{PutSome}
use Rattle.writer.proofs.put.put_base64.Given as goal

abbrev pub invariant-loop-a : goal.invariant-loop-a
invariant-loop-a l = PutSome l.initial.pen (base64_spelling (left l.initial.text)) (base64_spelling (left l.text)) l.pen

abbrev pub decreases-loop-a : goal.decreases-loop-a
decreases-loop-a l = length (left l.text)
