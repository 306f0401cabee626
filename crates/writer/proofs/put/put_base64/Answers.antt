use Rattle.std.proofs.Common.{◌++◌, sym, ap, ◌∙◌}
use Rattle.base64_texts.specs.Base64.{base64_spelling}
use Rattle.held.specs.Texts.{left}
use Rattle.writer.proofs.Groups.{group}
use Rattle.writer.proofs.Places.{some_more}
use Rattle.writer.proofs.put.put_base64.Goals as goal

pub loop-a-preserved : goal.loop-a-preserved
loop-a-preserved c =
    let rest = left c.next-c.new.self in
    let step = group c.in-Some.a c.next-b.result c.next-c.result (left c.loop-a.text) (left c.next.new.self) (left c.next-b.new.self) rest
    c.in-Some.ensures.steps c.next-b.ensures.steps c.next-c.ensures.steps in
    some_more c.quad.result (base64_spelling rest) c.loop-a.invariant (step ∙ ap (λ t. t ++ base64_spelling rest) (sym c.quad.ensures)) c.put.ensures
