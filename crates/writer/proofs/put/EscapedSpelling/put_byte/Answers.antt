use Rattle.std.proofs.Common.{◌≡◌, Some, None, sym, ap, ◌∙◌, subst}
use Rattle.characters.specs.Spelling.{reference_for}
use Rattle.characters.proofs.Pages.{escape_some, escape_none}
use Rattle.writer.specs.Pages.{Put}
use Rattle.writer.proofs.put.EscapedSpelling.put_byte.Goals as goal

pub returns-in-Some : goal.returns-in-Some
returns-in-Some c =
    let w = c.in-Some.reference.now in
    let e : reference_for c.args.byte ≡ Some w = ap reference_for (sym c.from.ensures) ∙ sym c.in-Some.ensures in
    subst (λ t. Put c.args.pen.now t c.put.new.self) (c.as_bytes.ensures.value ∙ sym (escape_some c.args.byte w e)) c.put.ensures

pub returns-in-None : goal.returns-in-None
returns-in-None c =
    let e : reference_for c.args.byte ≡ None = ap reference_for (sym c.from.ensures) ∙ sym c.in-None.ensures in
    subst (λ t. Put c.args.pen.now t c.put-in-None.new.self) (sym (escape_none c.args.byte e)) c.put-in-None.ensures
