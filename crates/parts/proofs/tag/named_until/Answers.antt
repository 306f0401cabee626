use Rattle.std.proofs.Common.{◌≡◌, take, drop, sym, ap, ◌∙◌, arith}
use Rattle.std.specs.List.{prefix_len}
use Rattle.texts.specs.Bytes.{is_blank}
use Rattle.parts.specs.Tags.{named, name_len}
use Rattle.parts.proofs.tag.named_until.Goals as goal

pub returns-in_err-name : goal.returns-in_err-name
returns-in_err-name c =
    let bs = c.args.bytes.now in
    let name = ap named (sym (c.split_at.ensures.front ∙ ap (λ k. take k bs) c.leading_of-len.ensures.value)) in
    rw c.from_residual.ensures (name ∙ sym c.in_err-name.ensures.value)

pub returns : goal.returns
returns c =
    let bs = c.args.bytes.now in
    let name = ap named (sym (c.split_at.ensures.front ∙ ap (λ k. take k bs) c.leading_of-len.ensures.value)) in
    let rest : c.split_at.result.1.now ≡ drop (name_len bs) bs = c.split_at.ensures.back ∙ ap (λ k. drop k bs) c.leading_of-len.ensures.value in
    let blanks : c.leading_of.result ≡ prefix_len is_blank (drop (name_len bs) bs) = c.leading_of.ensures.value ∙ ap (prefix_len is_blank) rest in
    (name ∙ sym c.in_ok-name.ensures.value, omega (arith, c.leading_of-len.ensures.value, blanks), omega (arith, c.leading_of.ensures.bound, c.split_at.ensures.back_len))
