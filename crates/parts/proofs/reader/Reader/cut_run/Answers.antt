use Rattle.std.proofs.Common.{◌≡◌, take, drop, refl, ap, ◌∙◌, arith}
use Rattle.std.specs.List.{prefix_len}
use Rattle.std.proofs.lemmas.List.{take_rest}
use Rattle.parts.specs.Cutting.{in_run}
use Rattle.parts.proofs.reader.Reader.cut_run.Goals as goal

pub returns : goal.returns
returns c =
    let msg = c.args.self.now.message.now in
    let at = c.args.self.now.at in
    let n = c.leading_of-len.result in
    let rest = take_rest msg at in
    let long : n ≡ prefix_len in_run (drop at msg) = c.leading_of-len.ensures.value ∙ ap (prefix_len in_run) rest in
    record { same = refl; next = refl; place = refl; bytes = (λ i. take (long i) (rest i)); at = omega (arith, long) }
