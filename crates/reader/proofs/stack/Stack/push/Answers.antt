use Rattle.std.proofs.Common.{◌∷◌, ap, ◌∙◌, rules, ◌<◌, length}
use Rattle.reader.proofs.Frames.{stack_push}
use Rattle.reader.proofs.stack.Stack.push.Goals as goal

pub returns : goal.returns
returns c =
    let s = c.self.inside in
    let room : s.depth < length s.frames = search rules in
    stack_push s.frames s.depth c.args.frame room ∙ ap (λ fs. c.args.frame ∷ fs) c.self.view_is
