use Rattle.std.proofs.Common.{rules, sym}
use Rattle.std.proofs.lemmas.List.{take_all}
use Rattle.characters.specs.Decoding.{decoded}
use Rattle.characters.specs.Left.{left as toCome, Gives}
use Rattle.characters.proofs.Equal.{Decides-from_try_fold, characters_yield}
use Rattle.characters.proofs.compare.same_characters.Goals as goal

-- the code takes no slice: `take_all` lets one pass that leaves nothing out, so that a planted one is refused for what it cuts
pub returns : goal.returns
returns c =
    let a = decoded c.args.a.now in
    let d = Decides-from_try_fold Gives _ _ toCome (decoded c.args.b.now) a c.try_fold.ensures.ran (characters_yield a (search rules)) (search (rules, take_all)) (λ p h t x v e. search rules) (search rules) in
    (λ yes. sym (d.0 yes), λ same. d.1 (sym same))
