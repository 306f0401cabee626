use Rattle.std.proofs.Common.{rules}
use Rattle.std.proofs.lemmas.Iterator.{YieldsList-from_slice}
use Rattle.std.proofs.lemmas.Iterator.Consumers.{YieldsList-from_copied}
use Rattle.std.proofs.lemmas.List.{take_all}
use Rattle.characters.specs.Decoding.{decoded}
use Rattle.characters.specs.Left.{left as toCome}
use Rattle.characters.proofs.Equal.{Decides-from_try_fold}
use Rattle.characters.proofs.compare.characters_are.Goals as goal

-- the code takes no slice: `take_all` lets one pass that leaves nothing out, so that a planted one is refused for what it cuts
pub returns : goal.returns
returns c =
    let plain = c.args.plain.now in
    Decides-from_try_fold _ c.copied.result _ toCome (decoded c.args.text.now) plain c.try_fold.ensures.ran (YieldsList-from_copied (YieldsList-from_slice plain cc)) (search (rules, take_all)) (λ p h t x v e. search rules) (search rules)
