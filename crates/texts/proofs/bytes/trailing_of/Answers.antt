use Rattle.std.proofs.Common.{rules, ◌≡◌, reverse, ◌∙◌, arith}
use Rattle.std.specs.List.{suffix_len}
use Rattle.std.proofs.lemmas.Iterator.Adapters.{YieldsList-from_rev_slice}
use Rattle.std.proofs.lemmas.Iterator.Consumers.{count_from_yields_List}
use Rattle.std.proofs.lemmas.Iterator.Search.{YieldsList-from_take_while}
use Rattle.std.proofs.lemmas.List.Folds.{length-prefix_len}
use Rattle.std.proofs.lemmas.List.Sums.{suffix_len-le-length}
use Rattle.texts.proofs.bytes.trailing_of.Goals as goal

-- the check finds this alone, but not with a `min` or a sum behind it: told here, so that a planted one is refused for its number
pub returns : goal.returns
returns g c =
    let p = g.C.Class.member in
    let bytes = c.args.bytes.now in
    let counted : c.count.result ≡ suffix_len p bytes =
    count_from_yields_List _ c.count.result c.count.ensures.ran (YieldsList-from_take_while _ p (YieldsList-from_rev_slice bytes cc) c.take_while.ensures.closure c.take_while.ensures.done (λ x b q k. search rules)) ∙ length-prefix_len p (reverse bytes) in
    let few = suffix_len-le-length p bytes in
    record { value = search (rules, arith); bound = search (rules, arith) }
