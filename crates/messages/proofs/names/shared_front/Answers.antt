use Rattle.std.proofs.Common.{◌≡◌, ℕ, Bool, List, [], ◌∷◌, refl, ◌∙◌, rules, tests}
use Rattle.std.specs.List.{prefix_len, common_prefix_len, zip}
use Rattle.std.proofs.lemmas.Iterator.{YieldsList-from_slice, YieldsList-from_zip}
use Rattle.std.proofs.lemmas.Iterator.Consumers.{YieldsList-at, count_from_yields_List}
use Rattle.std.proofs.lemmas.Iterator.Search.{YieldsList-from_take_while}
use Rattle.std.proofs.lemmas.List.Folds.{length-prefix_len}
use Rattle.messages.specs.Order.{same_plain}
use Rattle.messages.proofs.names.shared_front.Goals as goal

-- the front of the pairs is the front that both share
paired : (xs ys : List ℕ) → prefix_len (λ (p : ℕ × ℕ). same_plain p.0 p.1) (zip xs ys) ≡ common_prefix_len same_plain xs ys
paired [] ys = refl
paired (x ∷ xs) [] = refl
paired (x ∷ xs) (y ∷ ys) = rw (paired xs ys)

pub returns-clause-value : goal.returns-clause-value
returns-clause-value c =
    let test : ℕ × ℕ → Bool = λ p. same_plain p.0 p.1 in
    let a = c.args.a.now in
    let b = c.args.b.now in
    count_from_yields_List c.take_while.result c.count.result c.count.ensures.ran
    (YieldsList-from_take_while _ test (YieldsList-at c.take_while.ensures.source (YieldsList-from_zip (YieldsList-from_slice a (cc)) (YieldsList-from_slice b (cc)))) c.take_while.ensures.closure c.take_while.ensures.done (λ x r q k. search (rules, tests)))
    ∙ length-prefix_len test (zip a b) ∙ paired a b
