use Rattle.std.proofs.Common.{◌≡◌, ◌+◌, eqb, take, Some, None, sym, ap, ◌∙◌, rules}
use Rattle.std.specs.Option.{option_map}
use borrow.Author.Tests.{tests}
use Rattle.std.proofs.lemmas.Iterator.{YieldsList-from_slice}
use Rattle.std.proofs.lemmas.Iterator.Search.{position_from_yields_List}
use Rattle.characters.specs.References.{referenced}
use Rattle.characters.proofs.Bodies.{reference_found}
use Rattle.characters.proofs.unit.reference.Goals as goal

pub returns-in_err-end-clause-value : goal.returns-in_err-end-clause-value
returns-in_err-end-clause-value c =
    let found = position_from_yields_List (λ b. eqb b 59) _ _ _ c.position.ensures.ran (YieldsList-from_slice c.args.text.now (cc)) (λ x b q k. search (rules, tests)) in
    c.from_residual.ensures ∙ sym (reference_found c.args.text.now None (search rules ∙ found))

pub returns-in_err-c-clause-value : goal.returns-in_err-c-clause-value
returns-in_err-c-clause-value c =
    let found = position_from_yields_List (λ b. eqb b 59) _ _ _ c.position.ensures.ran (YieldsList-from_slice c.args.text.now (cc)) (λ x b q k. search (rules, tests)) in
    let end = c.in_ok-end.end in
    let none : referenced (take end c.args.text.now) ≡ None = sym c.character_of.ensures ∙ c.in_err-c.was in
    c.from_residual-in_err-c.ensures ∙ sym (reference_found c.args.text.now (Some end) (search rules ∙ found) ∙ ap (option_map (λ c. (c, end + 1))) none)

pub returns-clause-value : goal.returns-clause-value
returns-clause-value c =
    let found = position_from_yields_List (λ b. eqb b 59) _ _ _ c.position.ensures.ran (YieldsList-from_slice c.args.text.now (cc)) (λ x b q k. search (rules, tests)) in
    let end = c.in_ok-end.end in
    let some : referenced (take end c.args.text.now) ≡ Some c.in_ok-c.c = sym c.character_of.ensures ∙ c.in_ok-c.was in
    sym (reference_found c.args.text.now (Some end) (search rules ∙ found) ∙ ap (option_map (λ c. (c, end + 1))) some)
