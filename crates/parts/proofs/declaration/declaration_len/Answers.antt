use Rattle.std.proofs.Common.{rules, tests, ◌≡◌, ◌+◌, drop, sym, ap, ◌∙◌, arith}
use Rattle.std.specs.Option.{option_map}
use Rattle.std.specs.List.{position}
use Rattle.std.proofs.lemmas.List.{take_rest}
use Rattle.std.proofs.lemmas.Iterator.Search.{position_from_yields_List}
use Rattle.parts.proofs.Closed.{undeclared, declared, pairs, is_close, all_windows}
use Rattle.parts.proofs.declaration.declaration_len.Goals as goal

pub returns-then-not-is_declared : goal.returns-then-not-is_declared
returns-then-not-is_declared c = record { value = sym (undeclared c.args.message.now (sym c.if-not-is_declared.ensures)); within = omega arith }

pub returns-clause-value : goal.returns-clause-value
returns-clause-value c =
    let msg = c.args.message.now in
    let rest = c.windows.ensures.rest ∙ take_rest msg 5 in
    let first : c.position.result ≡ position is_close (pairs (drop 5 msg)) =
    position_from_yields_List is_close _ _ c.position.result c.position.ensures.ran (all_windows c.windows.result (drop 5 msg) rest c.windows.ensures.size) (λ x b q k. search (rules, tests)) in
    let mapped : c.map.result ≡ option_map (λ n. n + 7) c.position.result = search rules in
    mapped ∙ ap (option_map (λ n. n + 7)) first ∙ sym (declared msg (sym c.if-not-is_declared.ensures))
