use Rattle.std.proofs.Common.{◌≡◌, ◌∷◌, length, drop, sym, ap, ◌∙◌, arith, rules}
use Rattle.std.proofs.lemmas.List.{take_rest}
use Rattle.characters.specs.Decoding.{decoded}
use Rattle.characters.proofs.Steps.{decoded_some}
use Rattle.characters.proofs.cursor.CharactersIterator.next.Goals as goal
use Rattle.std.proofs.iter.Next.{firm}

pub returns : goal.returns
returns c =
    let behind = c.in_ok-first.behind.now in
    let first : c.args.self.now.rest.now ≡ c.in_ok-first.first.now ∷ behind = search rules in
    let step : decoded c.args.self.now.rest.now ≡ c.in_ok-c.c ∷ decoded (drop c.in_ok-c.more behind) = ap decoded first ∙ decoded_some c.in_ok-first.first.now behind (c.in_ok-c.c, c.in_ok-c.more) (sym c.unit.ensures.value ∙ c.in_ok-c.was) in
    let on = step ∙ ap (λ l. c.in_ok-c.c ∷ decoded l) (sym (take_rest behind c.in_ok-c.more)) in
    let fewer = ap length on in
    record { steps = on; goes = firm ((tt, tt, omega arith)) (λ h. search rules) }
