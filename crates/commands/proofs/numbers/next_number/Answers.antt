use Rattle.std.proofs.Common.{◌≡◌, ◌<◌, length, take, drop, sym, ap, ◌∙◌, subst, arith}
use Rattle.std.specs.List.{prefix_len}
use Rattle.std.proofs.lemmas.Bool.{eqb-true, eqb-false}
use Rattle.texts.specs.Digits.{is_digit, worth}
use Rattle.commands.specs.Numbers.{capped, Spaced}
use Rattle.commands.proofs.Spaces.{spaced_make, spaced_first, spaced_space}
use Rattle.commands.proofs.numbers.next_number.Goals as goal

pub returns-in_err-rest : goal.returns-in_err-rest
returns-in_err-rest c = rw c.from_residual.ensures (λ n ns sp. let p = spaced_space c.args.text.now ns n sp in c.in_err-rest.ensures p.0 p.1)

pub returns-then-is_empty : goal.returns-then-is_empty
returns-then-is_empty c = λ n ns sp.
    let p = spaced_first c.args.text.now c.in_ok-rest.rest.now ns n c.in_ok-rest.ensures sp in
    let none = eqb-true (length c.split_at.result.0.now) 0 (sym c.if-is_empty.ensures) in
    omega (arith, p.some, c.leading_of.ensures.value, c.split_at.ensures.front_len, none)

pub returns : goal.returns
returns c =
    let text = c.args.text.now in
    let rest = c.in_ok-rest.rest.now in
    let at : c.leading_of.result ≡ prefix_len is_digit rest = c.leading_of.ensures.value in
    let is : c.capped_worth.result ≡ capped (worth (take (prefix_len is_digit rest) rest)) = c.capped_worth.ensures ∙ ap (λ ds. capped (worth ds)) c.split_at.ensures.front ∙ ap (λ k. capped (worth (take k rest))) at in
    let back : c.split_at.result.1.now ≡ drop (prefix_len is_digit rest) rest = c.split_at.ensures.back ∙ ap (λ k. drop k rest) at in
    let any = eqb-false (length c.split_at.result.0.now) 0 (sym c.if-is_empty.ensures) in
    let some : 0 < prefix_len is_digit rest = omega (arith, at, c.split_at.ensures.front_len, any) in (
      (λ ns sp. spaced_make text rest ns c.capped_worth.result c.in_ok-rest.ensures some is (subst (λ l. Spaced l ns) back sp)),
      (λ n ns sp. let p = spaced_first text rest ns n c.in_ok-rest.ensures sp in (is ∙ sym p.value, subst (λ l. Spaced l ns) (sym back) p.others)),
    )
