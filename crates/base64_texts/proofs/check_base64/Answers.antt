use Rattle.std.proofs.Common.{◌≡◌, ℕ, ◌%◌, ◌^◌, true, ◌&&◌, eqb, leb, List, length, sym, ap, ◌∙◌, subst, arith, rules}
use Rattle.std.specs.List.{prefix_len}
use Rattle.base64_texts.specs.Base64.{is_pad, nonblank, padding, sextets, last_or}
use Rattle.base64_texts.proofs.Groups.{canonical, spells, length-nonblank, length-packed, passes}
use Rattle.base64_texts.proofs.check_base64.Goals as goal

pub returns-in_err-pads-clause-spells : goal.returns-in_err-pads-clause-spells
returns-in_err-pads-clause-spells c = spells c.args.text.now

pub returns-then-count-pads-ne0-clause-spells : goal.returns-then-count-pads-ne0-clause-spells
returns-then-count-pads-ne0-clause-spells c = spells c.args.text.now

-- the end of a text, as the program and as the definition put it
ends : (text : List ℕ) (last pads : ℕ) → last ≡ last_or 0 (sextets text) → pads ≡ length (padding text)
    → (leb pads 2 && eqb (last % (4 ^ pads)) 0) ≡ (leb (length (padding text)) 2 && eqb (last_or 0 (sextets text) % (4 ^ length (padding text))) 0)
ends text last pads l p = λ i. leb (p i) 2 && eqb (l i % (4 ^ p i)) 0

pub returns-clause-verdict : goal.returns-clause-verdict
returns-clause-verdict c =
    let text = c.args.text.now in
    let r = c.front_of-count.ensures.rest in
    let pads : c.in_ok-pads.pads ≡ length (padding text) = search rules ∙ ap length r in
    let count = c.front_of-count.ensures.count in
    let long = length-nonblank text in
    let all : prefix_len is_pad (padding text) ≡ length (padding text) = subst (λ ps. prefix_len is_pad ps ≡ length ps) r (search rules) in
    let whole : length (nonblank text) % 4 ≡ 0 = ap (λ n. n % 4) (omega (arith, pads, count, long)) ∙ c.if-count-pads-ne0.false in
    let end : (leb (length (padding text)) 2 && eqb (last_or 0 (sextets text) % (4 ^ length (padding text))) 0) ≡ true = sym (ends text c.front_of-count.result.last c.in_ok-pads.pads c.front_of-count.ensures.last pads) ∙ sym c.if-not-ends_well.ensures in
    (passes (prefix_len is_pad (padding text)) (length (padding text)) (length (nonblank text)) (last_or 0 (sextets text) % (4 ^ length (padding text))) all whole end, omega (arith, count, length-packed (sextets text)))

pub returns-clause-spells : goal.returns-clause-spells
returns-clause-spells c = spells c.args.text.now

pub returns-clause-canonical : goal.returns-clause-canonical
returns-clause-canonical c = canonical c.args.text.now
