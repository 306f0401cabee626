use Rattle.std.proofs.Common.{◌≡◌, length, get_or, take, drop, refl, sym, ap, ◌∙◌, ◌-◌, add-zero, arith}
use Rattle.std.proofs.lemmas.Bool.Decides.{Decides-eqb, nat_tests}
use Rattle.std.proofs.lemmas.List.{take_at, take_rest, get_or-drop}
use Rattle.std.proofs.lemmas.Slice.Eq.{starts_is}
use Rattle.parts.specs.Names.{spelled}
use Rattle.parts.specs.Tags.{AtFront}
use Rattle.parts.proofs.Found.{at_front}
use Rattle.parts.proofs.tag.ended.Goals as goal

pub returns-in-62 : goal.returns-in-62
returns-in-62 c =
    let bs = c.args.bytes.now in
    let n = c.args.name in
    let word = c.spelling-spelled.result.now in
    let is : word ≡ spelled n = c.spelling-spelled.ensures in
    let begins = (starts_is Decides-eqb bs word c.starts_with.result c.starts_with.ensures.value).0 c.if-not-starts_with.false in
    let front : word ≡ take (length word) bs = sym (ap (take (length word)) begins ∙ take_at word (drop (length word) bs) (length word) refl) in
    let here : spelled n ≡ take (length (spelled n)) bs = sym is ∙ front ∙ ap (λ w. take (length w) bs) is in
    let next : get_or bs (length (spelled n)) 0 ≡ get_or (take (length bs - length word) (drop (length word) bs)) 0 0 =
    ap (λ w. get_or bs (length w) 0) (sym is)
    ∙ sym (ap (λ l. get_or l 0 0) (take_rest bs (length word)) ∙ get_or-drop (length word) bs 0 0 ∙ ap (λ k. get_or bs k 0) (add-zero (length word))) in
    let c' = get_or (take (length bs - length word) (drop (length word) bs)) 0 0 in
    let it : AtFront bs (n, length (spelled n)) = at_front bs n c' (grind (arith, nat_tests)) (grind (arith, nat_tests)) (grind (arith, nat_tests)) here next in
    let long = ap length is in
    (it.0, omega (arith, it.1, long), omega (arith, it.2, long))
