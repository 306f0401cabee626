use Rattle.std.proofs.Common.{◌≡◌, ◌+◌, ◌-◌, ◌≤◌, ◌++◌, length, min, take, drop, sym, ap, ◌∙◌, append_assoc, arith, rules}
use Rattle.std.specs.Slice.Iter.{chunks_rest, chunks_size}
use Rattle.std.proofs.lemmas.List.{drop-drop, length-append}
use borrow.Rule.Slice.PartMut.{put_mid}
use Rattle.std.proofs.lemmas.Slice.{take-put_mid, drop-put_mid}
use Rattle.base64_texts.specs.Base64.{base64_spelling}
use Rattle.base64_texts.proofs.Groups.{spelling_chunk}
use Rattle.base64_texts.proofs.spell.Goals as goal

pub loop-group-preserved : goal.loop-group-preserved
loop-group-preserved c =
    let group = c.in-Some.group.now in
    let here = chunks_rest c.loop-group.group-iterator in
    let more = chunks_rest c.next.new.self in
    let page = c.loop-group.page in
    let to = c.loop-group.to in
    let quad = c.quad.result in
    let cut : here ≡ group ++ more = search rules in
    let size : length group ≡ min (chunks_size c.loop-group.group-iterator) (length here) = search rules in
    let long : length group ≡ min 3 (length (group ++ more)) = size ∙ ap (λ k. min k (length here)) c.loop-group.invariant.3 ∙ ap (λ l. min 3 (length l)) cut in
    let step : base64_spelling here ≡ quad ++ base64_spelling more = ap base64_spelling cut ∙ spelling_chunk group more long ∙ ap (λ q. q ++ base64_spelling more) (sym c.quad.ensures) in
    let four : length quad ≡ 4 = search rules in
    let longer = ap length step ∙ length-append quad (base64_spelling more) in
    let put = c.copy_from_slice.ensures.after in
    let room : to + 4 ≤ length page = omega (arith, four, longer, c.loop-group.invariant.2) in
    let now = put_mid to (to + 4 - to) page c.copy_from_slice.new.self in
    let front : take (to + 4) now ≡ take to page ++ quad = take-put_mid to (to + 4 - to) page c.copy_from_slice.new.self (to + 4) (omega (arith, ap length put, four)) (omega arith) ∙ ap (λ g. take to page ++ g) put in
    let rest : drop (to + 4) now ≡ drop (to + 4) page = drop-put_mid to (to + 4 - to) page c.copy_from_slice.new.self (to + 4) (omega arith) (omega arith) (omega (arith, ap length put, four)) in (
      ap (λ t. t ++ base64_spelling more) front ∙ append_assoc (take to page) quad (base64_spelling more) ∙ ap (λ t. take to page ++ t) (sym step) ∙ c.loop-group.invariant.0,
      rest ∙ sym (drop-drop 4 to page) ∙ ap (drop 4) c.loop-group.invariant.1 ∙ drop-drop 4 to c.args.page.now,
      omega (arith, four, longer, c.loop-group.invariant.2),
      search rules,
    )
