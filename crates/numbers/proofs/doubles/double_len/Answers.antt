use Rattle.std.proofs.Common.{◌≡◌, ◌/◌, ◌^◌, length, nat_abs, ap, ◌∙◌, arith, w64, SFits}
use Rattle.std.proofs.lemmas.Int.{to_z-of_z}
use Rattle.numbers.specs.Signs.{signed_spelling, is_negative}
use Rattle.numbers.proofs.DoublesBack.{length-double}
use Rattle.numbers.proofs.doubles.double_len.Goals as goal

pub returns : goal.returns
returns c =
    let z = c.args.number in
    let s = c.args.scale in
    let f : SFits w64 z = c.ranges.number in
    let whole = simp to_z-of_z at c.whole_part.ensures in
    let front : c.len.result ≡ length (signed_spelling (is_negative z) (nat_abs z / 10 ^ s)) = c.len.ensures.value ∙ ap (λ w. length (signed_spelling w.minus w.magnitude)) whole in
    omega (arith, front, c.from.ensures, c.max.ensures, length-double (is_negative z) (nat_abs z / 10 ^ s) (nat_abs z) s)
