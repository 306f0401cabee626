use Rattle.std.proofs.Common.{◌≡◌, ℕ, ◌/◌, ◌^◌, ◌<◌, ap, nat_abs, w64, SFits, SomeIff, Some, Option, rules, subst, arith}
use Rattle.std.proofs.Math.Nat.{one-le-pow}
use Rattle.std.proofs.lemmas.Int.{to_z-of_z}
use Rattle.numbers.proofs.doubles.whole_part.Goals as goal

power_pos : (r : Option ℕ) (e x : ℕ) (P : Type 0) → SomeIff r P (10 ^ e) → r ≡ Some x → 0 < x
power_pos r e x P h is = omega (arith, (subst (λ o. SomeIff o P (10 ^ e)) is h).1, one-le-pow e 10 (omega arith))

pub map_or-magnitude-requires : goal.map_or-magnitude-requires
map_or-magnitude-requires c = λ x is _ _ _ _ _. power_pos c.checked_pow.result c.from.result x _ c.checked_pow.ensures is

pub returns : goal.returns
returns c =
    let f : SFits w64 c.args.number = c.ranges.number in
    let number = simp to_z-of_z at c.from-minus.ensures in
    let whole : c.map_or-magnitude.result ≡ nat_abs c.args.number / 10 ^ c.args.scale = search rules in
    (λ i. record { minus = ap (λ n. n.minus) number i; magnitude = whole i })
