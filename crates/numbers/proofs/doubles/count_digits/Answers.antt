use Rattle.std.proofs.Common.{◌≡◌, ◌-◌, ◌≤◌, length, take, drop, sym, ap, ◌∙◌, arith, length-append}
use Rattle.std.proofs.Math.Nat.{pow-le-pow_right}
use Rattle.std.proofs.lemmas.List.{take_rest}
use Rattle.std.proofs.lemmas.Bool.{le-leb}
use Rattle.texts.specs.Digits.{worth, worth_after}
use Rattle.texts.proofs.Numerals.{worth_after-append}
use Rattle.numbers.specs.Doubles.{counted_whole, counted_fraction, counted}
use Rattle.numbers.proofs.doubles.count_digits.Goals as goal

pub returns : goal.returns
returns c =
    let ws = c.args.whole.now in
    let fs = c.args.fraction.now in
    let zeros = c.leading_of.result in
    let w : take (length ws - zeros) (drop zeros ws) ≡ counted_whole ws = take_rest ws zeros ∙ ap (λ k. drop k ws) c.leading_of.ensures.value in
    let f : take (length fs - c.trailing_of.result) fs ≡ counted_fraction fs = ap (λ k. take (length fs - k) fs) c.trailing_of.ensures.value in
    let value : c.worth_after-n-2.result ≡ worth (counted ws fs) =
    c.worth_after-n-2.ensures.value
    ∙ (λ i. worth_after ((c.worth_after-n.ensures.value ∙ ap worth w) i) (f i))
    ∙ sym (worth_after-append 0 (counted_whole ws) (counted_fraction fs)) in
    let few = c.if-whole-fraction-gt-MOST.false in
    let size : length (counted ws fs) ≤ 18 = omega (arith, length-append (counted_whole ws) (counted_fraction fs), ap length w, ap length f, few) in
    (le-leb _ _ size, value, ap length f, omega (arith, c.worth_after-n-2.ensures.bound, pow-le-pow_right {n = 10} (omega arith) few))
