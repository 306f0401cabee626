use Rattle.std.proofs.Common.{◌≡◌, length, take, drop, sym, ap, ◌∙◌, subst, arith}
use Rattle.std.specs.List.{prefix_len}
use Rattle.std.proofs.lemmas.List.{take_rest, take_all}
use Rattle.std.proofs.lemmas.Bool.Decides.{nat_tests}
use Rattle.texts.specs.Digits.{is_digit}
use Rattle.texts.proofs.Fronts.{all_leading}
use Rattle.numbers.specs.Doubles.{AllDigits}
use Rattle.numbers.proofs.doubles.split_fraction.Goals as goal

pub returns-in-46 : goal.returns-in-46
returns-in-46 c =
    let r = c.args.rest.now in
    let cut = take_rest r 1 in
    let ds = drop 1 r in
    let lead = c.leading_of.ensures.value ∙ ap (prefix_len is_digit) cut in
    let all : prefix_len is_digit ds ≡ length ds = omega (arith, ap length cut) in
    let digits : AllDigits ds = subst AllDigits (ap (λ n. take n ds) all ∙ take_all (length ds) ds (omega arith)) (all_leading is_digit ds) in
    (grind (arith, nat_tests), cut, subst AllDigits (sym cut) digits)
