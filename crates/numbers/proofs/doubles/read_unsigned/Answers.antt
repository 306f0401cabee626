use Rattle.std.proofs.Common.{◌≡◌, true, leb, length, take, drop, sym, ap, ◌∙◌, subst, arith}
use Rattle.std.specs.List.{prefix_len}
use Rattle.std.proofs.lemmas.Result.{MatchResult-weaker}
use Rattle.std.proofs.lemmas.Bool.{and_right, and_from, le-leb}
use Rattle.std.proofs.lemmas.Bool.Decides.{nat_tests}
use Rattle.texts.specs.Digits.{is_digit, worth}
use Rattle.texts.proofs.Fronts.{all_leading}
use Rattle.numbers.specs.Doubles.{AllDigits, is_fraction, behind, whole, fraction, counted, counted_fraction}
use Rattle.numbers.proofs.doubles.read_unsigned.Goals as goal

pub count_digits-requires : goal.count_digits-requires
count_digits-requires c =
    let bs = c.args.text.now in
    let w : c.split_at.result.0.now ≡ whole bs = c.split_at.ensures.front ∙ ap (λ k. take k bs) c.leading_of.ensures.value in
    (subst AllDigits (sym w) (all_leading is_digit bs), c.in_ok-split_fraction.ensures.2)

pub returns : goal.returns
returns c =
    let bs = c.args.text.now in
    let w : c.split_at.result.0.now ≡ whole bs = c.split_at.ensures.front ∙ ap (λ k. take k bs) c.leading_of.ensures.value in
    let r : c.split_at.result.1.now ≡ behind bs = c.split_at.ensures.back ∙ ap (λ k. drop k bs) c.leading_of.ensures.value in
    let f : c.in_ok-split_fraction.field-0.now ≡ fraction bs = c.in_ok-split_fraction.ensures.1 ∙ ap (drop 1) r in
    let some : leb 1 (prefix_len is_digit bs) ≡ true = le-leb 1 (prefix_len is_digit bs) (grind (arith, nat_tests)) in
    let good : is_fraction (behind bs) ≡ true = sym (ap is_fraction r) ∙ c.in_ok-split_fraction.ensures.0 in
    let few = leb (length (counted (whole bs) (fraction bs))) 18 in
    MatchResult-weaker c.count_digits.result c.count_digits.ensures
    (λ p h. (and_from _ _ some (and_from _ few good (sym (λ i. leb (length (counted (w i) (f i))) 18) ∙ h.0)), h.1 ∙ (λ i. worth (counted (w i) (f i))), h.2 ∙ ap (λ l. length (counted_fraction l)) f, h.3))
    (λ e h. and_right _ _ (and_right _ few (sym (λ i. leb (length (counted (w i) (f i))) 18) ∙ h)))
