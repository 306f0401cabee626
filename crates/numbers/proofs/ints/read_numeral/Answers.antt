use Rattle.std.proofs.Common.{◌≡◌, ◌+◌, ◌*◌, ◌≤◌, false, eqb, length, drop, sym, ap, ◌∙◌, arith}
use Rattle.std.specs.List.{prefix_len}
use Rattle.std.proofs.lemmas.List.{at_drop_more, at_drop_all}
use Rattle.std.proofs.lemmas.List.Sums.{prefix_len-drop_yes, prefix_len-drop_no, prefix_len-drop_all, prefix_len-le-length}
use Rattle.std.proofs.lemmas.Bool.{ne_eqb, lt-leb, eq-eqb, le-leb, and_right, and_left, and_from}
use Rattle.std.proofs.lemmas.Bool.Decides.{nat_tests}
use Rattle.texts.specs.Digits.{is_digit, worth, worth_after}
use Rattle.texts.proofs.Numerals.{worth_after-ge}
use Rattle.numbers.specs.declared.ints.TheConstants.{LARGEST}
use Rattle.numbers.proofs.ints.read_numeral.Goals as goal

pub returns-then-not-is_ascii_digit : goal.returns-then-not-is_ascii_digit
returns-then-not-is_ascii_digit c =
    let ds = c.args.digits.now in
    let i = c.loop-digit.digit-index in
    let stop = prefix_len-drop_no is_digit ds i 0 (omega arith) (sym c.if-not-is_ascii_digit.ensures.value) in
    let short : eqb (prefix_len is_digit ds) (length ds) ≡ false = ne_eqb _ _ (λ e. omega (arith, e, stop, c.loop-digit.invariant.2)) in
    and_left _ _ (and_right _ _ short)

pub overflow_sub-digit : goal.overflow_sub-digit
overflow_sub-digit c = let p = c.if-not-is_ascii_digit.ensures.value in grind (arith, nat_tests)

pub loop-digit-preserved : goal.loop-digit-preserved
loop-digit-preserved c =
    let ds = c.args.digits.now in
    let i = c.loop-digit.digit-index in
    let n = c.loop-digit.n in
    let go = prefix_len-drop_yes is_digit ds i 0 (omega arith) (sym c.if-not-is_ascii_digit.ensures.value) in (
      ap (λ d. worth_after (n * 10 + d) (drop (i + 1) ds)) c.from.ensures ∙ sym (at_drop_more (worth_after n) ds i 0 (omega arith)) ∙ c.loop-digit.invariant.0,
      c.if-n-gt-LARGEST.false,
      omega (arith, go, c.loop-digit.invariant.2),
    )

pub returns-then-n-gt-LARGEST : goal.returns-then-n-gt-LARGEST
returns-then-n-gt-LARGEST c =
    let ds = c.args.digits.now in
    let i = c.loop-digit.digit-index in
    let n = c.loop-digit.n in
    let whole : worth_after (n * 10 + c.from.result) (drop (i + 1) ds) ≡ worth ds = ap (λ d. worth_after (n * 10 + d) (drop (i + 1) ds)) c.from.ensures ∙ sym (at_drop_more (worth_after n) ds i 0 (omega arith)) ∙ c.loop-digit.invariant.0 in
    let more = worth_after-ge (n * 10 + c.from.result) (drop (i + 1) ds) in
    and_right _ _ (lt-leb (worth ds) LARGEST (omega (arith, whole, more, c.if-n-gt-LARGEST.true)))

pub returns : goal.returns
returns c =
    let ds = c.args.digits.now in
    let i = c.loop-digit.digit-index in
    let n = c.loop-digit.n in
    let whole : n ≡ worth ds = sym (at_drop_all (worth_after n) ds i (omega arith)) ∙ c.loop-digit.invariant.0 in
    let all = prefix_len-drop_all is_digit ds i (omega arith) in
    let filled = c.if-is_empty.ensures in
    let some : 1 ≤ length ds = grind (arith, nat_tests) in
    let most = prefix_len-le-length is_digit ds in
    let same : prefix_len is_digit ds ≡ length ds = omega (arith, all, c.loop-digit.invariant.2) in
    (whole, and_from _ _ (and_from _ _ (le-leb 1 (length ds) some) (eq-eqb _ _ same)) (le-leb _ _ (omega (arith, whole, c.loop-digit.invariant.1))))
