use Rattle.std.proofs.Common.{◌≡◌, ℕ, suc, ◌+◌, ◌*◌, ◌^◌, ◌<◌, ◌≤◌, length, drop, sym, ap, ◌∙◌, pow-suc, arith}
use native.Mathlib.Nat.{pow-le-pow_right}
use Rattle.std.proofs.lemmas.List.{at_drop_more, at_drop_all}
use Rattle.texts.specs.Digits.{worth_after}
use Rattle.texts.proofs.Numerals.{digit_at}
use Rattle.numbers.proofs.doubles.worth_after.Goals as goal

small : (m k : ℕ) → m < 10 ^ k → k ≤ 17 → m < 100000000000000000
small m k h le = let p : 10 ^ k ≤ 10 ^ 17 = pow-le-pow_right (omega arith) le in omega arith

pub overflow_sub-digit : goal.overflow_sub-digit
overflow_sub-digit c = (digit_at c.args.digits.now c.loop-digit.digit-index c.requires.1.0 (omega arith)).0

pub overflow_mul-sum : goal.overflow_mul-sum
overflow_mul-sum c = let s = small c.loop-digit.sum (c.args.done + c.loop-digit.digit-index) c.loop-digit.invariant.1 (omega arith) in omega arith

pub overflow_add-sum : goal.overflow_add-sum
overflow_add-sum c =
    let s = small c.loop-digit.sum (c.args.done + c.loop-digit.digit-index) c.loop-digit.invariant.1 (omega arith) in
    let d = digit_at c.args.digits.now c.loop-digit.digit-index c.requires.1.0 (omega arith) in
    omega (arith, c.from.ensures)

pub loop-digit-preserved : goal.loop-digit-preserved
loop-digit-preserved c =
    let ds = c.args.digits.now in
    let i = c.loop-digit.digit-index in
    let sum = c.loop-digit.sum in
    let k = c.args.done in
    let d = digit_at ds i c.requires.1.0 (omega arith) in
    let up : k + (i + 1) ≡ suc (k + i) = omega arith in
    let p : 10 ^ (k + (i + 1)) ≡ 10 ^ (k + i) * 10 = ap (λ e. 10 ^ e) up ∙ pow-suc 10 (k + i) in (
      ap (λ x. worth_after (sum * 10 + x) (drop (i + 1) ds)) c.from.ensures ∙ sym (at_drop_more (worth_after sum) ds i 0 (omega arith)) ∙ c.loop-digit.invariant.0,
      omega (arith, c.loop-digit.invariant.1, c.from.ensures),
    )

pub returns : goal.returns
returns c =
    let ds = c.args.digits.now in
    let i = c.loop-digit.digit-index in
    let all : i ≡ length ds = omega arith in
    record {
      value = sym (at_drop_all (worth_after c.loop-digit.sum) ds i (omega arith)) ∙ c.loop-digit.invariant.0;
      bound = rw all at c.loop-digit.invariant.1;
    }
