use Rattle.std.proofs.Common.{◌≡◌, ℕ, suc, ◌+◌, ◌-◌, ◌/◌, ◌%◌, ◌^◌, ◌<◌, List, [], ◌∷◌, ◌++◌, length, drop, set, sym, refl, ap, ◌∙◌, append_assoc, append-nil, div-one, arith}
use native.Mathlib.Nat.{pow-succ', div-div-eq-div-mul}
use Rattle.std.proofs.lemmas.List.{drop_all, drop-set}
use Rattle.texts.specs.Digits.{padded}
use Rattle.texts.proofs.digits.fill_digits.Goals as goal

pub loop-i-init : goal.loop-i-init
loop-i-init c =
    let page = c.args.page.now in
    let digits = padded (length page) c.args.n in
    (ap (λ l. digits ++ l) (drop_all (length page) page (omega arith)) ∙ append-nil digits, refl)

-- one digit moves from the number to the page
moved : (i n : ℕ) (page : List ℕ) → i < length page →
    padded i (n / 10) ++ drop i (set page i (48 + n % 10)) ≡ padded (suc i) n ++ drop (suc i) page
moved i n page h =
    let more : i + 1 ≡ suc i = omega arith in
    ap (λ l. padded i (n / 10) ++ l) (drop-set page i (48 + n % 10) h ∙ ap (λ k. (48 + n % 10) ∷ drop k page) more)
    ∙ sym (append_assoc (padded i (n / 10)) ((48 + n % 10) ∷ []) (drop (suc i) page))

fewer : (i n : ℕ) → n / 10 / 10 ^ i ≡ n / 10 ^ suc i
fewer i n = div-div-eq-div-mul n 10 (10 ^ i) ∙ ap (λ k. n / k) (sym (pow-succ' 10 i))

pub loop-i-preserved : goal.loop-i-preserved
loop-i-preserved c =
    let i = c.loop-i.i in
    let n = c.loop-i.rest in
    let page = c.loop-i.page in
    let back : suc (i - 1) ≡ i = omega arith in (
      moved (i - 1) n page (omega arith) ∙ ap (λ k. padded k n ++ drop k page) back ∙ c.loop-i.invariant.0,
      fewer (i - 1) n ∙ ap (λ k. n / 10 ^ k) back ∙ c.loop-i.invariant.1,
    )

pub returns : goal.returns
returns c =
    let n = c.loop-i.rest in
    let none : 0 ≡ c.loop-i.i = omega arith in
    record {
      page = ap (λ k. padded k n ++ drop k c.loop-i.page) none ∙ c.loop-i.invariant.0;
      rest = sym (div-one n) ∙ ap (λ k. n / 10 ^ k) none ∙ c.loop-i.invariant.1;
    }
