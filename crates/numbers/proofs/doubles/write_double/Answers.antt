use Rattle.std.proofs.Common.{◌≡◌, ◌+◌, ◌-◌, ◌/◌, ◌^◌, max, cond, eqb, ◌∷◌, ◌++◌, length, take, drop, set, nat_abs, sym, refl, ap, ◌∙◌, arith, length-append, length-drop, length-set, length-take, w64, SFits}
use Rattle.std.proofs.lemmas.Int.{to_z-of_z}
use Rattle.std.proofs.lemmas.Bool.{cond-true, cond-false, eq-eqb, ne_eqb}
use Rattle.texts.specs.Digits.{padded}
use Rattle.numbers.specs.Signs.{signed_spelling, is_negative}
use Rattle.numbers.specs.Doubles.{fraction_spelling}
use Rattle.numbers.proofs.DoublesBack.{length-double, length-fraction, double_reads_back, put_double}
use Rattle.numbers.proofs.doubles.write_double.Goals as goal
use Rattle.numbers.proofs.doubles.write_double.Goals.{then-scale-eq0, else-scale-eq0}

pub returns-then-len-page-clause-page : goal.returns-then-len-page-clause-page
returns-then-len-page-clause-page c =
    let z = c.args.number in
    let s = c.args.scale in
    let f : SFits w64 z = c.ranges.number in
    let whole = simp to_z-of_z at c.whole_part-whole.ensures in
    let front = c.len-point.ensures.value ∙ ap (λ w. length (signed_spelling w.minus w.magnitude)) whole in
    (omega (arith, front, c.from.ensures, c.max.ensures, length-double (is_negative z) (nat_abs z / 10 ^ s) (nat_abs z) s), refl)

pub returns-then-len-page-clause-reads_back : goal.returns-then-len-page-clause-reads_back
returns-then-len-page-clause-reads_back c = double_reads_back c.args.number c.args.scale

pub returns-clause-page : goal.returns-clause-page
returns-clause-page c =
    let z = c.args.number in
    let s = c.args.scale in
    let n = nat_abs z in
    let old = c.args.page.now in
    let point = c.len-point.result in
    let len = point + 1 + c.from.result in
    let f : SFits w64 z = c.ranges.number in
    let whole = simp to_z-of_z at c.whole_part-whole.ensures in
    let front = signed_spelling (is_negative z) (n / 10 ^ s) in
    let at : point ≡ length front = c.len-point.ensures.value ∙ ap (λ w. length (signed_spelling w.minus w.magnitude)) whole in
    let wide : c.from.result ≡ max s 1 = c.from.ensures ∙ c.max.ensures in
    let all : len ≡ length (front ++ (46 ∷ fraction_spelling n s)) = omega (arith, at, wide, length-double (is_negative z) (n / 10 ^ s) n s) in
    let page = c.put.new.page ++ drop point old in
    let put : page ≡ front ++ drop point old = ap (λ l. l ++ drop point old) (c.put.ensures ∙ ap (λ w. signed_spelling w.minus w.magnitude) whole) in
    let kept : length page ≡ length old = omega (arith, ap length put, length-append front (drop point old), length-drop point old) in
    let digits : c.if-scale-eq0.fraction ≡ cond (eqb s 0) 0 n = elim c.if-scale-eq0.branch [
      | then-scale-eq0 w ↦ w.fraction-is ∙ sym (cond-true (eqb s 0) 0 n (eq-eqb s 0 w.if-scale-eq0.true))
      | else-scale-eq0 w ↦ w.fraction-is ∙ (simp to_z-of_z at w.unsigned_abs-fraction.ensures.value) ∙ sym (cond-false (eqb s 0) 0 n (ne_eqb s 0 w.if-scale-eq0.false))
    ] in
    let part : length (take (len - (point + 1)) (drop (point + 1) (set page point 46))) ≡ max s 1 = simp (length-take, length-drop, length-set) (omega (arith, kept, wide)) in
    let filled : c.fill_digits.new.page ≡ fraction_spelling n s = c.fill_digits.ensures.page ∙ (λ i. padded (part i) (digits i)) in (
      all,
      omega (arith, all),
      put_double front (fraction_spelling n s) old page c.fill_digits.new.page point len at (omega (arith, wide, length-fraction n s)) (omega arith) put filled ∙ ap (λ k. (front ++ (46 ∷ fraction_spelling n s)) ++ drop k old) all,
    )

pub returns-clause-reads_back : goal.returns-clause-reads_back
returns-clause-reads_back c = double_reads_back c.args.number c.args.scale
