use Rattle.std.proofs.Common.{◌≡◌, ◌+◌, ◌-◌, ◌∷◌, ◌++◌, length, take, drop, set, decimal, sym, ap, ◌∙◌, append-nil, arith, length-drop, length-set, length-take}
use borrow.Rule.Slice.PartMut.{put_mid}
use Rattle.std.proofs.lemmas.List.{drop_all}
use Rattle.numbers.specs.Signs.{signed_spelling}
use Rattle.numbers.proofs.Spelled.{padded_decimal, put_minus}
use Rattle.numbers.proofs.signs.Signed.put.Goals as goal

pub returns-then-self : goal.returns-then-self
returns-then-self c =
    let page = c.args.page.now in
    let m = c.args.self.magnitude in
    let sign = c.if-self.true in
    let all = length (set page 0 45) in
    let same = length-set page 0 45 in
    let long : all ≡ 1 + length (decimal m) = same ∙ c.requires ∙ ap (λ s. length (signed_spelling s m)) sign ∙ omega arith in
    let part : length (take (all - 1) (drop 1 (set page 0 45))) ≡ length (decimal m) = simp (length-take, length-drop) (omega arith) in
    let digits = c.fill_digits.ensures.page ∙ padded_decimal _ m part (omega arith) in
    let none : (45 ∷ decimal m) ++ drop all page ≡ 45 ∷ decimal m = ap (λ l. (45 ∷ decimal m) ++ l) (drop_all all page (omega arith)) ∙ append-nil (45 ∷ decimal m) in
    ap (put_mid 1 (all - 1) (set page 0 45)) digits ∙ put_minus page (decimal m) all long (omega arith) ∙ none ∙ ap (λ s. signed_spelling s m) (sym sign)

pub returns-else-self : goal.returns-else-self
returns-else-self c =
    let m = c.args.self.magnitude in
    let long : length c.args.page.now ≡ length (decimal m) = c.requires ∙ ap (λ s. length (signed_spelling s m)) c.if-self.false in
    c.fill_digits-else-self.ensures.page ∙ padded_decimal _ m long (omega arith) ∙ ap (λ s. signed_spelling s m) (sym c.if-self.false)
