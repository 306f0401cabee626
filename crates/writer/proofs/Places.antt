-- Bytes put at a place of a page, one behind another.
use Rattle.std.proofs.Common.{◌≡◌, ℕ, ◌+◌, ◌≤◌, List, [], ◌++◌, length, take, drop, sym, refl, ap, ◌∙◌, append_assoc, arith, length-append}
use Rattle.std.proofs.lemmas.List.{drop-drop, drop_at, take_at, length-take-le, take-append-drop}
use Rattle.writer.specs.Pages.{pasted, Put}
use Rattle.writer.specs.declared.pen.Pen.{Pen}

-- nothing
pub put_none : (p : Pen) → Put p [] p
put_none p = record {
  same_page = refl;
  long = refl;
  place = omega arith;
  stands = λ _ le. sym (let here : p.place + 0 ≡ p.place = omega arith in ap (λ k. take p.place p.page.now ++ drop k p.page.now) here ∙ take-append-drop p.place p.page.now);
}

-- two pieces, the second behind the first
joins : (page x y : List ℕ) (at : ℕ) → at + length x ≤ length page →
    take (at + length x) ((take at page ++ x) ++ drop (at + length x) page) ++ (y ++ drop (at + length x + length y) ((take at page ++ x) ++ drop (at + length x) page)) ≡ pasted page at (x ++ y)
joins page x y at fits =
    let n = at + length x in
    let front = take at page ++ x in
    let rest = drop n page in
    let long : length front ≡ n = length-append (take at page) x ∙ ap (λ k. k + length x) (length-take-le at page (omega (arith, fits))) in
    let behind : drop (n + length y) (front ++ rest) ≡ drop (n + length y) page =
    sym (drop-drop (length y) n (front ++ rest)) ∙ ap (drop (length y)) (drop_at front rest n long) ∙ drop-drop (length y) n page in
    let end : n + length y ≡ at + length (x ++ y) = omega (arith, length-append x y) in
    (λ i. take_at front rest n long i ++ (y ++ behind i))
    ∙ append_assoc (take at page) x (y ++ drop (n + length y) page)
    ∙ ap (λ l. take at page ++ l) (sym (append_assoc x y (drop (n + length y) page)))
    ∙ ap (λ k. take at page ++ (x ++ y ++ drop k page)) end

-- one behind another
pub put_both : {p p₁ p₂ : Pen} (x y : List ℕ) → Put p x p₁ → Put p₁ y p₂ → Put p (x ++ y) p₂
put_both {p} {p₁} {p₂} x y first second =
    let long = length-append x y in
    let at = p.place in
    let page = p.page.now in
    record {
      same_page = second.same_page ∙ first.same_page;
      long = second.long ∙ first.long;
      place = second.place ∙ omega (arith, first.place, long);
      stands = λ small fits.
          let front = first.stands small (omega (arith, fits, long)) in
          let here : p₁.place ≡ at + length x = omega (arith, first.place, fits, long, small) in
          let back = second.stands (omega (arith, first.long, small)) (omega (arith, first.long, here, fits, long)) in
          let whole : pasted page at x ≡ (take at page ++ x) ++ drop (at + length x) page = sym (append_assoc (take at page) x (drop (at + length x) page)) in
          back
          ∙ ap (λ k. take k p₁.page.now ++ (y ++ drop (k + length y) p₁.page.now)) here
          ∙ ap (λ l. take (at + length x) l ++ (y ++ drop (at + length x + length y) l)) (front ∙ whole)
          ∙ joins page x y at (omega (arith, fits, long));
    }

-- some of a whole is put, and the rest is still to come
pub record PutSome (old : Pen) (all rest : List ℕ) (new : Pen) : Type 0 where
  pub done : List ℕ
  pub splits : all ≡ done ++ rest
  pub put : Put old done new

pub some_more : {p p₁ p₂ : Pen} {all rest : List ℕ} (piece rest' : List ℕ) → PutSome p all rest p₁ → rest ≡ piece ++ rest' → Put p₁ piece p₂ → PutSome p all rest' p₂
some_more piece rest' some step more = record {
  done = some.done ++ piece;
  splits = some.splits ∙ ap (λ l. some.done ++ l) step ∙ sym (append_assoc some.done piece rest');
  put = put_both some.done piece some.put more;
}
