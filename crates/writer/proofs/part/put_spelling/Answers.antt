use Rattle.std.proofs.Common.{◌≡◌, ℕ, List, [], ◌∷◌, get_or, sym, refl, ap, ◌∙◌, subst, ⊎_elim}
use Rattle.std.specs.List.{flat_map}
use Rattle.held.specs.Told.{no_row}
use Rattle.writer.specs.Pages.{Put}
use Rattle.writer.specs.Tables.{spelling_of}
use Rattle.writer.specs.Texts.{itself}
use Rattle.writer.proofs.part.put_spelling.Goals as goal

joined_itself : (bs : List ℕ) → flat_map itself bs ≡ bs
joined_itself [] = refl
joined_itself (b ∷ bs) = ap (λ l. b ∷ l) (joined_itself bs)

pub returns-in-Call : goal.returns-in-Call
returns-in-Call g c =
    let said = get_or (g.M.Held.said c.args.held.now) c.args.i no_row in
    let text : Put c.args.pen.now said.text c.put_text.new.pen = subst (λ l. Put c.args.pen.now l c.put_text.new.pen) (joined_itself _ ∙ c.text.ensures) c.put_text.ensures in
    ⊎_elim
    (λ e. subst (λ k. Put c.args.pen.now (spelling_of said k) c.put_text.new.pen) (sym e) text)
    (λ e. subst (λ k. Put c.args.pen.now (spelling_of said k) c.put_text.new.pen) (sym e) text)
    c.in-Call.is
