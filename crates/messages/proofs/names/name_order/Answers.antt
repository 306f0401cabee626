use Rattle.std.proofs.Common.{◌≡◌, ℕ, List, length, drop, sym, refl, ap, ◌∙◌, subst}
use Rattle.std.specs.Ordering.{nat_cmp}
use Rattle.std.specs.Cmp.Lexicographic.{slice_cmp}
use Rattle.std.proofs.iter.Yields.{listed}
use Rattle.std.proofs.lemmas.Iterator.{YieldsList}
use Rattle.std.proofs.lemmas.Iterator.Search.{cmp_from_yields_List}
use Rattle.std.proofs.lemmas.List.{take_rest}
use Rattle.characters.specs.declared.cursor.Characters.{Characters}
use Rattle.characters.specs.Decoding.{decoded}
use Rattle.characters.specs.Left.{left, Gives}
use Rattle.messages.proofs.SharedFronts.{behind_front}
use Rattle.messages.proofs.names.name_order.Goals as goal

-- a cursor gives the characters that it has left
come : (s : Characters) (cs : List ℕ) → left s ≡ cs → YieldsList Gives (λ c. c) s cs
come s cs e = subst (YieldsList Gives (λ c. c) s) e (record { runs = listed Gives (λ c. c) left (λ s t e. ap length e.0) (λ s c t e. e) s })

pub returns : goal.returns
returns c =
    let a = c.args.a.now in
    let b = c.args.b.now in
    let n = c.shared_front-shared.result in
    cmp_from_yields_List (λ s it. it ≡ s) c.new-2.result nat_cmp c.cmp.result c.cmp.ensures.ran
    (come c.new.result (decoded (drop n a)) (c.new.ensures ∙ ap decoded (take_rest a n)))
    (λ it e. subst (λ s. YieldsList Gives (λ c. c) s (decoded (drop n b))) (sym e) (come c.new-2.result (decoded (drop n b)) (c.new-2.ensures ∙ ap decoded (take_rest b n))))
    (λ x y. refl)
    ∙ ap (λ k. slice_cmp nat_cmp (decoded (drop k a)) (decoded (drop k b))) c.shared_front-shared.ensures.value ∙ behind_front a b
