use Rattle.std.proofs.Common.{rules, tests, ◌≡◌, ℕ, Bool, true, false, ◌&&◌, eqb, List, [], ◌∷◌, length, refl, ◌∙◌, ⊎_elim, arith}
use Rattle.std.specs.List.{fold, prefix_len}
use Rattle.std.proofs.lemmas.Bool.{cases_Bool, eq-eqb, ne_eqb}
use Rattle.std.proofs.lemmas.Iterator.{YieldsList-from_slice}
use Rattle.std.proofs.lemmas.Iterator.Consumers.{fold_from_yields_List}
use Rattle.texts.proofs.bytes.all_of.Goals as goal

-- whether all are of the class
abbrev every_of : (ℕ → Bool) → Bool → List ℕ → Bool
every_of p all bs = fold (λ a b. a && p b) all bs

none_more : (p : ℕ → Bool) (bs : List ℕ) → every_of p false bs ≡ false
none_more p [] = refl
none_more p (b ∷ bs) = none_more p bs

every_leads : (p : ℕ → Bool) (bs : List ℕ) → every_of p true bs ≡ eqb (prefix_len p bs) (length bs)
every_leads p [] = refl
every_leads p (b ∷ bs) = ⊎_elim
    (λ yes. rw yes (rw (every_leads p bs) (search (arith, eq-eqb, ne_eqb))))
    (λ no. rw no (none_more p bs ∙ search (arith, ne_eqb)))
    (cases_Bool (p b))

pub returns : goal.returns
returns g c =
    let p = g.C.Class.member in
    let folded : c.fold.result ≡ every_of p true c.args.bytes.now =
    fold_from_yields_List _ (λ a b. a && p b) true c.fold.result c.fold.ensures.ran (YieldsList-from_slice c.args.bytes.now (cc)) (λ a x b q k. search (rules, tests)) in
    folded ∙ every_leads p c.args.bytes.now
