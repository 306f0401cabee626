-- A row put among others.
use Rattle.std.proofs.Common.{◌≡◌, ℕ, ◌+◌, ◌-◌, ◌<◌, ◌≤◌, List, length, get_or, ap, ◌∙◌, ⊎_elim, arith}
use Rattle.std.specs.List.{insert}
use Rattle.std.proofs.lemmas.List.Edits.{length-insert, get_or-insert_below, get_or-insert_at, get_or-insert_above}
use Rattle.std.proofs.lemmas.Bool.{cases_order}

module _ (xs : List ℕ) (p x : ℕ) (le : p ≤ length xs) where
  -- what stands at a place behind it
  pub data Spot (a : ℕ) : Type 0 where
    below : a < p → get_or (insert xs p x) a 0 ≡ get_or xs a 0 → Spot a
    at : a ≡ p → get_or (insert xs p x) a 0 ≡ x → Spot a
    above : (b : ℕ) → a ≡ b + 1 → p ≤ b → get_or (insert xs p x) a 0 ≡ get_or xs b 0 → Spot a

  pub spot : (a : ℕ) → Spot a
  spot a =
      ⊎_elim (λ e. at e (ap (λ k. get_or (insert xs p x) k 0) e ∙ get_or-insert_at xs p x 0 le))
      (⊎_elim (λ lt. below lt (get_or-insert_below xs p x 0 a lt le))
      (λ gt.
      let e : a ≡ (a - 1) + 1 = omega (arith, gt) in
      above (a - 1) e (omega (arith, gt)) (ap (λ k. get_or (insert xs p x) k 0) e ∙ get_or-insert_above xs p x 0 (a - 1) (omega (arith, gt)) le)))
      (cases_order a p)

  pub longer : length (insert xs p x) ≡ length xs + 1
  longer = length-insert xs p x le
