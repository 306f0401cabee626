-- Base64 letters, group by group.
use Rattle.std.proofs.Common.{◌≡◌, ℕ, List, [], ◌∷◌, ◌++◌, length, Some, None, Option, sym, ap, ◌∙◌, append-nil, arith, MatchOption}
use Rattle.base64_texts.specs.Base64.{base64_spelling}
use Rattle.writer.specs.Texts.{group_of}

abbrev Gives : List ℕ → Option ℕ → List ℕ → Type 0
Gives l r l' = MatchOption r ((l ≡ []) × (l' ≡ [])) (λ x. l ≡ x ∷ l')

pub group : (a : ℕ) (b c : Option ℕ) (l l₁ l₂ l₃ : List ℕ) → l ≡ a ∷ l₁ → Gives l₁ b l₂ → Gives l₂ c l₃ → base64_spelling l ≡ base64_spelling (group_of a b c) ++ base64_spelling l₃
group a None None l l₁ l₂ l₃ p q r =
    ap base64_spelling (p ∙ ap (λ t. a ∷ t) q.0) ∙ sym (append-nil (base64_spelling (a ∷ []))) ∙ ap (λ t. base64_spelling (a ∷ []) ++ base64_spelling t) (sym r.1)
group a None (Some y) l l₁ l₂ l₃ p q r = absurd (omega (arith, ap length (sym q.1 ∙ r)))
group a (Some x) None l l₁ l₂ l₃ p q r =
    ap base64_spelling (p ∙ ap (λ t. a ∷ t) (q ∙ ap (λ t. x ∷ t) r.0)) ∙ sym (append-nil (base64_spelling (a ∷ x ∷ []))) ∙ ap (λ t. base64_spelling (a ∷ x ∷ []) ++ base64_spelling t) (sym r.1)
group a (Some x) (Some y) l l₁ l₂ l₃ p q r = ap base64_spelling (p ∙ ap (λ t. a ∷ t) (q ∙ ap (λ t. x ∷ t) r))
