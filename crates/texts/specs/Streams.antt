-- Iterators of bytes that tell what is still to come.
use Rattle.std.specs.Prelude.{◌≡◌, ℕ, List, ◌∷◌, length, None, Some, Option, ⊤}
use Rattle.std.specs.Iterator.{Count, IsFinite, YieldsFirst, item_count}
use Rattle.std.specs.Option.{option_copied}
use Rattle.std.proofs.Common.{Bor, sym, ap, ◌∙◌}
use Rattle.std.proofs.lemmas.Option.{none-some}

-- such an iterator may always be asked, ends, and gives what is left byte by byte
pub record StreamLaws {S : Type 0} (can : S → Type 0) (gives : S → Option ℕ → S → Type 0) (remaining : S → Count) (left : S → List ℕ) : Type 0 where
  pub askable : (s : S) → can s
  pub ends : (s : S) → IsFinite (remaining s)
  pub stops : (s t : S) → gives s None t → length (left s) ≡ 0
  pub goes : (s : S) (b : ℕ) (t : S) → gives s (Some b) t → left s ≡ b ∷ left t

-- so does one whose state shows what is left
pub shown_laws : {S : Type 0} (left : S → List ℕ) → StreamLaws (λ s. ⊤) (YieldsFirst left) (item_count left) left
shown_laws left = record { askable = λ s. tt; ends = λ s. tt; stops = λ s t h. ap length h.0; goes = λ s b t h. h }

some_same : (a b : ℕ) → Some a ≡ Some b → a ≡ b
some_same a b e = ap (λ o. or_zero o) e where
  or_zero : Option ℕ → ℕ
  or_zero None = 0
  or_zero (Some x) = x

-- and one that copies bytes from where they lie
module _ {S : Type 0} (gives : S → Option (Bor ℕ) → S → Type 0) (left : S → List ℕ) (stops : (s t : S) → gives s None t → length (left s) ≡ 0) (goes : (s : S) (b : Bor ℕ) (t : S) → gives s (Some b) t → left s ≡ b.now ∷ left t) where
  pub copied_stops : (s t : S) (o : Option (Bor ℕ)) → gives s o t → None ≡ option_copied o → length (left s) ≡ 0
  copied_stops s t None h e = stops s t h
  copied_stops s t (Some x) h e = absurd (none-some x.now e)

  pub copied_goes : (s : S) (b : ℕ) (t : S) (o : Option (Bor ℕ)) → gives s o t → Some b ≡ option_copied o → left s ≡ b ∷ left t
  copied_goes s b t None h e = absurd (none-some b (sym e))
  copied_goes s b t (Some x) h e = goes s x t h ∙ ap (λ y. y ∷ left t) (sym (some_same b x.now e))
