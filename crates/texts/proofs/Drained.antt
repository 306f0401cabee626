-- What comes of a stream in all.
use Rattle.std.proofs.Common.{◌≡◌, ℕ, List, Option, map-id, sym, ◌∙◌}
use Rattle.std.specs.Iterator.{Count, Drains}
use Rattle.std.proofs.iter.Yields.{gives_Drains, listed}
use Rattle.texts.specs.Streams.{StreamLaws}

-- just the bytes that were left
pub drained : {S : Type 0} (can : S → Type 0) (gives : S → Option ℕ → S → Type 0) (remaining : S → Count) (left : S → List ℕ) → StreamLaws can gives remaining left →
    (s : S) (xs : List ℕ) → Drains gives s xs → xs ≡ left s
drained can gives remaining left laws s xs d = sym (map-id xs) ∙ gives_Drains gives (λ x. x) xs (left s) s (listed gives (λ x. x) left laws.stops laws.goes s) d
