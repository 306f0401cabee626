-- Tests that every byte of a text passes.
use Rattle.std.proofs.Common.{◌≡◌, ℕ, ◌+◌, Bool, true, false, not, eqb, List, [], ◌∷◌, length, ⊎_elim, arith}
use Rattle.std.specs.List.{prefix_len, AllByRecursion}
use Rattle.std.proofs.ByRecursion.{All-weaker}
use Rattle.std.proofs.lemmas.Bool.{cases_Bool, eqb-true, eqb-false, eq-eqb, not-true}
use Rattle.texts.proofs.Fronts.{leading_all}
use Rattle.characters.specs.References.{is_character, all_characters}
use Rattle.characters.specs.Decoding.{body_len}

pub all_from_leading : (p : ℕ → Bool) (bs : List ℕ) → prefix_len p bs ≡ length bs → AllByRecursion (λ b. p b ≡ true) bs
all_from_leading p [] h = tt
all_from_leading p (b ∷ bs) h =
    ⊎_elim
    (λ (e : p b ≡ true). let s : prefix_len p (b ∷ bs) ≡ 1 + prefix_len p bs = simp e in (e, all_from_leading p bs (omega arith)))
    (λ (e : p b ≡ false). let s : prefix_len p (b ∷ bs) ≡ 0 = simp e in absurd (omega arith))
    (cases_Bool (p b))

pub all_from_test : (bs : List ℕ) → all_characters bs ≡ true → AllByRecursion (λ b. is_character b ≡ true) bs
unfolding all_characters
all_from_test bs h = all_from_leading is_character bs (eqb-true _ _ h)

pub test_from_all : (bs : List ℕ) → AllByRecursion (λ b. is_character b ≡ true) bs → all_characters bs ≡ true
unfolding all_characters
test_from_all bs h = eq-eqb _ _ (leading_all is_character bs h)

-- no `;` stands in what is its own body
pub without_end : (body : List ℕ) → body_len body ≡ length body → AllByRecursion (λ b. b ≡ 59 → ⊥) body
without_end body h = All-weaker (λ b. not (eqb b 59) ≡ true) (λ b. b ≡ 59 → ⊥) (λ b e. eqb-false b 59 (not-true (eqb b 59) e)) body (all_from_leading (λ b. not (eqb b 59)) body h)
