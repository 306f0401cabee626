-- Characters that are counted up to where what is left of a text begins.
use Rattle.std.proofs.Common.{◌≡◌, ℕ, ◌+◌, ◌-◌, ◌≤◌, List, [], ◌∷◌, length, drop, Some, None, Ok, Err, sym, ap, ◌∙◌, subst, arith, length-drop}
use Rattle.std.specs.List.{prefix_len}
use Rattle.std.proofs.lemmas.List.Sums.{prefix_len-le-length}
use Rattle.characters.specs.Decoding.{is_plain, unit_at, decoded, first_bad_from, first_bad}
use Rattle.characters.specs.Checking.{unless_bad, counted}
use Rattle.characters.specs.declared.check.BadCharacters.TheVariants.{Reference}
use Rattle.characters.proofs.Steps.{decoded_some, decoded_plain, bad_some, bad_none, bad_plain}

pub record Counted (text : List ℕ) (count : ℕ) (rest : List ℕ) : Type 0 where
  pub within : length rest ≤ length text
  pub few : count ≤ length text - length rest
  pub characters : count + length (decoded rest) ≡ length (decoded text)
  pub references : first_bad_from (length text - length rest) 0 rest ≡ first_bad text

pub counted_none : (text : List ℕ) → Counted text 0 text
counted_none text = let start : length text - length text ≡ 0 = omega arith in record { within = omega arith; few = omega arith; characters = omega arith; references = ap (λ at. first_bad_from at 0 text) start }

module _ (text : List ℕ) (count : ℕ) where
  -- one unit more
  pub counted_unit : (b : ℕ) (bs : List ℕ) (u : ℕ × ℕ) → Counted text count (b ∷ bs) → unit_at b bs ≡ Some u → u.1 ≤ length bs → Counted text (count + 1) (drop u.1 bs)
  counted_unit b bs u so_far is fits =
      let long = length-drop u.1 bs in
      let step = ap length (decoded_some b bs u is) in
      let on : length text - length (b ∷ bs) + 1 + u.1 ≡ length text - length (drop u.1 bs) = omega (arith, so_far.within) in
      record {
        within = omega (arith, so_far.within);
        few = omega (arith, so_far.within, so_far.few);
        characters = omega (arith, so_far.characters);
        references = ap (λ at. first_bad_from at 0 (drop u.1 bs)) (sym on) ∙ sym (bad_some b bs (length text - length (b ∷ bs)) u is) ∙ so_far.references;
      }

  -- the bytes that stand for themselves, at the front of the rest
  pub counted_plain : (rest : List ℕ) (n all : ℕ) → Counted text count rest → n ≡ prefix_len is_plain rest → all ≡ count + n → Counted text all (drop n rest)
  counted_plain rest n all so_far is sum =
      let m = prefix_len is_plain rest in
      let most = prefix_len-le-length is_plain rest in
      let long = length-drop m rest in
      let step = decoded_plain rest in
      let on : length text - length rest + m ≡ length text - length (drop m rest) = omega (arith, so_far.within) in
      let all-is : count + m ≡ all = omega arith in
      subst (λ k. Counted text all (drop k rest)) (sym is) (subst (λ k. Counted text k (drop m rest)) all-is (record {
        within = omega (arith, so_far.within);
        few = omega (arith, so_far.within, so_far.few);
        characters = omega (arith, so_far.characters);
        references = ap (λ at. first_bad_from at 0 (drop m rest)) (sym on) ∙ sym (bad_plain (length text - length rest) rest) ∙ so_far.references;
      }))

  -- and how it ends: at a bad reference, or behind the last character
  pub counted_bad : (b : ℕ) (bs : List ℕ) → Counted text count (b ∷ bs) → unit_at b bs ≡ None → Err (Reference (length text - length (b ∷ bs))) ≡ counted text
  unfolding counted
  counted_bad b bs so_far is = ap (λ o. unless_bad o (length (decoded text))) (sym (bad_none b bs (length text - length (b ∷ bs)) is) ∙ so_far.references)

  pub counted_all : (rest : List ℕ) → Counted text count rest → length rest ≡ 0 → Ok count ≡ counted text
  unfolding counted
  counted_all [] so_far h =
      let n : count ≡ length (decoded text) = omega (arith, so_far.characters) in
      ap Ok n ∙ ap (λ o. unless_bad o (length (decoded text))) so_far.references
  counted_all (b ∷ bs) so_far h = absurd (omega arith)
