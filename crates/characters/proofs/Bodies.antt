-- References in a text: what stands between `&` and `;`.
use Rattle.std.proofs.Common.{◌≡◌, ℕ, suc, ◌+◌, Bool, true, false, cond, eqb, ltb, List, [], ◌∷◌, ◌++◌, length, take, drop, Some, None, Option, MatchOption, sym, refl, ap, ◌∙◌, subst, arith, length-append}
use Rattle.std.specs.Option.{option_map}
use Rattle.std.specs.List.{AllByRecursion}
use Rattle.std.proofs.lemmas.List.{drop-drop, drop_at, take_at}
use Rattle.std.proofs.lemmas.Bool.{lt-ltb, ne_eqb}
use Rattle.characters.specs.References.{referenced}
use Rattle.characters.specs.Decoding.{body_len, reference_at, unit_at, before, bad_or, decoded_from, decoded, first_bad_from}
use Rattle.characters.proofs.Steps.{decoded_skips, bad_skips}

-- a body without `;` goes up to the `;` behind it
pub body_ends : (body rest : List ℕ) → AllByRecursion (λ b. b ≡ 59 → ⊥) body → body_len (body ++ 59 ∷ rest) ≡ length body
body_ends [] rest h = refl
body_ends (b ∷ body) rest h =
    let p : eqb b 59 ≡ false = ne_eqb b 59 h.0 in
    let e : body_len (b ∷ body ++ 59 ∷ rest) ≡ 1 + body_len (body ++ 59 ∷ rest) = simp p in
    let ih = body_ends body rest h.1 in
    e ∙ omega arith

module _ (body rest : List ℕ) (c : ℕ) (no_end : AllByRecursion (λ b. b ≡ 59 → ⊥) body) (names : referenced body ≡ Some c) where
  pub unit_of : unit_at 38 (body ++ 59 ∷ rest) ≡ Some (c, length body + 1)
  unfolding unit_at reference_at
  unit_of =
      let n = body_ends body rest no_end in
      let len : length (body ++ 59 ∷ rest) ≡ length body + suc (length rest) = length-append body (59 ∷ rest) in
      let p : ltb (length body) (length (body ++ 59 ∷ rest)) ≡ true = lt-ltb _ _ (omega arith) in
      let t : take (length body) (body ++ 59 ∷ rest) ≡ body = take_at body (59 ∷ rest) (length body) refl in
      simp (n, p, t, names)

  behind : drop (length body + 1) (body ++ 59 ∷ rest) ≡ rest
  behind = sym (drop-drop 1 (length body) (body ++ 59 ∷ rest)) ∙ ap (drop 1) (drop_at body (59 ∷ rest) (length body) refl)

  pub reference_decodes : decoded (38 ∷ body ++ 59 ∷ rest) ≡ c ∷ decoded rest
  reference_decodes =
      ap (λ o. before o (λ k. decoded_from k (body ++ 59 ∷ rest))) unit_of ∙ ap (λ cs. c ∷ cs) (decoded_skips (length body + 1) (body ++ 59 ∷ rest) ∙ ap decoded behind)

  pub reference_good : (at : ℕ) → first_bad_from at 0 (38 ∷ body ++ 59 ∷ rest) ≡ first_bad_from (at + 1 + (length body + 1)) 0 rest
  reference_good at =
      ap (λ o. bad_or at o (λ k. first_bad_from (at + 1) k (body ++ 59 ∷ rest))) unit_of ∙ (bad_skips (at + 1) (length body + 1) (body ++ 59 ∷ rest) ∙ ap (first_bad_from (at + 1 + (length body + 1)) 0) behind)

-- a byte that stands for itself
module _ (b : ℕ) (rest : List ℕ) (not-amp : b ≡ 38 → ⊥) (not-return : b ≡ 13 → ⊥) where
  unit_byte : unit_at b rest ≡ Some (b, 0)
  unfolding unit_at
  unit_byte = let p : eqb b 38 ≡ false = ne_eqb b 38 not-amp in let q : eqb b 13 ≡ false = ne_eqb b 13 not-return in simp (p, q)

  pub byte_decodes : decoded (b ∷ rest) ≡ b ∷ decoded rest
  byte_decodes = ap (λ o. before o (λ k. decoded_from k rest)) unit_byte

  pub byte_good : (at : ℕ) → first_bad_from at 0 (b ∷ rest) ≡ first_bad_from (at + 1) 0 rest
  byte_good at = ap (λ o. bad_or at o (λ k. first_bad_from (at + 1) k rest)) unit_byte

-- the reference of a text in which a `;` is found, or none is
pub reference_found : (bs : List ℕ) (end : Option ℕ) → end ≡ cond (ltb (body_len bs) (length bs)) (Some (body_len bs)) None
    → MatchOption end (reference_at bs ≡ None) (λ n. reference_at bs ≡ option_map (λ c. (c, n + 1)) (referenced (take n bs)))
unfolding reference_at
reference_found bs end e = go (ltb (body_len bs) (length bs)) refl where
  here : Option ℕ → Type 0
  here o = MatchOption o (reference_at bs ≡ None) (λ n. reference_at bs ≡ option_map (λ c. (c, n + 1)) (referenced (take n bs)))

  go : (t : Bool) → ltb (body_len bs) (length bs) ≡ t → MatchOption end (reference_at bs ≡ None) (λ n. reference_at bs ≡ option_map (λ c. (c, n + 1)) (referenced (take n bs)))
  go true t = subst here (sym (simp t at e)) (simp t)
  go false t = subst here (sym (simp t at e)) (simp t)
