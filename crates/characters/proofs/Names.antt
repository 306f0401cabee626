-- What is none of the five names.
use Rattle.std.proofs.Common.{◌≡◌, ℕ, zero, suc, Bool, true, false, ◌&&◌, ltb, List, [], ◌∷◌, None, codes, IsUtf8, IsAscii, sym, refl, subst, arith}
use Rattle.std.specs.Str.{bytes_eq}
use Rattle.std.proofs.lemmas.Slice.Eq.{bytes_eq-Decides}
use Rattle.std.proofs.lemmas.Str.{IsUtf8-from_ascii}
use Rattle.std.proofs.lemmas.Bool.Decides.{nat_tests}
use Rattle.characters.specs.References.{named}

same_bytes_no : (xs ys : List ℕ) → (xs ≡ ys → ⊥) → bytes_eq xs ys ≡ false
same_bytes_no xs ys differ = go (bytes_eq xs ys) refl where
  go : (b : Bool) → bytes_eq xs ys ≡ b → bytes_eq xs ys ≡ false
  go true e = absurd (differ ((bytes_eq-Decides xs ys).0 e))
  go false e = e

pub named_none : (bs : List ℕ) → (bs ≡ codes "amp" → ⊥) → (bs ≡ codes "lt" → ⊥) → (bs ≡ codes "gt" → ⊥) → (bs ≡ codes "apos" → ⊥) → (bs ≡ codes "quot" → ⊥) → named bs ≡ None
named_none bs a b c d e = simp (same_bytes_no bs (codes "amp") a, same_bytes_no bs (codes "lt") b, same_bytes_no bs (codes "gt") c, same_bytes_no bs (codes "apos") d, same_bytes_no bs (codes "quot") e)

abbrev low : List ℕ → Bool
low [] = true
low (b ∷ bs) = ltb b 128 && low bs

ascii_low : (bs : List ℕ) → low bs ≡ true → IsAscii bs
ascii_low [] h i = omega arith
ascii_low (b ∷ bs) h zero = grind (arith, nat_tests)
ascii_low (b ∷ bs) h (suc i) = let t : low bs ≡ true = grind (arith, nat_tests) in ascii_low bs t i

-- what is no text is none of the names
pub no_text : (bs : List ℕ) → (IsUtf8 bs → ⊥) → named bs ≡ None
no_text bs bad =
    let other : (w : List ℕ) → low w ≡ true → bs ≡ w → ⊥ = λ w h e. bad (subst IsUtf8 (sym e) (IsUtf8-from_ascii w (ascii_low w h))) in
    named_none bs (other (codes "amp") refl) (other (codes "lt") refl) (other (codes "gt") refl) (other (codes "apos") refl) (other (codes "quot") refl)
