-- The digits of bytes that are joined, and of one byte more.
use Rattle.std.proofs.Common.{◌≡◌, ℕ, ◌+◌, ◌<◌, List, [], ◌∷◌, ◌++◌, length, get_or, take, sym, refl, ap, ◌∙◌}
use Rattle.std.proofs.lemmas.List.{take_more}
use Rattle.hex_texts.specs.Hex.{hex_byte, hex_digits}

pub hex_digits-append : (xs ys : List ℕ) → hex_digits (xs ++ ys) ≡ hex_digits xs ++ hex_digits ys
hex_digits-append [] ys = refl
hex_digits-append (x ∷ xs) ys = ap (λ (l : List ℕ). hex_byte x ++ l) (hex_digits-append xs ys)

pub hex_digits-more : (xs : List ℕ) (i : ℕ) → i < length xs → hex_digits (take i xs) ++ hex_byte (get_or xs i 0) ≡ hex_digits (take (i + 1) xs)
hex_digits-more xs i h = sym (ap hex_digits (take_more xs i 0 h) ∙ hex_digits-append (take i xs) (get_or xs i 0 ∷ []))
