-- A text read byte by byte: what one more byte in front does to its letters and its padding.
use Rattle.std.proofs.Common.{◌≡◌, ℕ, ◌+◌, ◌≤◌, Bool, true, false, cond, List, [], ◌∷◌, map, length, take, drop, sym, ap, ◌∙◌, one-add, arith}
use Rattle.std.specs.List.{prefix_len}
use Rattle.std.proofs.lemmas.Bool.Decides.{nat_tests}
use Rattle.texts.specs.Bytes.{is_blank}
use Rattle.base64_texts.specs.Base64.{is_letter, sextet, nonblank, padding, sextets, last_or}

-- no letter is a blank
pub letter_shown : (b : ℕ) → is_letter b ≡ true → is_blank b ≡ false
letter_shown b h = grind (arith, nat_tests)

pub nonblank_skip : (b : ℕ) (t : List ℕ) → is_blank b ≡ true → nonblank (b ∷ t) ≡ nonblank t
nonblank_skip b t h = simp h

pub nonblank_keep : (b : ℕ) (t : List ℕ) → is_blank b ≡ false → nonblank (b ∷ t) ≡ b ∷ nonblank t
nonblank_keep b t h = simp h

-- the front that passes, and the rest, one element on
pub front_yes : (p : ℕ → Bool) (b : ℕ) (t : List ℕ) → p b ≡ true → take (prefix_len p (b ∷ t)) (b ∷ t) ≡ b ∷ take (prefix_len p t) t
front_yes p b t h = ap (λ v. take (cond v (1 + prefix_len p t) 0) (b ∷ t)) h ∙ ap (λ n. take n (b ∷ t)) (one-add (prefix_len p t))

pub rest_yes : (p : ℕ → Bool) (b : ℕ) (t : List ℕ) → p b ≡ true → drop (prefix_len p (b ∷ t)) (b ∷ t) ≡ drop (prefix_len p t) t
rest_yes p b t h = ap (λ v. drop (cond v (1 + prefix_len p t) 0) (b ∷ t)) h ∙ ap (λ n. drop n (b ∷ t)) (one-add (prefix_len p t))

pub front_no : (p : ℕ → Bool) (b : ℕ) (t : List ℕ) → p b ≡ false → take (prefix_len p (b ∷ t)) (b ∷ t) ≡ []
front_no p b t h = ap (λ v. take (cond v (1 + prefix_len p t) 0) (b ∷ t)) h

pub rest_no : (p : ℕ → Bool) (b : ℕ) (t : List ℕ) → p b ≡ false → drop (prefix_len p (b ∷ t)) (b ∷ t) ≡ b ∷ t
rest_no p b t h = ap (λ v. drop (cond v (1 + prefix_len p t) 0) (b ∷ t)) h

abbrev front_of : List ℕ → List ℕ
front_of bs = take (prefix_len is_letter bs) bs

abbrev rest_of : List ℕ → List ℕ
rest_of bs = drop (prefix_len is_letter bs) bs

pub sextets_letter : (b : ℕ) (t : List ℕ) → is_letter b ≡ true → sextets (b ∷ t) ≡ sextet b ∷ sextets t
sextets_letter b t h = ap (λ bs. map sextet (front_of bs)) (nonblank_keep b t (letter_shown b h)) ∙ ap (map sextet) (front_yes is_letter b (nonblank t) h)

pub padding_letter : (b : ℕ) (t : List ℕ) → is_letter b ≡ true → padding (b ∷ t) ≡ padding t
padding_letter b t h = ap rest_of (nonblank_keep b t (letter_shown b h)) ∙ rest_yes is_letter b (nonblank t) h

-- a text is read up to where the rest of it begins: n letters, the last worth s
pub record Scanned (text : List ℕ) (n s : ℕ) (rest : List ℕ) : Type 0 where
  pub few : n + length rest ≤ length text
  pub count : n + length (sextets rest) ≡ length (sextets text)
  pub last : last_or s (sextets rest) ≡ last_or 0 (sextets text)
  pub padded : padding rest ≡ padding text

pub scanned_letter : (text : List ℕ) (n s b : ℕ) (t : List ℕ) → Scanned text n s (b ∷ t) → is_letter b ≡ true → Scanned text (n + 1) (sextet b) t
scanned_letter text n s b t so_far is =
    let S = sextets_letter b t is in
    record { few = omega (arith, so_far.few); count = omega (arith, so_far.count, ap length S); last = sym (ap (last_or s) S) ∙ so_far.last; padded = sym (padding_letter b t is) ∙ so_far.padded }
