-- What is written for a text that was read: it reads as the same, and its bytes may stand in a text.
use Rattle.std.proofs.Common.{◌≡◌, ℕ, Bool, true, false, ◌&&◌, eqb, leb, List, [], ◌∷◌, length, ℤ, Some, refl, arith}
use Rattle.std.specs.List.{prefix_len, AllByRecursion}
use Rattle.std.proofs.ByRecursion.{All-weaker}
use Rattle.std.proofs.lemmas.Bool.{and_parts, eqb-true}
use Rattle.std.proofs.lemmas.Bool.Decides.{nat_tests}
use Rattle.texts.specs.Digits.{is_digit}
use Rattle.texts.specs.Booleans.{boolean_of, boolean_spelling}
use Rattle.texts.specs.Methods.{is_method_byte, is_method_name}
use Rattle.numbers.specs.Ints.{int_of, int_spelling}
use Rattle.numbers.specs.Doubles.{double_of, double_spelling}
use Rattle.numbers.proofs.IntsAre.{int_fits}
use Rattle.numbers.proofs.IntsBack.{int_reads_back, all_int}
use Rattle.numbers.proofs.DoublesAre.{double_is}
use Rattle.numbers.proofs.DoublesBack.{double_reads_back, all_double}
use Rattle.dates.specs.Moments.{Moment, date_of, date_spelling}
use Rattle.dates.proofs.Spelled.{date_is, date_reads_back, all_date}
use Rattle.base64_texts.specs.Base64.{is_letter, is_base64, decoded, base64_spelling}
use Rattle.base64_texts.proofs.Groups.{decoded_below, reads_back, all_spelling}
use Rattle.characters.specs.Rule.{CharacterData}
use Rattle.characters.specs.Spelling.{characters_spelling}
use Rattle.characters.proofs.BodyBytes.{Good}
use Rattle.characters.proofs.Leading.{all_from_leading}
use Rattle.characters.proofs.Written.{NoLess, stands_for_characters, spelling_derived, spelling_good, spelling_no_less}
use Rattle.canonical.proofs.Pieces.{InText}

digit_in_text : (d : ℕ) → is_digit d ≡ true → InText d
digit_in_text d h = (grind (arith, nat_tests), grind (arith, nat_tests))

pub int_text : (t : List ℕ) {z : ℤ} → int_of t ≡ Some z → (int_of (int_spelling z) ≡ Some z) × AllByRecursion InText (int_spelling z)
int_text t {z} e = let fits = int_fits t z e in (int_reads_back z fits, all_int InText (refl, refl) digit_in_text z fits)

pub boolean_text : (b : Bool) → (boolean_of (boolean_spelling b) ≡ Some b) × AllByRecursion InText (boolean_spelling b)
boolean_text true = (refl, ((refl, refl), tt))
boolean_text false = (refl, ((refl, refl), tt))

pub double_text : (t : List ℕ) {z : ℤ} {scale : ℕ} → double_of t ≡ Some (z, scale) → (double_of (double_spelling z scale) ≡ Some (z, scale)) × AllByRecursion InText (double_spelling z scale)
double_text t {z} {scale} e =
    let is = double_is t z scale e in
    (double_reads_back z scale is, all_double InText (refl, refl) (refl, refl) digit_in_text z scale is)

pub date_text : (t : List ℕ) {m : Moment} → date_of t ≡ Some m → (date_of (date_spelling m) ≡ Some m) × AllByRecursion InText (date_spelling m)
date_text t {m} e = (date_reads_back m (date_is t m e), all_date InText (refl, refl) (refl, refl) digit_in_text m)

letter_in_text : (b : ℕ) → is_letter b ≡ true → InText b
letter_in_text b h = (grind (arith, nat_tests), grind (arith, nat_tests))

pub base64_text : (t : List ℕ) → (is_base64 (base64_spelling (decoded t)) ≡ true) × (decoded (base64_spelling (decoded t)) ≡ decoded t) × AllByRecursion InText (base64_spelling (decoded t))
base64_text t =
    let below = decoded_below t in
    let back = reads_back (decoded t) below in
    (back.0, back.1, all_spelling InText (refl, refl) letter_in_text (decoded t) below)

-- two facts of each byte are one
together : (bs : List ℕ) → Good bs → NoLess bs → AllByRecursion InText bs
together [] good no_less = tt
together (b ∷ bs) good no_less = ((good.0, no_less.0), together bs good.1 no_less.1)

pub characters_text : {t cs : List ℕ} → CharacterData t cs → CharacterData (characters_spelling cs) cs × AllByRecursion InText (characters_spelling cs)
characters_text {cs = cs} d =
    let good = stands_for_characters d in
    (spelling_derived cs good, together (characters_spelling cs) (spelling_good cs good) (spelling_no_less cs))

method_in_text : (b : ℕ) → is_method_byte b ≡ true → InText b
method_in_text b h = (grind (arith, nat_tests), grind (arith, nat_tests))

pub method_text : (t : List ℕ) → is_method_name t ≡ true → AllByRecursion InText t
method_text t h =
    let all = (and_parts (leb (length t) 64) (eqb (prefix_len is_method_byte t) (length t)) (and_parts (leb 1 (length t)) (leb (length t) 64 && eqb (prefix_len is_method_byte t) (length t)) h).1).1 in
    All-weaker (λ b. is_method_byte b ≡ true) InText method_in_text t (all_from_leading is_method_byte t (eqb-true _ _ all))
