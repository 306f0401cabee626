-- Groups of sextets and of bytes: how long they are, and that packing and spelling undo one another.
use Rattle.std.proofs.Common.{◌≡◌, ℕ, ◌+◌, ◌*◌, ◌/◌, ◌%◌, ◌^◌, ◌<◌, ◌≤◌, Bool, true, false, cond, ◌&&◌, eqb, leb, List, [], ◌∷◌, ◌++◌, map, length, min, take, drop, replicate, Decides, sym, refl, ap, ◌∙◌, subst, ⊎_elim, arith}
use Rattle.std.specs.List.{prefix_len, AllByRecursion}
use Rattle.std.proofs.lemmas.List.{take-append-drop, length-append, length-map}
use Rattle.std.proofs.lemmas.Bool.Decides.{nat_tests}
use Rattle.std.proofs.lemmas.Bool.{cases_Bool, eqb-true}
use Rattle.texts.proofs.Fronts.{all_leading}
use Rattle.base64_texts.proofs.Scan.{sextets_letter, padding_letter}
use Rattle.base64_texts.specs.Base64.{is_letter, is_pad, sextet, letter, nonblank, letters, padding, sextets, last_or, packed, decoded, is_base64, base64_spelling, SpellsBytes}

pub length-packed : (ss : List ℕ) → length (packed ss) ≡ length ss / 4 * 3 + length ss % 4 * 3 / 4
length-packed [] = refl
length-packed (a ∷ []) = refl
length-packed (a ∷ b ∷ []) = refl
length-packed (a ∷ b ∷ c ∷ []) = refl
length-packed (a ∷ b ∷ c ∷ d ∷ ss) = let e = length-packed ss in omega arith

pub length-nonblank : (text : List ℕ) → length (nonblank text) ≡ length (sextets text) + length (padding text)
length-nonblank text =
    let n = prefix_len is_letter (nonblank text) in
    let whole = ap length (take-append-drop n (nonblank text)) in
    omega (arith, whole, length-append (take n (nonblank text)) (drop n (nonblank text)), length-map (letters text) sextet)

pub letter_sextet : (b : ℕ) → is_letter b ≡ true → letter (sextet b) ≡ b
letter_sextet b h = grind (arith, nat_tests)

pub sextet_letter : (v : ℕ) → v < 64 → sextet (letter v) ≡ v
sextet_letter v h = grind (arith, nat_tests)

pub letter_is : (v : ℕ) → v < 64 → is_letter (letter v) ≡ true
letter_is v h = grind (arith, nat_tests)

pub sextet_below : (b : ℕ) → sextet b < 64
sextet_below b = grind (arith, nat_tests)

pads_are : (ps : List ℕ) → prefix_len is_pad ps ≡ length ps → ps ≡ replicate (length ps) 61
pads_are [] h = refl
pads_are (p ∷ ps) h =
    ⊎_elim
    (λ (e : is_pad p ≡ true). let l : cond (is_pad p) (1 + prefix_len is_pad ps) 0 ≡ 1 + prefix_len is_pad ps = simp e in
    let t = pads_are ps (omega arith) in
    λ i. eqb-true p 61 e i ∷ t i)
    (λ (e : is_pad p ≡ false). absurd (let l : cond (is_pad p) (1 + prefix_len is_pad ps) 0 ≡ 0 = simp e in omega arith))
    (cases_Bool (is_pad p))

-- the bytes of a group give its sextets back
byte_1 : (a b : ℕ) → b < 64 → (a * 4 + b / 16) / 4 ≡ a
byte_1 a b h = omega arith

byte_2 : (a b c : ℕ) → b < 64 → c < 64 → (a * 4 + b / 16) % 4 * 16 + (b % 16 * 16 + c / 4) / 16 ≡ b
byte_2 a b c h k = omega arith

byte_3 : (b c d : ℕ) → c < 64 → d < 64 → (b % 16 * 16 + c / 4) % 16 * 4 + (c % 4 * 64 + d) / 64 ≡ c
byte_3 b c d h k = omega arith

byte_4 : (c d : ℕ) → d < 64 → (c % 4 * 64 + d) % 64 ≡ d
byte_4 c d h = omega arith

short_2 : (a b : ℕ) → b < 64 → b % 16 ≡ 0 → (a * 4 + b / 16) % 4 * 16 ≡ b
short_2 a b h z = omega arith

short_3 : (b c : ℕ) → c < 64 → c % 4 ≡ 0 → (b % 16 * 16 + c / 4) % 16 * 4 ≡ c
short_3 b c h z = omega arith

abbrev back : (b v : ℕ) → is_letter b ≡ true → v ≡ sextet b → letter v ≡ b
back b v h e = ap letter e ∙ letter_sextet b h

-- whole groups of letters and their padding are the spelling of their bytes
respelt : (s : ℕ) (ls ps : List ℕ) → AllByRecursion (λ b. is_letter b ≡ true) ls → prefix_len is_pad ps ≡ length ps → length ps ≤ 2
    → (length ls + length ps) % 4 ≡ 0 → last_or s (map sextet ls) % (4 ^ length ps) ≡ 0
    → base64_spelling (packed (map sextet ls)) ≡ ls ++ ps
respelt s [] ps all pads few whole zero' =
    let k : length ps ≡ 0 = omega arith in
    sym (pads_are ps pads ∙ ap (λ n. replicate n 61) k)
respelt s (a ∷ []) ps all pads few whole zero' = absurd (omega arith)
respelt s (a ∷ b ∷ []) ps all pads few whole zero' =
    let k : length ps ≡ 2 = omega arith in
    let z : sextet b % 16 ≡ 0 = subst (λ n. sextet b % (4 ^ n) ≡ 0) k zero' in
    let p : ps ≡ 61 ∷ 61 ∷ [] = pads_are ps pads ∙ ap (λ n. replicate n 61) k in
    let x = sextet a in let y = sextet b in
    let A : letter ((x * 4 + y / 16) / 4) ≡ a = back a _ all.0 (byte_1 x y (sextet_below b)) in
    let B : letter ((x * 4 + y / 16) % 4 * 16) ≡ b = back b _ all.1.0 (short_2 x y (sextet_below b) z) in
    λ i. A i ∷ B i ∷ sym p i
respelt s (a ∷ b ∷ c ∷ []) ps all pads few whole zero' =
    let k : length ps ≡ 1 = omega arith in
    let z : sextet c % 4 ≡ 0 = subst (λ n. sextet c % (4 ^ n) ≡ 0) k zero' in
    let p : ps ≡ 61 ∷ [] = pads_are ps pads ∙ ap (λ n. replicate n 61) k in
    let x = sextet a in let y = sextet b in let u = sextet c in
    let A : letter ((x * 4 + y / 16) / 4) ≡ a = back a _ all.0 (byte_1 x y (sextet_below b)) in
    let B : letter ((x * 4 + y / 16) % 4 * 16 + (y % 16 * 16 + u / 4) / 16) ≡ b = back b _ all.1.0 (byte_2 x y u (sextet_below b) (sextet_below c)) in
    let C : letter ((y % 16 * 16 + u / 4) % 16 * 4) ≡ c = back c _ all.1.1.0 (short_3 y u (sextet_below c) z) in
    λ i. A i ∷ B i ∷ C i ∷ sym p i
respelt s (a ∷ b ∷ c ∷ d ∷ ls) ps all pads few whole zero' =
    let x = sextet a in let y = sextet b in let u = sextet c in let v = sextet d in
    let A : letter ((x * 4 + y / 16) / 4) ≡ a = back a _ all.0 (byte_1 x y (sextet_below b)) in
    let B : letter ((x * 4 + y / 16) % 4 * 16 + (y % 16 * 16 + u / 4) / 16) ≡ b = back b _ all.1.0 (byte_2 x y u (sextet_below b) (sextet_below c)) in
    let C : letter ((y % 16 * 16 + u / 4) % 16 * 4 + (u % 4 * 64 + v) / 64) ≡ c = back c _ all.1.1.0 (byte_3 y u v (sextet_below c) (sextet_below d)) in
    let D : letter ((u % 4 * 64 + v) % 64) ≡ d = back d _ all.1.1.1.0 (byte_4 u v (sextet_below d)) in
    let R = respelt v ls ps all.1.1.1.1 pads few (omega arith) zero' in
    λ i. A i ∷ B i ∷ C i ∷ D i ∷ R i

-- the test of a text: `=` at the front of the padding, its length, that of the text, and the unused bits
abbrev pub test : ℕ → ℕ → ℕ → ℕ → Bool
test lead pads long left = eqb lead pads && (leb pads 2 && (eqb (long % 4) 0 && eqb left 0))

pub passes : (lead pads long left : ℕ) → lead ≡ pads → long % 4 ≡ 0 → (leb pads 2 && eqb left 0) ≡ true → test lead pads long left ≡ true
passes lead pads long left h k e = grind (arith, nat_tests)

tested : (lead pads long left : ℕ) → test lead pads long left ≡ true → (lead ≡ pads) × (pads ≤ 2) × (long % 4 ≡ 0) × (left ≡ 0)
tested lead pads long left h = (grind (arith, nat_tests), grind (arith, nat_tests), grind (arith, nat_tests), grind (arith, nat_tests))

-- a base64 text without its blanks is the spelling of what it stands for
pub canonical : (text : List ℕ) → is_base64 text ≡ true → base64_spelling (decoded text) ≡ nonblank text
canonical text h =
    let n = prefix_len is_letter (nonblank text) in
    let t = tested (prefix_len is_pad (padding text)) (length (padding text)) (length (nonblank text)) (last_or 0 (sextets text) % (4 ^ length (padding text))) h in
    let long = length-nonblank text in
    let letters-long = length-map (letters text) sextet in
    respelt 0 (letters text) (padding text) (all_leading is_letter (nonblank text)) t.0 t.1 (omega (arith, t.2, long, letters-long)) t.3
    ∙ take-append-drop n (nonblank text)

pub length-spelling : (bs : List ℕ) → length (base64_spelling bs) ≡ (length bs + 2) / 3 * 4
length-spelling [] = refl
length-spelling (a ∷ []) = refl
length-spelling (a ∷ b ∷ []) = refl
length-spelling (a ∷ b ∷ c ∷ bs) = let e = length-spelling bs in omega arith

-- a group of three, or the last group, and then the others
pub spelling_chunk : (group more : List ℕ) → length group ≡ min 3 (length (group ++ more)) → base64_spelling (group ++ more) ≡ base64_spelling group ++ base64_spelling more
spelling_chunk [] [] h = refl
spelling_chunk [] (m ∷ more) h = absurd (omega arith)
spelling_chunk (a ∷ []) [] h = refl
spelling_chunk (a ∷ []) (m ∷ more) h = absurd (omega arith)
spelling_chunk (a ∷ b ∷ []) [] h = refl
spelling_chunk (a ∷ b ∷ []) (m ∷ more) h = absurd (omega arith)
spelling_chunk (a ∷ b ∷ c ∷ []) more h = refl
spelling_chunk (a ∷ b ∷ c ∷ d ∷ group) more h = absurd (omega arith)

-- a text that begins with the letter worth v
sextets_of : (v : ℕ) (t : List ℕ) → v < 64 → sextets (letter v ∷ t) ≡ v ∷ sextets t
sextets_of v t h = sextets_letter (letter v) t (letter_is v h) ∙ ap (λ s. s ∷ sextets t) (sextet_letter v h)

padding_of : (v : ℕ) (t : List ℕ) → v < 64 → padding (letter v ∷ t) ≡ padding t
padding_of v t h = padding_letter (letter v) t (letter_is v h)

two_of : (x y : ℕ) (t : List ℕ) → x < 64 → y < 64 → (sextets (letter x ∷ letter y ∷ t) ≡ x ∷ y ∷ sextets t) × (padding (letter x ∷ letter y ∷ t) ≡ padding t)
two_of x y t hx hy =
    (sextets_of x (letter y ∷ t) hx ∙ ap (λ ss. x ∷ ss) (sextets_of y t hy), padding_of x (letter y ∷ t) hx ∙ padding_of y t hy)

three_of : (x y z : ℕ) (t : List ℕ) → x < 64 → y < 64 → z < 64 → (sextets (letter x ∷ letter y ∷ letter z ∷ t) ≡ x ∷ y ∷ z ∷ sextets t) × (padding (letter x ∷ letter y ∷ letter z ∷ t) ≡ padding t)
three_of x y z t hx hy hz =
    let r = two_of y z t hy hz in
    (sextets_of x (letter y ∷ letter z ∷ t) hx ∙ ap (λ ss. x ∷ ss) r.0, padding_of x (letter y ∷ letter z ∷ t) hx ∙ r.1)

four_of : (x y z w : ℕ) (t : List ℕ) → x < 64 → y < 64 → z < 64 → w < 64 → (sextets (letter x ∷ letter y ∷ letter z ∷ letter w ∷ t) ≡ x ∷ y ∷ z ∷ w ∷ sextets t) × (padding (letter x ∷ letter y ∷ letter z ∷ letter w ∷ t) ≡ padding t)
four_of x y z w t hx hy hz hw =
    let r = three_of y z w t hy hz hw in
    (sextets_of x (letter y ∷ letter z ∷ letter w ∷ t) hx ∙ ap (λ ss. x ∷ ss) r.0, padding_of x (letter y ∷ letter z ∷ letter w ∷ t) hx ∙ r.1)

-- a text behind a sextet s passes the test
record Good (s : ℕ) (ss ps : List ℕ) : Type 0 where
  pads : prefix_len is_pad ps ≡ length ps
  few : length ps ≤ 2
  whole : (length ss + length ps) % 4 ≡ 0
  unused : last_or s ss % (4 ^ length ps) ≡ 0

good_at : (s : ℕ) (ss ss' ps ps' : List ℕ) → ss' ≡ ss → ps' ≡ ps → Good s ss ps → Good s ss' ps'
good_at s ss ss' ps ps' e f g = subst (λ xs. Good s xs ps') (sym e) (subst (λ qs. Good s ss qs) (sym f) g)

spelling_good : (s : ℕ) (bs : List ℕ) → AllByRecursion (λ b. b < 256) bs → Good s (sextets (base64_spelling bs)) (padding (base64_spelling bs))
spelling_good s [] all = record { pads = refl; few = omega arith; whole = refl; unused = omega arith }
spelling_good s (a ∷ []) all =
    let below = all.0 in
    let r = two_of (a / 4) (a % 4 * 16) (61 ∷ 61 ∷ []) (omega arith) (omega arith) in
    good_at s ((a / 4) ∷ (a % 4 * 16) ∷ []) _ (61 ∷ 61 ∷ []) _ r.0 r.1 (record { pads = refl; few = omega arith; whole = refl; unused = omega arith })
spelling_good s (a ∷ b ∷ []) all =
    let below-a = all.0 in let below-b = all.1.0 in
    let r = three_of (a / 4) (a % 4 * 16 + b / 16) (b % 16 * 4) (61 ∷ []) (omega arith) (omega arith) (omega arith) in
    good_at s ((a / 4) ∷ (a % 4 * 16 + b / 16) ∷ (b % 16 * 4) ∷ []) _ (61 ∷ []) _ r.0 r.1 (record { pads = refl; few = omega arith; whole = refl; unused = omega arith })
spelling_good s (a ∷ b ∷ c ∷ bs) all =
    let below-a = all.0 in let below-b = all.1.0 in let below-c = all.1.1.0 in
    let t = base64_spelling bs in
    let r = four_of (a / 4) (a % 4 * 16 + b / 16) (b % 16 * 4 + c / 64) (c % 64) t (omega arith) (omega arith) (omega arith) (omega arith) in
    let g = spelling_good (c % 64) bs all.1.1.1 in
    let w = g.whole in
    good_at s ((a / 4) ∷ (a % 4 * 16 + b / 16) ∷ (b % 16 * 4 + c / 64) ∷ (c % 64) ∷ sextets t) _ (padding t) _ r.0 r.1
    (record { pads = g.pads; few = g.few; whole = omega arith; unused = g.unused })

decoded_back : (bs : List ℕ) → AllByRecursion (λ b. b < 256) bs → decoded (base64_spelling bs) ≡ bs
decoded_back [] all = refl
decoded_back (a ∷ []) all =
    let below = all.0 in
    let r = two_of (a / 4) (a % 4 * 16) (61 ∷ 61 ∷ []) (omega arith) (omega arith) in
    let A : a / 4 * 4 + a % 4 * 16 / 16 ≡ a = omega arith in
    ap packed r.0 ∙ (λ i. A i ∷ [])
decoded_back (a ∷ b ∷ []) all =
    let below-a = all.0 in let below-b = all.1.0 in
    let r = three_of (a / 4) (a % 4 * 16 + b / 16) (b % 16 * 4) (61 ∷ []) (omega arith) (omega arith) (omega arith) in
    let A : a / 4 * 4 + (a % 4 * 16 + b / 16) / 16 ≡ a = omega arith in
    let B : (a % 4 * 16 + b / 16) % 16 * 16 + b % 16 * 4 / 4 ≡ b = omega arith in
    ap packed r.0 ∙ (λ i. A i ∷ B i ∷ [])
decoded_back (a ∷ b ∷ c ∷ bs) all =
    let below-a = all.0 in let below-b = all.1.0 in let below-c = all.1.1.0 in
    let t = base64_spelling bs in
    let r = four_of (a / 4) (a % 4 * 16 + b / 16) (b % 16 * 4 + c / 64) (c % 64) t (omega arith) (omega arith) (omega arith) (omega arith) in
    let A : a / 4 * 4 + (a % 4 * 16 + b / 16) / 16 ≡ a = omega arith in
    let B : (a % 4 * 16 + b / 16) % 16 * 16 + (b % 16 * 4 + c / 64) / 4 ≡ b = omega arith in
    let C : (b % 16 * 4 + c / 64) % 4 * 64 + c % 64 ≡ c = omega arith in
    let R = decoded_back bs all.1.1.1 in
    ap packed r.0 ∙ (λ i. A i ∷ B i ∷ C i ∷ R i)

ending : (pads left : ℕ) → pads ≤ 2 → left ≡ 0 → (leb pads 2 && eqb left 0) ≡ true
ending pads left h k = grind (arith, nat_tests)

-- a spelling is a base64 text, and stands for the bytes that it spells
pub reads_back : (bs : List ℕ) → AllByRecursion (λ b. b < 256) bs → (is_base64 (base64_spelling bs) ≡ true) × (decoded (base64_spelling bs) ≡ bs)
reads_back bs all =
    let text = base64_spelling bs in
    let g = spelling_good 0 bs all in
    let long = length-nonblank text in
    let end : (leb (length (padding text)) 2 && eqb (last_or 0 (sextets text) % (4 ^ length (padding text))) 0) ≡ true =
    ending (length (padding text)) (last_or 0 (sextets text) % (4 ^ length (padding text))) g.few g.unused in (
      passes (prefix_len is_pad (padding text)) (length (padding text)) (length (nonblank text)) (last_or 0 (sextets text) % (4 ^ length (padding text))) g.pads (ap (λ n. n % 4) long ∙ g.whole) end,
      decoded_back bs all,
    )

-- sextets make bytes
packed_below : (ss : List ℕ) → AllByRecursion (λ s. s < 64) ss → AllByRecursion (λ b. b < 256) (packed ss)
packed_below [] all = tt
packed_below (a ∷ []) all = tt
packed_below (a ∷ b ∷ []) all =
    let below-a = all.0 in let below-b = all.1.0 in
    (omega arith, tt)
packed_below (a ∷ b ∷ c ∷ []) all =
    let below-a = all.0 in let below-b = all.1.0 in let below-c = all.1.1.0 in
    (omega arith, (omega arith, tt))
packed_below (a ∷ b ∷ c ∷ d ∷ ss) all =
    let below-a = all.0 in let below-b = all.1.0 in let below-c = all.1.1.0 in let below-d = all.1.1.1.0 in
    (omega arith, (omega arith, (omega arith, packed_below ss all.1.1.1.1)))

sextets_below : (ls : List ℕ) → AllByRecursion (λ s. s < 64) (map sextet ls)
sextets_below [] = tt
sextets_below (l ∷ ls) = (sextet_below l, sextets_below ls)

-- every text stands for bytes
pub decoded_below : (text : List ℕ) → AllByRecursion (λ b. b < 256) (decoded text)
decoded_below text = packed_below (sextets text) (sextets_below (letters text))

-- what holds of letters and of `=` holds of every byte of a spelling
pub all_spelling : (P : ℕ → Type 0) → P 61 → ((b : ℕ) → is_letter b ≡ true → P b) → (bs : List ℕ) → AllByRecursion (λ b. b < 256) bs → AllByRecursion P (base64_spelling bs)
all_spelling P pad is [] all = tt
all_spelling P pad is (a ∷ []) all =
    let below = all.0 in
    (is _ (letter_is (a / 4) (omega arith)), (is _ (letter_is (a % 4 * 16) (omega arith)), (pad, (pad, tt))))
all_spelling P pad is (a ∷ b ∷ []) all =
    let below-a = all.0 in let below-b = all.1.0 in
    (is _ (letter_is (a / 4) (omega arith)), (is _ (letter_is (a % 4 * 16 + b / 16) (omega arith)), (is _ (letter_is (b % 16 * 4) (omega arith)), (pad, tt))))
all_spelling P pad is (a ∷ b ∷ c ∷ bs) all =
    let below-a = all.0 in let below-b = all.1.0 in let below-c = all.1.1.0 in (
      is _ (letter_is (a / 4) (omega arith)),
      (
        is _ (letter_is (a % 4 * 16 + b / 16) (omega arith)),
        (is _ (letter_is (b % 16 * 4 + c / 64) (omega arith)), (is _ (letter_is (c % 64) (omega arith)), all_spelling P pad is bs all.1.1.1)),
      ),
    )

-- the test as a function of the text without its blanks
abbrev test_of : List ℕ → Bool
test_of bs =
    let ps = drop (prefix_len is_letter bs) bs in
    test (prefix_len is_pad ps) (length ps) (length bs) (last_or 0 (map sextet (take (prefix_len is_letter bs) bs)) % (4 ^ length ps))

-- the base64 texts are the spellings of bytes, with blanks anywhere
pub spells : (text : List ℕ) → Decides (is_base64 text) (SpellsBytes text)
spells text = (
  λ h. (decoded text, decoded_below text, sym (canonical text h)),
  λ p.
      let bs = p.0 in
      let r = reads_back bs p.1 in
      let plain : nonblank (base64_spelling bs) ≡ base64_spelling bs = sym (canonical (base64_spelling bs) r.0) ∙ ap base64_spelling r.1 in
      ap test_of (p.2 ∙ sym plain) ∙ r.0,
)
