-- The bytes of a reference's body are characters, and so is what it names.
use Rattle.std.proofs.Common.{◌≡◌, ℕ, ◌≤◌, Bool, true, false, cond, ◌&&◌, eqb, ltb, leb, List, [], ◌∷◌, length, get_or, drop, Some, None, codes, Option, sym, refl, ap, ◌∙◌, subst, ⊎_elim, arith}
use Rattle.std.specs.Str.Parse.{digits_value}
use Rattle.std.specs.List.{AllByRecursion}
use Rattle.std.specs.Str.{bytes_eq}
use Rattle.std.proofs.ByRecursion.{All-weaker}
use Rattle.std.proofs.lemmas.Slice.Eq.{bytes_eq-Decides}
use Rattle.std.proofs.lemmas.Bool.{cases_Bool, eqb-true, and_parts}
use Rattle.std.proofs.lemmas.Bool.Decides.{nat_tests}
use Rattle.characters.specs.References.{is_character, all_characters, is_digit_of, all_digits, named, numeral, numbered, referenced}
use Rattle.characters.proofs.Leading.{all_from_leading, all_from_test}

abbrev pub Good : List ℕ → Type 0
Good bs = AllByRecursion (λ b. is_character b ≡ true) bs

digit_good : (radix b : ℕ) → radix ≤ 16 → is_digit_of radix b ≡ true → is_character b ≡ true
digit_good radix b le h = grind (arith, nat_tests)

-- where a choice gives something, the test chose
chosen : {X : Type 0} (t : Bool) (x y : X) → cond t (Some x) None ≡ Some y → t ≡ true
chosen true x y e = refl
chosen false x y e = let z : ◌≡◌ {A = ℕ} 0 1 = cc in absurd (omega arith)

digits_good : (radix most c : ℕ) (ds : List ℕ) → radix ≤ 16 → numeral radix most ds ≡ Some c → Good ds
unfolding numeral
digits_good radix most c ds le e =
    let all : all_digits radix ds ≡ true =
    let t = chosen (ltb 0 (length ds) && (leb (length ds) most && (all_digits radix ds && is_character (digits_value radix ds)))) (digits_value radix ds) c e in
    (and_parts (all_digits radix ds) _ (and_parts (leb (length ds) most) _ (and_parts (ltb 0 (length ds)) _ t).1).1).0 in
    All-weaker (λ b. is_digit_of radix b ≡ true) (λ b. is_character b ≡ true) (λ b. digit_good radix b le) ds (all_from_leading (is_digit_of radix) ds (eqb-true _ _ all))

numbered_good : (ds : List ℕ) (c : ℕ) → numbered ds ≡ Some c → Good ds
unfolding numbered
numbered_good [] c e = tt
numbered_good (d ∷ ds) c e =
    ⊎_elim
    (λ (t : eqb d 120 ≡ true). (ap is_character (eqb-true d 120 t), digits_good 16 4 c ds (omega arith) (simp t at e)))
    (λ (t : eqb d 120 ≡ false). digits_good 10 5 c (d ∷ ds) (omega arith) (simp t at e))
    (cases_Bool (eqb d 120))

-- a body is that of a name
among : {X : Type 0} (bs w : List ℕ) (x : X) (rest : Option X) (y : X) → all_characters w ≡ true → cond (bytes_eq bs w) (Some x) rest ≡ Some y → (rest ≡ Some y → Good bs) → Good bs
among bs w x rest y good e other =
    ⊎_elim
    (λ (t : bytes_eq bs w ≡ true). subst Good (sym ((bytes_eq-Decides bs w).0 t)) (all_from_test w good))
    (λ (t : bytes_eq bs w ≡ false). other (simp t at e))
    (cases_Bool (bytes_eq bs w))

named_good : (bs : List ℕ) (c : ℕ) → named bs ≡ Some c → Good bs
unfolding all_characters
named_good bs c e =
    among bs (codes "amp") 38 _ c refl e (λ e.
    among bs (codes "lt") 60 _ c refl e (λ e.
    among bs (codes "gt") 62 _ c refl e (λ e.
    among bs (codes "apos") 39 _ c refl e (λ e.
    among bs (codes "quot") 34 _ c refl e (λ e. let z : ◌≡◌ {A = ℕ} 0 1 = cc in absurd (omega arith))))))

pub body_good : (body : List ℕ) (c : ℕ) → referenced body ≡ Some c → Good body
unfolding referenced
body_good [] c e = tt
body_good (b ∷ body) c e =
    ⊎_elim
    (λ (t : eqb b 35 ≡ true). (ap is_character (eqb-true b 35 t), numbered_good body c (simp t at e)))
    (λ (t : eqb b 35 ≡ false). named_good (b ∷ body) c (simp t at e))
    (cases_Bool (eqb b 35))

-- what a choice among characters gives is a character
one_of : (t : Bool) (x : ℕ) (rest : Option ℕ) (c : ℕ) → (t ≡ true → is_character x ≡ true) → cond t (Some x) rest ≡ Some c → (rest ≡ Some c → is_character c ≡ true) → is_character c ≡ true
one_of true x rest c good e other = let same : x ≡ c = cc in sym (ap is_character same) ∙ good refl
one_of false x rest c good e other = other e

no_other : (c : ℕ) → None ≡ Some c → is_character c ≡ true
no_other c e = let z : ◌≡◌ {A = ℕ} 0 1 = cc in absurd (omega arith)

numeral_names : (radix most c : ℕ) (ds : List ℕ) → numeral radix most ds ≡ Some c → is_character c ≡ true
unfolding numeral
numeral_names radix most c ds e =
    one_of (ltb 0 (length ds) && (leb (length ds) most && (all_digits radix ds && is_character (digits_value radix ds)))) (digits_value radix ds) None c
    (λ t. (and_parts (all_digits radix ds) _ (and_parts (leb (length ds) most) _ (and_parts (ltb 0 (length ds)) _ t).1).1).1) e (no_other c)

-- what a reference names is a character
pub names_character : (body : List ℕ) (c : ℕ) → referenced body ≡ Some c → is_character c ≡ true
unfolding referenced numbered
names_character body c e =
    ⊎_elim
    (λ (t : eqb (get_or body 0 0) 35 ≡ true).
    let ds = drop 1 body in
    let n : numbered ds ≡ Some c = simp t at e in
    ⊎_elim
    (λ (x : eqb (get_or ds 0 0) 120 ≡ true). numeral_names 16 4 c (drop 1 ds) (simp x at n))
    (λ (x : eqb (get_or ds 0 0) 120 ≡ false). numeral_names 10 5 c ds (simp x at n))
    (cases_Bool (eqb (get_or ds 0 0) 120)))
    (λ (t : eqb (get_or body 0 0) 35 ≡ false).
    let n : named body ≡ Some c = simp t at e in
    one_of (bytes_eq body (codes "amp")) 38 _ c (λ _. refl) n (λ n.
    one_of (bytes_eq body (codes "lt")) 60 _ c (λ _. refl) n (λ n.
    one_of (bytes_eq body (codes "gt")) 62 _ c (λ _. refl) n (λ n.
    one_of (bytes_eq body (codes "apos")) 39 _ c (λ _. refl) n (λ n.
    one_of (bytes_eq body (codes "quot")) 34 _ c (λ _. refl) n (no_other c))))))
    (cases_Bool (eqb (get_or body 0 0) 35))
