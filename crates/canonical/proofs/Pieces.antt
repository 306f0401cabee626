-- What is written, put in front of anything, is cut into parts of its own.
use Rattle.std.proofs.Common.{◌≡◌, ℕ, ◌+◌, true, List, [], ◌∷◌, ◌++◌, length, sym, refl, subst, append_assoc}
use Rattle.std.specs.List.{AllByRecursion}
use Rattle.std.proofs.ByRecursion.{All-append, All-weaker}
use Rattle.characters.specs.References.{is_character, all_characters}
use Rattle.characters.proofs.BodyBytes.{Good}
use Rattle.characters.proofs.Leading.{all_from_test}
use Rattle.parts.specs.declared.name.Name.{Name}
use Rattle.parts.specs.declared.name.Name.TheVariants.{MethodCall, MethodResponse, MethodName, Params, Param, Value, Fault, Struct, Member, MemberName, Array, Data, Int, I4, Boolean, String, Double, DateTime, Base64}
use Rattle.parts.specs.declared.tag.Tag.{Tag}
use Rattle.parts.specs.declared.tag.Tag.TheVariants.{Open, Close}
use Rattle.parts.specs.Names.{spelled}
use Rattle.parts.specs.Cutting.{run, tag, Parts, ◌then◌, in_run, opens, closes, Cuts, a_tag as cut_tag}
use Rattle.canonical.specs.Forms.{open_tag, close_tag, element}

-- a byte that may stand in a text of a message: a character other than `<`
abbrev pub InText : ℕ → Type 0
InText b = (is_character b ≡ true) × (in_run b ≡ true)

-- What parts begin with, before other parts: a run and a tag; one thing and then another;
-- an element that holds a text, or that holds something else.
pub data ATag (bytes : List ℕ) (t : Tag) : Parts → Parts → Type 0 where
  a_tag : {p q : ℕ} {ps : Parts} → ATag bytes t (run p bytes then tag q t then ps) ps

pub data InTurn (A B : Parts → Parts → Type 0) : Parts → Parts → Type 0 where
  in_turn : {ps qs rs : Parts} → A ps qs → B qs rs → InTurn A B ps rs

pub data HoldsText (n : Name) (t : List ℕ) : Parts → Parts → Type 0 where
  text : {a p e q : ℕ} {ps : Parts} → HoldsText n t (run a [] then tag p (Open n) then run e t then tag q (Close n) then ps) ps

pub data Holds (n : Name) (Inside : Parts → Parts → Type 0) : Parts → Parts → Type 0 where
  inside : {a p e q : ℕ} {ps qs : Parts} → Inside ps (run e [] then tag q (Close n) then qs) → Holds n Inside (run a [] then tag p (Open n) then ps) qs

-- the bytes of a form are good, and in front of any others it is cut into parts of its own, which are something
pub record Reads (form : List ℕ) (Is : Parts → Parts → Type 0) : Type 0 where
  pub good : Good form
  -- the place behind a form that stands at a place
  pub behind : ℕ → ℕ
  -- its parts at a place, in front of those that follow it
  pub parts : ℕ → Parts → Parts
  pub cut : (p : ℕ) {rest : List ℕ} {ps : Parts} → Cuts (behind p) rest ps → Cuts p (form ++ rest) (parts p ps)
  pub is : (p : ℕ) (ps : Parts) → Is (parts p ps) ps

name_good : (n : Name) → Good (spelled n)
unfolding all_characters
name_good n = all_from_test (spelled n) (test n) where
  test : (n : Name) → all_characters (spelled n) ≡ true
  test MethodCall = refl
  test MethodResponse = refl
  test MethodName = refl
  test Params = refl
  test Param = refl
  test Value = refl
  test Fault = refl
  test Struct = refl
  test Member = refl
  test MemberName = refl
  test Array = refl
  test Data = refl
  test Int = refl
  test I4 = refl
  test Boolean = refl
  test String = refl
  test Double = refl
  test DateTime = refl
  test Base64 = refl

tag_good : (n : Name) → Good (spelled n ++ 62 ∷ [])
tag_good n = All-append (λ b. is_character b ≡ true) (spelled n) (62 ∷ []) (name_good n) (refl, tt)

opened : (n : Name) → Reads (open_tag n) (ATag [] (Open n))
unfolding open_tag
opened n = record {
  good = (refl, tag_good n);
  behind = λ p. p + 0 + 1 + length (spelled n ++ 62 ∷ []);
  parts = λ p ps. run p [] then tag (p + 0) (Open n) then ps;
  cut = λ p {rest} c. cut_tag [] (spelled n ++ 62 ∷ []) rest tt (opens n [] tt) c;
  is = λ p ps. a_tag;
}

closed : (n : Name) (t : List ℕ) → AllByRecursion InText t → Reads (t ++ close_tag n) (ATag t (Close n))
unfolding close_tag
closed n t h = record {
  good = All-append (λ b. is_character b ≡ true) t (close_tag n) (All-weaker InText (λ b. is_character b ≡ true) (λ b k. k.0) t h) (refl, (refl, tag_good n));
  behind = λ p. p + length t + 1 + length (47 ∷ (spelled n ++ 62 ∷ []));
  parts = λ p ps. run p t then tag (p + length t) (Close n) then ps;
  cut = λ p {rest} {ps} c.
      subst (λ l. Cuts p l (run p t then tag (p + length t) (Close n) then ps)) (sym (append_assoc t (close_tag n) rest))
      (cut_tag t (47 ∷ (spelled n ++ 62 ∷ [])) rest (All-weaker InText (λ b. in_run b ≡ true) (λ b k. k.1) t h) (closes n [] tt) c);
  is = λ p ps. a_tag;
}

-- for what needs no parts nothing is written
pub nothing : {Is : Parts → Parts → Type 0} → ((ps : Parts) → Is ps ps) → Reads [] Is
nothing is = record { good = tt; behind = λ p. p; parts = λ p ps. ps; cut = λ p c. c; is = λ p ps. is ps }

-- one form behind another
pub both : (a b : List ℕ) {A B : Parts → Parts → Type 0} → Reads a A → Reads b B → Reads (a ++ b) (InTurn A B)
both a b f g = record {
  good = All-append (λ b. is_character b ≡ true) a b f.good g.good;
  behind = λ p. g.behind (f.behind p);
  parts = λ p ps. f.parts p (g.parts (f.behind p) ps);
  cut = λ p {rest} {ps} c. subst (λ l. Cuts p l (f.parts p (g.parts (f.behind p) ps))) (sym (append_assoc a b rest)) (f.cut p (g.cut (f.behind p) c));
  is = λ p ps. in_turn (f.is p _) (g.is (f.behind p) ps);
}

-- what parts are by one account, they are by another that follows from it
pub so_is : {form : List ℕ} {A B : Parts → Parts → Type 0} → Reads form A → ((ps qs : Parts) → A ps qs → B ps qs) → Reads form B
so_is r f = record { good = r.good; behind = r.behind; parts = r.parts; cut = r.cut; is = λ p ps. f _ ps (r.is p ps) }

pub holds_text : (n : Name) (t : List ℕ) → AllByRecursion InText t → Reads (element n t) (HoldsText n t)
unfolding element
holds_text n t h = so_is (both (open_tag n) (t ++ close_tag n) (opened n) (closed n t h)) whole where
  whole : (ps qs : Parts) → InTurn (ATag [] (Open n)) (ATag t (Close n)) ps qs → HoldsText n t ps qs
  whole ps qs (in_turn a_tag a_tag) = text

pub holds : (n : Name) (form : List ℕ) {Inside : Parts → Parts → Type 0} → Reads form Inside → Reads (element n form) (Holds n Inside)
unfolding element
holds n form {Inside} r = so_is (both (open_tag n) (form ++ close_tag n) (opened n) (both form (close_tag n) r (closed n [] tt))) whole where
  whole : (ps qs : Parts) → InTurn (ATag [] (Open n)) (InTurn Inside (ATag [] (Close n))) ps qs → Holds n Inside ps qs
  whole ps qs (in_turn a_tag (in_turn x a_tag)) = inside x
