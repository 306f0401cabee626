-- What a tag does where the reading stands is a line of the table.
use Rattle.std.proofs.Common.{◌≡◌, ℕ, eqb, ◌⊎◌, List, [], ◌∷◌, get_or, Some, sym, refl, ap, ◌∙◌, inl, inr, ⊎_elim, arith}
use Rattle.std.proofs.lemmas.Bool.{cond-true, cond-false, eqb-true, cases_Bool}
use Rattle.parts.specs.declared.name.Name.{Name}
use Rattle.parts.specs.declared.name.Name.TheVariants as name
use Rattle.parts.specs.declared.tag.Tag.{Tag}
use Rattle.parts.specs.declared.tag.Tag.TheVariants.{Open, Close}
use Rattle.table.specs.declared.mode.Move.{Move}
use Rattle.table.specs.Entries.{Entry, ◌does◌, lookup, code_of, name_code}

-- the names in the order of their numbers
unfoldable names : List Name
names = name.MethodCall ∷ name.MethodResponse ∷ name.MethodName ∷ name.Params ∷ name.Param ∷ name.Value ∷ name.Fault ∷ name.Struct ∷ name.Member ∷ name.MemberName
    ∷ name.Array ∷ name.Data ∷ name.Int ∷ name.I4 ∷ name.Boolean ∷ name.String ∷ name.Double ∷ name.DateTime ∷ name.Base64 ∷ []

name_at : (n : Name) → get_or names (name_code n) name.Value ≡ n
unfolding names
name_at name.MethodCall = refl
name_at name.MethodResponse = refl
name_at name.MethodName = refl
name_at name.Params = refl
name_at name.Param = refl
name_at name.Value = refl
name_at name.Fault = refl
name_at name.Struct = refl
name_at name.Member = refl
name_at name.MemberName = refl
name_at name.Array = refl
name_at name.Data = refl
name_at name.Int = refl
name_at name.I4 = refl
name_at name.Boolean = refl
name_at name.String = refl
name_at name.Double = refl
name_at name.DateTime = refl
name_at name.Base64 = refl

same_name : (m n : Name) → name_code m ≡ name_code n → m ≡ n
same_name m n e = sym (name_at m) ∙ ap (λ k. get_or names k name.Value) e ∙ name_at n

same_tag : (t u : Tag) → code_of t ≡ code_of u → t ≡ u
same_tag (Open m) (Open n) e = ap Open (same_name m n (omega arith))
same_tag (Close m) (Close n) e = ap Close (same_name m n (omega arith))
same_tag (Open m) (Close n) e = absurd (omega arith)
same_tag (Close m) (Open n) e = absurd (omega arith)

-- the lines that give a tag a move
abbrev pub Among : Tag → Move → List Entry → Type 0
Among t v [] = ⊥
Among t v ((u does w) ∷ es) = ((t ≡ u) × (w ≡ v)) ⊎ Among t v es

pub among : (t : Tag) (v : Move) (es : List Entry) → lookup t es ≡ Some v → Among t v es
among t v [] h = absurd (let z : ◌≡◌ {A = ℕ} 0 1 = cc in omega arith)
among t v ((u does w) ∷ es) h =
    ⊎_elim
    (λ e. inl (same_tag t u (eqb-true _ _ e), (let k : Some w ≡ Some v = sym (cond-true _ _ _ e) ∙ h in cc)))
    (λ e. inr (among t v es (sym (cond-false _ _ _ e) ∙ h)))
    (cases_Bool (eqb (code_of t) (code_of u)))
