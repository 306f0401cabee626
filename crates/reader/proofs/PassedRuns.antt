-- A run that gives a row is as the grammar asks.
use Rattle.std.proofs.Common.{◌≡◌, ℕ, Bool, true, false, cond, eqb, List, length, Some, None, Ok, Err, Option, refl, arith}
use Rattle.std.specs.List.{prefix_len}
use Rattle.std.proofs.lemmas.Bool.{eqb-true}
use Rattle.wire.specs.declared.kind.Kind.{Kind}
use Rattle.wire.specs.declared.row.Row.{Row}
use Rattle.texts.specs.Bytes.{is_blank}
use Rattle.characters.specs.Rule.{CharacterData}
use Rattle.characters.specs.Checking.{counted, unless_bad}
use Rattle.characters.specs.Decoding.{decoded, first_bad}
use Rattle.characters.proofs.BodyBytes.{Good}
use Rattle.characters.proofs.Leading.{all_from_leading}
use Rattle.characters.proofs.Reading as reading
use Rattle.parts.specs.Cutting.{AreBlank}
use Rattle.reader.specs.Runs.{blank_run, characters_run, characters_by, by_value, by_test, text_row, span_at}

pub never : {A X E : Type 0} (e : E) (x : X) → Err e ≡ Ok x → A
never e x h = absurd (let z : ◌≡◌ {A = ℕ} 0 1 = cc in omega arith)

passed : {X E : Type 0} (good : Bool) (x y : X) (e : E) → cond good (Ok x) (Err e) ≡ Ok y → good ≡ true
passed true x y e h = refl
passed false x y e h = never _ _ h

pub is_blank_lem : (p : ℕ) (bs : List ℕ) {r : Row} → blank_run p bs ≡ Ok r → AreBlank bs
is_blank_lem p bs h = all_from_leading is_blank bs (eqb-true _ _ (passed (eqb (prefix_len is_blank bs) (length bs)) _ _ _ h))

pub has_value : {X : Type 0} (p : ℕ) (o : Option X) (row : X → Row) {r : Row} → by_value p o row ≡ Ok r → (x : X) × (o ≡ Some x)
has_value p (Some x) row h = (x, refl)
has_value p None row h = never _ _ h

pub test_passed : (p : ℕ) (good : Bool) (row : Row) {r : Row} → by_test p good row ≡ Ok r → good ≡ true
test_passed p good row h = passed good _ _ _ h

pub is_characters : (k : Kind) (n p : ℕ) (bs : List ℕ) {r : Row} → Good bs → characters_run k n p bs ≡ Ok r → CharacterData bs (decoded bs)
unfolding counted
is_characters k n p bs {r} good h = none (first_bad bs) refl h
  where
    none : (o : Option ℕ) → first_bad bs ≡ o → characters_by (text_row k n (span_at p (length bs))) p (unless_bad o (length (decoded bs))) ≡ Ok r → CharacterData bs (decoded bs)
    none None e g = reading.sound bs 0 0 good e
    none (Some at) e g = never _ _ g
