-- Laws of the spellings.
use Rattle.std.proofs.Common.{◌≡◌, ℕ, List, Some, None, sym, refl, ap, ◌∙◌, ⊎_elim}
use Rattle.parts.specs.declared.name.Name.{Name}
use Rattle.parts.specs.declared.name.Name.TheVariants.{MethodCall, MethodResponse, MethodName, Params, Param, Value, Fault, Struct, Member, MemberName, Array, Data, Int, I4, Boolean, String, Double, DateTime, Base64}
use Rattle.std.specs.Str.{bytes_eq}
use Rattle.std.proofs.lemmas.Slice.Eq.{bytes_eq-Decides}
use Rattle.std.proofs.lemmas.Bool.{cond-true, cond-false, cases_Bool}
use Rattle.parts.specs.Names.{spelled, likely}
use Rattle.parts.specs.Tags.{named}

pub likely_spelled : (n : Name) → likely (spelled n) ≡ n
likely_spelled MethodCall = refl
likely_spelled MethodResponse = refl
likely_spelled MethodName = refl
likely_spelled Params = refl
likely_spelled Param = refl
likely_spelled Value = refl
likely_spelled Fault = refl
likely_spelled Struct = refl
likely_spelled Member = refl
likely_spelled MemberName = refl
likely_spelled Array = refl
likely_spelled Data = refl
likely_spelled Int = refl
likely_spelled I4 = refl
likely_spelled Boolean = refl
likely_spelled String = refl
likely_spelled Double = refl
likely_spelled DateTime = refl
likely_spelled Base64 = refl

-- bytes that spell a name are named so, and others are not named
pub named_some : (bs : List ℕ) (n : Name) → bs ≡ spelled n → named bs ≡ Some n
unfolding named
named_some bs n e =
    let same : likely bs ≡ n = ap likely e ∙ likely_spelled n in
    cond-true (bytes_eq bs (spelled (likely bs))) (Some (likely bs)) None ((bytes_eq-Decides bs (spelled (likely bs))).1 (e ∙ ap spelled (sym same))) ∙ ap Some same

pub named_none : (bs : List ℕ) → ((n : Name) → bs ≡ spelled n → ⊥) → named bs ≡ None
unfolding named
named_none bs none = ⊎_elim
    (λ yes. absurd (none (likely bs) ((bytes_eq-Decides bs (spelled (likely bs))).0 yes)))
    (λ other. cond-false (bytes_eq bs (spelled (likely bs))) (Some (likely bs)) None other)
    (cases_Bool (bytes_eq bs (spelled (likely bs))))
