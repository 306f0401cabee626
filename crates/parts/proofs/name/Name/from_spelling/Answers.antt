use Rattle.std.proofs.Common.{◌≡◌, sym, ap, ◌∙◌}
use Rattle.std.proofs.lemmas.Bool.{both_ways}
use Rattle.std.proofs.lemmas.Bool.Decides.{Decides-eqb}
use Rattle.std.proofs.lemmas.Slice.Eq.{slice_eq-Decides}
use Rattle.parts.specs.declared.name.Name.{Name}
use Rattle.parts.specs.Names.{spelled, likely}
use Rattle.parts.proofs.Spelled.{likely_spelled, named_some, named_none}
use Rattle.parts.proofs.name.Name.from_spelling.Goals as goal

pub returns-then-eq : goal.returns-then-eq
returns-then-eq c =
    let bs = c.args.bytes.now in
    let same : bs ≡ spelled c.likely_name-name.result = (slice_eq-Decides Decides-eqb _ _ _ c.eq.ensures).0 c.if-eq.true ∙ c.spelling.ensures in
    record { name = same; value = sym (named_some bs c.likely_name-name.result same) }

pub returns-else-eq : goal.returns-else-eq
returns-else-eq c =
    let bs = c.args.bytes.now in
    let none : (n : Name) → bs ≡ spelled n → ⊥ = λ n e.
    let name : c.likely_name-name.result ≡ n = c.likely_name-name.ensures ∙ ap likely e ∙ likely_spelled n in
    both_ways c.eq.result c.if-eq.false ((slice_eq-Decides Decides-eqb _ _ _ c.eq.ensures).1 (e ∙ ap spelled (sym name) ∙ sym c.spelling.ensures)) in
    record { name = none; value = sym (named_none bs none) }
