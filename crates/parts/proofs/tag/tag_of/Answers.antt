use Rattle.std.proofs.Common.{◌≡◌, ◌≤◌, length, get_or, sym, ap, ◌∙◌, arith, length-drop}
use Rattle.std.proofs.lemmas.List.{take_rest, get_or_past}
use Rattle.std.proofs.lemmas.Bool.Decides.{nat_tests}
use Rattle.parts.specs.Tags.{close_tag}
use Rattle.parts.proofs.Begun.{tag_close, tag_open, some_weaker}
use Rattle.parts.proofs.tag.tag_of.Goals as goal
use Rattle.parts.proofs.tag.tag_of.Goals.{in_default-via-then-bytes-lt1, in_default-via-else-bytes-lt1+in_default-1}

pub returns-in-47 : goal.returns-in-47
returns-in-47 c =
    let bs = c.args.bytes.now in
    let first : get_or bs 0 0 ≡ 47 = grind (arith, nat_tests) in
    let some : 1 ≤ length bs = grind (arith, nat_tests) in
    let rest = take_rest bs 1 in
    record {
      value = c.close_tag.ensures.value ∙ ap close_tag rest ∙ sym (tag_close bs first);
      within = some_weaker c.close_tag.result (λ u. u) (λ s h. omega (arith, h, ap length rest, length-drop 1 bs)) c.close_tag.ensures.within;
    }

pub returns-in_default : goal.returns-in_default
returns-in_default c =
    let bs = c.args.bytes.now in
    let other : get_or bs 0 0 ≡ 47 → ⊥ = elim c.in_default.branch [
      | in_default-via-then-bytes-lt1 w ↦ λ e. grind (arith, nat_tests, get_or_past bs 0 0)
      | in_default-via-else-bytes-lt1+in_default-1 w ↦ λ e. grind (arith, nat_tests)
    ] in
    record { value = c.open_tag.ensures.value ∙ sym (tag_open bs other); within = c.open_tag.ensures.within }
