use Rattle.std.proofs.Common.{◌≡◌, true, false, Err, sym, ◌∙◌, subst, arith}
use Rattle.std.proofs.lemmas.Bool.Decides.{nat_tests}
use Rattle.characters.specs.References.{all_characters}
use Rattle.characters.specs.Checking.{checked}
use Rattle.characters.specs.Rule.{Judges}
use Rattle.characters.specs.declared.check.BadCharacters.TheVariants.{Byte}
use Rattle.characters.proofs.Reading.{judges}
use Rattle.characters.proofs.check.check_characters.Goals as goal

pub returns-then-leading_of-text : goal.returns-then-leading_of-text
unfolding all_characters
returns-then-leading_of-text c =
    let text = c.args.text.now in
    let p : all_characters text ≡ false = grind (arith, nat_tests) in
    let v : Err Byte ≡ checked text = sym (simp p) in
    record { verdict = v; rule = subst (Judges text) (sym v) (judges text) }

pub returns : goal.returns
unfolding all_characters
returns c =
    let text = c.args.text.now in
    let p : all_characters text ≡ true = grind (arith, nat_tests) in
    let v : c.count_characters.result ≡ checked text = c.count_characters.ensures.value ∙ sym (simp p) in
    record { verdict = v; rule = subst (Judges text) (sym v) (judges text) }
