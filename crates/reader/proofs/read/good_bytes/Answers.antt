use Rattle.std.proofs.Common.{◌≡◌, ℕ, Bool, true, ◌||◌, eqb, List, length, sym, ◌∙◌, subst, arith}
use Rattle.std.specs.List.{prefix_len, AllByRecursion}
use Rattle.std.proofs.ByRecursion.{All-weaker}
use Rattle.std.proofs.lemmas.List.{take_all}
use Rattle.std.proofs.lemmas.Bool.{eqb-true}
use Rattle.std.proofs.lemmas.Bool.Decides.{nat_tests}
use Rattle.texts.specs.Bytes.{within}
use Rattle.texts.proofs.Fronts.{all_leading, leading_all}
use Rattle.characters.specs.References.{is_character}
use Rattle.reader.proofs.read.good_bytes.Goals as goal

abbrev is_usual : ℕ → Bool
is_usual b = within 32 126 b || eqb b 10

usual_good : (b : ℕ) → is_usual b ≡ true → is_character b ≡ true
usual_good b h = grind (arith, nat_tests)

all_good : (msg : List ℕ) → prefix_len is_usual msg ≡ length msg → prefix_len is_character msg ≡ length msg
all_good msg h =
    let all : AllByRecursion (λ b. is_usual b ≡ true) msg = subst (AllByRecursion (λ b. is_usual b ≡ true)) (take_all (prefix_len is_usual msg) msg (omega arith)) (all_leading is_usual msg) in
    leading_all is_character msg (All-weaker (λ b. is_usual b ≡ true) (λ b. is_character b ≡ true) usual_good msg all)

pub returns-then-all_of : goal.returns-then-all_of
returns-then-all_of c =
    let msg = c.args.message.now in
    record { value = sym (all_good msg (eqb-true (prefix_len is_usual msg) (length msg) (sym c.all_of.ensures ∙ c.if-all_of.true))); bound = omega arith }
