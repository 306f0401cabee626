use Rattle.std.proofs.Common.{◌≡◌, ℕ, Bool, true, false, List, [], ◌∷◌, length, eqb, MatchOption, sym, ap}
use Rattle.std.specs.Bool.{then_some}
use Rattle.std.proofs.lemmas.List.{nil_from_length}
use Rattle.std.proofs.lemmas.Bool.{eqb-true, eqb-false}
use Rattle.commands.specs.Numbers.{Spaced}
use Rattle.commands.proofs.Spaces.{spaced_none, spaced_end}
use Rattle.commands.proofs.numbers.two_numbers.Goals as goal

pub returns-in_err-first : goal.returns-in_err-first
returns-in_err-first c = rw c.from_residual.ensures (λ m n sp. c.in_err-first.ensures m (n ∷ []) sp)

pub returns-in_err-second : goal.returns-in_err-second
returns-in_err-second c = rw c.from_residual-in_err-second.ensures (λ m n sp. c.in_err-second.ensures n [] (c.in_ok-first.ensures.1 m (n ∷ []) sp).1)

-- two numbers, if nothing is left behind them
if_none : (text rest : List ℕ) (p : ℕ × ℕ) (b : Bool) → b ≡ eqb (length rest) 0 → (rest ≡ [] → Spaced text (p.0 ∷ p.1 ∷ [])) → ((m n : ℕ) → Spaced text (m ∷ n ∷ []) → rest ≡ []) →
    MatchOption (then_some b p) ((m n : ℕ) → Spaced text (m ∷ n ∷ []) → ⊥) (λ p. Spaced text (p.0 ∷ p.1 ∷ []))
if_none text rest p true is made none = made (nil_from_length rest (eqb-true _ _ (sym is)))
if_none text rest p false is made none = λ m n sp. eqb-false (length rest) 0 (sym is) (ap length (none m n sp))

pub returns : goal.returns
returns c =
    let rest = c.in_ok-second.rest.now in
    rw c.then_some.ensures (
    if_none c.args.text.now rest (c.in_ok-first.first, c.in_ok-second.second) c.is_empty.result c.is_empty.ensures
    (λ e. c.in_ok-first.ensures.0 (c.in_ok-second.second ∷ []) (c.in_ok-second.ensures.0 [] (spaced_end rest e)))
    (λ m n sp. spaced_none rest (c.in_ok-second.ensures.1 n [] (c.in_ok-first.ensures.1 m (n ∷ []) sp).1).1)
    )
