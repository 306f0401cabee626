-- Looking for the first `?>`, two bytes at a time.
use Rattle.std.proofs.Common.{◌≡◌, ℕ, ◌+◌, ◌<◌, ◌≤◌, Bool, true, false, ◌&&◌, eqb, List, [], ◌∷◌, length, get_or, take, drop, Some, None, Option, sym, refl, ap, ◌∙◌, subst, ⊎_elim, arith}
use Rattle.std.specs.Option.{option_map}
use Rattle.std.specs.List.{position, position_from}
use Rattle.std.specs.declared.slice.Windows.{Windows}
use Rattle.std.specs.Slice.Iter.{windows_rest, windows_size, windows_steps}
use Rattle.std.proofs.lemmas.Iterator.{YieldsList}
use Rattle.std.proofs.lemmas.Iterator.Splits.{YieldsList-from_shown_while}
use Rattle.std.proofs.lemmas.Iterator.Adapters.{position_from-zero}
use Rattle.std.proofs.lemmas.Bool.{cond-true, cond-false, and_right, cases_Bool}
use Rattle.parts.specs.Declarations.{is_declared, through_close, declaration_len}

-- each byte with the one behind it
abbrev pub pairs_behind : ℕ → List ℕ → List (List ℕ)
pairs_behind b [] = []
pairs_behind b (c ∷ cs) = (b ∷ c ∷ []) ∷ pairs_behind c cs

abbrev pub pairs : List ℕ → List (List ℕ)
pairs [] = []
pairs (b ∷ bs) = pairs_behind b bs

few_pairs : (bs : List ℕ) → length bs < 2 → length (pairs bs) ≡ 0
few_pairs [] h = refl
few_pairs (b ∷ []) h = refl
few_pairs (b ∷ c ∷ cs) h = absurd (omega arith)

more_pairs : (bs : List ℕ) → 2 ≤ length bs → pairs bs ≡ take 2 bs ∷ pairs (drop 1 bs)
more_pairs [] h = absurd (omega arith)
more_pairs (b ∷ []) h = absurd (omega arith)
more_pairs (b ∷ c ∷ cs) h = refl

-- they are the windows of two
pub all_windows : (s : Windows ℕ) (bs : List ℕ) → windows_rest s ≡ bs → windows_size s ≡ 2 → YieldsList windows_steps (λ w. w.now) s (pairs bs)
all_windows s bs rest size =
    subst (λ l. YieldsList windows_steps (λ w. w.now) s (pairs l)) rest
    (YieldsList-from_shown_while windows_steps (λ w. w.now) (λ t. pairs (windows_rest t)) (λ t. windows_size t ≡ 2)
    (λ t u two h. few_pairs (windows_rest t) (omega (arith, two, h.1.0)))
    (λ t x u two h. (
      h.0 ∙ two,
      more_pairs (windows_rest t) (omega (arith, two, h.1.0)) ∙ (λ i. (ap (λ n. take n (windows_rest t)) (sym two) ∙ sym h.1.1) i ∷ pairs (sym h.1.2 i)),
    ))
    s size)

-- whether two bytes are `?>`
abbrev pub is_close : List ℕ → Bool
is_close w = eqb (length w) 2 && (eqb (get_or w 0 0) 63 && eqb (get_or w 1 0) 62)

onward : (i k : ℕ) (o : Option ℕ) → option_map (λ n. n + (i + k)) (option_map (λ n. n + 1) o) ≡ option_map (λ n. n + (i + 1 + k)) o
onward i k None = refl
onward i k (Some n) = ap Some (omega arith)

closes : (i k : ℕ) (bs : List ℕ) → option_map (λ n. n + (i + k)) (through_close bs) ≡ option_map (λ n. n + (2 + k)) (position_from is_close i (pairs bs))
closes i k [] = refl
closes i k (b ∷ []) = ap (option_map (λ n. n + (i + k))) (cond-false _ (Some 2) None (and_right (eqb b 63) false refl))
closes i k (b ∷ c ∷ cs) =
    let here = is_close (b ∷ c ∷ []) in
    let later = through_close (c ∷ cs) in
    let behind = position_from is_close (i + 1) (pairs (c ∷ cs)) in
    ⊎_elim
    (λ yes. ap (option_map (λ n. n + (i + k))) (cond-true here (Some 2) (option_map (λ n. n + 1) later) yes) ∙ ap Some (omega arith) ∙ ap (option_map (λ n. n + (2 + k))) (sym (cond-true here (Some i) behind yes)))
    (λ no. ap (option_map (λ n. n + (i + k))) (cond-false here (Some 2) (option_map (λ n. n + 1) later) no) ∙ onward i k later ∙ closes (i + 1) k (c ∷ cs) ∙ ap (option_map (λ n. n + (2 + k))) (sym (cond-false here (Some i) behind no)))
    (cases_Bool here)

pub undeclared : (msg : List ℕ) → is_declared msg ≡ false → declaration_len msg ≡ Some 0
unfolding declaration_len
undeclared msg f = cond-false (is_declared msg) (option_map (λ n. n + 5) (through_close (drop 5 msg))) (Some 0) f

pub declared : (msg : List ℕ) → is_declared msg ≡ true → declaration_len msg ≡ option_map (λ n. n + 7) (position is_close (pairs (drop 5 msg)))
unfolding declaration_len
declared msg t =
    cond-true (is_declared msg) (option_map (λ n. n + 5) (through_close (drop 5 msg))) (Some 0) t
    ∙ closes 0 5 (drop 5 msg) ∙ ap (option_map (λ n. n + 7)) (sym (position_from-zero is_close (pairs (drop 5 msg))))
