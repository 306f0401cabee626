-- Numbers behind spaces: the first one and the others.
use Rattle.std.proofs.Common.{◌≡◌, ℕ, ◌<◌, true, List, [], ◌∷◌, ◌++◌, length, take, drop, sym, refl, ap, ◌∙◌, subst, append-nil, arith, take-append-drop}
use Rattle.std.specs.List.{prefix_len, AllByRecursion}
use Rattle.std.proofs.lemmas.List.{take_at, drop_at, length-take-le}
use Rattle.std.proofs.lemmas.List.Sums.{prefix_len-le-length}
use Rattle.texts.specs.Digits.{is_digit, worth}
use Rattle.texts.proofs.Fronts.{leading_all, leading_stops, all_leading}
use Rattle.commands.specs.Numbers.{capped, Spaced}

-- digits in front of further numbers are all that lead
digits_lead : (ds rest ns : List ℕ) → AllByRecursion (λ d. is_digit d ≡ true) ds → Spaced rest ns → prefix_len is_digit (ds ++ rest) ≡ length ds
unfolding Spaced
digits_lead ds rest [] all e = ap (λ r. prefix_len is_digit (ds ++ r)) e ∙ ap (prefix_len is_digit) (append-nil ds) ∙ leading_all is_digit ds all
digits_lead ds rest (n ∷ ns) all (more, after, e, num, sp) = ap (λ r. prefix_len is_digit (ds ++ r)) e ∙ leading_stops is_digit ds 32 (more ++ after) all refl

-- the digits that lead behind a space are a number, if there are any
pub spaced_make : (text rest ns : List ℕ) (n : ℕ) → text ≡ 32 ∷ rest → 0 < prefix_len is_digit rest → n ≡ capped (worth (take (prefix_len is_digit rest) rest)) → Spaced (drop (prefix_len is_digit rest) rest) ns → Spaced text (n ∷ ns)
unfolding Spaced
spaced_make text rest ns n e some is sp =
    let k = prefix_len is_digit rest in
    let long : length (take k rest) ≡ k = length-take-le k rest (prefix_len-le-length is_digit rest) in
    (take k rest, drop k rest, e ∙ ap (λ r. 32 ∷ r) (sym (take-append-drop k rest)), record { some = omega arith; digits = all_leading is_digit rest; value = is }, sp)

-- numbers are a space, the digits that lead behind it, and the others
pub record First (text : List ℕ) (n : ℕ) (ns : List ℕ) (rest : List ℕ) : Type 0 where
  pub some : 0 < prefix_len is_digit rest
  pub value : n ≡ capped (worth (take (prefix_len is_digit rest) rest))
  pub others : Spaced (drop (prefix_len is_digit rest) rest) ns

pub spaced_first : (text rest ns : List ℕ) (n : ℕ) → text ≡ 32 ∷ rest → Spaced text (n ∷ ns) → First text n ns rest
unfolding Spaced
spaced_first text rest ns n e (ds, after, is, num, sp) =
    let same : rest ≡ ds ++ after = ap (drop 1) (sym e ∙ is) in
    let k : prefix_len is_digit rest ≡ length ds = ap (prefix_len is_digit) same ∙ digits_lead ds after ns num.digits sp in
    let front : take (prefix_len is_digit rest) rest ≡ ds = (λ i. take (k i) (same i)) ∙ take_at ds after (length ds) refl in
    let back : drop (prefix_len is_digit rest) rest ≡ after = (λ i. drop (k i) (same i)) ∙ drop_at ds after (length ds) refl in
    let all : 0 < prefix_len is_digit rest = omega (arith, k, num.some) in
    record { some = all; value = num.value ∙ ap (λ l. capped (worth l)) (sym front); others = subst (λ l. Spaced l ns) (sym back) sp }

-- no text without a space in front is a number or more
pub spaced_space : (text ns : List ℕ) (n : ℕ) → Spaced text (n ∷ ns) → (rest : List ℕ) × (text ≡ 32 ∷ rest)
unfolding Spaced
spaced_space text ns n (ds, after, is, num, sp) = (ds ++ after, is)

-- nothing at all is no number
pub spaced_none : (text : List ℕ) → Spaced text [] → text ≡ []
unfolding Spaced
spaced_none text e = e

pub spaced_end : (text : List ℕ) → text ≡ [] → Spaced text []
unfolding Spaced
spaced_end text e = e
