-- The order of names.
use Rattle.std.proofs.Common.{◌≡◌, ℕ, ◌<◌, ◌≤◌, List, [], ◌∷◌, Ordering, Less, Equal, Greater, refl, sym, ap, ◌∙◌, subst, inl, inr, ⊎_elim, arith}
use Rattle.std.specs.Ordering.{nat_cmp, ordering_then, ordering_index, MatchOrdering}
use Rattle.std.specs.Cmp.Lexicographic.{slice_cmp}
use Rattle.std.proofs.lemmas.Cmp.{ranked}
use Rattle.messages.specs.Order.{Precedes, Orders}

-- what precedes a third by way of a second
pub through : (xs ys zs : List ℕ) → Precedes xs ys → Precedes ys zs → Precedes xs zs
through xs [] zs p q = absurd p
through xs (y ∷ ys) [] p q = absurd q
through [] (y ∷ ys) (z ∷ zs) p q = tt
through (x ∷ xs) (y ∷ ys) (z ∷ zs) p q =
    ⊎_elim (λ lt. ⊎_elim (λ lt'. inl (omega (arith, lt, lt'))) (λ e. inl (omega (arith, lt, e.0))) q)
    (λ e. ⊎_elim (λ lt'. inl (omega (arith, e.0, lt'))) (λ e'. inr (e.0 ∙ e'.0, through xs ys zs e.1 e'.1)) q) p

-- a name does not precede itself
pub never_itself : (xs : List ℕ) → Precedes xs xs → ⊥
never_itself [] p = p
never_itself (x ∷ xs) p = ⊎_elim (λ lt. omega (arith, lt)) (λ e. never_itself xs e.1) p

pub apart : (xs ys : List ℕ) → Precedes xs ys → xs ≡ ys → ⊥
apart xs ys p e = never_itself ys (subst (λ l. Precedes l ys) e p)

-- what the order of the first characters, and that of the others, make of two names
joined : (x y : ℕ) (xs ys : List ℕ) (o p : Ordering) → MatchOrdering o (x < y) (x ≡ y) (y < x) → Orders p xs ys → Orders (ordering_then o p) (x ∷ xs) (y ∷ ys)
joined x y xs ys Less p h q = inl h
joined x y xs ys Equal Less h q = inr (h, q)
joined x y xs ys Equal Equal h q = λ i. h i ∷ q i
joined x y xs ys Equal Greater h q = inr (sym h, q)
joined x y xs ys Greater p h q = inl h

-- the library's order of lists tells which name precedes
pub ordered : (xs ys : List ℕ) → Orders (slice_cmp nat_cmp xs ys) xs ys
ordered [] [] = refl
ordered [] (y ∷ ys) = tt
ordered (x ∷ xs) [] = tt
ordered (x ∷ xs) (y ∷ ys) = joined x y xs ys (nat_cmp x y) (slice_cmp nat_cmp xs ys) (ranked x y (nat_cmp x y) refl) (ordered xs ys)

pub orders : (o : Ordering) (xs ys : List ℕ) → o ≡ slice_cmp nat_cmp xs ys → Orders o xs ys
orders o xs ys e = subst (λ p. Orders p xs ys) (sym e) (ordered xs ys)

less : (o : Ordering) (xs ys : List ℕ) → Orders o xs ys → Precedes xs ys → o ≡ Less
less Less xs ys told p = refl
less Equal xs ys told p = absurd (apart xs ys p told)
less Greater xs ys told p = absurd (never_itself xs (through xs ys xs p told))

above : (o p : Ordering) (xs ys zs : List ℕ) → Orders o xs zs → Orders p ys zs → Precedes xs ys → ordering_index o ≤ ordering_index p
above o Less xs ys zs told told' h = let e = less o xs zs told (through xs ys zs h told') in omega (arith, ap ordering_index e)
above o Equal xs ys zs told told' h = let e = less o xs zs told (subst (Precedes xs) told' h) in omega (arith, ap ordering_index e)
above Less Greater xs ys zs told told' h = omega arith
above Equal Greater xs ys zs told told' h = omega arith
above Greater Greater xs ys zs told told' h = omega arith

-- of two names in order, the first does not stand further behind a third
pub rises : (xs ys zs : List ℕ) → Precedes xs ys → ordering_index (slice_cmp nat_cmp xs zs) ≤ ordering_index (slice_cmp nat_cmp ys zs)
rises xs ys zs h = above (slice_cmp nat_cmp xs zs) (slice_cmp nat_cmp ys zs) xs ys zs (ordered xs zs) (ordered ys zs) h
