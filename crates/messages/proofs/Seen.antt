-- The members of a struct that were met so far.
use Rattle.std.proofs.Common.{◌≡◌, ℕ, ◌+◌, ◌<◌, ◌≤◌, List, [], length, get_or, drop, sym, refl, ap, ◌∙◌, subst, ⊎_elim, add-one, arith}
use Rattle.std.specs.List.{insert}
use Rattle.std.proofs.lemmas.List.Edits.{get_or-insert_below, get_or-insert_at, get_or-insert_above}
use Rattle.std.proofs.lemmas.Bool.{cases_eq, cases_lt}
use Rattle.wire.specs.declared.row.Row.{Row}
use Rattle.messages.specs.Holding.{extent, part_at, counts_of}
use Rattle.messages.specs.Order.{Precedes}
use Rattle.messages.specs.Sorted.{name_at, Ascends, Belongs, member_name, Differ}
use Rattle.messages.proofs.Inserts.{Spot, below, at, above, spot, longer}
use Rattle.messages.proofs.Ordered.{apart}
use Rattle.messages.proofs.Walked.{extent_more, counts_length}

-- the next member stands at a row, and the n before it are among the sorted rows and have different names
pub record Seen (msg : List ℕ) (rows : List Row) (s n member : ℕ) (sorted : List ℕ) : Type 0 where
  pub here : member ≡ part_at (counts_of rows) s n
  pub far : s + 1 + n ≤ member
  pub within : member ≤ length rows
  pub many : length sorted ≡ n
  pub order : Ascends msg rows sorted
  pub covers : (k : ℕ) → k < n → (a : ℕ) × (a < n) × (get_or sorted a 0 ≡ part_at (counts_of rows) s k)
  pub comes : (a : ℕ) → a < n → (k : ℕ) × (k < n) × (get_or sorted a 0 ≡ part_at (counts_of rows) s k)
  pub differ : Differ msg rows s n

module _ (msg : List ℕ) (rows : List Row) (s n member p : ℕ) (sorted : List ℕ) (seen : Seen msg rows s n member sorted)
    (lt : member < length rows) (belongs : Belongs msg rows sorted (name_at msg rows member) p) where
  abbrev counts : List ℕ
  counts = counts_of rows

  abbrev more : List ℕ
  more = insert sorted p member

  abbrev name_of : ℕ → List ℕ
  name_of i = name_at msg rows i

  place : (a : ℕ) → Spot sorted p member belongs.within a
  place a = spot sorted p member belongs.within a

  inside : (a : ℕ) → a < length more → get_or more a 0 < length rows
  inside a l =
      let long = longer sorted p member belongs.within in
      elim (place a) [
        | below h e ↦ subst (λ i. i < length rows) (sym e) (seen.order.inside a (omega (arith, h, belongs.within)))
        | at h e ↦ subst (λ i. i < length rows) (sym e) lt
        | above b h g e ↦ subst (λ i. i < length rows) (sym e) (seen.order.inside b (omega (arith, h, l, long)))
      ]

  named : (a b i j : ℕ) → get_or more a 0 ≡ i → get_or more b 0 ≡ j → Precedes (name_of i) (name_of j) → Precedes (name_of (get_or more a 0)) (name_of (get_or more b 0))
  named a b i j e f h = subst (λ x. Precedes (name_of x) (name_of (get_or more b 0))) (sym e) (subst (λ y. Precedes (name_of i) (name_of y)) (sym f) h)

  ascends : (a b : ℕ) → a < b → b < length more → Precedes (name_of (get_or more a 0)) (name_of (get_or more b 0))
  ascends a b l w =
      let long = longer sorted p member belongs.within in
      elim (place a) [
        | below h e ↦ elim (place b) [
          | below h' e' ↦ named a b _ _ e e' (seen.order.ascends a b l (omega (arith, h', belongs.within)))
          | at h' e' ↦ named a b _ _ e e' (belongs.below a h)
          | above k h' g' e' ↦ named a b _ _ e e' (seen.order.ascends a k (omega (arith, h, g')) (omega (arith, h', w, long)))
        ]
        | at h e ↦ elim (place b) [
          | below h' e' ↦ absurd (omega (arith, h, h', l))
          | at h' e' ↦ absurd (omega (arith, h, h', l))
          | above k h' g' e' ↦ named a b _ _ e e' (belongs.above k g' (omega (arith, h', w, long)))
        ]
        | above i h g e ↦ elim (place b) [
          | below h' e' ↦ absurd (omega (arith, h, g, h', l))
          | at h' e' ↦ absurd (omega (arith, h, g, h', l))
          | above k h' g' e' ↦ named a b _ _ e e' (seen.order.ascends i k (omega (arith, h, h', l)) (omega (arith, h', w, long)))
        ]
      ]

  -- a row that was there is there still
  stays : (a : ℕ) → a < n → (b : ℕ) × (b < n + 1) × (get_or more b 0 ≡ get_or sorted a 0)
  stays a l =
      ⊎_elim (λ lo. (a, omega (arith, l), get_or-insert_below sorted p member 0 a lo belongs.within))
      (λ hi. (a + 1, omega (arith, l), get_or-insert_above sorted p member 0 a hi belongs.within)) (cases_lt a p)

  covers : (k : ℕ) → k < n + 1 → (a : ℕ) × (a < n + 1) × (get_or more a 0 ≡ part_at counts s k)
  covers k l =
      ⊎_elim
      (λ e. (p, omega (arith, belongs.within, seen.many), get_or-insert_at sorted p member 0 belongs.within ∙ seen.here ∙ ap (part_at counts s) (sym e)))
      (λ ne.
      let old = seen.covers k (omega (arith, l, ne)) in
      let new = stays old.0 old.1 in
      (new.0, new.1, new.2 ∙ old.2))
      (cases_eq k n)

  comes : (a : ℕ) → a < n + 1 → (k : ℕ) × (k < n + 1) × (get_or more a 0 ≡ part_at counts s k)
  comes a l =
      let many = seen.many in
      elim (place a) [
        | below h e ↦ let old = seen.comes a (omega (arith, h, belongs.within, many)) in (old.0, omega (arith, old.1), e ∙ old.2)
        | at h e ↦ (n, omega arith, e ∙ seen.here)
        | above b h g e ↦ let old = seen.comes b (omega (arith, h, l)) in (old.0, omega (arith, old.1), e ∙ old.2)
      ]

  -- none of the members before has this name
  new_name : (j : ℕ) → j < n → member_name msg rows s j ≡ name_of member → ⊥
  new_name j l same =
      let old = seen.covers j l in
      let a = old.0 in
      let same' : name_of (get_or sorted a 0) ≡ name_of member = ap name_of old.2 ∙ same in
      ⊎_elim (λ lo. apart _ _ (belongs.below a lo) same')
      (λ hi. apart _ _ (belongs.above a hi (omega (arith, old.1, seen.many))) (sym same')) (cases_lt a p)

  differ : Differ msg rows s (n + 1)
  differ j k l w same =
      ⊎_elim (λ e. new_name j (omega (arith, l, e)) (same ∙ ap (member_name msg rows s) e ∙ ap name_of (sym seen.here)))
      (λ ne. seen.differ j k l (omega (arith, w, ne)) same) (cases_eq k n)

  -- one member more
  pub seen_more : (next : ℕ) → next ≡ member + extent 1 (drop member counts) → next ≤ length rows → Seen msg rows s (n + 1) next more
  seen_more next is fits =
      let step = extent_more 1 counts member (omega arith) (omega (arith, counts_length rows, lt)) in
      record {
        here = is ∙ ap (λ i. i + extent 1 (drop i counts)) seen.here ∙ ap (part_at counts s) (sym (add-one n));
        far = omega (arith, is, step, seen.far);
        within = fits;
        many = longer sorted p member belongs.within ∙ ap (λ k. k + 1) seen.many;
        order = record { inside = inside; ascends = ascends };
        covers = covers;
        comes = comes;
        differ = differ;
      }

-- no member was met yet
pub seen_none : (msg : List ℕ) (rows : List Row) (s : ℕ) (sorted : List ℕ) → s < length rows → sorted ≡ [] → Seen msg rows s 0 (s + 1) sorted
seen_none msg rows s sorted lt none =
    let empty : length sorted ≡ 0 = ap length none in
    record {
      here = refl;
      far = omega arith;
      within = omega (arith, lt);
      many = empty;
      order = record { inside = λ a l. absurd (omega (arith, l, empty)); ascends = λ a b l w. absurd (omega (arith, w, empty)) };
      covers = λ k l. absurd (omega (arith, l));
      comes = λ a l. absurd (omega (arith, l));
      differ = λ j k l w same. omega (arith, w);
    }
