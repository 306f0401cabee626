-- The members of a struct whose names came before, by their rows and by what these say.
use Rattle.std.proofs.Common.{◌≡◌, ℕ, zero, suc, ◌+◌, ◌<◌, ◌≤◌, min, ◌⊎◌, List, [], ◌∷◌, map, length, get_or, Some, None, Option, sym, refl, ap, ◌∙◌, subst, inl, inr, ⊎_elim, arith}
use Rattle.std.proofs.lemmas.List.{get_or-map, get_or_past, length-map}
use Rattle.std.proofs.lemmas.Bool.{cases_lt, cases_eq}
use Rattle.wire.specs.declared.kind.Kind.TheVariants as kind
use Rattle.wire.specs.declared.row.Row.{Row}
use Rattle.wire.specs.Kinds.{kind_number}
use Rattle.wire.specs.Rows.{blank_row}
use Rattle.wire.specs.Trees.{Content}
use Rattle.reader.specs.Contents.{content_of, stored_in, read_as}
use Rattle.messages.specs.Holding.{part_at, counts_of}
use Rattle.messages.specs.Repeats.{row_at, member_at, RepeatIn, RepeatAt, RepeatBelow, Least, StructsHold, earlier_of}
use Rattle.messages.specs.Sorted.{name_at, member_name, Differ, Comes, ComesIn}

-- what is least under one of two conditions
pub least_of_two : (P Q : ℕ → Type 0) (a b : Option ℕ) → Least P a → Least Q b → Least (λ i. P i ⊎ Q i) (earlier_of a b)
least_of_two P Q None None p q = λ i h. ⊎_elim (p i) (q i) h
least_of_two P Q None (Some j) p q = (inr q.0, λ i h. ⊎_elim (λ x. absurd (p i x)) (q.1 i) h)
least_of_two P Q (Some i) None p q = (inl p.0, λ j h. ⊎_elim (p.1 j) (λ x. absurd (q j x)) h)
least_of_two P Q (Some i) (Some j) p q = (
  ⊎_elim (λ lt. let e : min i j ≡ i = omega (arith, lt) in inl (subst P (sym e) p.0)) (λ ge. let e : min i j ≡ j = omega (arith, ge) in inr (subst Q (sym e) q.0)) (cases_lt i j),
  λ k h. ⊎_elim (λ x. omega (arith, p.1 k x)) (λ x. omega (arith, q.1 k x)) h,
)

-- or under a condition that comes to the same
pub least_same : (P Q : ℕ → Type 0) (a : Option ℕ) → ((i : ℕ) → P i → Q i) → ((i : ℕ) → Q i → P i) → Least P a → Least Q a
least_same P Q None f g p = λ i h. p i (g i h)
least_same P Q (Some i) f g p = (f i p.0, λ j h. p.1 j (g j h))

parts_rise : (counts : List ℕ) (s k n : ℕ) → k ≤ n → part_at counts s k ≤ part_at counts s n
parts_rise counts s k zero le = let e : k ≡ 0 = omega (arith, le) in omega (arith, ap (part_at counts s) e)
parts_rise counts s k (suc n) le =
    ⊎_elim (λ e. omega (arith, ap (part_at counts s) e)) (λ ne. omega (arith, parts_rise counts s k n (omega (arith, le, ne)))) (cases_eq k (suc n))

pub counts_same : (msg : List ℕ) (rows : List Row) → map (λ row. row.count) (map (content_of msg) rows) ≡ counts_of rows
counts_same msg [] = refl
counts_same msg (row ∷ rows) = ap (λ l. row.count ∷ l) (counts_same msg rows)

module _ (msg : List ℕ) (rows : List Row) where
  abbrev said : List Content
  said = map (content_of msg) rows

  row_said : (i : ℕ) → i < length rows → row_at said i ≡ content_of msg (get_or rows i blank_row)
  row_said i lt = get_or-map (content_of msg) rows i blank_row _ lt

  part_said : (s k : ℕ) → member_at said s k ≡ part_at (counts_of rows) s k
  part_said s k = ap (λ l. part_at l s k) (counts_same msg rows)

  name_said : (i : ℕ) → i < length rows → (get_or rows i blank_row).kind ≡ kind.Member → (row_at said i).text ≡ name_at msg rows i
  name_said i lt is = ap (λ r. r.text) (row_said i lt) ∙ ap (λ k. read_as k (stored_in msg (get_or rows i blank_row))) is

  -- a struct's row is among the rows
  struct_inside : (s : ℕ) → (row_at said s).kind ≡ kind.Struct → s < length rows
  struct_inside s is =
      ⊎_elim (λ lt. lt)
      (λ past. absurd (let far = get_or_past said s _ (omega (arith, past, length-map rows (content_of msg))) in let z = ap kind_number (sym (ap (λ r. r.kind) far) ∙ is) in omega (arith, z)))
      (cases_lt s (length rows))

  module _ (hold : StructsHold rows) (s : ℕ) (lt : s < length rows) (is : (get_or rows s blank_row).kind ≡ kind.Struct) where
    abbrev count : ℕ
    count = (get_or rows s blank_row).count

    -- a member's name, as its row says
    member_said : (k : ℕ) → k < count → (row_at said (member_at said s k)).text ≡ member_name msg rows s k
    member_said k l =
        let held = hold s k lt is l in
        ap (λ i. (row_at said i).text) (part_said s k) ∙ name_said (part_at (counts_of rows) s k) held.0 held.1

    counted_said : (row_at said s).count ≡ count
    counted_said = ap (λ r. r.count) (row_said s lt)

    -- the members that a repeat is of
    repeat_named : (i : ℕ) (r : RepeatIn said s i) → (r.member < count) × (member_name msg rows s r.earlier ≡ member_name msg rows s r.member)
    repeat_named i r =
        let l : r.member < count = omega (arith, r.held, counted_said) in
        (l, sym (member_said r.earlier (omega (arith, l, r.before))) ∙ r.same ∙ ap (λ k. (row_at said k).text) r.here ∙ member_said r.member l)

    none_comes : Differ msg rows s count → (i : ℕ) → RepeatIn said s i → ⊥
    none_comes differ i r = let named = repeat_named i r in differ r.earlier r.member r.before named.0 named.1

    one_comes : (n i : ℕ) → n < count → Comes msg rows s n i → Least (RepeatIn said s) (Some i)
    one_comes n i l c = (
      record {
        is_struct = ap (λ r. r.kind) (row_said s lt) ∙ is;
        inside = let held = hold s n lt is l in omega (arith, held.0, c.here, length-map rows (content_of msg));
        member = n;
        held = omega (arith, l, counted_said);
        here = c.here ∙ sym (part_said s n);
        earlier = c.earlier;
        before = c.before;
        same = member_said c.earlier (omega (arith, l, c.before)) ∙ c.same ∙ sym (member_said n l) ∙ ap (λ k. (row_at said k).text) (part_said s n ∙ sym c.here);
      },
      λ j r.
          let named = repeat_named j r in
          ⊎_elim (λ less. absurd (c.differ r.earlier r.member r.before less named.1))
          (λ more. omega (arith, c.here, r.here, part_said s r.member, parts_rise (counts_of rows) s n r.member more))
          (cases_lt r.member n),
    )

    pub comes_said : (a : Option ℕ) → ComesIn msg rows s a → Least (RepeatIn said s) a
    comes_said None differ = none_comes differ
    comes_said (Some i) c = one_comes c.0 i c.1 c.2

  -- one row more was looked at
  pub below_next : (n : ℕ) (a b : Option ℕ) → Least (RepeatBelow said n) a → Least (RepeatIn said n) b → Least (RepeatBelow said (n + 1)) (earlier_of a b)
  below_next n a b p q =
      least_same (λ i. RepeatBelow said n i ⊎ RepeatIn said n i) (RepeatBelow said (n + 1)) (earlier_of a b)
      (λ i h. ⊎_elim (λ x. (x.0, omega (arith, x.1), x.2)) (λ x. (n, omega arith, x)) h)
      (λ i h. ⊎_elim (λ e. inr (subst (λ s. RepeatIn said s i) e h.2)) (λ ne. inl (h.0, omega (arith, h.1, ne), h.2)) (cases_eq h.0 n))
      (least_of_two (RepeatBelow said n) (RepeatIn said n) a b p q)

  pub below_same : (n : ℕ) (a : Option ℕ) → Least (RepeatBelow said n) a → n < length rows → ((get_or rows n blank_row).kind ≡ kind.Struct → ⊥) → Least (RepeatBelow said (n + 1)) a
  below_same n a p lt no-struct =
      least_same (RepeatBelow said n) (RepeatBelow said (n + 1)) a
      (λ i h. (h.0, omega (arith, h.1), h.2))
      (λ i h. ⊎_elim (λ e. absurd (no-struct (sym (ap (λ r. r.kind) (row_said n lt)) ∙ ap (λ s. (row_at said s).kind) (sym e) ∙ h.2.is_struct))) (λ ne. (h.0, omega (arith, h.1, ne), h.2)) (cases_eq h.0 n))
      p

  -- all rows were looked at
  pub below_all : (n : ℕ) (a : Option ℕ) → length rows ≤ n → Least (RepeatBelow said n) a → Least (RepeatAt said) a
  below_all n a le p =
      least_same (RepeatBelow said n) (RepeatAt said) a
      (λ i h. (h.0, h.2))
      (λ i h. (h.0, omega (arith, le, struct_inside h.0 h.1.is_struct), h.1))
      p
