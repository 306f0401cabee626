-- Looking for a name among sorted rows.
use Rattle.std.proofs.Common.{◌≡◌, ℕ, ◌+◌, ◌<◌, ◌≤◌, List, [], ◌∷◌, ◌++◌, length, get_or, Ordering, Less, Equal, Greater, Result, Ok, Err, sym, ap, ◌∙◌, subst, ⊎_elim, length-append, arith}
use Rattle.std.specs.Ordering.{nat_cmp, ordering_index}
use Rattle.std.specs.Cmp.Lexicographic.{slice_cmp}
use Rattle.std.specs.List.Sorted.{IsNonDecreasingBy, IsBinarySearchResult, IsSearchInRange}
use Rattle.std.proofs.lemmas.List.Sorted.{IsNonDecreasingBy-from_default}
use Rattle.std.proofs.lemmas.List.{get_or_append_left}
use Rattle.std.proofs.Math.Seq.{get_or-append_seam}
use Rattle.std.proofs.lemmas.Bool.{cases_eq}
use Rattle.wire.specs.declared.row.Row.{Row}
use Rattle.messages.specs.Sorted.{name_at, Ascends, Belongs, IsPlaceOf}
use Rattle.messages.specs.Order.{Precedes}
use Rattle.messages.proofs.Ordered.{through, orders, rises}

module _ (msg : List ℕ) (rows : List Row) (sorted name : List ℕ) (order : Ascends msg rows sorted) where
  -- how the name of the member at a row stands to the one that is looked for
  abbrev pub stands : ℕ → Ordering
  stands row = slice_cmp nat_cmp (name_at msg rows row) name

  rising : IsNonDecreasingBy (λ row. ordering_index (stands row)) sorted
  rising = IsNonDecreasingBy-from_default (λ row. ordering_index (stands row)) sorted 0
      (λ a b le lt. ⊎_elim (λ e. omega (arith, ap (λ k. ordering_index (stands (get_or sorted k 0))) e))
      (λ ne. rises (name_at msg rows (get_or sorted a 0)) (name_at msg rows (get_or sorted b 0)) name (order.ascends a b (omega (arith, le, ne)) lt)) (cases_eq a b))

  pub sought : (r : Result ℕ ℕ) → IsSearchInRange r (length sorted) → IsBinarySearchResult stands sorted r → IsPlaceOf msg rows sorted name r
  sought (Ok k) lt equal = (lt, orders Equal (name_at msg rows (get_or sorted k 0)) name (sym (equal 0)))
  sought (Err p) le point =
      let halves = point rising in
      record {
        within = le;
        below = λ a lt. orders Less (name_at msg rows (get_or sorted a 0)) name (sym (halves.0 a 0 (omega arith) lt));
        above = λ a le lt. orders Greater (name_at msg rows (get_or sorted a 0)) name (sym (halves.1 a 0 le lt));
      }

module _ (msg : List ℕ) (rows : List Row) (sorted : List ℕ) (order : Ascends msg rows sorted) (name : List ℕ) (m : ℕ) (lt : m < length sorted) where
  abbrev other : ℕ → List ℕ
  other a = name_at msg rows (get_or sorted a 0)

  -- what comes behind a row comes behind those before it, and what comes before a row before those behind it
  pub all_below : Precedes (other m) name → (a : ℕ) → a < m + 1 → Precedes (other a) name
  all_below p a l =
      ⊎_elim (λ e. subst (λ k. Precedes (other k) name) (sym e) p)
      (λ ne. through (other a) (other m) name (order.ascends a m (omega (arith, l, ne)) lt) p) (cases_eq a m)

  pub all_above : Precedes name (other m) → (a : ℕ) → m ≤ a → a < length sorted → Precedes name (other a)
  all_above p a l within =
      ⊎_elim (λ e. subst (λ k. Precedes name (other k)) (sym e) p)
      (λ ne. through name (other m) (other a) p (order.ascends m a (omega (arith, l, ne)) within)) (cases_eq a m)

-- rows of which one is the last
module _ (msg : List ℕ) (rows : List Row) (sorted rest name : List ℕ) (last : ℕ) (is : sorted ≡ rest ++ (last ∷ [])) (order : Ascends msg rows sorted) where
  abbrev name_of : ℕ → List ℕ
  name_of i = name_at msg rows i

  longer : length sorted ≡ length rest + 1
  longer = ap length is ∙ length-append rest (last ∷ [])

  at_end : get_or sorted (length rest) 0 ≡ last
  at_end = ap (λ l. get_or l (length rest) 0) is ∙ get_or-append_seam rest last [] 0

  kept : (a : ℕ) → a < length rest → get_or sorted a 0 ≡ get_or rest a 0
  kept a l = ap (λ l. get_or l a 0) is ∙ get_or_append_left rest (last ∷ []) 0 a l

  -- a name that comes behind the last comes behind all
  pub behind_last : Precedes (name_of last) name → Belongs msg rows sorted name (length sorted)
  behind_last p = record {
    within = omega arith;
    below = λ a l. all_below msg rows sorted order name (length rest) (omega (arith, longer)) (subst (λ i. Precedes (name_of i) name) (sym at_end) p) a (omega (arith, l, longer));
    above = λ a le l. absurd (omega (arith, le, l));
  }

  pub is_last : name_of last ≡ name → IsPlaceOf msg rows sorted name (Ok (length rest))
  is_last e = (omega (arith, longer), ap name_of at_end ∙ e)

  pub rest_ascends : Ascends msg rows rest
  rest_ascends = record {
    inside = λ a l. subst (λ i. i < length rows) (kept a l) (order.inside a (omega (arith, l, longer)));
    ascends = λ a b l w.
        subst (λ i. Precedes (name_of i) (name_of (get_or rest b 0))) (kept a (omega (arith, l, w)))
        (subst (λ j. Precedes (name_of (get_or sorted a 0)) (name_of j)) (kept b w) (order.ascends a b l (omega (arith, w, longer))));
  }

  -- one that comes before the last is sought among the others
  pub before_last : Precedes name (name_of last) → (r : Result ℕ ℕ) → IsPlaceOf msg rows rest name r → IsPlaceOf msg rows sorted name r
  before_last p (Ok k) h = (omega (arith, h.0, longer), ap name_of (kept k h.0) ∙ h.1)
  before_last p (Err q) h = record {
    within = omega (arith, h.within, longer);
    below = λ a l. subst (λ i. Precedes (name_of i) name) (sym (kept a (omega (arith, l, h.within)))) (h.below a l);
    above = λ a l w.
        ⊎_elim (λ e. subst (λ k. Precedes name (name_of (get_or sorted k 0))) (sym e) (subst (λ i. Precedes name (name_of i)) (sym at_end) p))
        (λ ne. let b : a < length rest = omega (arith, ne, w, longer) in subst (λ i. Precedes name (name_of i)) (sym (kept a b)) (h.above a l b)) (cases_eq a (length rest));
  }
