-- What the rows of a message tell of its fault.
use Rattle.std.proofs.Common.{◌≡◌, ℕ, ◌<◌, ◌⊎◌, List, length, get_or, codes, sym, refl, ap, ◌∙◌, subst, inl, inr, arith}
use Rattle.std.proofs.lemmas.List.{get_or-map, length-map}
use Rattle.wire.specs.declared.row.Row.{Row}
use Rattle.wire.specs.Kinds.{kind_number}
use Rattle.wire.specs.Trees.{Content, Value, Message, int, string, struct, none, member, call, response, fault, message_rows, value_rows}
use Rattle.reader.specs.Contents.{content_of}
use Rattle.reader.specs.Derivations.{Say}
use Rattle.reader.specs.Faults.{FaultValue, code_first, string_first, FaultFits, Pair}
use Rattle.reader.proofs.FaultRows.{code_then_string, string_then_code}

five : (v : Value) → FaultValue v → length (value_rows v) ≡ 5
unfolding value_rows
five _ (code_first z t) = refl
five _ (string_first z t) = refl

module _ (msg : List ℕ) (rows : List Row) (d : Row) where
  abbrev row : ℕ → Content
  row i = content_of msg (get_or rows i d)

  said : (m : Message) → Say msg rows m → (i : ℕ) → i < length rows → get_or (message_rows m) i (content_of msg d) ≡ row i
  said m say i lt = ap (λ l. get_or l i (content_of msg d)) (sym say) ∙ get_or-map (content_of msg) rows i d (content_of msg d) lt

  long : (m : Message) → Say msg rows m → length rows ≡ length (message_rows m)
  long m say = sym (length-map rows (content_of msg)) ∙ ap length say

  -- a message whose first row is no fault's
  pub no_fault : (m : Message) → Say msg rows m → (0 < length rows → kind_number (row 0).kind ≡ 3 → ⊥) → FaultFits m
  no_fault (call name params) say h = tt
  no_fault (response v) say h = tt
  no_fault (fault v) say h =
      let most = long (fault v) say in
      absurd (h (omega (arith, most)) (sym (ap (λ r. kind_number r.kind) (said (fault v) say 0 (omega (arith, most))))))

  -- the rows of a fault, which its first row tells
  abbrev Tells : Type 0
  Tells = kind_number (row 0).kind ≡ 3

  pub six : (m : Message) → Say msg rows m → 0 < length rows → Tells → FaultFits m → length rows ≡ 6
  six (call name params) say lt k f = absurd (let z = ap (λ r. kind_number r.kind) (said (call name params) say 0 lt) in omega (arith, z, k))
  six (response v) say lt k f = absurd (let z = ap (λ r. kind_number r.kind) (said (response v) say 0 lt) in omega (arith, z, k))
  six (fault v) say lt k f = omega (arith, long (fault v) say, five v f)

  re : {n : List ℕ} {k : ℕ} {a b x y : Content} → a ≡ b → x ≡ y → Pair n k a x → Pair n k b y
  re {n} {k} {a} {b} {x} {y} e f p = subst (λ c. Pair n k c y) e (subst (λ c. Pair n k a c) f p)

  module _ (full : length rows ≡ 6) where
    at : (v : Value) → Say msg rows (fault v) → (i : ℕ) → i < 6 → get_or (message_rows (fault v)) i (content_of msg d) ≡ row i
    at v say i lt = said (fault v) say i (omega arith)

    five_of : (v : Value) → Say msg rows (fault v) → length (value_rows v) ≡ 5
    five_of v say = omega (arith, long (fault v) say, full)

    pub fits_code_first : (m : Message) → Say msg rows m → Tells → Pair (codes "faultCode") 4 (row 2) (row 3) → Pair (codes "faultString") 6 (row 4) (row 5) → FaultFits m
    fits_code_first (call name params) say k p q = tt
    fits_code_first (response v) say k p q = tt
    fits_code_first (fault v) say k p q =
        code_then_string (content_of msg d) v (five_of v say)
        (re (sym (at v say 2 (omega arith))) (sym (at v say 3 (omega arith))) p) (re (sym (at v say 4 (omega arith))) (sym (at v say 5 (omega arith))) q)

    pub fits_string_first : (m : Message) → Say msg rows m → Tells → Pair (codes "faultString") 6 (row 2) (row 3) → Pair (codes "faultCode") 4 (row 4) (row 5) → FaultFits m
    fits_string_first (call name params) say k p q = tt
    fits_string_first (response v) say k p q = tt
    fits_string_first (fault v) say k p q =
        string_then_code (content_of msg d) v (five_of v say)
        (re (sym (at v say 2 (omega arith))) (sym (at v say 3 (omega arith))) p) (re (sym (at v say 4 (omega arith))) (sym (at v say 5 (omega arith))) q)

    abbrev pub Fitting : Type 0
    Fitting = (Pair (codes "faultCode") 4 (row 2) (row 3) × Pair (codes "faultString") 6 (row 4) (row 5)) ⊎ (Pair (codes "faultString") 6 (row 2) (row 3) × Pair (codes "faultCode") 4 (row 4) (row 5))

    of_value : (v : Value) → FaultValue v → Say msg rows (fault v) → Fitting
    unfolding value_rows
    of_value _ (code_first z t) say =
        let v = struct (member (codes "faultCode") (int z) (member (codes "faultString") (string t) none)) in
        inl (
          re (at v say 2 (omega arith)) (at v say 3 (omega arith)) (record { is_member = refl; named = refl; is_kind = refl }),
          re (at v say 4 (omega arith)) (at v say 5 (omega arith)) (record { is_member = refl; named = refl; is_kind = refl }),
        )
    of_value _ (string_first z t) say =
        let v = struct (member (codes "faultString") (string t) (member (codes "faultCode") (int z) none)) in
        inr (
          re (at v say 2 (omega arith)) (at v say 3 (omega arith)) (record { is_member = refl; named = refl; is_kind = refl }),
          re (at v say 4 (omega arith)) (at v say 5 (omega arith)) (record { is_member = refl; named = refl; is_kind = refl }),
        )

    pub fitting : (m : Message) → Say msg rows m → Tells → FaultFits m → Fitting
    fitting (call name params) say k f = absurd (let z = ap (λ r. kind_number r.kind) (said (call name params) say 0 (omega arith)) in omega (arith, z, k))
    fitting (response v) say k f = absurd (let z = ap (λ r. kind_number r.kind) (said (response v) say 0 (omega arith)) in omega (arith, z, k))
    fitting (fault v) say k f = of_value v f say
