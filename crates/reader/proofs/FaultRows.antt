-- The rows of a fault's value tell whether it is as asked.
use Rattle.std.proofs.Common.{◌≡◌, ℕ, ◌+◌, ◌≤◌, List, ◌∷◌, ◌++◌, length, get_or, ℤ, codes, sym, refl, ap, ◌∙◌, subst, arith}
use Rattle.wire.specs.declared.kind.Kind.TheVariants as kinds
use Rattle.wire.specs.Kinds.{kind_number}
use Rattle.wire.specs.Trees.{Content, Value, Members, int, boolean, string, double, date, base64, struct, array, none, member, end, value, value_rows, members_rows, values_rows, holder_row}
use Rattle.reader.specs.Faults.{FaultValue, Pair, code_first, string_first}

abbrev value_kind : Value → ℕ
value_kind (int z) = 4
value_kind (boolean b) = 5
value_kind (string t) = 6
value_kind (double z s) = 7
value_kind (date t) = 8
value_kind (base64 t) = 9
value_kind (struct ms) = 10
value_kind (array vs) = 12

first_kind : (v : Value) (rs : List Content) (d : Content) → kind_number (get_or (value_rows v ++ rs) 0 d).kind ≡ value_kind v
unfolding value_rows
first_kind (int z) rs d = refl
first_kind (boolean b) rs d = refl
first_kind (string t) rs d = refl
first_kind (double z s) rs d = refl
first_kind (date t) rs d = refl
first_kind (base64 t) rs d = refl
first_kind (struct ms) rs d = refl
first_kind (array vs) rs d = refl

no_member : (v : Value) → value_kind v ≡ 11 → ⊥
no_member (int z) h = omega (arith, h)
no_member (boolean b) h = omega (arith, h)
no_member (string t) h = omega (arith, h)
no_member (double z s) h = omega (arith, h)
no_member (date t) h = omega (arith, h)
no_member (base64 t) h = omega (arith, h)
no_member (struct ms) h = omega (arith, h)
no_member (array vs) h = omega (arith, h)

-- a plain value has one row
one_row : (v : Value) (rs : List Content) → value_kind v ≤ 9 → (c : Content) × (value_rows v ++ rs ≡ c ∷ rs)
unfolding value_rows
one_row (int z) rs h = (_, refl)
one_row (boolean b) rs h = (_, refl)
one_row (string t) rs h = (_, refl)
one_row (double z s) rs h = (_, refl)
one_row (date t) rs h = (_, refl)
one_row (base64 t) rs h = (_, refl)
one_row (struct ms) rs h = absurd (omega (arith, h))
one_row (array vs) rs h = absurd (omega (arith, h))

is_int : (v : Value) → value_kind v ≡ 4 → (z : ℤ) × (v ≡ int z)
is_int (int z) h = (z, refl)
is_int (boolean b) h = absurd (omega (arith, h))
is_int (string t) h = absurd (omega (arith, h))
is_int (double z s) h = absurd (omega (arith, h))
is_int (date t) h = absurd (omega (arith, h))
is_int (base64 t) h = absurd (omega (arith, h))
is_int (struct ms) h = absurd (omega (arith, h))
is_int (array vs) h = absurd (omega (arith, h))

is_string : (v : Value) → value_kind v ≡ 6 → (t : List ℕ) × (v ≡ string t)
is_string (int z) h = absurd (omega (arith, h))
is_string (boolean b) h = absurd (omega (arith, h))
is_string (string t) h = (t, refl)
is_string (double z s) h = absurd (omega (arith, h))
is_string (date t) h = absurd (omega (arith, h))
is_string (base64 t) h = absurd (omega (arith, h))
is_string (struct ms) h = absurd (omega (arith, h))
is_string (array vs) h = absurd (omega (arith, h))

only : (ms : Members) → length (members_rows ms) ≡ 0 → ms ≡ none
unfolding members_rows
only none h = refl
only (member n v ms) h = absurd (omega (arith, h))

module _ (d : Content) where
  -- members that begin with a plain one of this name
  begun : (n : List ℕ) (k : ℕ) (ms : Members) → k ≤ 9 → Pair n k (get_or (members_rows ms) 0 d) (get_or (members_rows ms) 1 d) → 0 + 1 ≤ length (members_rows ms) →
      (v : Value) × (rest : Members) × (ms ≡ member n v rest) × (value_kind v ≡ k) × (m : Content) × (c : Content) × (members_rows ms ≡ m ∷ c ∷ members_rows rest)
  unfolding members_rows
  begun n k none le p long = absurd (omega (arith, long))
  begun n k (member n' v rest) le p long =
      let kind : value_kind v ≡ k = sym (first_kind v (members_rows rest) d) ∙ p.is_kind in
      let one = one_row v (members_rows rest) (omega (arith, kind, le)) in
      (v, rest, ap (λ x. member x v rest) p.named, kind, holder_row kinds.Member 1 n', one.0, ap (λ l. holder_row kinds.Member 1 n' ∷ l) one.1)

  -- two members are all
  two_members : (n o : List ℕ) (k l : ℕ) (ms : Members) → k ≤ 9 → l ≤ 9 → length (members_rows ms) ≡ 4 →
      Pair n k (get_or (members_rows ms) 0 d) (get_or (members_rows ms) 1 d) → Pair o l (get_or (members_rows ms) 2 d) (get_or (members_rows ms) 3 d) →
      (v u : Value) × (ms ≡ member n v (member o u none)) × (value_kind v ≡ k) × (value_kind u ≡ l)
  two_members n o k l ms kle lle long p q =
      let a = begun n k ms kle p (omega (arith, long)) in
      let rest = a.1 in
      let rows = a.6 in
      let q' : Pair o l (get_or (members_rows rest) 0 d) (get_or (members_rows rest) 1 d) = subst (λ r. Pair o l (get_or r 2 d) (get_or r 3 d)) rows q in
      let long' : length (members_rows rest) ≡ 2 = omega (arith, long, ap length rows) in
      let b = begun o l rest lle q' (omega (arith, long')) in
      let end = only b.1 (omega (arith, long', ap length b.6)) in
      (a.0, b.0, a.2 ∙ ap (member n a.0) (b.2 ∙ ap (member o b.0) end), a.3, b.3)

  -- a value of five rows that begins with a member behind its own is a struct
  is_struct : (v : Value) → length (value_rows v) ≡ 5 → kind_number (get_or (value_rows v) 1 d).kind ≡ 11 → (ms : Members) × (v ≡ struct ms) × (c : Content) × (value_rows v ≡ c ∷ members_rows ms)
  unfolding value_rows values_rows
  is_struct (int z) long h = absurd (omega (arith, long))
  is_struct (boolean b) long h = absurd (omega (arith, long))
  is_struct (string t) long h = absurd (omega (arith, long))
  is_struct (double z s) long h = absurd (omega (arith, long))
  is_struct (date t) long h = absurd (omega (arith, long))
  is_struct (base64 t) long h = absurd (omega (arith, long))
  is_struct (struct ms) long h = (ms, refl, _, refl)
  is_struct (array end) long h = absurd (omega (arith, long))
  is_struct (array (value v rest)) long h = absurd (no_member v (sym (first_kind v (values_rows rest) d) ∙ h))

  -- the value that such rows are of
  pub fault_value : (n o : List ℕ) (k l : ℕ) (v : Value) → k ≤ 9 → l ≤ 9 → length (value_rows v) ≡ 5 →
      Pair n k (get_or (value_rows v) 1 d) (get_or (value_rows v) 2 d) → Pair o l (get_or (value_rows v) 3 d) (get_or (value_rows v) 4 d) →
      (x y : Value) × (v ≡ struct (member n x (member o y none))) × (value_kind x ≡ k) × (value_kind y ≡ l)
  fault_value n o k l v kle lle long p q =
      let s = is_struct v long p.is_member in
      let rows = s.3 in
      let two = two_members n o k l s.0 kle lle (omega (arith, long, ap length rows))
      (subst (λ r. Pair n k (get_or r 1 d) (get_or r 2 d)) rows p)
      (subst (λ r. Pair o l (get_or r 3 d) (get_or r 4 d)) rows q) in
      (two.0, two.1, s.1 ∙ ap struct two.2, two.3, two.4)

  pub code_then_string : (v : Value) → length (value_rows v) ≡ 5 →
      Pair (codes "faultCode") 4 (get_or (value_rows v) 1 d) (get_or (value_rows v) 2 d) → Pair (codes "faultString") 6 (get_or (value_rows v) 3 d) (get_or (value_rows v) 4 d) → FaultValue v
  code_then_string v long p q =
      let x = fault_value (codes "faultCode") (codes "faultString") 4 6 v (omega arith) (omega arith) long p q in
      let z = is_int x.0 x.3 in
      let t = is_string x.1 x.4 in
      subst FaultValue (sym (x.2 ∙ (λ i. struct (member (codes "faultCode") (z.1 i) (member (codes "faultString") (t.1 i) none))))) (code_first z.0 t.0)

  pub string_then_code : (v : Value) → length (value_rows v) ≡ 5 →
      Pair (codes "faultString") 6 (get_or (value_rows v) 1 d) (get_or (value_rows v) 2 d) → Pair (codes "faultCode") 4 (get_or (value_rows v) 3 d) (get_or (value_rows v) 4 d) → FaultValue v
  string_then_code v long p q =
      let x = fault_value (codes "faultString") (codes "faultCode") 6 4 v (omega arith) (omega arith) long p q in
      let t = is_string x.0 x.3 in
      let z = is_int x.1 x.4 in
      subst FaultValue (sym (x.2 ∙ (λ i. struct (member (codes "faultString") (t.1 i) (member (codes "faultCode") (z.1 i) none))))) (string_first z.0 t.0)
