-- In the rows of a message each row is followed by its parts, as many as it counts.
use Rattle.std.proofs.Common.{◌≡◌, ℕ, zero, suc, ◌+◌, ◌-◌, ◌<◌, ◌≤◌, List, [], ◌∷◌, ◌++◌, map, length, get_or, drop, sym, refl, ap, ◌∙◌, subst, ⊎_elim, append_assoc, append-nil, arith, length-append, length-drop}
use Rattle.std.proofs.lemmas.List.{map-append, drop-drop, drop_at, drop-map, get_or-append_right, get_or-drop}
use Rattle.std.proofs.lemmas.Bool.{cases_lt}
use Rattle.wire.specs.declared.kind.Kind.{Kind}
use Rattle.wire.specs.declared.kind.Kind.TheVariants as kind
use Rattle.wire.specs.Kinds.{kind_number}
use Rattle.wire.specs.Trees.{Content, Value, Members, Values, Message, int, boolean, string, double, date, base64, struct, array, none, member, end, value, call, response, fault, member_count, value_count, value_rows, members_rows, values_rows, message_rows, holder_row}
use Rattle.messages.specs.Holding.{extent, part_at}

abbrev counted : List Content → List ℕ
counted rows = map (λ row. row.count) rows

-- the statements of the induction over trees: what holds parts is passed together with them
abbrev PassesValue : Value → Type 0
PassesValue v = (n : ℕ) (rest : List ℕ) → extent (suc n) (counted (value_rows v) ++ rest) ≡ length (value_rows v) + extent n rest

abbrev PassesMembers : Members → Type 0
PassesMembers ms = (n : ℕ) (rest : List ℕ) → extent (member_count ms + n) (counted (members_rows ms) ++ rest) ≡ length (members_rows ms) + extent n rest

abbrev PassesValues : Values → Type 0
PassesValues vs = (n : ℕ) (rest : List ℕ) → extent (value_count vs + n) (counted (values_rows vs) ++ rest) ≡ length (values_rows vs) + extent n rest

plain : (n : ℕ) (rest : List ℕ) → 1 + extent (n + 0) rest ≡ 1 + extent n rest
plain n rest = let e : n + 0 ≡ n = omega arith in ap (λ k. 1 + extent k rest) e

-- the rows of two things, one behind the other
split : (xs ys : List Content) (rest : List ℕ) → counted (xs ++ ys) ++ rest ≡ counted xs ++ (counted ys ++ rest)
split xs ys rest = ap (λ l. l ++ rest) (map-append (λ row. row.count) xs ys) ∙ append_assoc (counted xs) (counted ys) rest

-- a row with its parts
with_parts : (n c : ℕ) (xs : List Content) (rest : List ℕ) → extent (c + n) (counted xs ++ rest) ≡ length xs + extent n rest →
    1 + extent (n + c) (counted xs ++ rest) ≡ suc (length xs) + extent n rest
with_parts n c xs rest h =
    let turn : n + c ≡ c + n = omega arith in
    omega (arith, ap (λ k. extent k (counted xs ++ rest)) turn, h)

-- a part, and those behind it
and_more : (n c : ℕ) (xs ys : List Content) (rest : List ℕ) → ((k : ℕ) (r : List ℕ) → extent (suc k) (counted xs ++ r) ≡ length xs + extent k r) →
    extent (c + n) (counted ys ++ rest) ≡ length ys + extent n rest → extent (suc (c + n)) (counted (xs ++ ys) ++ rest) ≡ length (xs ++ ys) + extent n rest
and_more n c xs ys rest hx hy =
    ap (λ l. extent (suc (c + n)) l) (split xs ys rest) ∙ hx (c + n) (counted ys ++ rest)
    ∙ let long = length-append xs ys in omega (arith, hy, long)

owes : (n c : ℕ) (l : List ℕ) → extent (1 + c + n) l ≡ extent (suc (c + n)) l
owes n c l = let e : 1 + c + n ≡ suc (c + n) = omega arith in ap (λ k. extent k l) e

a_member : (n c : ℕ) (xs : List Content) (rest : List ℕ) → extent (suc (c + n)) (counted xs ++ rest) ≡ length xs + extent n rest →
    extent (1 + c + n) (1 ∷ (counted xs ++ rest)) ≡ suc (length xs) + extent n rest
a_member n c xs rest h =
    let one : c + n + 1 ≡ suc (c + n) = omega arith in
    owes n c (1 ∷ (counted xs ++ rest)) ∙ omega (arith, ap (λ k. extent k (counted xs ++ rest)) one, h)

none_left : (n : ℕ) (rest : List ℕ) → extent (0 + n) rest ≡ 0 + extent n rest
none_left n rest = let e : 0 + n ≡ n = omega arith in omega (arith, ap (λ k. extent k rest) e)

mutual
  unfolding value_rows members_rows values_rows

  pub passes_value : (v : Value) → PassesValue v
  passes_value (int z) n rest = plain n rest
  passes_value (boolean b) n rest = plain n rest
  passes_value (string t) n rest = plain n rest
  passes_value (double z s) n rest = plain n rest
  passes_value (date t) n rest = plain n rest
  passes_value (base64 t) n rest = plain n rest
  passes_value (struct ms) n rest = with_parts n (member_count ms) (members_rows ms) rest (passes_members ms n rest)
  passes_value (array vs) n rest = with_parts n (value_count vs) (values_rows vs) rest (passes_values vs n rest)

  pub passes_members : (ms : Members) → PassesMembers ms
  passes_members none n rest = none_left n rest
  passes_members (member name v more) n rest =
      a_member n (member_count more) (value_rows v ++ members_rows more) rest (and_more n (member_count more) (value_rows v) (members_rows more) rest (passes_value v) (passes_members more n rest))

  pub passes_values : (vs : Values) → PassesValues vs
  passes_values end n rest = none_left n rest
  passes_values (value v more) n rest =
      owes n (value_count more) (counted (value_rows v ++ values_rows more) ++ rest) ∙ and_more n (value_count more) (value_rows v) (values_rows more) rest (passes_value v) (passes_values more n rest)

-- what stands at a row from which rows go on so
pub at_row : {X : Type 0} (xs : List X) (i : ℕ) (y : X) (ys : List X) → drop i xs ≡ y ∷ ys → (i < length xs) × ((d : X) → get_or xs i d ≡ y)
at_row xs i y ys e = (
  (let long = length-drop i xs in omega (arith, long, ap length e)),
  λ d. let here : i + 0 ≡ i = omega arith in ap (λ k. get_or xs k d) (sym here) ∙ sym (get_or-drop i xs 0 d) ∙ ap (λ l. get_or l 0 d) e,
)

-- the members of a struct from one on
abbrev members_from : ℕ → Members → Members
members_from zero ms = ms
members_from (suc k) none = none
members_from (suc k) (member name v more) = members_from k more

-- rows that begin with those of a struct
pub record StructAt (rows : List Content) (s : ℕ) : Type 0 where
  pub members : Members
  pub rest : List Content
  pub here : drop s rows ≡ value_rows (struct members) ++ rest

-- a member, and those behind it
pub record MemberOf (ms : Members) (k : ℕ) : Type 0 where
  pub name : List ℕ
  pub held : Value
  pub is : members_from k ms ≡ member name held (members_from (suc k) ms)

member_of : (ms : Members) (k : ℕ) → k < member_count ms → MemberOf ms k
member_of none k lt = absurd (omega (arith, lt))
member_of (member name v more) zero lt = record { name = name; held = v; is = refl }
member_of (member name v more) (suc k) lt =
    let rest = member_of more k (omega (arith, lt)) in
    record { name = rest.name; held = rest.held; is = rest.is }

module _ (rows : List Content) (s : ℕ) (at : StructAt rows s) where
  abbrev own : Members
  own = at.members

  abbrev part : ℕ → ℕ
  part k = part_at (counted rows) s k

  -- the row of a member
  member_row : (k : ℕ) → drop (part k) rows ≡ members_rows (members_from k own) ++ at.rest → (m : MemberOf own k) →
      drop (part k) rows ≡ holder_row kind.Member 1 m.name ∷ (value_rows m.held ++ members_rows (members_from (suc k) own) ++ at.rest)
  unfolding members_rows
  member_row k here m = here ∙ ap (λ l. members_rows l ++ at.rest) m.is

  -- passing over it
  member_extent : (k : ℕ) → drop (part k) rows ≡ members_rows (members_from k own) ++ at.rest → (m : MemberOf own k) → extent 1 (drop (part k) (counted rows)) ≡ 1 + length (value_rows m.held)
  member_extent k here m =
      let vs = value_rows m.held in
      let more = members_rows (members_from (suc k) own) in
      let behind : counted (vs ++ more ++ at.rest) ≡ counted vs ++ counted (more ++ at.rest) =
      ap counted (append_assoc vs more at.rest) ∙ map-append (λ row. row.count) vs (more ++ at.rest) in
      let past = passes_value m.held 0 (counted (more ++ at.rest)) in
      ap (extent 1) (drop-map (λ row. row.count) (part k) rows ∙ ap counted (member_row k here m))
      ∙ omega (arith, ap (extent 1) behind, past)

  member_from : (k : ℕ) → k ≤ member_count own → drop (part k) rows ≡ members_rows (members_from k own) ++ at.rest
  unfolding value_rows
  member_from zero le = sym (drop-drop 1 s rows) ∙ ap (drop 1) at.here
  member_from (suc k) le =
      let here = member_from k (omega (arith, le)) in
      let m = member_of own k (omega (arith, le)) in
      let vs = value_rows m.held in
      let more = members_rows (members_from (suc k) own) in
      let long : extent 1 (drop (part k) (counted rows)) ≡ suc (length vs) = omega (arith, member_extent k here m) in
      sym (drop-drop (extent 1 (drop (part k) (counted rows))) (part k) rows)
      ∙ ap (λ n. drop n (drop (part k) rows)) long
      ∙ ap (drop (suc (length vs))) (member_row k here m)
      ∙ ap (drop (length vs)) (append_assoc vs more at.rest)
      ∙ drop_at vs (more ++ at.rest) (length vs) refl

  -- a member's row stands among the rows, and is one of a member
  pub a_member_row : (k : ℕ) → k < member_count own → (part k < length rows) × ((d : Content) → (get_or rows (part k) d).kind ≡ kind.Member)
  a_member_row k lt =
      let here = member_row k (member_from k (omega (arith, lt))) (member_of own k lt) in
      let row = at_row rows (part k) _ _ here in
      (row.0, λ d. ap (λ r. r.kind) (row.1 d))

  -- the struct's own row counts its members
  pub struct_count : (d : Content) → (get_or rows s d).count ≡ member_count own
  unfolding value_rows
  struct_count d = ap (λ r. r.count) ((at_row rows s _ _ at.here).1 d)

abbrev Found : List Content → Type 0
Found rows = (ms : Members) × (rest : List Content) × (rows ≡ value_rows (struct ms) ++ rest)

abbrev IsStruct : List Content → ℕ → Type 0
IsStruct rows s = (d : Content) → (get_or rows s d).kind ≡ kind.Struct

not_struct : (k : Kind) → k ≡ kind.Struct → (kind_number k ≡ 10 → ⊥) → ⊥
not_struct k e ne = ne (ap kind_number e)

abbrev FindsValue : Value → Type 0
FindsValue v = (rest : List Content) (s : ℕ) → s < length (value_rows v) → IsStruct (value_rows v ++ rest) s → Found (drop s (value_rows v ++ rest))

abbrev FindsMembers : Members → Type 0
FindsMembers ms = (rest : List Content) (s : ℕ) → s < length (members_rows ms) → IsStruct (members_rows ms ++ rest) s → Found (drop s (members_rows ms ++ rest))

abbrev FindsValues : Values → Type 0
FindsValues vs = (rest : List Content) (s : ℕ) → s < length (values_rows vs) → IsStruct (values_rows vs ++ rest) s → Found (drop s (values_rows vs ++ rest))

-- in the rows of one thing, or of what stands behind it
either : (xs ys rest : List Content) →
    ((r : List Content) (s : ℕ) → s < length xs → IsStruct (xs ++ r) s → Found (drop s (xs ++ r))) →
    ((r : List Content) (s : ℕ) → s < length ys → IsStruct (ys ++ r) s → Found (drop s (ys ++ r))) →
    (s : ℕ) → s < length (xs ++ ys) → IsStruct (xs ++ ys ++ rest) s → Found (drop s (xs ++ ys ++ rest))
either xs ys rest fx fy s lt is =
    let e = append_assoc xs ys rest in
    let is' = subst (λ l. IsStruct l s) e is in
    let long = length-append xs ys in
    subst (λ l. Found (drop s l)) (sym e)
    (⊎_elim (λ first. fx (ys ++ rest) s first is')
    (λ later.
    let j = s - length xs in
    let back : length xs + j ≡ s = omega (arith, later) in
    let moved : drop s (xs ++ (ys ++ rest)) ≡ drop j (ys ++ rest) =
    ap (λ n. drop n (xs ++ (ys ++ rest))) (sym back) ∙ sym (drop-drop j (length xs) (xs ++ (ys ++ rest))) ∙ ap (drop j) (drop_at xs (ys ++ rest) (length xs) refl) in
    let found = fy rest j (omega (arith, long, lt, later)) (λ d. ap (λ r. r.kind) (sym (get_or-append_right xs (ys ++ rest) (length xs) s d refl later)) ∙ is' d) in
    subst Found (sym moved) found)
    (cases_lt s (length xs)))

plain_row : (k : Kind) (c : Content) (rest : List Content) → c.kind ≡ k → (kind_number k ≡ 10 → ⊥) → (s : ℕ) → s < 1 → IsStruct (c ∷ rest) s → Found (drop s (c ∷ rest))
plain_row k c rest e ne zero lt is = absurd (ne (ap kind_number (sym e ∙ is c)))
plain_row k c rest e ne (suc s) lt is = absurd (omega (arith, lt))

row_with_parts : (c : Content) (xs rest : List Content) →
    ((r : List Content) (s : ℕ) → s < length xs → IsStruct (xs ++ r) s → Found (drop s (xs ++ r))) →
    (kind_number c.kind ≡ 10 → Found (c ∷ (xs ++ rest))) →
    (s : ℕ) → s < suc (length xs) → IsStruct (c ∷ (xs ++ rest)) s → Found (drop s (c ∷ (xs ++ rest)))
row_with_parts c xs rest fx own zero lt is = own (ap kind_number (is c))
row_with_parts c xs rest fx own (suc s) lt is = fx rest s (omega (arith, lt)) is

mutual
  unfolding value_rows members_rows values_rows

  finds_value : (v : Value) → FindsValue v
  finds_value (int z) rest = plain_row kind.Int _ rest refl (λ e. omega (arith, e))
  finds_value (boolean b) rest = plain_row kind.Boolean _ rest refl (λ e. omega (arith, e))
  finds_value (string t) rest = plain_row kind.String _ rest refl (λ e. omega (arith, e))
  finds_value (double z s) rest = plain_row kind.Double _ rest refl (λ e. omega (arith, e))
  finds_value (date t) rest = plain_row kind.Date _ rest refl (λ e. omega (arith, e))
  finds_value (base64 t) rest = plain_row kind.Base64 _ rest refl (λ e. omega (arith, e))
  finds_value (struct ms) rest = row_with_parts (holder_row kind.Struct (member_count ms) []) (members_rows ms) rest (finds_members ms) (λ _. (ms, rest, refl))
  finds_value (array vs) rest = row_with_parts (holder_row kind.Array (value_count vs) []) (values_rows vs) rest (finds_values vs) (λ e. absurd (omega (arith, e)))

  finds_members : (ms : Members) → FindsMembers ms
  finds_members none rest s lt is = absurd (omega (arith, lt))
  finds_members (member name v more) rest s lt is =
      row_with_parts (holder_row kind.Member 1 name) (value_rows v ++ members_rows more) rest
      (λ r. either (value_rows v) (members_rows more) r (finds_value v) (finds_members more)) (λ e. absurd (omega (arith, e))) s lt is

  finds_values : (vs : Values) → FindsValues vs
  finds_values end rest s lt is = absurd (omega (arith, lt))
  finds_values (value v more) rest s lt is = either (value_rows v) (values_rows more) rest (finds_value v) (finds_values more) s lt is

-- the message's own row, and the rest
outermost : (c : Content) (xs : List Content) → ((r : List Content) (s : ℕ) → s < length xs → IsStruct (xs ++ r) s → Found (drop s (xs ++ r))) →
    (kind_number c.kind ≡ 10 → ⊥) → (s : ℕ) → s < suc (length xs) → IsStruct (c ∷ xs) s → Found (drop s (c ∷ xs))
outermost c xs fx ne s lt is =
    let all = append-nil xs in
    subst (λ l. Found (drop s (c ∷ l))) all (row_with_parts c xs [] fx (λ e. absurd (ne e)) s lt (subst (λ l. IsStruct (c ∷ l) s) (sym all) is))

in_message : (m : Message) (s : ℕ) → s < length (message_rows m) → IsStruct (message_rows m) s → Found (drop s (message_rows m))
in_message (call name params) s lt is = outermost (holder_row kind.Call (value_count params) name) (values_rows params) (finds_values params) (λ e. omega (arith, e)) s lt is
in_message (response v) s lt is = outermost (holder_row kind.Response 1 []) (value_rows v) (finds_value v) (λ e. omega (arith, e)) s lt is
in_message (fault v) s lt is = outermost (holder_row kind.Fault 1 []) (value_rows v) (finds_value v) (λ e. omega (arith, e)) s lt is

-- every row of a struct in a message begins the rows of that struct
pub struct_at : (m : Message) (s : ℕ) → s < length (message_rows m) → ((d : Content) → (get_or (message_rows m) s d).kind ≡ kind.Struct) → StructAt (message_rows m) s
struct_at m s lt is = let found = in_message m s lt is in record { members = found.0; rest = found.1; here = found.2 }
