-- No two messages have the same rows: the row of a value, with the members and the values that it
-- holds, gives the value back, and the row's count says how many of the rows after it are its own.
use Rattle.std.proofs.Common.{◌≡◌, ℕ, Bool, true, false, cond, eqb, List, [], ◌∷◌, ◌++◌, ℤ, pos, negsuc, sym, refl, ap, ◌∙◌, ap₂, append_assoc, append-nil, arith}
use Rattle.wire.specs.declared.kind.Kind.{Kind}
use Rattle.wire.specs.declared.kind.Kind.TheVariants as kind
use Rattle.wire.specs.Kinds.{kind_number}
use Rattle.wire.specs.Trees.{Content, Value, Members, Values, int, boolean, string, double, date, base64, struct, array, none, member, end, value, call, response, fault, member_count, value_count, text_row, number_row, holder_row, value_rows, members_rows, values_rows}
use Rattle.wire.specs.RowLaws.{RowsTellMessages}

-- a value's own row, and the members and the values that it holds
abbrev own_row : Value → Content
own_row (int n) = number_row kind.Int n 0
own_row (boolean true) = number_row kind.Boolean (pos 1) 0
own_row (boolean false) = number_row kind.Boolean (pos 0) 0
own_row (string text) = text_row kind.String text
own_row (double n scale) = number_row kind.Double n scale
own_row (date text) = text_row kind.Date text
own_row (base64 text) = text_row kind.Base64 text
own_row (struct ms) = holder_row kind.Struct (member_count ms) []
own_row (array vs) = holder_row kind.Array (value_count vs) []

abbrev held_members : Value → Members
held_members (int n) = none
held_members (boolean b) = none
held_members (string text) = none
held_members (double n scale) = none
held_members (date text) = none
held_members (base64 text) = none
held_members (struct ms) = ms
held_members (array vs) = none

abbrev held_values : Value → Values
held_values (int n) = end
held_values (boolean b) = end
held_values (string text) = end
held_values (double n scale) = end
held_values (date text) = end
held_values (base64 text) = end
held_values (struct ms) = end
held_values (array vs) = vs

rows_split : (v : Value) → value_rows v ≡ own_row v ∷ (members_rows (held_members v) ++ values_rows (held_values v))
unfolding value_rows members_rows values_rows
rows_split (int n) = refl
rows_split (boolean true) = refl
rows_split (boolean false) = refl
rows_split (string text) = refl
rows_split (double n scale) = refl
rows_split (date text) = refl
rows_split (base64 text) = refl
rows_split (struct ms) = ap (λ rows. own_row (struct ms) ∷ rows) (sym (append-nil (members_rows ms)))
rows_split (array vs) = refl

-- what a row and the parts make: a value again
abbrev is_one : ℤ → Bool
is_one (pos n) = eqb n 1
is_one (negsuc n) = false

abbrev made : Kind → Content → Members → Values → Value
made kind.Blank row ms vs = array vs
made kind.Call row ms vs = array vs
made kind.Response row ms vs = array vs
made kind.Fault row ms vs = array vs
made kind.Int row ms vs = int row.number
made kind.Boolean row ms vs = boolean (is_one row.number)
made kind.String row ms vs = string row.text
made kind.Double row ms vs = double row.number row.scale
made kind.Date row ms vs = date row.text
made kind.Base64 row ms vs = base64 row.text
made kind.Struct row ms vs = struct ms
made kind.Member row ms vs = array vs
made kind.Array row ms vs = array vs

made_again : (v : Value) → v ≡ made (own_row v).kind (own_row v) (held_members v) (held_values v)
made_again (int n) = refl
made_again (boolean true) = refl
made_again (boolean false) = refl
made_again (string text) = refl
made_again (double n scale) = refl
made_again (date text) = refl
made_again (base64 text) = refl
made_again (struct ms) = refl
made_again (array vs) = refl

same_value : (v w : Value) → own_row v ≡ own_row w → held_members v ≡ held_members w → held_values v ≡ held_values w → v ≡ w
same_value v w row ms vs = let p = made_again v in let q = made_again w in cc

-- the count of a row of this kind's number, and 0 of any other
abbrev count_at : ℕ → Content → ℕ
count_at number row = cond (eqb (kind_number row.kind) number) row.count 0

-- how many members and values a value holds, its row says
held_counts : (v : Value) → (member_count (held_members v) ≡ count_at 10 (own_row v)) × (value_count (held_values v) ≡ count_at 12 (own_row v))
held_counts (int n) = (refl, refl)
held_counts (boolean true) = (refl, refl)
held_counts (boolean false) = (refl, refl)
held_counts (string text) = (refl, refl)
held_counts (double n scale) = (refl, refl)
held_counts (date text) = (refl, refl)
held_counts (base64 text) = (refl, refl)
held_counts (struct ms) = (refl, refl)
held_counts (array vs) = (refl, refl)

-- rows that begin with those of this value, of these members or of these values begin so in no other way
abbrev TellValue : Value → Type 0
TellValue v = (w : Value) (xs ys : List Content) → value_rows v ++ xs ≡ value_rows w ++ ys → (v ≡ w) × (xs ≡ ys)

abbrev TellMembers : Members → Type 0
TellMembers ms = (ns : Members) (xs ys : List Content) → member_count ms ≡ member_count ns → members_rows ms ++ xs ≡ members_rows ns ++ ys → (ms ≡ ns) × (xs ≡ ys)

abbrev TellValues : Values → Type 0
TellValues vs = (ws : Values) (xs ys : List Content) → value_count vs ≡ value_count ws → values_rows vs ++ xs ≡ values_rows ws ++ ys → (vs ≡ ws) × (xs ≡ ys)

tell_none : TellMembers none
unfolding members_rows
tell_none none xs ys n e = (refl, e)
tell_none (member name w rest) xs ys n e = absurd (omega arith)

tell_end : TellValues end
unfolding values_rows
tell_end end xs ys n e = (refl, e)
tell_end (value w rest) xs ys n e = absurd (omega arith)

tell_held : (v : Value) → TellMembers (held_members v) → TellValues (held_values v) → TellValue v
tell_held v members values w xs ys e =
    let split : own_row v ∷ (members_rows (held_members v) ++ (values_rows (held_values v) ++ xs)) ≡ own_row w ∷ (members_rows (held_members w) ++ (values_rows (held_values w) ++ ys))
    = simp append_assoc at (simp (rows_split v, rows_split w) at e) in
    let row : own_row v ≡ own_row w = cc in
    let after : members_rows (held_members v) ++ (values_rows (held_values v) ++ xs) ≡ members_rows (held_members w) ++ (values_rows (held_values w) ++ ys) = cc in
    let ms = members (held_members w) (values_rows (held_values v) ++ xs) (values_rows (held_values w) ++ ys)
    ((held_counts v).0 ∙ ap (count_at 10) row ∙ sym (held_counts w).0) after in
    let vs = values (held_values w) xs ys ((held_counts v).1 ∙ ap (count_at 12) row ∙ sym (held_counts w).1) ms.1 in
    (same_value v w row ms.0 vs.0, vs.1)

tell_member : (name : List ℕ) (v : Value) (rest : Members) → TellValue v → TellMembers rest → TellMembers (member name v rest)
unfolding members_rows
tell_member name v rest here there none xs ys n e = absurd (omega arith)
tell_member name v rest here there (member other w others) xs ys n e =
    let row : holder_row kind.Member 1 name ≡ holder_row kind.Member 1 other = cc in
    let after : (value_rows v ++ members_rows rest) ++ xs ≡ (value_rows w ++ members_rows others) ++ ys = cc in
    let first = here w (members_rows rest ++ xs) (members_rows others ++ ys) (simp append_assoc at after) in
    let second = there others xs ys (omega arith) first.1 in
    let names : name ≡ other = ap (λ (r : Content). r.text) row in
    let values = first.0 in
    let members = second.0 in
    (cc, second.1)

tell_item : (v : Value) (rest : Values) → TellValue v → TellValues rest → TellValues (value v rest)
unfolding values_rows
tell_item v rest here there end xs ys n e = absurd (omega arith)
tell_item v rest here there (value w others) xs ys n e =
    let first = here w (values_rows rest ++ xs) (values_rows others ++ ys) (simp append_assoc at e) in
    let second = there others xs ys (omega arith) first.1 in
    (ap₂ value first.0 second.0, second.1)

mutual
  tell_value : (v : Value) → TellValue v
  tell_value (int n) = tell_held (int n) tell_none tell_end
  tell_value (boolean b) = tell_held (boolean b) tell_none tell_end
  tell_value (string text) = tell_held (string text) tell_none tell_end
  tell_value (double n scale) = tell_held (double n scale) tell_none tell_end
  tell_value (date text) = tell_held (date text) tell_none tell_end
  tell_value (base64 text) = tell_held (base64 text) tell_none tell_end
  tell_value (struct ms) = tell_held (struct ms) (tell_members ms) tell_end
  tell_value (array vs) = tell_held (array vs) tell_none (tell_values vs)

  tell_members : (ms : Members) → TellMembers ms
  tell_members none = tell_none
  tell_members (member name v rest) = tell_member name v rest (tell_value v) (tell_members rest)

  tell_values : (vs : Values) → TellValues vs
  tell_values end = tell_end
  tell_values (value v rest) = tell_item v rest (tell_value v) (tell_values rest)

value_told : (v w : Value) → value_rows v ≡ value_rows w → v ≡ w
value_told v w e = (tell_value v w [] [] (ap (λ rows. rows ++ []) e)).0

values_told : (vs ws : Values) → value_count vs ≡ value_count ws → values_rows vs ≡ values_rows ws → vs ≡ ws
values_told vs ws n e = (tell_values vs ws [] [] n (ap (λ rows. rows ++ []) e)).0

differ : {A : Type 0} {c d : Content} {xs ys : List Content} → c ∷ xs ≡ d ∷ ys → (kind_number c.kind ≡ kind_number d.kind → ⊥) → A
differ {A} {c} {d} e ne = let row : c ≡ d = cc in absurd (ne (ap (λ (r : Content). kind_number r.kind) row))

pub rows_tell_messages : RowsTellMessages
rows_tell_messages (call name vs) (call other ws) e =
    let row : holder_row kind.Call (value_count vs) name ≡ holder_row kind.Call (value_count ws) other = cc in
    let after : values_rows vs ≡ values_rows ws = cc in
    ap₂ call (ap (λ (r : Content). r.text) row) (values_told vs ws (ap (λ (r : Content). r.count) row) after)
rows_tell_messages (call name vs) (response w) e = differ e (λ k. omega arith)
rows_tell_messages (call name vs) (fault w) e = differ e (λ k. omega arith)
rows_tell_messages (response v) (call other ws) e = differ e (λ k. omega arith)
rows_tell_messages (response v) (response w) e = ap response (value_told v w (cc))
rows_tell_messages (response v) (fault w) e = differ e (λ k. omega arith)
rows_tell_messages (fault v) (call other ws) e = differ e (λ k. omega arith)
rows_tell_messages (fault v) (response w) e = differ e (λ k. omega arith)
rows_tell_messages (fault v) (fault w) e = ap fault (value_told v w (cc))
