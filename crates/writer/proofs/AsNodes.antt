-- Messages as trees of rows: the same rows, and what is written for them is the canonical form.
use Rattle.std.proofs.Common.{◌≡◌, ℕ, suc, ◌+◌, Bool, true, false, cond, List, [], ◌∷◌, ◌++◌, drop, pos, sym, refl, ap, ◌∙◌, append_assoc, append-nil, arith}
use Rattle.std.specs.Fmt.{digits}
use Rattle.wire.specs.declared.kind.Kind.TheVariants as kind
use Rattle.wire.specs.Trees.{Content, Value, Members, Values, Message, int, boolean, string, double, date, base64, struct, array, member, end, value, call, response, fault, member_count, value_count, value_rows, members_rows, values_rows, message_rows, text_row, number_row, holder_row}
use Rattle.wire.specs.Trees as tree
use Rattle.texts.specs.Booleans.{boolean_spelling}
use Rattle.numbers.specs.Ints.{int_spelling}
use Rattle.numbers.specs.Doubles.{double_spelling}
use Rattle.base64_texts.specs.Base64.{base64_spelling}
use Rattle.characters.specs.Spelling.{characters_spelling}
use Rattle.parts.specs.declared.name.Name.TheVariants as name
use Rattle.canonical.specs.Forms.{declaration, open_tag, close_tag, element, typed_form, members_form, values_form, value_form, params_form, call_params, message_form, canonical}
use Rattle.writer.specs.Nodes.{Node, Nodes, node, none, also, how_many, node_rows, nodes_rows, node_form, nodes_form, Counts, CountAll}
use Rattle.writer.specs.Tables.{params_open, params_close}

unfoldable mutual
  pub value_node : Value → Node
  value_node (int z) = node (number_row kind.Int z 0) none
  value_node (boolean b) = node (number_row kind.Boolean (pos (cond b 1 0)) 0) none
  value_node (string t) = node (text_row kind.String t) none
  value_node (double z s) = node (number_row kind.Double z s) none
  value_node (date t) = node (text_row kind.Date t) none
  value_node (base64 t) = node (text_row kind.Base64 t) none
  value_node (struct ms) = node (holder_row kind.Struct (member_count ms) []) (member_nodes ms)
  value_node (array vs) = node (holder_row kind.Array (value_count vs) []) (value_nodes vs)

  pub member_nodes : Members → Nodes
  member_nodes tree.none = none
  member_nodes (member n v more) = also (node (holder_row kind.Member 1 n) (also (value_node v) none)) (member_nodes more)

  pub value_nodes : Values → Nodes
  value_nodes end = none
  value_nodes (value v more) = also (value_node v) (value_nodes more)

unfoldable pub message_node : Message → Node
message_node (call n params) = node (holder_row kind.Call (value_count params) n) (value_nodes params)
message_node (response v) = node (holder_row kind.Response 1 []) (also (value_node v) none)
message_node (fault v) = node (holder_row kind.Fault 1 []) (also (value_node v) none)

-- the rows are those of the message
mutual
  unfolding value_node member_nodes value_nodes node_rows nodes_rows value_rows members_rows values_rows

  value_rows_lem : (v : Value) → node_rows (value_node v) ≡ value_rows v
  value_rows_lem (int z) = refl
  value_rows_lem (boolean b) = refl
  value_rows_lem (string t) = refl
  value_rows_lem (double z s) = refl
  value_rows_lem (date t) = refl
  value_rows_lem (base64 t) = refl
  value_rows_lem (struct ms) = ap (λ l. holder_row kind.Struct (member_count ms) [] ∷ l) (members_rows_lem ms)
  value_rows_lem (array vs) = ap (λ l. holder_row kind.Array (value_count vs) [] ∷ l) (values_rows_lem vs)

  members_rows_lem : (ms : Members) → nodes_rows (member_nodes ms) ≡ members_rows ms
  members_rows_lem tree.none = refl
  members_rows_lem (member n v more) = ap (λ l. holder_row kind.Member 1 n ∷ l) (λ i. (append-nil (node_rows (value_node v)) ∙ value_rows_lem v) i ++ members_rows_lem more i)

  values_rows_lem : (vs : Values) → nodes_rows (value_nodes vs) ≡ values_rows vs
  values_rows_lem end = refl
  values_rows_lem (value v more) = λ i. value_rows_lem v i ++ values_rows_lem more i

pub message_rows_lem : (m : Message) → node_rows (message_node m) ≡ message_rows m
unfolding message_node node_rows nodes_rows
message_rows_lem (call n params) = ap (λ l. holder_row kind.Call (value_count params) n ∷ l) (values_rows_lem params)
message_rows_lem (response v) = ap (λ l. holder_row kind.Response 1 [] ∷ l) (append-nil (node_rows (value_node v)) ∙ value_rows_lem v)
message_rows_lem (fault v) = ap (λ l. holder_row kind.Fault 1 [] ∷ l) (append-nil (node_rows (value_node v)) ∙ value_rows_lem v)

-- each row counts its parts
many_members : (ms : Members) → member_count ms ≡ how_many (member_nodes ms)
unfolding member_nodes
many_members tree.none = refl
many_members (member n v more) = let rest = many_members more in omega (arith, rest)

many_values : (vs : Values) → value_count vs ≡ how_many (value_nodes vs)
unfolding value_nodes
many_values end = refl
many_values (value v more) = let rest = many_values more in omega (arith, rest)

mutual
  unfolding value_node member_nodes value_nodes

  value_counts : (v : Value) → Counts (value_node v)
  value_counts (int z) = (refl, tt)
  value_counts (boolean b) = (refl, tt)
  value_counts (string t) = (refl, tt)
  value_counts (double z s) = (refl, tt)
  value_counts (date t) = (refl, tt)
  value_counts (base64 t) = (refl, tt)
  value_counts (struct ms) = (many_members ms, members_counts ms)
  value_counts (array vs) = (many_values vs, values_counts vs)

  members_counts : (ms : Members) → CountAll (member_nodes ms)
  members_counts tree.none = tt
  members_counts (member n v more) = ((refl, (value_counts v, tt)), members_counts more)

  values_counts : (vs : Values) → CountAll (value_nodes vs)
  values_counts end = tt
  values_counts (value v more) = (value_counts v, values_counts more)

pub message_counts : (m : Message) → Counts (message_node m)
unfolding message_node
message_counts (call n params) = (many_values params, values_counts params)
message_counts (response v) = (refl, (value_counts v, tt))
message_counts (fault v) = (refl, (value_counts v, tt))

-- how the fixed bytes of a row are made of tags
leaf : (o p s q c : List ℕ) → ((o ++ p) ++ (s ++ (q ++ c))) ++ [] ≡ o ++ ((p ++ (s ++ q)) ++ c)
leaf o p s q c = append-nil _ ∙ simp append_assoc

holder : (o p m q c : List ℕ) → ((o ++ p) ++ []) ++ (m ++ (q ++ c)) ≡ o ++ ((p ++ (m ++ q)) ++ c)
holder o p m q c = ap (λ l. l ++ (m ++ (q ++ c))) (append-nil (o ++ p)) ∙ simp append_assoc

double_holder : (o p r m q c d : List ℕ) → ((o ++ (p ++ r)) ++ []) ++ (m ++ (q ++ (c ++ d))) ≡ o ++ ((p ++ ((r ++ (m ++ q)) ++ c)) ++ d)
double_holder o p r m q c d = ap (λ l. l ++ (m ++ (q ++ (c ++ d)))) (append-nil (o ++ (p ++ r))) ∙ simp append_assoc

named : (o p e q v c : List ℕ) → (((o ++ p) ++ (e ++ q)) ++ (v ++ [] ++ [] ++ c)) ++ [] ≡ o ++ ((p ++ (e ++ q) ++ v) ++ c)
named o p e q v c = append-nil _ ∙ ap (λ l. ((o ++ p) ++ (e ++ q)) ++ (l ++ c)) (append-nil (v ++ []) ∙ append-nil v) ∙ simp append_assoc

-- the text of a boolean is its number
boolean_text : (b : Bool) → int_spelling (pos (cond b 1 0)) ≡ boolean_spelling b
unfolding digits
boolean_text true = refl
boolean_text false = refl

mutual
  unfolding value_node member_nodes value_nodes node_form nodes_form typed_form members_form values_form element open_tag close_tag

  value_form_lem : (v : Value) → node_form (value_node v) ≡ element name.Value (typed_form v)
  value_form_lem (int z) = leaf (open_tag name.Value) (open_tag name.Int) (int_spelling z) (close_tag name.Int) (close_tag name.Value)
  value_form_lem (boolean b) =
      ap (λ s. ((open_tag name.Value ++ open_tag name.Boolean) ++ (s ++ (close_tag name.Boolean ++ close_tag name.Value))) ++ []) (boolean_text b)
      ∙ leaf (open_tag name.Value) (open_tag name.Boolean) (boolean_spelling b) (close_tag name.Boolean) (close_tag name.Value)
  value_form_lem (string t) = leaf (open_tag name.Value) (open_tag name.String) (characters_spelling t) (close_tag name.String) (close_tag name.Value)
  value_form_lem (double z s) = leaf (open_tag name.Value) (open_tag name.Double) (double_spelling z s) (close_tag name.Double) (close_tag name.Value)
  value_form_lem (date t) = leaf (open_tag name.Value) (open_tag name.DateTime) t (close_tag name.DateTime) (close_tag name.Value)
  value_form_lem (base64 t) = leaf (open_tag name.Value) (open_tag name.Base64) (base64_spelling t) (close_tag name.Base64) (close_tag name.Value)
  value_form_lem (struct ms) =
      ap (λ l. ((open_tag name.Value ++ open_tag name.Struct) ++ []) ++ (l ++ (close_tag name.Struct ++ close_tag name.Value))) (members_form_lem ms)
      ∙ holder (open_tag name.Value) (open_tag name.Struct) (members_form ms) (close_tag name.Struct) (close_tag name.Value)
  value_form_lem (array vs) =
      ap (λ l. ((open_tag name.Value ++ (open_tag name.Array ++ open_tag name.Data)) ++ []) ++ (l ++ (close_tag name.Data ++ (close_tag name.Array ++ close_tag name.Value)))) (values_form_lem vs)
      ∙ double_holder (open_tag name.Value) (open_tag name.Array) (open_tag name.Data) (values_form vs) (close_tag name.Data) (close_tag name.Array) (close_tag name.Value)

  members_form_lem : (ms : Members) → nodes_form kind.Struct (member_nodes ms) ≡ members_form ms
  members_form_lem tree.none = refl
  members_form_lem (member n v more) =
      let own = ap (λ l. (((open_tag name.Member ++ open_tag name.MemberName) ++ (characters_spelling n ++ close_tag name.MemberName)) ++ (l ++ [] ++ [] ++ close_tag name.Member)) ++ []) (value_form_lem v)
      ∙ named (open_tag name.Member) (open_tag name.MemberName) (characters_spelling n) (close_tag name.MemberName) (element name.Value (typed_form v)) (close_tag name.Member) in
      λ i. own i ++ members_form_lem more i

  values_form_lem : (vs : Values) → nodes_form kind.Array (value_nodes vs) ≡ values_form vs
  values_form_lem end = refl
  values_form_lem (value v more) = λ i. (append-nil (node_form (value_node v)) ∙ value_form_lem v) i ++ values_form_lem more i

params_form_lem : (vs : Values) → nodes_form kind.Call (value_nodes vs) ≡ params_form vs
unfolding value_nodes nodes_form params_form value_form element open_tag close_tag
params_form_lem end = refl
params_form_lem (value v more) = λ i. (open_tag name.Param ++ (value_form_lem v i ++ close_tag name.Param)) ++ params_form_lem more i

-- the declaration, and then the elements of the message
without_params : (d m n t o c : List ℕ) → ((d ++ (m ++ n)) ++ (t ++ o)) ++ c ≡ d ++ (m ++ ((n ++ (t ++ o) ++ []) ++ c))
without_params d m n t o c = sym (ap (λ l. d ++ (m ++ (l ++ c))) (append-nil (n ++ (t ++ o))) ∙ simp append_assoc)

with_some : (d m n t o p ps q c : List ℕ) → ((d ++ (m ++ n)) ++ (t ++ (o ++ p))) ++ (ps ++ (q ++ c)) ≡ d ++ (m ++ ((n ++ (t ++ o) ++ (p ++ (ps ++ q))) ++ c))
with_some d m n t o p ps q c = simp append_assoc

responds : (d m p o v q r c : List ℕ) → ((d ++ (m ++ p)) ++ []) ++ ((o ++ (v ++ q) ++ []) ++ (r ++ c)) ≡ d ++ (m ++ ((p ++ ((o ++ (v ++ q)) ++ r)) ++ c))
responds d m p o v q r c = ap (λ l. l ++ ((o ++ (v ++ q) ++ []) ++ (r ++ c))) (append-nil (d ++ (m ++ p))) ∙ ap (λ l. (d ++ (m ++ p)) ++ (l ++ (r ++ c))) (append-nil (o ++ (v ++ q))) ∙ simp append_assoc

faults : (d m f v g c : List ℕ) → ((d ++ (m ++ f)) ++ []) ++ ((v ++ [] ++ []) ++ (g ++ c)) ≡ d ++ (m ++ ((f ++ (v ++ g)) ++ c))
faults d m f v g c = ap (λ l. l ++ ((v ++ [] ++ []) ++ (g ++ c))) (append-nil (d ++ (m ++ f))) ∙ ap (λ l. (d ++ (m ++ f)) ++ (l ++ (g ++ c))) (append-nil (v ++ []) ∙ append-nil v) ∙ simp append_assoc

pub message_form_lem : (m : Message) → node_form (message_node m) ≡ canonical m
unfolding message_node value_nodes node_form nodes_form canonical message_form call_params params_form value_form declaration element open_tag close_tag
message_form_lem (call n end) = without_params declaration (open_tag name.MethodCall) (open_tag name.MethodName) n (close_tag name.MethodName) (close_tag name.MethodCall)
message_form_lem (call n (value v more)) =
    let params = value v more in
    let some : 1 + value_count more ≡ suc (value_count more) = omega arith in
    let front = declaration ++ (open_tag name.MethodCall ++ open_tag name.MethodName) in
    ap (λ j. (front ++ (n ++ params_open j)) ++ (nodes_form kind.Call (value_nodes params) ++ params_close j)) some
    ∙ ap (λ l. (front ++ (n ++ (close_tag name.MethodName ++ open_tag name.Params))) ++ (l ++ (close_tag name.Params ++ close_tag name.MethodCall))) (params_form_lem params)
    ∙ with_some declaration (open_tag name.MethodCall) (open_tag name.MethodName) n (close_tag name.MethodName) (open_tag name.Params) (params_form params) (close_tag name.Params) (close_tag name.MethodCall)
message_form_lem (response v) =
    ap (λ l. ((declaration ++ (open_tag name.MethodResponse ++ open_tag name.Params)) ++ []) ++ ((open_tag name.Param ++ (l ++ close_tag name.Param) ++ []) ++ (close_tag name.Params ++ close_tag name.MethodResponse))) (value_form_lem v)
    ∙ responds declaration (open_tag name.MethodResponse) (open_tag name.Params) (open_tag name.Param) (element name.Value (typed_form v)) (close_tag name.Param) (close_tag name.Params) (close_tag name.MethodResponse)
message_form_lem (fault v) =
    ap (λ l. ((declaration ++ (open_tag name.MethodResponse ++ open_tag name.Fault)) ++ []) ++ ((l ++ [] ++ []) ++ (close_tag name.Fault ++ close_tag name.MethodResponse))) (value_form_lem v)
    ∙ faults declaration (open_tag name.MethodResponse) (open_tag name.Fault) (element name.Value (typed_form v)) (close_tag name.Fault) (close_tag name.MethodResponse)

-- the rows of a message, from the first on
pub from_first : (said : List Content) (m : Message) → said ≡ message_rows m → drop 0 said ≡ node_rows (message_node m) ++ []
from_first said m e = e ∙ sym (append-nil (node_rows (message_node m)) ∙ message_rows_lem m)
