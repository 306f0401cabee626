-- The parts of a row, some first and then the rest.
use Rattle.std.proofs.Common.{◌≡◌, ℕ, zero, suc, ◌+◌, ◌<◌, List, ◌++◌, length, get_or, drop, sym, refl, ap, ◌∙◌, append_assoc, append-nil, arith}
use Rattle.std.proofs.lemmas.List.{drop-drop, drop_at}
use Rattle.wire.specs.declared.kind.Kind.{Kind}
use Rattle.wire.specs.Trees.{Content}
use Rattle.messages.proofs.HeldParts.{at_row}
use Rattle.held.specs.Told.{no_row}
use Rattle.writer.specs.Nodes.{Node, Nodes, node, none, also, own_row, parts_of, how_many, node_rows, nodes_rows, node_form, nodes_form, opening_of, Counts, CountAll}
use Rattle.writer.specs.Tables.{before_of, after_of, close_of}

abbrev pub from : ℕ → Nodes → Nodes
from zero ns = ns
from (suc k) none = none
from (suc k) (also n ns) = from k ns

abbrev pub up_to : ℕ → Nodes → Nodes
up_to zero ns = none
up_to (suc k) none = none
up_to (suc k) (also n ns) = also n (up_to k ns)

-- a row and its parts, at an index
pub record Begins (said rest : List Content) (i : ℕ) (n : Node) : Type 0 where
  pub inside : i < length said
  pub own : get_or said i no_row ≡ own_row n
  pub behind : drop (i + 1) said ≡ nodes_rows (parts_of n) ++ rest

pub begins : (said rest : List Content) (i : ℕ) (n : Node) → drop i said ≡ node_rows n ++ rest → Begins said rest i n
unfolding node_rows
begins said rest i (node c ns) e =
    let row = at_row said i c (nodes_rows ns ++ rest) e in
    record { inside = row.0; own = row.1 no_row; behind = sym (drop-drop 1 i said) ∙ ap (drop 1) e }

-- the part that comes next
pub record Next (k : Kind) (ns : Nodes) (j : ℕ) : Type 0 where
  pub part : Node
  pub counts : Counts part
  pub rows : nodes_rows ns ≡ nodes_rows (up_to j ns) ++ (node_rows part ++ nodes_rows (from (suc j) ns))
  pub more_rows : nodes_rows (up_to (suc j) ns) ≡ nodes_rows (up_to j ns) ++ node_rows part
  pub more_form : nodes_form k (up_to (suc j) ns) ≡ nodes_form k (up_to j ns) ++ (before_of k ++ (node_form part ++ after_of k))

pub next_part : (k : Kind) (ns : Nodes) (j : ℕ) → j < how_many ns → CountAll ns → Next k ns j
unfolding nodes_rows nodes_form
next_part k none j lt all = absurd (omega (arith, lt))
next_part k (also n ns) zero lt all = record {
  part = n;
  counts = all.0;
  rows = refl;
  more_rows = append-nil (node_rows n);
  more_form = append-nil (before_of k ++ (node_form n ++ after_of k));
}
next_part k (also n ns) (suc j) lt all =
    let rest = next_part k ns j (omega (arith, lt)) all.1 in
    let p = rest.part in
    let own = before_of k ++ (node_form n ++ after_of k) in
    record {
      part = p;
      counts = rest.counts;
      rows = ap (λ l. node_rows n ++ l) rest.rows ∙ sym (append_assoc (node_rows n) (nodes_rows (up_to j ns)) (node_rows p ++ nodes_rows (from (suc j) ns)));
      more_rows = ap (λ l. node_rows n ++ l) rest.more_rows ∙ sym (append_assoc (node_rows n) (nodes_rows (up_to j ns)) (node_rows p));
      more_form = ap (λ l. own ++ l) rest.more_form ∙ sym (append_assoc own (nodes_form k (up_to j ns)) (before_of k ++ (node_form p ++ after_of k)));
    }

-- all parts
pub all_parts : (ns : Nodes) → up_to (how_many ns) ns ≡ ns
all_parts none = refl
all_parts (also n ns) = ap (also n) (all_parts ns)

-- where the next part begins
pub stands : (said rest : List Content) (i next k : ℕ) (n : Node) (kd : Kind) → Begins said rest i n → (p : Next kd (parts_of n) k) → next ≡ i + 1 + length (nodes_rows (up_to k (parts_of n))) →
    drop next said ≡ node_rows p.part ++ (nodes_rows (from (suc k) (parts_of n)) ++ rest)
stands said rest i next k n kd b p e =
    let done = nodes_rows (up_to k (parts_of n)) in
    let here = node_rows p.part ++ nodes_rows (from (suc k) (parts_of n)) in
    ap (λ j. drop j said) e ∙ sym (drop-drop (length done) (i + 1) said) ∙ ap (drop (length done)) (b.behind ∙ ap (λ l. l ++ rest) p.rows ∙ append_assoc done here rest)
    ∙ drop_at done (here ++ rest) (length done) refl ∙ append_assoc (node_rows p.part) (nodes_rows (from (suc k) (parts_of n))) rest

pub whole_rows : (n : Node) → length (node_rows n) ≡ 1 + length (nodes_rows (parts_of n))
unfolding node_rows
whole_rows (node c ns) = omega arith

pub whole_form : (n : Node) → node_form n ≡ opening_of (own_row n) ++ (nodes_form (own_row n).kind (parts_of n) ++ close_of (own_row n).kind (own_row n).count)
unfolding node_form
whole_form (node c ns) = refl

pub own_count : (n : Node) → Counts n → ((own_row n).count ≡ how_many (parts_of n)) × CountAll (parts_of n)
own_count (node c ns) h = h
