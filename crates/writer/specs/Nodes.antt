-- A message as a tree of rows: each row with its parts.
use Rattle.std.specs.Prelude.{◌≡◌, ℕ, zero, suc, List, [], ◌∷◌, ◌++◌}
use Rattle.wire.specs.declared.kind.Kind.{Kind}
use Rattle.wire.specs.Trees.{Content}
use Rattle.writer.specs.Tables.{front_of, spelling_of, back_of, close_of, before_of, after_of}

mutual
  pub data Node : Type 0 where
    node : Content → Nodes → Node

  pub data Nodes : Type 0 where
    none : Nodes
    also : Node → Nodes → Nodes

abbrev pub own_row : Node → Content
own_row (node c ns) = c

abbrev pub parts_of : Node → Nodes
parts_of (node c ns) = ns

abbrev pub how_many : Nodes → ℕ
how_many none = zero
how_many (also n ns) = suc (how_many ns)

unfoldable mutual
  -- the rows of a node: its own, then those of its parts
  pub node_rows : Node → List Content
  node_rows (node c ns) = c ∷ nodes_rows ns

  pub nodes_rows : Nodes → List Content
  nodes_rows none = []
  nodes_rows (also n ns) = node_rows n ++ nodes_rows ns

-- what is written for a row in front of its parts
abbrev pub opening_of : Content → List ℕ
opening_of c = front_of c.kind ++ (spelling_of c c.kind ++ back_of c.kind c.count)

unfoldable mutual
  -- what is written for a node
  pub node_form : Node → List ℕ
  node_form (node c ns) = opening_of c ++ (nodes_form c.kind ns ++ close_of c.kind c.count)

  -- and for the parts of a row of some kind
  pub nodes_form : Kind → Nodes → List ℕ
  nodes_form k none = []
  nodes_form k (also n ns) = (before_of k ++ (node_form n ++ after_of k)) ++ nodes_form k ns

abbrev mutual
  -- each row counts its parts
  pub Counts : Node → Type 0
  Counts (node c ns) = (c.count ≡ how_many ns) × CountAll ns

  pub CountAll : Nodes → Type 0
  CountAll none = Unit {0}
  CountAll (also n ns) = Counts n × CountAll ns
