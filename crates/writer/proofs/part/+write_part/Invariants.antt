use Rattle.std.proofs.Common.{◌≡◌, ◌+◌, ◌-◌, ◌<◌, List, ◌++◌, length, drop}
use Rattle.wire.specs.Trees.{Content}
use Rattle.writer.specs.Pages.{Put}
use Rattle.writer.specs.Nodes.{Node, own_row, parts_of, node_rows, nodes_rows, nodes_form, Counts}
use Rattle.writer.proofs.Kids.{up_to}
use Rattle.writer.proofs.part.+write_part.Given as goal

abbrev pub decreases-write_part : goal.decreases-write_part
decreases-write_part g l = length (g.M.Held.said l.held.now) - l.i

abbrev pub invariant-loop : goal.invariant-loop
invariant-loop g l =
    (l.i < l.next)
    × (l.pen.page.ghost_name ≡ l.initial.pen.page.ghost_name)
    × ((n : Node) (rest : List Content) → Counts n → drop l.i (g.M.Held.said l.held) ≡ node_rows n ++ rest →
    (l.next ≡ l.i + 1 + length (nodes_rows (up_to l.counter (parts_of n))))
    × Put l.initial.pen (nodes_form (own_row n).kind (up_to l.counter (parts_of n))) l.pen)
