use Rattle.std.proofs.Common.{[], length, ap, arith}
use Rattle.writer.proofs.AsNodes.{message_node, message_counts, message_form_lem, from_first}
use Rattle.writer.proofs.whole.canonical_len.Goals as goal

pub returns : goal.returns
returns g c = λ m says.
    let wrote = c.write_part.ensures.part (message_node m) [] (message_counts m) (from_first (g.M.Held.said c.args.held.now) m says) in
    omega (arith, wrote.1.place, ap length (message_form_lem m))
