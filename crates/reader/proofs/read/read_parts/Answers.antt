use Rattle.std.proofs.Common.{length, drop, set, sym, refl, ap, ◌∙◌, arith, length-drop}
use Rattle.parts.specs.Cutting.{part_count}
use Rattle.parts.proofs.Turns.{few_parts}
use Rattle.reader.specs.Steps.{judge}
use Rattle.reader.specs.Reading.{read_from}
use Rattle.reader.proofs.read.read_parts.Goals as goal

pub loop-token-init : goal.loop-token-init
loop-token-init c =
    let msg = c.args.message.now in
    let rs = c.args.rows.now in
    let begun = c.in_ok-reader.ensures.parts in
    let n = begun.0 in
    let m = c.new-machine.ensures in
    let none = c.none-run.ensures in
    let count = ap part_count begun.3 in (
      omega (arith, none.0, ap length none.1),
      refl,
      begun.2,
      omega (arith, m.steps, count, few_parts n (drop n msg), length-drop n msg, c.requires),
      (λ i. judge set (m.state i) (none.0 i) (none.1 i) (begun.3 i) (length msg)) ∙ ap (read_from set msg rs) (sym begun.1),
    )
