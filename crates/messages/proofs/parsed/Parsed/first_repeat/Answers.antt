use Rattle.std.proofs.Common.{◌+◌, map, sym, ◌∙◌, subst, rules}
use Rattle.reader.specs.Contents.{content_of}
use Rattle.messages.specs.Repeats.{RepeatBelow, Least}
use Rattle.messages.proofs.RepeatedNames.{comes_said, below_next, below_same, below_all}
use Rattle.messages.proofs.parsed.Parsed.first_repeat.Goals.{then-eq, else-eq}
use Rattle.messages.proofs.parsed.Parsed.first_repeat.Goals as goal

pub loop-at-preserved : goal.loop-at-preserved
loop-at-preserved c =
    let msg = c.args.self.message.now in
    let rows = c.args.self.rows.now in
    let at = c.loop-at.at in
    let old = c.loop-at.invariant in
    elim c.if-eq.branch [
      | then-eq w ↦
          let found = comes_said msg rows c.requires at c.loop-at-test.true (search rules) w.repeat_in.result w.repeat_in.ensures in
          subst (λ r. Least (RepeatBelow (map (content_of msg) rows) (at + 1)) r) (sym (w.first-is ∙ w.earlier-first.ensures)) (below_next msg rows at c.loop-at.first w.repeat_in.result old found)
      | else-eq w ↦
          subst (λ r. Least (RepeatBelow (map (content_of msg) rows) (at + 1)) r) (sym w.first-is) (below_same msg rows at c.loop-at.first old c.loop-at-test.true (λ e. search rules))
    ]

pub returns : goal.returns
returns c = below_all c.args.self.message.now c.args.self.rows.now c.loop-at.at c.loop-at.first c.loop-at-test.false c.loop-at.invariant
