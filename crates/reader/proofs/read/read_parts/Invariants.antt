use Rattle.std.proofs.Common.{◌≡◌, ◌+◌, ◌*◌, ◌^◌, ◌<◌, ◌≤◌, length, set}
use Rattle.parts.specs.Cutting.{part_count}
use Rattle.parts.specs.Readers.{parts_left}
use Rattle.reader.specs.Steps.{judge}
use Rattle.reader.specs.Held.{state}
use Rattle.reader.specs.Reading.{reading}
use Rattle.reader.proofs.read.read_parts.Given as goal

abbrev pub invariant-loop-token : goal.invariant-loop-token
invariant-loop-token l =
    (l.run.0 + length l.run.1.0.now < 2 ^ 32) × (l.machine.rows.ghost_name ≡ l.initial.machine.rows.ghost_name) × (l.reader.message.now ≡ l.message)
    × (l.machine.steps + 2 * part_count (parts_left l.reader) ≤ 600000)
    × (judge set (state l.machine) l.run.0 l.run.1.0.now (parts_left l.reader) (length l.message) ≡ reading set l.message l.fn.rows)

abbrev pub decreases-loop-token : goal.decreases-loop-token
decreases-loop-token l = part_count (parts_left l.reader)
