use Rattle.std.proofs.Common.{◌≡◌, ◌+◌, ◌-◌, ◌^◌, ◌<◌, length, get_or, take, drop, sym, ap, ◌∙◌, arith, length-drop}
use Rattle.std.proofs.lemmas.List.{take_rest, drop-map}
use Rattle.wire.specs.Rows.{blank_row}
use Rattle.messages.specs.Holding.{extent, counts_of}
use Rattle.messages.proofs.Walked.{extent_more, count_at, counts_length}
use Rattle.messages.proofs.parsed.Parsed.past_part.Goals as goal

pub loop-passed-preserved : goal.loop-passed-preserved
loop-passed-preserved c =
    let rows = c.args.self.rows.now in
    let start = c.args.start in
    let i = c.loop-passed.passed in
    let counts = drop start (counts_of rows) in
    let rest = take (length rows - start) (drop start rows) in
    let long : length counts ≡ length rows - start = omega (arith, length-drop start (counts_of rows), counts_length rows) in
    let inside : i < length counts = omega (arith, long) in
    let here : i < length (drop start rows) = omega (arith, length-drop start rows) in
    let count : get_or counts i 0 ≡ (get_or rest i blank_row).count =
    ap (λ l. get_or l i 0) (drop-map (λ row. row.count) start rows) ∙ count_at (drop start rows) i here ∙ ap (λ l. (get_or l i blank_row).count) (sym (take_rest rows start)) in
    let more = extent_more c.loop-passed.owed counts i (omega arith) inside in
    let step = ap (λ k. 1 + extent (c.loop-passed.owed - 1 + k) (drop (i + 1) counts)) count in
    let small : (get_or rest i blank_row).count < 2 ^ 32 = omega arith in
    (omega (arith, more, step, c.loop-passed.invariant.0), omega (arith, c.loop-passed.invariant.1))
