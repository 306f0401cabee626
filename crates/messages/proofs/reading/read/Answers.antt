use Rattle.std.proofs.Common.{◌<◌, ◌≤◌, ◌++◌, length, take, drop, sym, subst, arith}
use Rattle.std.proofs.lemmas.List.{length-take-le}
use Rattle.wire.specs.Levels.{level_number, rows_at}
use Rattle.reader.proofs.Known.{known_cases_lem}
use Rattle.messages.specs.Answers.{Answer, small_memory}
use Rattle.messages.proofs.Left.{front_answer, within_lent}
use Rattle.messages.proofs.Verdicts.{one_answer, accepted_is_message, message_is_accepted, one_reading}
use Rattle.messages.proofs.reading.read.Goals as goal

pub returns-then-rows-room : goal.returns-then-rows-room
returns-then-rows-room c =
    let msg = c.args.message.now in
    let room = rows_at (level_number c.args.level) in
    let short : length c.args.rows.now < room = omega (arith, c.rows-room.ensures, c.if-rows-room.true) in
    record {
      answer = small_memory short;
      within = tt;
      one = one_answer msg room c.args.rows.now;
      accepts = (accepted_is_message msg room, message_is_accepted msg room);
      readings = one_reading msg;
      known = known_cases_lem;
    }

pub returns : goal.returns
returns c =
    let msg = c.args.message.now in
    let room = rows_at (level_number c.args.level) in
    let old = c.args.rows.now in
    let fits : room ≤ length old = omega (arith, c.rows-room.ensures, c.if-rows-room.false) in
    let end = c.rows-room.ensures in
    let r = c.read_within.result in
    let left = c.read_within.new.rows in
    let inner = subst (λ k. Answer (length (take k old)) msg (take k old) r left) end c.read_within.ensures in
    let whole = subst (λ k. Answer k msg (take room old) r left) (length-take-le room old fits) inner in
    let all = front_answer room msg old fits r left whole in
    record {
      answer = subst (λ k. Answer room msg old r (left ++ drop k old)) (sym end) all;
      within = within_lent room msg old r (left ++ drop room old) all;
      one = one_answer msg room old;
      accepts = (accepted_is_message msg room, message_is_accepted msg room);
      readings = one_reading msg;
      known = known_cases_lem;
    }
