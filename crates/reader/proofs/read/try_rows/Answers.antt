use Rattle.std.proofs.Common.{◌≡◌, ◌<◌, ◌≤◌, [], length, Ok, Err, sym, ap, ◌∙◌, arith}
use Rattle.std.specs.List.{prefix_len}
use Rattle.std.proofs.lemmas.Result.{err_from_is_err_and}
use Rattle.wire.specs.declared.refusal.Refusal.TheVariants.{BadByte}
use Rattle.characters.specs.References.{is_character}
use Rattle.reader.specs.Steps.{put_at}
use Rattle.reader.specs.Reading.{reading, rows_in, within, left_by}
use Rattle.reader.proofs.Memory.{heard, length-laid}
use Rattle.reader.proofs.Whole.{too_long, bad_byte, good_bytes, heard_refusal, heard_rows, too_many, fitting}
use Rattle.reader.proofs.read.try_rows.Goals as goal

pub returns-then-message-gt-LONGEST : goal.returns-then-message-gt-LONGEST
returns-then-message-gt-LONGEST c = record { value = sym (ap (within (length c.args.rows.now)) (too_long c.args.message.now (omega arith))); rows = tt }

pub returns-then-good-message : goal.returns-then-good-message
returns-then-good-message c =
    let msg = c.args.message.now in
    let bad = bad_byte msg (omega arith) (omega (arith, c.good_bytes-good.ensures.value)) in
    record { value = sym (ap (within (length c.args.rows.now)) bad ∙ ap (λ k. Err (BadByte k)) (sym c.good_bytes-good.ensures.value)); rows = tt }

pub returns-in_err-used : goal.returns-in_err-used
returns-in_err-used c =
    let msg = c.args.message.now in
    let old = c.args.rows.now in
    let left = c.read_parts.new.rows in
    let e = c.in_err-used.field-0.0 in
    let good : prefix_len is_character msg ≡ length msg = omega (arith, c.good_bytes-good.ensures.value, c.good_bytes-good.ensures.bound, c.if-good-message.false) in
    let told = heard_refusal (rows_in (reading put_at msg [])) old e left (length old) (heard msg old (Err e) left c.in_err-used.ensures) in
    let p = err_from_is_err_and c.from_residual.result c.from_residual.ensures.1 in
    rw (p.1, p.2) (record { value = told ∙ sym (ap (within (length old)) (good_bytes msg (omega arith) good)); rows = tt })

pub returns-then-used-rows : goal.returns-then-used-rows
returns-then-used-rows c =
    let msg = c.args.message.now in
    let old = c.args.rows.now in
    let left = c.read_parts.new.rows in
    let used = c.in_ok-used.used in
    let good : prefix_len is_character msg ≡ length msg = omega (arith, c.good_bytes-good.ensures.value, c.good_bytes-good.ensures.bound, c.if-good-message.false) in
    let came = heard_rows (rows_in (reading put_at msg [])) old used left (heard msg old (Ok used) left c.in_ok-used.ensures) in
    let kept = ap length came.over ∙ length-laid came.rs old in
    let more : length old < length came.rs = omega (arith, came.count, c.if-used-rows.true, kept) in
    record { value = sym (ap (within (length old)) (good_bytes msg (omega arith) good ∙ came.is) ∙ too_many came.rs (length old) more); rows = tt }

pub returns : goal.returns
returns c =
    let msg = c.args.message.now in
    let old = c.args.rows.now in
    let left = c.read_parts.new.rows in
    let used = c.in_ok-used.used in
    let good : prefix_len is_character msg ≡ length msg = omega (arith, c.good_bytes-good.ensures.value, c.good_bytes-good.ensures.bound, c.if-good-message.false) in
    let came = heard_rows (rows_in (reading put_at msg [])) old used left (heard msg old (Ok used) left c.in_ok-used.ensures) in
    let kept = ap length came.over ∙ length-laid came.rs old in
    let less : length came.rs ≤ length old = omega (arith, came.count, c.if-used-rows.false, kept) in
    let whole = good_bytes msg (omega arith) good ∙ came.is in
    record {
      value = ap Ok came.count ∙ sym (ap (within (length old)) whole ∙ fitting came.rs (length old) less);
      rows = came.over ∙ sym (ap (λ o. left_by (Ok used) o old) whole);
    }
