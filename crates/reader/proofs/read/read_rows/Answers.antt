use Rattle.std.proofs.Common.{◌≡◌, length, replicate, refl, sym, ap, ◌∙◌, arith}
use Rattle.wire.specs.Rows.{blank_row}
use Rattle.reader.proofs.Exact.{derived_is_read, read_is_derived, only_message}
use Rattle.reader.proofs.Known.{known_cases_lem}
use Rattle.reader.proofs.Whole.{all_cleared, refused_left, where_read}
use Rattle.reader.proofs.read.read_rows.Goals as goal

pub returns-else-is_err : goal.returns-else-is_err
returns-else-is_err c =
    let msg = c.args.message.now in
    record {
      value = c.try_rows-read.ensures.value;
      rows = where_read _ _ (sym c.is_err.ensures.value ∙ c.if-is_err.false) c.try_rows-read.ensures.rows;
      derived = (derived_is_read msg, read_is_derived msg);
      one = only_message msg;
      known = known_cases_lem;
    }

pub returns-then-is_err : goal.returns-then-is_err
returns-then-is_err c =
    let msg = c.args.message.now in
    let after = c.try_rows-read.new.rows in
    let kept : length after ≡ length c.args.rows.now = omega (arith, c.try_rows-read.auto.rows) in
    record {
      value = c.try_rows-read.ensures.value;
      rows =
          c.blank_first.ensures ∙ all_cleared blank_row (length after) after refl ∙ ap (λ k. replicate k blank_row) kept
          ∙ sym (refused_left _ _ _ (sym c.is_err.ensures.value ∙ c.if-is_err.true));
      derived = (derived_is_read msg, read_is_derived msg);
      one = only_message msg;
      known = known_cases_lem;
    }
