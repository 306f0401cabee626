use Rattle.std.proofs.Common.{sym, refl, ◌∙◌, ⊎_elim, arith}
use Rattle.std.proofs.lemmas.Bool.{false≢true}
use Rattle.wire.specs.Rows.{blank_row}
use Rattle.reader.proofs.FaultTold.{six, fits_code_first, fits_string_first, fitting}
use Rattle.reader.proofs.fault.fault_fits.Goals as goal

pub returns-in_default-rows : goal.returns-in_default-rows
returns-in_default-rows c m say = (
  (λ e. absurd (false≢true e)),
  λ f. absurd (omega (arith, six c.args.message.now c.args.rows.now blank_row m say (omega arith) (c.if-not-is_fault.ensures.0 refl) f)),
)

pub returns-in_default-rows-2 : goal.returns-in_default-rows-2
returns-in_default-rows-2 c m say = (
  (λ e. absurd (false≢true e)),
  λ f. absurd (omega (arith, six c.args.message.now c.args.rows.now blank_row m say (omega arith) (c.if-not-is_fault.ensures.0 refl) f)),
)

pub returns-then-is_pair : goal.returns-then-is_pair
returns-then-is_pair c m say =
    let msg = c.args.message.now in
    let rows = c.args.rows.now in
    let tells = c.if-not-is_fault.ensures.0 refl in
    let first = c.if-is_pair.ensures.0 refl in (
      (λ e. fits_code_first msg rows blank_row (omega arith) m say tells first (c.is_pair-then-is_pair.ensures.0 e)),
      λ f. ⊎_elim (λ x. c.is_pair-then-is_pair.ensures.1 x.1)
          (λ x. absurd (omega (arith, first.is_kind, x.0.is_kind)))
          (fitting msg rows blank_row (omega arith) m say tells f),
    )

pub returns-then-is_pair-2 : goal.returns-then-is_pair-2
returns-then-is_pair-2 c m say =
    let msg = c.args.message.now in
    let rows = c.args.rows.now in
    let tells = c.if-not-is_fault.ensures.0 refl in
    let first = c.if-is_pair-2.ensures.0 refl in (
      (λ e. fits_string_first msg rows blank_row (omega arith) m say tells first (c.is_pair-then-is_pair-2.ensures.0 e)),
      λ f. ⊎_elim (λ x. absurd (false≢true (c.if-is_pair.ensures.1 x.0)))
          (λ x. c.is_pair-then-is_pair-2.ensures.1 x.1)
          (fitting msg rows blank_row (omega arith) m say tells f),
    )

pub returns-else-is_pair-2 : goal.returns-else-is_pair-2
returns-else-is_pair-2 c m say =
    let tells = c.if-not-is_fault.ensures.0 refl in (
      (λ e. absurd (false≢true (sym c.if-is_pair-2.false ∙ e))),
      λ f. ⊎_elim (λ x. absurd (false≢true (c.if-is_pair.ensures.1 x.0)))
          (λ x. absurd (false≢true (c.if-is_pair-2.ensures.1 x.0)))
          (fitting c.args.message.now c.args.rows.now blank_row (omega arith) m say tells f),
    )
