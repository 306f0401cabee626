use Rattle.std.proofs.Common.{sym, subst}
use Rattle.std.proofs.lemmas.Result.{err_from_is_err_and}
use Rattle.frames.specs.Frames.{Unseen, no_level, too_long}
use Rattle.frames.proofs.admit.Goals as goal

pub returns-in_err-level : goal.returns-in_err-level
returns-in_err-level c =
    let p = err_from_is_err_and c.from_residual.result c.from_residual.ensures.1 in
    rw (p.1, p.2) (let h = c.in_err-level.ensures in subst (Unseen c.args.level c.args.length) (sym h.0) (no_level h.1))

pub returns-then-length-gt-LONGEST : goal.returns-then-length-gt-LONGEST
returns-then-length-gt-LONGEST c = too_long c.in_ok-level.level c.in_ok-level.ensures c.if-length-gt-LONGEST.true
