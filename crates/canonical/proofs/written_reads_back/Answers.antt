use Rattle.std.proofs.Common.{◌≤◌, length, sym, subst}
use Rattle.messages.specs.Answers.{IsMessage}
use Rattle.messages.proofs.Verdicts.{one_reading}
use Rattle.canonical.specs.Forms.{canonical}
use Rattle.canonical.specs.Laws.{WrittenReadsBack}
use Rattle.canonical.proofs.Known.{known_forms_lem}
use Rattle.canonical.proofs.Messages.{canonical_good, canonical_derives}
use Rattle.canonical.proofs.written_reads_back.Goals as goal

-- repeated names and the value of a fault are facts of the tree, however it is written
back : WrittenReadsBack
back msg m is short = record { derived = canonical_derives is.derived.is short; names = is.names; fault = is.fault }

pub returns : goal.returns
returns c = record {
  back = back;
  bytes = λ msg m is. canonical_good is.derived.is;
  told = λ msg msg' m n a b short same.
      one_reading (canonical m) m n (back msg m a short)
      (subst (λ l. IsMessage l n) (sym same) (back msg' n b (subst (λ l. length l ≤ 65536) same short)));
  known = known_forms_lem;
}
