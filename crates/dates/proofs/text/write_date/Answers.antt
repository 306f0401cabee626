use Rattle.std.proofs.Common.{subst}
use Rattle.dates.specs.Dates.{moment_of}
use Rattle.dates.proofs.Spelled.{date_reads_back}
use Rattle.texts.specs.Pages.{Writes}
use Rattle.dates.proofs.text.write_date.Goals as goal

pub returns : goal.returns
returns c = record {
  page = subst (λ text. Writes text c.args.page.now c.write_text.new.page c.write_text.result) c.text.ensures c.write_text.ensures;
  reads_back = date_reads_back (moment_of c.args.date.now) c.args.date.now.ok;
}
