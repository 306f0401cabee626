use Rattle.std.proofs.Common.{sym, ap, ◌∙◌}
use Rattle.std.specs.Option.{option_map}
use Rattle.dates.specs.Moments.{plain_date}
use Rattle.dates.specs.Dates.{moment_of}
use Rattle.dates.proofs.Spelled.{date_spelled}
use Rattle.dates.proofs.text.read_date.Goals as goal

pub returns : goal.returns
returns c = record {
  date = ap (option_map moment_of) (sym c.ok_or.ensures.ok_part) ∙ c.read_plain.ensures ∙ ap plain_date c.unblanked.ensures;
  spelling = date_spelled c.args.text.now;
}
