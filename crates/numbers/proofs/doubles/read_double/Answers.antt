use Rattle.numbers.proofs.DoublesAre.{double_is}
use Rattle.numbers.proofs.doubles.read_double.Goals as goal

pub returns-clause-double : goal.returns-clause-double
returns-clause-double c = double_is c.args.text.now
