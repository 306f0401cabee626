use Rattle.std.proofs.Common.{sym, ap}
use Rattle.parts.specs.Names.{spelled}
use Rattle.parts.proofs.name.Name.spelling.Goals as goal

pub returns-in-DateTime : goal.returns-in-DateTime
returns-in-DateTime c = sym (ap spelled c.in-DateTime.is)
