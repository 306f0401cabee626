use Rattle.std.proofs.Common.{[], sym}
use Rattle.held.proofs.Sayings.{many}
use Rattle.held.proofs.makes.ReadMessageHeld.len.Goals as goal

pub returns : goal.returns
returns c = sym (many c.args.self.now.bytes.now [] c.args.self.now.rows.now)
