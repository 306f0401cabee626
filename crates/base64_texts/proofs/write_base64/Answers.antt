use Rattle.std.proofs.Common.{◌<◌, arith}
use Rattle.std.proofs.ByRecursion.{All-from_get_or}
use Rattle.base64_texts.proofs.Groups.{reads_back}
use Rattle.base64_texts.proofs.write_base64.Goals as goal

pub returns-then-len-page-clause-reads_back : goal.returns-then-len-page-clause-reads_back
returns-then-len-page-clause-reads_back c = reads_back c.args.bytes.now (All-from_get_or (λ b. b < 256) c.args.bytes.now 0 (λ i h. let f = c.type_inv.bytes i in omega arith))

pub returns-clause-reads_back : goal.returns-clause-reads_back
returns-clause-reads_back c = reads_back c.args.bytes.now (All-from_get_or (λ b. b < 256) c.args.bytes.now 0 (λ i h. let f = c.type_inv.bytes i in omega arith))
