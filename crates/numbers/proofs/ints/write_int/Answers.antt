use Rattle.numbers.proofs.IntsBack.{int_reads_back}
use Rattle.numbers.proofs.ints.write_int.Goals as goal

pub returns-then-len-page-clause-reads_back : goal.returns-then-len-page-clause-reads_back
returns-then-len-page-clause-reads_back c = int_reads_back c.args.number

pub returns-clause-reads_back : goal.returns-clause-reads_back
returns-clause-reads_back c = int_reads_back c.args.number
