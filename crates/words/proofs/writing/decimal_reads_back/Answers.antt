use Rattle.std.proofs.Common.{arith}
use Rattle.words.proofs.Back.{decimal_back}
use Rattle.words.proofs.writing.decimal_reads_back.Goals as goal

pub returns : goal.returns
returns c = decimal_back c.args.n (omega arith)
