use Rattle.std.proofs.Common.{arith}
use Rattle.words.proofs.Back.{byte_back, apart, joined}
use Rattle.words.proofs.writing.bytes_read_back.Goals as goal

pub returns : goal.returns
returns c = record {
  each = byte_back;
  apart = apart c.args.bytes.now (λ i. omega (arith, c.type_inv.bytes i));
  joined = joined c.args.bytes.now (λ i. omega (arith, c.type_inv.bytes i));
}
