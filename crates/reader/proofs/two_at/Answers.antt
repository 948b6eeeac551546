use Rattle.std.proofs.Common.{arith}
use Rattle.records.specs.Records.{two_at}
use Rattle.reader.proofs.two_at.Goals as goal

pub returns : goal.returns
unfolding two_at
returns c = simp (c.from_be_bytes.ensures, ← c.byte_at.ensures, ← c.byte_at-2.ensures) (omega arith)
