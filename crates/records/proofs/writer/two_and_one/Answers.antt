use Rattle.records.specs.Records.{header_of, two_bytes}
use Rattle.records.proofs.writer.two_and_one.Goals as goal

pub returns : goal.returns
unfolding header_of two_bytes
returns c = simp c.two_bytes-bytes.ensures
