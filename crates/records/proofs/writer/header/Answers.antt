use Rattle.records.specs.Records.{header_of, two_bytes}
use Rattle.records.proofs.writer.header.Goals as goal

pub returns : goal.returns
unfolding header_of two_bytes
returns c = simp (c.with_two.ensures, c.tag_of.ensures)
