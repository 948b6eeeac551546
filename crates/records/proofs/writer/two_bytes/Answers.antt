use Rattle.records.specs.Records.{header_of, two_bytes}
use Rattle.records.proofs.writer.two_bytes.Goals as goal

pub returns : goal.returns
unfolding header_of two_bytes
returns c = simp (c.with_two.ensures, c.header.ensures, c.content_length.ensures)
