use Rattle.records.specs.Records.{header_of, two_bytes}
use Rattle.records.proofs.writer.one_byte.Goals as goal

pub returns : goal.returns
unfolding header_of two_bytes
returns c = simp (c.header-bytes.ensures, c.content_length.ensures)
