use Rattle.records.specs.Records.{content_length, header_of, record_of, two_bytes}
use Rattle.records.proofs.writer.setup_record.Goals as goal

pub returns-in-Missing : goal.returns-in-Missing
unfolding record_of header_of two_bytes
returns-in-Missing c = simp (c.in-Missing.is, c.header.ensures)

pub returns-in-Chain : goal.returns-in-Chain
unfolding record_of header_of two_bytes content_length
returns-in-Chain c = simp (c.in-Chain.is, c.one_byte.ensures)

pub returns-in-Quorum : goal.returns-in-Quorum
unfolding record_of header_of two_bytes content_length
returns-in-Quorum c = simp (c.in-Quorum.is, c.one_byte-in-Quorum.ensures)
