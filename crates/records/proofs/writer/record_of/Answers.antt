use Rattle.records.specs.Records.{content_length, header_of, record_of, two_bytes, four_bytes}
use Rattle.records.proofs.Contexts.{objects_record}
use Rattle.records.proofs.writer.record_of.Goals as goal

pub returns-in-Start : goal.returns-in-Start
returns-in-Start c = simp c.in-Start.is c.setup_record.ensures

pub returns-in-BeginContext : goal.returns-in-BeginContext
returns-in-BeginContext c = simp (c.in-BeginContext.is, c.objects.ensures, objects_record)

pub returns-in-BeginRead : goal.returns-in-BeginRead
unfolding record_of header_of two_bytes four_bytes content_length
returns-in-BeginRead c = simp (c.in-BeginRead.is, c.two_bytes.ensures, c.kind_of-kind.ensures)

pub returns-in-BeginWrite : goal.returns-in-BeginWrite
unfolding record_of header_of two_bytes four_bytes content_length
returns-in-BeginWrite c = simp (c.in-BeginWrite.is, c.two_and_four.ensures, c.kind_of-kind.ensures)

pub returns-in-Deliver : goal.returns-in-Deliver
unfolding record_of header_of two_bytes four_bytes content_length
returns-in-Deliver c = simp (c.in-Deliver.is, c.two_and_one.ensures, c.kind_of-kind.ensures)

pub returns-in-Lose : goal.returns-in-Lose
unfolding record_of header_of two_bytes four_bytes content_length
returns-in-Lose c = simp (c.in-Lose.is, c.two_bytes-in-Lose.ensures, c.kind_of-kind.ensures)

pub returns-in-Repeat : goal.returns-in-Repeat
unfolding record_of header_of two_bytes four_bytes content_length
returns-in-Repeat c = simp (c.in-Repeat.is, c.two_bytes-in-Repeat.ensures, c.kind_of-kind.ensures)

pub returns-in-Advance : goal.returns-in-Advance
unfolding record_of header_of two_bytes four_bytes content_length
returns-in-Advance c = simp (c.in-Advance.is, c.one_byte.ensures, c.kind_of-kind.ensures)

pub returns-in-Replace : goal.returns-in-Replace
unfolding record_of header_of two_bytes four_bytes content_length
returns-in-Replace c = simp (c.in-Replace.is, c.two_bytes-in-Replace.ensures, c.kind_of-kind.ensures)

pub returns-in-Tell : goal.returns-in-Tell
unfolding record_of header_of two_bytes four_bytes content_length
returns-in-Tell c = simp (c.in-Tell.is, c.one_byte-in-Tell.ensures, c.kind_of-kind.ensures)

pub returns-in-Remove : goal.returns-in-Remove
unfolding record_of header_of two_bytes four_bytes content_length
returns-in-Remove c = simp (c.in-Remove.is, c.one_byte-in-Remove.ensures, c.kind_of-kind.ensures)

pub returns-in-GiveUp : goal.returns-in-GiveUp
unfolding record_of header_of two_bytes four_bytes content_length
returns-in-GiveUp c = simp (c.in-GiveUp.is, c.four_bytes.ensures, c.kind_of-kind.ensures)

pub returns-in-Join : goal.returns-in-Join
unfolding record_of header_of two_bytes four_bytes content_length
returns-in-Join c = simp (c.in-Join.is, c.header.ensures, c.kind_of-kind.ensures)

pub returns-in-Copy : goal.returns-in-Copy
unfolding record_of header_of two_bytes four_bytes content_length
returns-in-Copy c = simp (c.in-Copy.is, c.header-in-Copy.ensures, c.kind_of-kind.ensures)

pub returns-in-Execute : goal.returns-in-Execute
unfolding record_of header_of two_bytes four_bytes content_length
returns-in-Execute c = simp (c.in-Execute.is, c.header-in-Execute.ensures, c.kind_of-kind.ensures)
