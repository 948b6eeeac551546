use Rattle.records.specs.Records.{header_of, two_bytes}
use Rattle.records.proofs.writer.objects.Goals as goal

pub returns : goal.returns
unfolding header_of two_bytes
returns c =
    simp (
      c.with_two.ensures,
      c.with_two-bytes-7.ensures,
      c.with_two-bytes-6.ensures,
      c.with_two-bytes-5.ensures,
      c.with_two-bytes-4.ensures,
      c.with_two-bytes-3.ensures,
      c.with_two-bytes-2.ensures,
      c.with_two-bytes.ensures,
      c.header-bytes.ensures,
      c.objects_length.ensures,
    )
