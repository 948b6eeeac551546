use Rattle.records.specs.Records.{objects_in}
use Rattle.reader.proofs.objects_in.Goals as goal

pub returns : goal.returns
unfolding objects_in
returns c = simp (
  ← c.two_at.ensures,
  ← c.two_at-2.ensures,
  ← c.two_at-3.ensures,
  ← c.two_at-4.ensures,
  ← c.two_at-5.ensures,
  ← c.two_at-6.ensures,
  ← c.two_at-7.ensures,
  ← c.two_at-8.ensures,
)
