use Rattle.numbered_records.specs.{objects_from}
use Rattle.numbered_records.proofs.objects_from.Goals as goal

pub returns : goal.returns
unfolding objects_from
returns c = simp (c.object_at-8.ensures, c.object_at-7.ensures, c.object_at-6.ensures, c.object_at-5.ensures, c.object_at-4.ensures, c.object_at-3.ensures, c.object_at-2.ensures, c.object_at.ensures)
