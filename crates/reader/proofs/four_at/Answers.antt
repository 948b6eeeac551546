use Rattle.records.specs.Records.{four_at}
use Rattle.reader.proofs.four_at.Goals as goal

pub returns : goal.returns
unfolding four_at
returns c = simp (c.from.ensures, c.from-2.ensures, ← c.two_at.ensures, ← c.two_at-2.ensures)
