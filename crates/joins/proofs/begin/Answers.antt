use Rattle.joins.specs.{beginning}
use Rattle.joins.proofs.begin.Goals as goal

pub returns : goal.returns
unfolding beginning
returns c = simp (← c.last_number.ensures, c.from-number.ensures, ← c.newcomer.ensures, c.from-table.ensures, ← c.count-n.ensures.0)
