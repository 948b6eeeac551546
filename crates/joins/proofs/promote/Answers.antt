use Rattle.joins.specs.{promoted}
use Rattle.chain.specs.{permitting}
use Rattle.joins.proofs.promote.Goals as goal

pub returns : goal.returns
unfolding promoted permitting
returns c = simp (← c.newcomer-q.ensures, ← c.tail-t.ensures, ← c.highest-highest.ensures, ← c.applied-applied.ensures, ← c.permitted-permitted.ensures, ← c.count-n.ensures.0, ← c.raise.ensures, ← c.row.ensures.0)
