use borrow.Author.Tests.{le-leb, lt-leb}
use Rattle.joins.specs.{is_full}
use Rattle.joins.proofs.is_full.Goals as goal

pub returns-then-count-ge-REPLICAS : goal.returns-then-count-ge-REPLICAS
unfolding is_full
returns-then-count-ge-REPLICAS c = simp (← c.count.ensures.0, le-leb _ _ c.if-count-ge-REPLICAS.true)

pub returns-else-count-ge-REPLICAS : goal.returns-else-count-ge-REPLICAS
unfolding is_full
returns-else-count-ge-REPLICAS c = simp (← c.count.ensures.0, lt-leb _ _ c.if-count-ge-REPLICAS.false, ← c.last_number.ensures)
