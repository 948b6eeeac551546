use borrow.Author.Tests.{le-leb, lt-leb, le-ltb}
use Rattle.joins.specs.{is_join_set, is_joining}
use Rattle.joins.proofs.is_joining.Goals as goal

pub returns-then-count-lt-REPLICAS : goal.returns-then-count-lt-REPLICAS
unfolding is_joining is_join_set
returns-then-count-lt-REPLICAS c = simp (← c.count.ensures.0, lt-leb _ _ c.if-count-lt-REPLICAS.true)

pub returns-else-count-lt-REPLICAS : goal.returns-else-count-lt-REPLICAS
unfolding is_joining
returns-else-count-lt-REPLICAS c = simp (← c.count.ensures.0, le-leb _ _ c.if-count-lt-REPLICAS.false, le-ltb _ _ c.if-count-lt-REPLICAS.false)
