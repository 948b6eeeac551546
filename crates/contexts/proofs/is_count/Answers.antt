use borrow.Author.Tests.{le-leb, lt-leb}
use Rattle.contexts.specs.{is_count}
use Rattle.contexts.proofs.is_count.Goals as goal

pub returns-then-n-ge-CONTEXT_LEAST : goal.returns-then-n-ge-CONTEXT_LEAST
unfolding is_count
returns-then-n-ge-CONTEXT_LEAST c = simp (le-leb _ _ c.if-n-ge-CONTEXT_LEAST.true)

pub returns-else-n-ge-CONTEXT_LEAST : goal.returns-else-n-ge-CONTEXT_LEAST
unfolding is_count
returns-else-n-ge-CONTEXT_LEAST c = simp (lt-leb _ _ c.if-n-ge-CONTEXT_LEAST.false)
