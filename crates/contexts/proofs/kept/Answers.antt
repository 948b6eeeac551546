use borrow.Author.Tests.{lt-ltb, le-ltb}
use Rattle.contexts.specs.{kept_at}
use Rattle.contexts.proofs.kept.Goals as goal

pub returns-then-i-n : goal.returns-then-i-n
unfolding kept_at
returns-then-i-n c = simp (lt-ltb _ _ c.if-i-n.true)

pub returns-else-i-n : goal.returns-else-i-n
unfolding kept_at
returns-else-i-n c = simp (le-ltb _ _ c.if-i-n.false)
