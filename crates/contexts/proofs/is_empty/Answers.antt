use borrow.Author.Tests.{lt-ltb, le-ltb}
use Rattle.contexts.specs.{empty_at}
use Rattle.contexts.proofs.is_empty.Goals as goal

pub returns-then-i-n : goal.returns-then-i-n
unfolding empty_at
returns-then-i-n c = simp (lt-ltb _ _ c.if-i-n.true)

pub returns-else-i-n : goal.returns-else-i-n
unfolding empty_at
returns-else-i-n c = simp (le-ltb _ _ c.if-i-n.false)
