use Rattle.contexts.specs.{is_context}
use Rattle.contexts.proofs.is_context.Goals as goal

pub returns-then-is_count : goal.returns-then-is_count
unfolding is_context
returns-then-is_count c = simp (← c.is_count.ensures, c.if-is_count.true, c.are_objects.ensures)

pub returns-else-is_count : goal.returns-else-is_count
unfolding is_context
returns-else-is_count c = simp (← c.is_count.ensures, c.if-is_count.false)
