use Rattle.turns.specs.Turns.{read_next}
use Rattle.turns.proofs.read_next.Goals as goal

pub returns-then-over : goal.returns-then-over
unfolding read_next
returns-then-over c = simp c.if-over.true

pub returns-else-over : goal.returns-else-over
unfolding read_next
returns-else-over c = simp (c.if-over.false, c.read_at.ensures)
