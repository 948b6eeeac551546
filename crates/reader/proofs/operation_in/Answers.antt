use Rattle.records.specs.Records.{operation_in}
use Rattle.reader.proofs.operation_in.Goals as goal

pub returns-then-is_short_give_up : goal.returns-then-is_short_give_up
unfolding operation_in
returns-then-is_short_give_up c = simp (← c.is_short_give_up.ensures, c.if-is_short_give_up.true, c.from.ensures, ← c.two_at.ensures)

pub returns-else-is_short_give_up : goal.returns-else-is_short_give_up
unfolding operation_in
returns-else-is_short_give_up c = simp (← c.is_short_give_up.ensures, c.if-is_short_give_up.false, ← c.four_at.ensures)
