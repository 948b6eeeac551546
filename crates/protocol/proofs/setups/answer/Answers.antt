use Rattle.protocol.specs.Starts.{start_answer}
use Rattle.protocol.proofs.setups.answer.Goals as goal

pub returns-then-is_refused : goal.returns-then-is_refused
unfolding start_answer
returns-then-is_refused c = simp (← c.is_refused.ensures, c.if-is_refused.true, c.refusal.ensures)

pub returns : goal.returns
unfolding start_answer
returns c = simp (← c.is_refused.ensures, c.if-is_refused.false)
