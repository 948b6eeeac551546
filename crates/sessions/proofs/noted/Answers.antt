use Rattle.sessions.specs.{marks_after, session_after}
use Rattle.sessions.proofs.noted.Goals as goal

pub returns-in-Done : goal.returns-in-Done
unfolding session_after marks_after
returns-in-Done c = simp (c.in-Done.is, ← c.no_values.ensures, c.session_of.ensures)

pub returns-in-Finished : goal.returns-in-Finished
unfolding session_after marks_after
returns-in-Finished c = simp (c.in-Finished.is, ← c.one_value.ensures, c.session_of-in-Finished.ensures)

pub returns-in-FinishedContext : goal.returns-in-FinishedContext
unfolding session_after marks_after
returns-in-FinishedContext c = simp (c.in-FinishedContext.is, c.session_of-in-FinishedContext.ensures)

pub returns-in-Refused : goal.returns-in-Refused
unfolding session_after
returns-in-Refused c = simp (c.in-Refused.is, ← c.refusal_number-refusal.ensures, ← c.marks_after-left.ensures, ← c.no_values-in-Refused.ensures, c.session_of-in-Refused.ensures)
