use Rattle.sessions.proofs.refusal_in.Goals as goal

pub returns-in-FinishedContext : goal.returns-in-FinishedContext
returns-in-FinishedContext c = rw c.in-FinishedContext.is

pub returns-in-Refused : goal.returns-in-Refused
returns-in-Refused c = simp (c.in-Refused.is, c.refusal_number.ensures)
