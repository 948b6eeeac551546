use Rattle.line_lengths.specs.Lines.{line_of}
use Rattle.lines.proofs.put_line.Goals as goal

pub put_done-requires : goal.put_done-requires
put_done-requires c = rw c.in-Done.is at c.requires

pub put_finished-requires : goal.put_finished-requires
put_finished-requires c = rw c.in-Finished.is at c.requires

pub put_finished_context-requires : goal.put_finished_context-requires
put_finished_context-requires c = rw c.in-FinishedContext.is at c.requires

pub put_no-requires : goal.put_no-requires
unfolding line_of
put_no-requires c = rw c.refusal_number.ensures (rw c.in-Refused.is at c.requires)

pub returns-in-Done : goal.returns-in-Done
returns-in-Done c = rw c.in-Done.is c.put_done.ensures

pub returns-in-Finished : goal.returns-in-Finished
returns-in-Finished c = rw c.in-Finished.is c.put_finished.ensures

pub returns-in-FinishedContext : goal.returns-in-FinishedContext
returns-in-FinishedContext c = rw c.in-FinishedContext.is c.put_finished_context.ensures

pub returns-in-Refused : goal.returns-in-Refused
unfolding line_of
returns-in-Refused c = rw c.in-Refused.is (rw c.refusal_number.ensures at c.put_no.ensures)
