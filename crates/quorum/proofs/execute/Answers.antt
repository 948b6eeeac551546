use Rattle.quorum.specs.{executing}
use Rattle.quorum.proofs.execute.Goals as goal

pub returns : goal.returns
unfolding executing
returns c = simp (← c.head-lead.ensures, ← c.next_entry-w.ensures, ← c.send.ensures, c.apply.ensures)
