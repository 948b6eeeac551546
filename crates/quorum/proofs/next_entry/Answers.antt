use Rattle.quorum.specs.{next_entry}
use Rattle.quorum.proofs.next_entry.Goals as goal

pub returns : goal.returns
unfolding next_entry
returns c = simp (← c.applied.ensures, c.read_entry.ensures)
