use Rattle.quorum.specs.{next_is_entry}
use Rattle.quorum.proofs.next_is_entry.Goals as goal

pub returns : goal.returns
unfolding next_is_entry
returns c = simp (← c.taken.ensures, c.is_entry.ensures)
