use Rattle.quorum.specs.{count_logged}
use Rattle.quorum.proofs.log_next.Goals as goal

pub returns : goal.returns
unfolding count_logged
returns c = simp (← c.logged.ensures, ← c.next_position-n.ensures, ← c.row.ensures.0)
