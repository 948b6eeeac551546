use Rattle.switch.specs.Numbers.{committed_in}
use Rattle.switch.proofs.cells.committed.Goals as goal

pub returns : goal.returns
unfolding committed_in
returns c = c.read.ensures
