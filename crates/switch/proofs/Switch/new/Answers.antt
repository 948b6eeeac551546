use Rattle.switch.specs.DirtySet.{new_switch}
use Rattle.switch.proofs.Switch.new.Goals as goal

pub returns : goal.returns
unfolding new_switch
returns c = simp c.from.ensures
