use Rattle.joins.specs.{copied_object}
use Rattle.joins.proofs.copy_object.Goals as goal

pub returns : goal.returns
unfolding copied_object
returns c = simp (← c.read_value.ensures, ← c.read_stamp.ensures, ← c.put_write.ensures)
