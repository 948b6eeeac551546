use mathlib.Core.Path.{◌∙◌}
use Rattle.operations.specs.{is_open}
use Rattle.operations.proofs.Search.{found_open}
use Rattle.operations.proofs.is_open.Goals as goal

pub returns : goal.returns
unfolding is_open
returns c = c.is_some.ensures ∙ found_open _ _ c.find.result c.find.ensures
