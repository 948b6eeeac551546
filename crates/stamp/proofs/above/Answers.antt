use mathlib.Core.Path.{sym}
use Rattle.stamp.proofs.Laws.{above_is}
use Rattle.stamp.proofs.above.Goals as goal

pub returns : goal.returns
returns c = sym (above_is c.args.a c.args.b)
