use Rattle.draws.specs.{upper_of}
use Rattle.std.proofs.Common.{rules}
use Rattle.draws.proofs.upper.Goals as goal

pub returns : goal.returns
unfolding upper_of
returns c = search rules
