use native.Mathlib.Omega.{arith}
use Rattle.joins.specs.{copies_made}
use Rattle.joins.proofs.copies.Goals as goal

pub returns : goal.returns
unfolding copies_made
returns c = (simp c.saturating_sub.ensures, omega arith)
