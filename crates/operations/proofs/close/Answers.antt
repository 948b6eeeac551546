use mathlib.Core.Path.{refl}
use borrow.Author.Tests.{lt-ltb}
use Rattle.operations.specs.{closing, is_open}
use Rattle.operations.proofs.Search.{none_found}
use Rattle.operations.proofs.close.Goals as goal

pub returns-in_default : goal.returns-in_default
unfolding closing is_open
returns-in_default c = simp (none_found _ _ c.find.result c.find.ensures c.in_default.not-Some) (refl, refl)

pub returns : goal.returns
unfolding closing is_open
returns c = simp (c.count-last.ensures.0, c.in-Some.ensures.0, lt-ltb _ _ c.in-Some.ensures.1) (refl, refl)
