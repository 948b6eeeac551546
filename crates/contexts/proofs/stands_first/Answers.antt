use mathlib.Core.Path.{refl}
use mathlib.Core.Bool.{not}
use lib.Dec.{eqb}
use borrow.Author.Rules.{rules}
use borrow.Author.Tests.{tests}
use Rattle.lists.proofs.All.{all_places}
use Rattle.contexts.specs.{place_of}
use Rattle.contexts.proofs.stands_first.Goals as goal

pub returns : goal.returns
returns c =
    let x = place_of c.args.v c.args.i in
    all_places (λ q. not (eqb q x)) (place_of c.args.v) _ c.all.ensures.ran refl (λ x b q k. search (rules, tests))
