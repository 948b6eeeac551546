use mathlib.Core.Path.{refl, ap, ◌∙◌}
use borrow.Author.Rules.{rules}
use borrow.Author.Tests.{tests}
use Rattle.lists.specs.{list_of, all_of}
use Rattle.lists.proofs.All.{all_places}
use Rattle.store.specs.{order_at, members}
use Rattle.chain.specs.{permits, all_permit}
use Rattle.chain.proofs.all_permit.Goals as goal

pub returns : goal.returns
unfolding all_permit members
returns c =
    let s = c.args.cells.now in
    let passes = permits s c.args.number in
    all_places passes (order_at s) _ c.all.ensures.ran refl (λ x b q k. search (rules, tests)) ∙
    ap (λ n. all_of passes (list_of (order_at s) n)) c.count.ensures.0
