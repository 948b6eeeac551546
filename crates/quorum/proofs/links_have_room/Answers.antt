use mathlib.Core.Path.{refl, ap, ◌∙◌}
use borrow.Author.Rules.{rules}
use borrow.Author.Tests.{tests}
use Rattle.lists.specs.{list_of, all_of}
use Rattle.lists.proofs.All.{all_places}
use Rattle.chain.specs.{member_at}
use Rattle.quorum.specs.{has_room, links_have_room}
use Rattle.quorum.proofs.Counts.{members_by_place}
use Rattle.quorum.proofs.links_have_room.Goals as goal

pub returns : goal.returns
unfolding links_have_room
returns c =
    let s = c.args.cells.now in
    all_places (has_room s) (member_at s) _ c.all.ensures.ran refl (λ x b q k. search (rules, tests)) ∙
    ap (λ n. all_of (has_room s) (list_of (member_at s) n)) c.count.ensures.0 ∙
    ap (all_of (has_room s)) (members_by_place s)
