use mathlib.Core.Path.{refl, ap, ◌∙◌}
use borrow.Author.Rules.{rules}
use borrow.Author.Tests.{tests}
use Rattle.lists.specs.{list_of, all_of}
use Rattle.lists.proofs.All.{all_places}
use Rattle.contexts.specs.{place_of, numbers_of, is_object, are_objects}
use Rattle.contexts.proofs.are_objects.Goals as goal

pub returns : goal.returns
unfolding are_objects numbers_of
returns c =
    all_places is_object (place_of c.args.v) _ c.all.ensures.ran refl (λ x b q k. search (rules, tests)) ∙
    ap (λ n. all_of is_object (list_of (place_of c.args.v) n)) c.size.ensures.0
