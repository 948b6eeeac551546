use Rattle.std.proofs.Common.{refl, rules, tests, ap, ◌∙◌}
use Rattle.lists.specs.{list_of, all_of}
use Rattle.lists.proofs.All.{all_places}
use Rattle.contexts.specs.{place_of, numbers_of}
use Rattle.protocol.specs.Reads.{is_unmarked}
use Rattle.context_reads.proofs.none_marked.Goals as goal

pub returns : goal.returns
unfolding numbers_of
returns c =
    let passes = is_unmarked c.args.switch.now in
    all_places passes (place_of c.args.v) _ c.all.ensures.ran refl (λ x b q k. search (rules, tests)) ∙
    ap (λ n. all_of passes (list_of (place_of c.args.v) n)) c.size.ensures.0
