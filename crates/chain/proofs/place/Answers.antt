use Rattle.std.proofs.Common.{◌≡◌, rules, tests}
use Rattle.std.proofs.lemmas.Iterator.{first_from_Range}
use Rattle.store.specs.{number_at}
use Rattle.chain.proofs.Found.{place_is}
use Rattle.chain.proofs.place.Goals as goal

pub returns : goal.returns
returns c =
    let s = c.args.cells.now in
    place_is _ _ _ _ c.count.ensures.0
    (first_from_Range _ _ _ _ (λ i. number_at s i ≡ c.args.r) (λ i. number_at s i ≡ c.args.r → ⊥) c.find.ensures.ran
    (λ x q k. search (rules, tests))
    (λ x q k. search (rules, tests)))
