use Rattle.std.proofs.Common.{◌≡◌, rules, tests}
use Rattle.std.proofs.lemmas.Iterator.{first_from_Range}
use Rattle.contexts.specs.{size_at}
use Rattle.contexts.proofs.Found.{row_is}
use Rattle.contexts.proofs.free_row.Goals as goal

pub returns : goal.returns
returns c =
    let l = c.args.cells.now in
    row_is _ _
    (first_from_Range _ _ _ _ (λ r. size_at l r ≡ 0) (λ r. size_at l r ≡ 0 → ⊥) c.find.ensures.ran
    (λ x q k. search (rules, tests))
    (λ x q k. search (rules, tests)))
