use native.Mathlib.Omega.{arith}
use borrow.Author.Rules.{rules}
use borrow.Author.Tests.{tests}
use Rattle.std.proofs.lemmas.Iterator.{YieldsList-from_range}
use Rattle.std.proofs.lemmas.Iterator.Consumers.{YieldsList-from_filter, count_from_yields_List}
use Rattle.chain.specs.{member_at}
use Rattle.quorum.specs.{is_holder}
use Rattle.quorum.proofs.Counts.{counted}
use Rattle.quorum.proofs.holders.Goals as goal

pub returns : goal.returns
returns c =
    let s = c.args.cells.now in
    let holds = is_holder s c.args.p in
    let n = c.count.result in
    counted holds s n _ c.count.ensures.0
    (count_from_yields_List c.filter.result _ c.count-2.ensures.ran
    (YieldsList-from_filter _ (λ i. holds (member_at s i)) (YieldsList-from_range 0 n n c.filter.ensures.source (omega arith)) c.filter.ensures.closure (λ x b q k. search (rules, tests))))
