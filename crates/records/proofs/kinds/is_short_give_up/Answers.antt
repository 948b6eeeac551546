use borrow.Author.Tests.{eq-eqb, ne_eqb}
use Rattle.records.specs.Records.{is_short_give_up}
use Rattle.records.proofs.kinds.is_short_give_up.Goals as goal

pub returns-then-kind-eq-GIVE_UP_KIND : goal.returns-then-kind-eq-GIVE_UP_KIND
unfolding is_short_give_up
returns-then-kind-eq-GIVE_UP_KIND c = simp (eq-eqb _ _ c.if-kind-eq-GIVE_UP_KIND.true)

pub returns-else-kind-eq-GIVE_UP_KIND : goal.returns-else-kind-eq-GIVE_UP_KIND
unfolding is_short_give_up
returns-else-kind-eq-GIVE_UP_KIND c = simp (ne_eqb _ _ c.if-kind-eq-GIVE_UP_KIND.false)
