use borrow.Author.Tests.{eq-eqb, ne_eqb}
use Rattle.replicas.specs.Replicas.{pending_at}
use Rattle.replicas.proofs.pending.Goals as goal

pub returns-then-place-eq0 : goal.returns-then-place-eq0
unfolding pending_at
returns-then-place-eq0 c = simp (eq-eqb _ _ c.if-place-eq0.true)

pub returns : goal.returns
unfolding pending_at
returns c = simp (ne_eqb _ _ c.if-place-eq0.false, ← c.member.ensures, ← c.applied-before.ensures, ← c.applied-own.ensures, c.saturating_sub.ensures)
