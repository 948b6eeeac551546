use Rattle.std.proofs.Common.{refl, eq-eqb, ne_eqb}
use native.Mathlib.Omega.{arith}
use Rattle.chain.specs.{is_tail}
use Rattle.chain.proofs.Found.{some_place, none_place, place_within, gone_no_tail}
use Rattle.joins.specs.{join_ended}
use Rattle.joins.proofs.end_without.Goals as goal

pub overflow_add-place : goal.overflow_add-place
overflow_add-place c = omega (arith, place_within _ _ _ c.in-Some.ensures)

pub returns-then-place-count : goal.returns-then-place-count
unfolding join_ended is_tail
returns-then-place-count c =
    let found = some_place _ _ _ c.in-Some.ensures in
    simp (found.1, ← c.count.ensures.0, eq-eqb _ _ c.if-place-count.true)

pub returns-else-place-count : goal.returns-else-place-count
unfolding join_ended is_tail
returns-else-place-count c =
    let found = some_place _ _ _ c.in-Some.ensures in
    simp (found.1, ← c.count.ensures.0, ne_eqb _ _ c.if-place-count.false)

pub returns-in_default : goal.returns-in_default
unfolding join_ended
returns-in_default c = simp (gone_no_tail _ _ (none_place _ _ c.in_default.ensures)) refl
