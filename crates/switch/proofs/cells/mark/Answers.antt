use mathlib.Core.Path.{refl}
use borrow.Author.Tests.{eq-eqb, lt-ltb, ne_eqb}
use Rattle.switch.specs.DirtySet.{marked, stamp_for, can_mark, marking, next_stamp}
use Rattle.switch.proofs.FirstSlot.{found_none}
use Rattle.switch.proofs.cells.mark.Goals as goal

pub returns-then-counter : goal.returns-then-counter
unfolding marked stamp_for can_mark marking next_stamp
returns-then-counter c = simp (← c.counter-counter.ensures, eq-eqb _ _ c.if-counter.true) (refl, refl)

pub returns-in_default : goal.returns-in_default
unfolding marked stamp_for can_mark marking next_stamp
returns-in_default c =
    let none = found_none _ c.slot_for.result c.slot_for.ensures c.in_default.not-Some in
    simp (← c.counter-counter.ensures, ne_eqb _ _ c.if-counter.false, none) (refl, refl)

pub returns : goal.returns
unfolding marked stamp_for can_mark marking next_stamp
returns c = simp (← c.counter-counter.ensures, ne_eqb _ _ c.if-counter.false, c.in-Some.ensures.0, lt-ltb _ _ c.in-Some.ensures.1, ← c.number.ensures, ← c.make-stamp.ensures, ← c.marks_for-marks.ensures, ← c.put_mark.ensures) (refl, refl)
