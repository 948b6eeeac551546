use mathlib.Core.Path.{sym}
use Rattle.std.specs.Prelude.{ℕ, Some, None}
use borrow.Author.Rules.{rules}
use Rattle.slots.specs.{holds_above}
use Rattle.switch.specs.DirtySet.{looked_up, mark_above}
use Rattle.switch.specs.Numbers.{slot_object, slot_stamp}
use Rattle.switch.proofs.FirstSlot.{found_gives}
use Rattle.switch.proofs.cells.lookup.Goals as goal

pub returns-in-Some : goal.returns-in-Some
unfolding looked_up mark_above
returns-in-Some c =
    let w = c.args.cells.now in
    let counts = λ (i : ℕ). holds_above (slot_object w i) (slot_stamp w i) c.args.o c.committed-c.result in
    simp (c.stamp_at.ensures, ← c.committed-c.ensures) (sym (found_gives c.args.o counts (slot_stamp w) 0 (Some c.in-Some.i) (c.in-Some.ensures.value counts (λ i b h k. search rules))))

pub returns-in-None : goal.returns-in-None
unfolding looked_up mark_above
returns-in-None c =
    let w = c.args.cells.now in
    let counts = λ (i : ℕ). holds_above (slot_object w i) (slot_stamp w i) c.args.o c.committed-c.result in
    simp (← c.committed-c.ensures) (sym (found_gives c.args.o counts (slot_stamp w) 0 None (c.in-None.ensures.value counts (λ i b h k. search rules))))
