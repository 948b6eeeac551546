use Rattle.std.specs.Prelude.{ℕ}
use borrow.Author.Rules.{rules}
use Rattle.slots.specs.{is_free}
use Rattle.switch.specs.DirtySet.{free_slot}
use Rattle.switch.specs.Numbers.{slot_stamp}
use Rattle.switch.proofs.FirstSlot.{found_slot}
use Rattle.switch.proofs.cells.free_slot.Goals as goal

pub returns : goal.returns
unfolding free_slot
returns c =
    let w = c.args.cells.now in
    let free = λ (i : ℕ). is_free (slot_stamp w i) c.committed-c.result in
    simp (← c.committed-c.ensures) (found_slot c.args.o free c.first_of.result (c.first_of.ensures.value free (λ i b h k. search rules)) c.first_of.ensures.in_range)
