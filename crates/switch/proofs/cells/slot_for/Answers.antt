use borrow.Author.Rules.{rules}
use Rattle.switch.specs.DirtySet.{holds_at, slot_for, free_slot}
use Rattle.switch.proofs.FirstSlot.{found_or}
use Rattle.switch.proofs.cells.slot_for.Goals as goal

pub returns : goal.returns
unfolding slot_for
returns c =
    let w = c.args.cells.now in
    let holds = holds_at w c.args.o in
    found_or c.args.o holds (free_slot w c.args.o) c.first_of.result c.or_else.result (c.first_of.ensures.value holds (λ i b h k. search rules)) c.first_of.ensures.in_range c.or_else.ensures (λ k. search rules)
