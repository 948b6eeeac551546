-- The limit of 64 waiting packets is refusal 6's alone: the test in the list's own edit never skips what a step decided, in whatever state.
use mathlib.Core.Path.{◌≡◌, refl, sym, ◌∙◌}
use mathlib.Core.Bool.{true, false}
use mathlib.Core.List.{List}
use Prim.Native.Nat.{ℕ, ◌+◌, ◌-◌, ◌≤◌}
use native.Mathlib.Omega.{arith}
use lib.ListN.{length}
use borrow.Author.Tests.{ltb-false}
use Rattle.limits.specs as limits
use Rattle.waiting.specs.declared.Edit.{Edit}
use Rattle.waiting.specs.declared.Packet.{Packet}
use Rattle.waiting.specs.Waiting.{WaitingList, held, edited}
use Rattle.waiting.proofs.Laws.{edited_whole, held_most, edited_none, whole_adding, whole_taking, whole_none}
use Rattle.protocol.specs.declared.Answer.{Answer}
use Rattle.protocol.specs.declared.Step.{Step}
use Rattle.protocol.specs.Answers.{is_accepted}
use Rattle.protocol.specs.Decisions.{no_edit, overfull}
use Rattle.protocol.specs.Roles.{Role, Reads, Writes, Delivers, Loses, Repeats, GivesUp, Removes, Copies, Other}
use Rattle.protocol.specs.Steps.{Machine, outcome_of, answer_to, after}
use Rattle.lists.proofs.Tests.{untrue}
use Rattle.protocol.proofs.Effects.{takes_as, EditEffect, edits_nothing, takes_out_lem, turns_into, answers_write, adds_new, adds_copy, sends_executed, sends_write, effect, accepted_wide}

-- only a step that is accepted takes a packet out
taken_accepted : (k : Role) (a : Answer) → takes_as k a ≡ true → is_accepted a ≡ true
taken_accepted (Reads xs) a t = untrue t
taken_accepted (Writes x v) a t = untrue t
taken_accepted (Delivers at) a t = t
taken_accepted (Loses at) a t = t
taken_accepted (Repeats at) a t = untrue t
taken_accepted (GivesUp o) a t = untrue t
taken_accepted (Removes r) a t = untrue t
taken_accepted Copies a t = untrue t
taken_accepted Other a t = untrue t

room_for : (held out add : ℕ) → overfull held out add ≡ false → held - out + add ≤ limits.waiting
unfolding overfull
room_for held out add e = ltb-false limits.waiting (held - out + add) e

whole : (w : WaitingList) {p : Packet} {k : Role} {s : List ℕ} {a : Answer} {e : Edit} → (is_accepted a ≡ true → limits.waiting ≤ length w.packets) → EditEffect p k s (held w) a e → edited w e ≡ edited_whole w e
whole w wide (edits_nothing n) = edited_none w no_edit refl refl ∙ sym (whole_none w no_edit refl refl)
whole w {k} {a} wide (takes_out_lem t i) = whole_taking w _ (wide (taken_accepted k a t)) refl i (omega (arith, held_most w))
whole w wide (turns_into q low t i) = whole_taking w _ (wide refl) refl i (omega (arith, i, held_most w))
whole w wide (answers_write u low t i roomy) = whole_taking w _ (wide refl) refl i (room_for (held w) 1 2 roomy)
whole w wide (adds_new q low t roomy) = whole_adding w _ (wide refl) refl (omega arith) (omega (arith, room_for (held w) 0 1 roomy))
whole w wide (adds_copy f same i t roomy) = whole_adding w _ (wide refl) refl (omega arith) (omega (arith, room_for (held w) 0 1 roomy))
whole w wide (sends_executed u quorum next is t roomy) = whole_adding w _ (wide refl) refl (omega arith) (omega (arith, room_for (held w) 0 2 roomy))
whole w wide (sends_write u chain oldest t roomy) = whole_adding w _ (wide refl) refl (omega arith) (omega (arith, room_for (held w) 0 2 roomy))

-- EVERY STEP OF EVERY MACHINE: what was decided of the waiting list is done
pub never_skipped : (m : Machine) (x : Step) → (after m x).waiting ≡ edited_whole m.waiting (outcome_of m x).decision.edit
unfolding after answer_to
never_skipped m x = whole m.waiting (accepted_wide m x) (effect m x).edit
