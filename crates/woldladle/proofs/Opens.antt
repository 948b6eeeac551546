-- No operation of a session has number 0, so that 0 can stand for none: what every start gives, and every step keeps.
use mathlib.Core.Path.{◌≡◌, sym, ap, ◌∙◌}
use mathlib.Core.Bool.{false}
use mathlib.Core.List.{List}
use Prim.Native.Nat.{ℕ, ◌≤◌}
use Rattle.lists.proofs.Tests.{both}
use Rattle.operations.proofs.Counted.{Counted, counted_none, counted_same, counted_opening, counted_closing}
use Rattle.contexts.specs.declared.Context.{Context}
use Rattle.contexts.specs.{holding, freeing}
use Rattle.contexts.proofs.Places.{count_some}
use Rattle.contexts.proofs.Rows.{opens_holding, sized_holding, opens_freeing, sized_freeing}
use Rattle.waiting.specs.declared.Packet.{Packet}
use Rattle.protocol.specs.declared.Answer.TheVariants.{Finished, FinishedContext}
use Rattle.protocol.specs.declared.Message.{Message}
use Rattle.protocol.specs.declared.Step.{Step}
use Rattle.protocol.specs.Messages.{is_of_context}
use Rattle.protocol.specs.Contexts.{released}
use Rattle.protocol.specs.declared.Setup.{Setup}
use Rattle.protocol.specs.Starts.{start_refused}
use Rattle.protocol.specs.Steps.{Machine, answer_to, after, start_opens}
use Rattle.protocol.proofs.Refusals.{finished_by_deliver, context_by_deliver}
use Rattle.protocol.proofs.Finished.{finished_by_reply, context_by_reply}
use Rattle.waiting.specs.declared.Edit.{Edit}
use Rattle.protocol.specs.declared.Answer.{Answer}
use Rattle.protocol.specs.Roles.{Role}
use Rattle.protocol.proofs.Effects.{OpensEffect, quiet, begins_read, begins_write, finishes, finishes_context, gives_up, RowEffect, rows_kept, row_passed, row_answered, row_freed, row_released, row_given, row_copied, effect}

-- an accepted start gives it
pub counted_start : (b : Setup) (l : List ℕ) → start_refused b ≡ false → Counted (start_opens b l)
unfolding start_opens
counted_start b l e = rw e counted_none

-- the cells behind the open operations do not matter
counted_holding : {l : List ℕ} → Counted l → (r : ℕ) (v : Context) → Counted (holding l r v)
counted_holding {l} c r v = counted_same (opens_holding l r v) (sized_holding l r v c.sized) c

counted_freeing : {l : List ℕ} → Counted l → (r : ℕ) → Counted (freeing l r)
counted_freeing {l} c r = counted_same (opens_freeing l r) (sized_freeing l r c.sized) c

-- ---- the open operations after a step
module _ {l : List ℕ} (c : Counted l) where
  -- an operation begins, finishes or is given up
  counted_opens : {k : Role} {a : Answer} {l' : List ℕ} → OpensEffect k l a l' → Counted l'
  counted_opens (quiet q) = c
  counted_opens (begins_read xs e room) = counted_opening c room
  counted_opens (begins_write x v e room) = counted_opening c room
  counted_opens (finishes at o v f e still) = counted_closing c o still
  counted_opens (finishes_context at o v e still) = counted_closing c o still
  counted_opens (gives_up o e still) = counted_closing c o still

  -- a row changes
  counted_rows : {p : Packet} {q : Message} {held : ℕ} {e : Edit} {l' : List ℕ} → RowEffect p q held e l l' → Counted l'
  unfolding released
  counted_rows (rows_kept n) = c
  counted_rows (row_passed at r q i n k e) = c
  counted_rows (row_answered at r v q i n k e) = counted_holding c r v
  counted_rows (row_freed r n) = counted_freeing c r
  counted_rows {p} row_released = both Counted (is_of_context p) (counted_freeing c p.value) c
  counted_rows (row_given r v q h n e) = counted_holding c r v
  counted_rows (row_copied r v h k e) = counted_holding c r v

-- every step keeps it
pub counted_step : (m : Machine) (x : Step) → Counted m.opens → Counted (after m x).opens
unfolding after
counted_step m x c = counted_rows (counted_opens c (effect m x).opens) (effect m x).rows

-- an operation that finishes is open, so it has a number from 1 on
pub finished_from_1 : (m : Machine) (x : Step) → Counted m.opens → (o v f : ℕ) → answer_to m x ≡ Finished o v f → 1 ≤ o
finished_from_1 m x c o v f e =
    let d = finished_by_deliver m x o v f e in
    (c.from_1 o (finished_by_reply m d.0 d.1 o v f (ap (answer_to m) (sym d.2) ∙ e)).was_open).0

-- so has a read of a whole context, and it has 2 values or more
pub context_from_1 : (m : Machine) (x : Step) → Counted m.opens → (o : ℕ) (v : Context) → answer_to m x ≡ FinishedContext o v → (1 ≤ o) × (2 ≤ v.count)
context_from_1 m x c o v e =
    let d = context_by_deliver m x o v e in
    let t = context_by_reply m d.0 d.1 o v (ap (answer_to m) (sym d.2) ∙ e) in
    ((c.from_1 o t.0).0, count_some v.count t.1)
