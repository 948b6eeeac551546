-- A step that finishes an operation delivers its reply, and the operation is open: of every machine, whatever its lists hold.
use mathlib.Core.Path.{◌≡◌, ap, subst}
use mathlib.Core.Bool.{true}
use Prim.Native.Nat.{ℕ, ◌≤◌, ◌<◌}
use lib.ListN.{length}
use Rattle.limits.specs as limits
use Rattle.operations.specs.{is_open}
use Rattle.contexts.specs.declared.Context.{Context}
use Rattle.contexts.specs.{is_count}
use Rattle.waiting.specs.Waiting.{held, look_at}
use Rattle.protocol.specs.declared.Answer.{Answer}
use Rattle.protocol.specs.declared.Answer.TheVariants.{Finished, FinishedContext}
use Rattle.protocol.specs.declared.Message.TheVariants.{Reply}
use Rattle.protocol.specs.declared.Step.TheVariants.{Deliver}
use Rattle.protocol.specs.Messages.{message_of}
use Rattle.protocol.specs.Steps.{Machine, given_by, outcome_of, position_of, answer_to, after}
use Rattle.protocol.specs.Answers.{is_accepted}
use Rattle.protocol.proofs.Effects.{AnswerEffect, accepted_wide, effect}

-- 64 places are lent, the position is one of a waiting packet, the packet is a reply of operation o with value v and freshness f, o is open, and the step leaves the store
pub record FinishedBy (m : Machine) (at choice o v f : ℕ) : Type 0 where
  pub wide : limits.waiting ≤ length m.waiting.packets
  pub inside : at < held m.waiting
  pub was_open : is_open m.opens o ≡ true
  pub stays : (after m (Deliver at choice)).store ≡ m.store
  pub carried : ℕ
  pub replied : message_of (look_at m.waiting.packets at) ≡ Reply o v carried f

module _ (m : Machine) (at choice : ℕ) where
  finishes : (a : Answer) → answer_to m (Deliver at choice) ≡ a
      → AnswerEffect (given_by m) (message_of (look_at m.waiting.packets at)) (Deliver at choice) (outcome_of m (Deliver at choice)) a
  unfolding answer_to position_of
  finishes a e = subst (AnswerEffect (given_by m) (message_of (look_at m.waiting.packets at)) (Deliver at choice) (outcome_of m (Deliver at choice))) e (effect m (Deliver at choice)).answer

  pub finished_by_reply : (o v f : ℕ) → answer_to m (Deliver at choice) ≡ Finished o v f → FinishedBy m at choice o v f
  unfolding after
  finished_by_reply o v f e =
      let (d, inside, still, stays, c, replied) = finishes (Finished o v f) e in
      record { wide = accepted_wide m (Deliver at choice) (ap is_accepted e); inside = inside; was_open = still; stays = stays; carried = c; replied = replied }

  -- so for a read of a whole context, which has 2 to 8 values
  pub context_by_reply : (o : ℕ) (v : Context) → answer_to m (Deliver at choice) ≡ FinishedContext o v → (is_open m.opens o ≡ true) × (is_count v.count ≡ true)
  context_by_reply o v e = let (d, inside, still, stays, counts, r, replied) = finishes (FinishedContext o v) e in (still, counts)
