-- What a step answers, and that a refused step changes nothing: of every machine, whatever its lists hold.
use mathlib.Core.Path.{◌≡◌, refl, sym, ap, subst}
use mathlib.Core.Logic.{◌⊎◌, inl, inr, ◌↔◌}
use mathlib.Core.Bool.{Bool, true, false, cond, not}
use Prim.Native.Nat.{ℕ, ◌≤◌}
use native.Mathlib.Omega.{arith}
use lib.Dec.{eqb, leb, ltb, T, when}
use borrow.Author.Tests.{eqb-true, eqb-false, leb-true, ltb-false, ne_eqb, le-ltb}
use Rattle.limits.specs as limits
use Rattle.contexts.specs.declared.Context.{Context}
use Rattle.waiting.proofs.Laws.{edited_none}
use Rattle.protocol.specs.declared.Refusal.{Refusal}
use Rattle.protocol.specs.declared.Refusal.TheVariants.{Format}
use Rattle.protocol.specs.declared.Answer.{Answer}
use Rattle.protocol.specs.declared.Answer.TheVariants.{Done, Finished, FinishedContext, Refused}
use Rattle.protocol.specs.declared.Setup.{Setup}
use Rattle.protocol.specs.declared.Setup.TheVariants.{Chain, Quorum}
use Rattle.protocol.specs.declared.Step.{Step}
use Rattle.protocol.specs.declared.Step.TheVariants.{Start}
use Rattle.protocol.specs.Answers.{refusal_number}
use Rattle.protocol.specs.Messages.{message_of}
use Rattle.protocol.specs.Starts.{start_refused, start_refusal, start_answer}
use Rattle.protocol.specs.Decisions.{keeping, no_edit, refusing}
use Rattle.protocol.specs.Steps.{Machine, machine, given_by, outcome_of, is_malformed, decided_in}
use Rattle.protocol.specs.Steps.{answer_to, after, started, start_switch, start_store, start_opens, start_waiting, after_start}
use Rattle.protocol.proofs.Effects.{IsDeliver, is_step_number, AnswerEffect, packet_at, effect}

-- what a step can answer: done, an operation finished, or a refusal with number 1, 3 to 13, 15 to 19, 23 or 24
abbrev pub StepNumber : ℕ → Type 0
StepNumber n = (n ≡ 1) ⊎ ((3 ≤ n) × (n ≤ 13)) ⊎ ((15 ≤ n) × (n ≤ 19)) ⊎ ((23 ≤ n) × (n ≤ 24))

abbrev pub StepAnswer : Answer → Type 0
StepAnswer a = (a ≡ Done)
    ⊎ ((o : ℕ) × (v : ℕ) × (f : ℕ) × (a ≡ Finished o v f))
    ⊎ ((o : ℕ) × (v : Context) × (a ≡ FinishedContext o v))
    ⊎ ((r : Refusal) × (a ≡ Refused r) × StepNumber (refusal_number r))

-- what a test guards, and that it passes
passed : {X : Type 0} (b : Bool) → when b X → (b ≡ true) × X
passed true h = (refl, h)
passed false h = absurd h

-- the test and the numbers
step_number : (n : ℕ) → is_step_number n ≡ true → StepNumber n
step_number n = go (eqb n 1) refl (leb 23 n) refl (leb 15 n) refl (leb 3 n) refl
  where
    go : (s : Bool) → eqb n 1 ≡ s → (k : Bool) → leb 23 n ≡ k → (l : Bool) → leb 15 n ≡ l → (t : Bool) → leb 3 n ≡ t
        → cond s true (cond k (leb n 24) (cond l (leb n 19) (cond t (leb n 13) false))) ≡ true → StepNumber n
    go true e k c l d t f h = inl (eqb-true n 1 e)
    go false e true c l d t f h = inr (inr (inr (leb-true 23 n c, leb-true n 24 h)))
    go false e false c true d t f h = inr (inr (inl (leb-true 15 n d, leb-true n 19 h)))
    go false e false c false d true f h = inr (inl (leb-true 3 n f, leb-true n 13 h))
    go false e false c false d false f h = absurd (subst T (sym h) tt)

-- every step of a machine
module _ (m : Machine) (x : Step) where
  -- what holds of its outcome, whatever its answer
  sound : (a : Answer) → answer_to m x ≡ a → AnswerEffect (given_by m) (message_of (packet_at m x)) x (outcome_of m x) a
  unfolding answer_to
  sound a e = subst (AnswerEffect (given_by m) (message_of (packet_at m x)) x (outcome_of m x)) e (effect m x).answer

  -- of a refusal, its number and that nothing is changed
  sound_refusal : (r : Refusal) → answer_to m x ≡ Refused r →
      (is_step_number (refusal_number r) ≡ true) × (outcome_of m x ≡ keeping (given_by m) (refusing r))
  sound_refusal r e = passed (is_step_number (refusal_number r)) (sound (Refused r) e)

  -- a refused step leaves the switch, the store, the open operations and the waiting list as they were
  pub refused_unchanged : (r : Refusal) → answer_to m x ≡ Refused r → after m x ≡ m
  unfolding after refusing
  refused_unchanged r e =
      rw (sound_refusal r e).1 (ap (machine m.switch m.store m.opens) (edited_none m.waiting no_edit refl refl))

  -- no step answers anything else
  pub answer_cases : StepAnswer (answer_to m x)
  answer_cases = go (answer_to m x) refl
    where
      go : (a : Answer) → answer_to m x ≡ a → StepAnswer (answer_to m x)
      go Done e = inl e
      go (Finished o v f) e = inr (inl (o, v, f, e))
      go (FinishedContext o v) e = inr (inr (inl (o, v, e)))
      go (Refused r) e = inr (inr (inr (r, e, step_number (refusal_number r) (sound_refusal r e).0)))

  -- only a delivery finishes an operation
  pub finished_by_deliver : (o v f : ℕ) → answer_to m x ≡ Finished o v f → IsDeliver x
  finished_by_deliver o v f e = (sound (Finished o v f) e).0

  pub context_by_deliver : (o : ℕ) (v : Context) → answer_to m x ≡ FinishedContext o v → IsDeliver x
  context_by_deliver o v e = (sound (FinishedContext o v) e).0

-- a start that comes as a step is refused, so it changes nothing
pub start_keeps : (m : Machine) (b : Setup) → after m (Start b) ≡ m
unfolding answer_to decided_in is_malformed refusing
start_keeps m b = refused_unchanged m (Start b) Format refl

-- ---- the start

-- a chain starts with 1 to 8 replicas, and with no other number
pub start_accepted : (n : ℕ) → (start_refused (Chain n) ≡ false) ↔ ((1 ≤ n) × (n ≤ limits.replicas))
unfolding start_refused
start_accepted n = (to (eqb n 0) refl, λ h. rw (ne_eqb n 0 (omega arith)) (le-ltb limits.replicas n h.1))
  where
    to : (t : Bool) → eqb n 0 ≡ t → cond t true (ltb limits.replicas n) ≡ false → (1 ≤ n) × (n ≤ limits.replicas)
    to true z e = absurd (subst T e tt)
    to false z e = omega (arith, eqb-false n 0 z, ltb-false limits.replicas n e)

-- Req 11: a quorum store starts with 3, 5 or 7
pub quorum_accepted : (n : ℕ) → start_refused (Quorum n) ≡ false → (3 ≤ n) × (n ≤ 7)
unfolding start_refused
quorum_accepted n = go (eqb n 3) refl (eqb n 5) refl (eqb n 7) refl
  where
    go : (a : Bool) → eqb n 3 ≡ a → (b : Bool) → eqb n 5 ≡ b → (c : Bool) → eqb n 7 ≡ c → cond a false (cond b false (not c)) ≡ false → (3 ≤ n) × (n ≤ 7)
    go true p b q c r e = omega (arith, eqb-true n 3 p)
    go false p true q c r e = omega (arith, eqb-true n 5 q)
    go false p false q true r e = omega (arith, eqb-true n 7 r)
    go false p false q false r e = absurd (subst T e tt)

-- it is refused or done
pub start_cases : (b : Setup) → ((start_refused b ≡ true) × (start_answer b ≡ Refused (start_refusal b))) ⊎ ((start_refused b ≡ false) × (start_answer b ≡ Done))
unfolding start_answer
start_cases b = go (start_refused b) refl
  where
    go : (t : Bool) → start_refused b ≡ t →
        ((start_refused b ≡ true) × (cond (start_refused b) (Refused (start_refusal b)) Done ≡ Refused (start_refusal b))) ⊎
        ((start_refused b ≡ false) × (cond (start_refused b) (Refused (start_refusal b)) Done ≡ Done))
    go true e = inl (e, rw e)
    go false e = inr (e, rw e)

-- a refused start leaves everything as it was
pub start_unchanged : (b : Setup) (m : Machine) → start_refused b ≡ true → after_start b m ≡ m
unfolding start_switch start_store start_opens start_waiting
start_unchanged b m e = rw e

-- an accepted start gives the empty store that runs begin with
pub start_gives : (b : Setup) (m : Machine) → start_refused b ≡ false → after_start b m ≡ started b m.waiting.packets
unfolding start_switch start_store start_opens start_waiting started
start_gives b m e = rw e
