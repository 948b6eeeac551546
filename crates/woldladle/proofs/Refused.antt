-- What is refused changes nothing: a step of a session, and a start, whatever the bytes, the session and what is lent. What is accepted leaves the session the
-- switch's stored number of marks.
use mathlib.Core.Path.{◌≡◌, refl, ap}
use mathlib.Core.Logic.{◌⊎◌, inl, inr, ◌≢◌}
use mathlib.Core.Bool.{true, false}
use mathlib.Core.List.{List}
use Prim.Native.Nat.{ℕ}
use borrow.Author.Tests.{eq-eqb, ne_eqb}
use Rattle.switch.specs.Numbers.{marks_in}
use Rattle.switch.proofs.Laws.{new_marks}
use Rattle.waiting.specs.declared.Packet.{Packet}
use Rattle.waiting.specs.Waiting.{waiting_list}
use Rattle.protocol.specs.declared.Answer.{Answer}
use Rattle.protocol.specs.declared.Answer.TheVariants.{Done, Finished, FinishedContext, Refused}
use Rattle.protocol.specs.declared.Setup.{Setup}
use Rattle.protocol.specs.declared.Step.{Step}
use Rattle.protocol.specs.Answers.{no_freshness}
use Rattle.protocol.specs.Starts.{start_refused, start_refusal, start_answer}
use Rattle.protocol.specs.Steps.{Machine, machine, answer_to, after, stepped_by, start_switch, start_store, start_opens}
use Rattle.protocol.proofs.Refusals.{refused_unchanged, start_cases}
use Rattle.sessions.specs.declared.Session.{Session}
use Rattle.sessions.specs.{refusal_in, no_values, asked_by, session_started, marks_after, session_after}

-- an answer with a number is a refusal
kept : (m : Machine) (x : Step) (a : Answer) → answer_to m x ≡ a → refusal_in a ≢ 0 → after m x ≡ m
kept m x Done e h = absurd (h refl)
kept m x (Finished o v f) e h = absurd (h refl)
kept m x (FinishedContext o v) e h = absurd (h refl)
kept m x (Refused r) e h = refused_unchanged m x r e

-- a refused step: the switch, the store, the open operations and the packets are as they were, and so are the count of packets and the marks
module _ (u : Session) (switch store opens : List ℕ) (packets : List Packet) (bytes : List ℕ) where
  abbrev was : Machine
  was = machine switch store opens (waiting_list packets u.waiting)

  abbrev then : Session
  then = session_after u.marks (stepped_by was (asked_by bytes))

  pub session_unchanged : then.refusal ≢ 0 → (after was (asked_by bytes) ≡ was) × (then.waiting ≡ u.waiting) × (then.marks ≡ u.marks)
  unfolding session_after marks_after
  session_unchanged h =
      let same = kept was (asked_by bytes) (answer_to was (asked_by bytes)) refl h in
      (same, ap (λ (m : Machine). m.waiting.count) same, rw (ne_eqb then.refusal 0 h))

-- after a step that is not refused, and after an accepted start, the marks are the switch's stored number
pub step_marks : (k : ℕ) (m : Machine) (x : Step) → (session_after k (stepped_by m x)).refusal ≡ 0 → (session_after k (stepped_by m x)).marks ≡ marks_in (after m x).switch
unfolding session_after marks_after
step_marks k m x e = rw (eq-eqb (refusal_in (answer_to m x)) 0 e)

pub start_marks : (b : Setup) (u : Session) (switch : List ℕ) → start_refused b ≡ false → (session_started b u).marks ≡ marks_in (start_switch b switch)
unfolding session_started start_switch
start_marks b u switch e = rw (e, new_marks)

-- a refused start, by 1 or by 2: everything but the refusal, the operation, its values and its freshness is as it was
abbrev StartKept : Setup → Session → Type 0
StartKept b u =
    (session_started b u ≡ record {
      refusal = refusal_in (Refused (start_refusal b));
      operation = 0;
      values = no_values;
      freshness = no_freshness;
      marks = u.marks;
      waiting = u.waiting;
    })
    × ((l : List ℕ) → start_switch b l ≡ l) × ((l : List ℕ) → start_store b l ≡ l) × ((l : List ℕ) → start_opens b l ≡ l)

pub session_start_unchanged : (b : Setup) (u : Session) → (session_started b u).refusal ≢ 0 → StartKept b u
unfolding session_started start_answer start_switch start_store start_opens
session_start_unchanged b u = go (start_cases b)
  where
    go : ((start_refused b ≡ true) × (start_answer b ≡ Refused (start_refusal b))) ⊎ ((start_refused b ≡ false) × (start_answer b ≡ Done)) → (session_started b u).refusal ≢ 0 → StartKept b u
    go (inl e) h = (rw e.0, (λ l. rw e.0), (λ l. rw e.0), (λ l. rw e.0))
    go (inr e) h = absurd (h (ap refusal_in e.1))
