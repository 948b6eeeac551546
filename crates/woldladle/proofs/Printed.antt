-- The exported line of a session is the line that the run program prints for the same record.
use mathlib.Core.Path.{◌≡◌, refl, ap, ◌∙◌}
use mathlib.Core.Logic.{◌⊎◌, inl, inr}
use mathlib.Core.Bool.{true, false}
use mathlib.Core.List.{List}
use Prim.Native.Nat.{ℕ, ◌≤◌}
use native.Mathlib.Omega.{arith}
use lib.Dec.{eqb}
use lib.ListN.{length}
use borrow.Author.Tests.{eq-eqb, ne_eqb, le-ltb}
use Rattle.std.specs.Prelude.{Result, Ok}
use Rattle.switch.specs.Numbers.{marks_in}
use Rattle.waiting.specs.Waiting.{held_in, held}
use Rattle.contexts.specs.declared.Context.{Context}
use Rattle.contexts.specs.{places_of}
use Rattle.protocol.specs.declared.Answer.{Answer}
use Rattle.protocol.specs.declared.Answer.TheVariants.{Done, Finished, FinishedContext, Refused}
use Rattle.protocol.specs.declared.Refusal.{Refusal}
use Rattle.protocol.specs.declared.Refusal.TheVariants.{Format, Replicas, ObjectNumber, OperationsUsedUp, OpenFull, WaitingFull, NoPacket, UnstampedRepeat, NotLive, NoLinkedWrite, SwitchNumber, LastReplica, NotOpen, InputTooLong, BufferTooShort, SameObject, ChainFull, JoinUnderWay, NoJoin, WrongStore, NothingToExecute}
use Rattle.protocol.specs.declared.Setup.{Setup}
use Rattle.protocol.specs.declared.Step.{Step}
use Rattle.protocol.specs.declared.Step.TheVariants.{Start}
use Rattle.protocol.specs.Answers.{refusal_number}
use Rattle.protocol.specs.Starts.{setup_of, start_refused, start_refusal, start_answer}
use Rattle.protocol.specs.Steps.{Machine, answer_to, after, stepped_by}
use Rattle.protocol.proofs.Refusals.{start_cases}
use Rattle.records.specs.declared.Malformed.{Malformed}
use Rattle.records.specs.declared.Record.{Record}
use Rattle.records.specs.Records.{read_to, record_at}
use Rattle.line_lengths.specs.Lines.{line_of}
use Rattle.sessions.specs.declared.Session.{Session}
use Rattle.sessions.specs.{refusal_in, operation_in, values_in, freshness_in, whole_step, asked_by, start_asked, session_started, marks_after, session_after}
use Rattle.session_lines.specs.{context_from, answer_from, line_for}
use Rattle.operations.proofs.Counted.{Counted}
use Rattle.woldladle.proofs.Opens.{finished_from_1, context_from_1}

-- the line of a session, as record k
abbrev pub line_in : ℕ → Session → List ℕ
line_in k u = line_for k u.refusal u.operation u.values.count (places_of u.values) u.freshness u.waiting u.marks

-- no refusal has number 0
numbered : (r : Refusal) → eqb (refusal_number r) 0 ≡ false
numbered Format = refl
numbered Replicas = refl
numbered ObjectNumber = refl
numbered OperationsUsedUp = refl
numbered OpenFull = refl
numbered WaitingFull = refl
numbered NoPacket = refl
numbered UnstampedRepeat = refl
numbered NotLive = refl
numbered NoLinkedWrite = refl
numbered SwitchNumber = refl
numbered LastReplica = refl
numbered NotOpen = refl
numbered InputTooLong = refl
numbered BufferTooShort = refl
numbered SameObject = refl
numbered ChainFull = refl
numbered JoinUnderWay = refl
numbered NoJoin = refl
numbered WrongStore = refl
numbered NothingToExecute = refl

-- an answer's numbers give its line, where it finishes no operation 0; the line of a refusal has no marks
line_of_lem : (k : ℕ) (a : Answer) (waiting before marks : ℕ) → ((o v f : ℕ) → a ≡ Finished o v f → 1 ≤ o) →
    ((o : ℕ) (v : Context) → a ≡ FinishedContext o v → (1 ≤ o) × (2 ≤ v.count)) →
    line_for k (refusal_in a) (operation_in a) (values_in a).count (places_of (values_in a)) (freshness_in a) waiting (marks_after before (refusal_in a) marks)
    ≡ line_of k a (held_in waiting) marks
unfolding line_for answer_from context_from line_of marks_after
line_of_lem k Done waiting before marks h d = refl
line_of_lem k (Finished o v f) waiting before marks h d = rw (ne_eqb o 0 (λ e. omega (arith, h o v f refl, e)))
line_of_lem k (FinishedContext o v) waiting before marks h d =
    let t = d o v refl in rw (ne_eqb o 0 (λ e. omega (arith, t.0, e)), le-ltb v.count 2 t.1)
line_of_lem k (Refused r) waiting before marks h d = rw (numbered r)

-- the step of a record that fills the lent bytes
asked_whole : (bytes : List ℕ) (x : Step) → record_at bytes 0 ≡ Ok (read_to x (length bytes)) → asked_by bytes ≡ x
unfolding asked_by
asked_whole bytes x e = ap (λ (f : Result Record Malformed). whole_step f (length bytes)) e ∙ rw (eq-eqb (length bytes) (length bytes) refl)

-- after a step: the line of crates/runs/specs/Runs.antt, `line_after`
pub step_line : (k before : ℕ) (m : Machine) (bytes : List ℕ) (x : Step) → Counted m.opens → record_at bytes 0 ≡ Ok (read_to x (length bytes)) →
    line_in k (session_after before (stepped_by m (asked_by bytes))) ≡ line_of k (answer_to m x) (held (after m x).waiting) (marks_in (after m x).switch)
unfolding session_after
step_line k before m bytes x c e =
    ap (λ (y : Step). line_in k (session_after before (stepped_by m y))) (asked_whole bytes x e)
    ∙ line_of_lem k (answer_to m x) (after m x).waiting.count before (marks_in (after m x).switch) (finished_from_1 m x c) (context_from_1 m x c)

-- after a start: the line of its `started_with`
setup_line : (k : ℕ) (b : Setup) (u : Session) → line_in k (session_started b u) ≡ line_of k (start_answer b) 0 0
unfolding session_started line_for answer_from line_of held_in
setup_line k b u = go (start_cases b)
  where
    go : ((start_refused b ≡ true) × (start_answer b ≡ Refused (start_refusal b))) ⊎ ((start_refused b ≡ false) × (start_answer b ≡ Done)) → line_in k (session_started b u) ≡ line_of k (start_answer b) 0 0
    go (inl e) = rw (e.1, numbered (start_refusal b))
    go (inr e) = rw (e.0, e.1)

pub start_line : (k : ℕ) (bytes : List ℕ) (b : Setup) (u : Session) → record_at bytes 0 ≡ Ok (read_to (Start b) (length bytes)) →
    line_in k (session_started (start_asked bytes) u) ≡ line_of k (start_answer b) 0 0
unfolding start_asked
start_line k bytes b u e = ap (λ (y : Step). line_in k (session_started (setup_of y) u)) (asked_whole bytes (Start b) e) ∙ setup_line k b u
