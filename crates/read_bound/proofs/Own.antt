-- The followed packet is delivered: the delivery is not refused, and what comes of it is one stage further, or the operation has finished.
use mathlib.Core.Path.{◌≡◌, refl, sym, ap, ◌∙◌, subst}
use mathlib.Core.Bool.{Bool, true, false}
use mathlib.Core.List.{List, [], ◌∷◌}
use mathlib.Core.Logic.{inl, inr}
use Prim.Native.Nat.{ℕ, ◌+◌, ◌-◌, ◌≤◌, ◌<◌}
use native.Mathlib.Omega.{arith}
use lib.ListN.{length}
use borrow.Author.Tests.{le-ltb, lt-ltb, lt-leb}
use Rattle.lists.proofs.Tests.{by_test, both}
use Rattle.limits.specs as limits
use Rattle.history.specs.History.{◌∈◌, reads, History, begun, finished, Finished}
use Rattle.history.proofs.Lists.{here}
use Rattle.history.proofs.Entries.{Entry}
use Rattle.operations.specs.{is_open, closing}
use Rattle.contexts.specs.{numbers_of, mapped, is_count, is_context, context_at, holding, freeing}
use Rattle.contexts.proofs.Places.{context_known}
use Rattle.contexts.proofs.Rows.{size_is}
use Rattle.store.specs.{value_at, stamp_at}
use Rattle.chain.specs.{is_member, is_read_replica, table_of, read_replica_number, chosen_by}
use Rattle.switch.specs.Numbers.{number_in, committed_in}
use Rattle.switch.specs.DirtySet.{looked_up}
use Rattle.waiting.specs.declared.Packet.{Packet}
use Rattle.waiting.specs.Waiting.{held, look_at, edited}
use Rattle.waiting.proofs.Laws as waiting
use Rattle.protocol.specs.Answers.{no_freshness, is_accepted}
use Rattle.protocol.specs.declared.Answer.{Answer}
use Rattle.protocol.specs.declared.Answer.TheVariants.{Done, Finished as FinishedWith, FinishedContext}
use Rattle.protocol.specs.declared.Decision.{Decision}
use Rattle.protocol.specs.declared.Message.{Message}
use Rattle.protocol.specs.declared.Message.TheVariants.{UnstampedWrite, SwitchRead, StampedWrite, DirectRead, NormalRead, Completion, Reply, ContextRead, DirectContext, NormalContext, ContextReply, Acknowledgement, Unknown}
use Rattle.protocol.specs.declared.Step.{Step}
use Rattle.protocol.specs.declared.Step.TheVariants.{Deliver}
use Rattle.protocol.specs.Messages.{packet_of, message_of, is_of_context, is_context_reply}
use Rattle.protocol.specs.Decisions.{Outcome, Opened, opened, keeping, changing_opens, take_out, take_out_add, dropping, passing}
use Rattle.protocol.specs.Reads.{goes_directly, answers_read}
use Rattle.protocol.specs.Contexts.{has_row, dropping_row, context_read, answering_context, direct_context, normal_context, context_reply}
use Rattle.protocol.specs.Delivery.{switch_read, direct_read, freshness, normal_read, reply, delivered_message}
use Rattle.protocol.specs.Steps.{Machine, given_by, outcome_of, is_sound, delivered, decided, is_malformed, decided_in, position_of}
use Rattle.linearizability.specs.Run.{noted, open_noted}
use Rattle.protocol.proofs.Effects.{Names, row_of}
use Rattle.linearizability.proofs.Packets.{row_numbers}
use Rattle.linearizability.proofs.Waits.{Stands, stands_in_lem, message_packet, at_position}
use Rattle.linearizability.proofs.Invariant.{Good, done}
use Rattle.linearizability.proofs.Replicas.{some_live, in_places}
use Rattle.linearizability.proofs.Opens.{Same}
use Rattle.read_bound.specs.Follow.{Place, at, gone, becomes}
use Rattle.read_bound.proofs.Positions.{fewer_wait, as_many_wait, last_packet}
use Rattle.read_bound.proofs.Members.{chosen_member, read_member, read_is_read}
use Rattle.read_bound.proofs.Stages.{Stage, Heeded, Heard}

module _ {m : Machine} {h : History} {es : List Entry} (g : Good m h es) (wide : waiting.Roomy m.waiting) {l : List ℕ} (opens : Same m.opens l)
    (i choice o k : ℕ) (inside : i < held m.waiting) (live : Heeded h l o) where
  abbrev deliver : Step
  deliver = Deliver i choice

  abbrev s : List ℕ
  s = m.store

  -- an outcome of the delivery is no refusal, and leaves the packet one stage further or gone
  abbrev pub Own : Outcome → Type 0
  Own u =
      (is_accepted u.decision.answer ≡ true) × Heard (done m u) (noted deliver u.decision.answer h) (open_noted deliver u.decision.answer h l) o (k + 1)
      (becomes (held m.waiting) (held (edited m.waiting u.decision.edit)))

  -- another packet comes of it
  passes : (q : Message) (cells : List ℕ) → Stage s o (k + 1) q → Own (changing_opens (given_by m) (opened (passing i q) cells))
  unfolding passing
  passes q cells st =
      let w = m.waiting in
      let e = take_out_add i (packet_of q) in
      let as_many : held (edited w e) ≡ held w = as_many_wait w wide i inside (packet_of q) in
      let place : becomes (held w) (held (edited w e)) ≡ at (held w - 1) = rw (as_many, le-ltb (held w) (held w) (omega arith)) in (
        refl,
        subst (λ (p : Place). Heard (done m (changing_opens (given_by m) (opened (passing i q) cells))) h l o (k + 1) p) (sym place) (
          omega (arith, as_many, inside),
          subst (λ (z : Message). Stage s o (k + 1) z) (sym (ap message_of (last_packet w wide i inside (packet_of q)) ∙ message_packet q)) st,
          live,
        ),
      )

  -- nothing comes of it, and the operation has finished
  ends : (a : Answer) (cells : List ℕ) → is_accepted a ≡ true → k ≤ 3 → Finished (noted deliver a h) o
      → Own (changing_opens (given_by m) (opened (record { answer = a; edit = take_out i }) cells))
  ends a cells acc few f =
      let w = m.waiting in
      let fewer : held (edited w (take_out i)) ≡ held w - 1 = fewer_wait w wide i inside in
      let place : becomes (held w) (held (edited w (take_out i))) ≡ gone = rw (fewer, lt-ltb (held w - 1) (held w) (omega (arith, inside))) in (
        acc,
        subst (λ (p : Place). Heard (done m (changing_opens (given_by m) (opened (record { answer = a; edit = take_out i }) cells))) (noted deliver a h) (open_noted deliver a h l) o (k + 1) p) (sym place)
            (omega (arith, few), f),
      )

  -- an operation that is open no more has finished
  closed : (p : ℕ) → p ≡ o → is_open m.opens p ≡ false → Finished h o
  closed p e shut = elim live [
    | inl j ↦ absurd (let d : ◌≡◌ {A = Bool} false true = sym shut ∙ ap (is_open m.opens) e ∙ opens.kept o j in let z : ◌≡◌ {A = ℕ} 0 1 = cc in omega (arith, z))
    | inr f ↦ f
  ]

  -- the number of the replica that answers normal reads
  read_stage : (is_member s (read_replica_number s) ≡ true) × (is_read_replica s (read_replica_number s) ≡ true)
  read_stage = (read_member s (in_places g.replicas) (some_live g.replicas), read_is_read s (in_places g.replicas) (some_live g.replicas))

  -- the row that a waiting packet names
  counts : (msg : Message) → Stands m.waiting i msg → (r : ℕ) → Names msg r → is_count (context_at m.opens r).count ≡ true
  counts msg stands r n = ap is_count (size_is m.opens r) ∙ g.core.packets.used msg r (stands_in_lem stands) n

  row_context : (msg : Message) → Stands m.waiting i msg → (r p : ℕ) → Names msg r → begun p (reads (row_numbers m.opens r)) ∈ h → is_context (context_at m.opens r) ≡ true
  row_context msg stands r p n b = context_known (context_at m.opens r) (counts msg stands r n) (g.books.ranged p (reads (row_numbers m.opens r)) b)

  pub own : (msg : Message) → Stands m.waiting i msg → Stage s o k msg → Own (delivered_message (given_by m) i choice msg)
  unfolding delivered_message switch_read direct_read normal_read reply context_read direct_context normal_context context_reply answering_context dropping_row dropping
  own (UnstampedWrite p x v) stands st = absurd st
  own (SwitchRead p x) stands st =
      let P : Decision → Type 0 = λ d. Own (keeping (given_by m) d) in
      both P (goes_directly m.switch (x ∷ []))
      (passes (DirectRead (chosen_by s choice) (number_in m.switch) (committed_in m.switch) p x) m.opens (st.0, omega (arith, st.1), chosen_member s (in_places g.replicas) (some_live g.replicas) choice))
      (passes (NormalRead (read_replica_number s) p x (looked_up m.switch x)) m.opens (st.0, omega (arith, st.1), read_stage.0, read_stage.1))
  own (StampedWrite r w) stands st = absurd st
  own (DirectRead r number t p x) stands st =
      let P : Decision → Type 0 = λ d. Own (keeping (given_by m) d) in
      rw st.2
      (both P (answers_read s (table_of s r) number t (x ∷ []))
      (passes (Reply p (value_at s (table_of s r) x) 0 no_freshness) m.opens (st.0, omega (arith, st.1)))
      (passes (NormalRead (read_replica_number s) p x 0) m.opens (st.0, omega (arith, st.1), read_stage.0, read_stage.1)))
  own (NormalRead r p x t) stands st =
      rw (st.2, st.3) (passes (Reply p (value_at s (table_of s r) x) t (freshness (stamp_at s (table_of s r) x) t)) m.opens (st.0, omega (arith, st.1)))
  own (Completion x t) stands st = absurd st
  own (Reply p v t f) stands st =
      by_test (λ (u : Opened). Own (changing_opens (given_by m) u)) (is_open m.opens p)
      (λ still. ends (FinishedWith p v f) (closing m.opens p) refl st.1 (v ∷ [], here (ap (λ (q : ℕ). finished q (v ∷ [])) (sym st.0))))
      (λ shut. ends Done m.opens refl st.1 (closed p st.0 shut))
  own (ContextRead p r) stands st =
      let P : Opened → Type 0 = λ u. Own (changing_opens (given_by m) u) in
      both P (goes_directly m.switch (row_numbers m.opens r))
      (passes (DirectContext (chosen_by s choice) (number_in m.switch) (committed_in m.switch) p r) m.opens (st.0, omega (arith, st.1), chosen_member s (in_places g.replicas) (some_live g.replicas) choice))
      (passes (NormalContext (read_replica_number s) p r) m.opens (st.0, omega (arith, st.1), read_stage.0, read_stage.1))
  own (DirectContext q number t p r) stands st =
      let P : Opened → Type 0 = λ u. Own (changing_opens (given_by m) u) in
      rw st.2
      (both P (answers_read s (table_of s q) number t (row_numbers m.opens r))
      (passes (ContextReply p r) (holding m.opens r (mapped (value_at s (table_of s q)) (context_at m.opens r))) (st.0, omega (arith, st.1)))
      (passes (NormalContext (read_replica_number s) p r) m.opens (st.0, omega (arith, st.1), read_stage.0, read_stage.1)))
  own (NormalContext q p r) stands st =
      rw (st.2, st.3)
      (passes (ContextReply p r) (holding m.opens r (mapped (value_at s (table_of s q)) (context_at m.opens r))) (st.0, omega (arith, st.1)))
  own (ContextReply p r) stands st =
      let v = context_at m.opens r in
      by_test (λ (u : Opened). Own (changing_opens (given_by m) u)) (is_open m.opens p)
      (λ still. ends (FinishedContext p v) (freeing (closing m.opens p) r) refl st.1 (numbers_of v, here (ap (λ (q : ℕ). finished q (numbers_of v)) (sym st.0))))
      (λ shut. ends Done (freeing m.opens r) refl st.1 (closed p st.0 shut))
  own (Acknowledgement q n) stands st = absurd st
  own Unknown stands st = absurd st

  -- a row that a waiting packet names is there
  row_there : (msg : Message) → Stands m.waiting i msg → has_row m.opens (packet_of msg) ≡ true
  unfolding has_row is_of_context is_context_reply packet_of
  row_there (UnstampedWrite p x v) stands = refl
  row_there (SwitchRead p x) stands = refl
  row_there (StampedWrite r w) stands = refl
  row_there (DirectRead r number t p x) stands = refl
  row_there (NormalRead r p x t) stands = refl
  row_there (Completion x t) stands = refl
  row_there (Reply p v t f) stands = refl
  row_there (ContextRead p r) stands = row_context (ContextRead p r) stands r p refl (g.core.packets.fine (ContextRead p r) (stands_in_lem stands))
  row_there (DirectContext q number t p r) stands =
      row_context (DirectContext q number t p r) stands r p refl (g.core.packets.fine (DirectContext q number t p r) (stands_in_lem stands)).0
  row_there (NormalContext q p r) stands = row_context (NormalContext q p r) stands r p refl (g.core.packets.fine (NormalContext q p r) (stands_in_lem stands))
  row_there (ContextReply p r) stands = counts (ContextReply p r) stands r refl
  row_there (Acknowledgement q n) stands = refl
  row_there Unknown stands = refl

  -- the step itself, of a packet whose object there is
  abbrev packet : Packet
  packet = look_at m.waiting.packets i

  abbrev standing : Stands m.waiting i (message_of packet)
  standing = at_position m.waiting i wide inside

  delivery_is : packet.object < 1024 → outcome_of m deliver ≡ delivered_message (given_by m) i choice (message_of packet)
  unfolding decided_in is_malformed decided delivered is_sound position_of
  delivery_is small =
      rw (
        le-ltb (length m.waiting.packets) limits.waiting wide,
        lt-leb (held m.waiting) i inside,
        lt-leb limits.objects packet.object small,
        row_of m.opens packet (row_there (message_of packet) standing),
      ) refl

  pub own_step : packet.object < 1024 → Stage s o k (message_of packet) → Own (outcome_of m deliver)
  own_step small st = subst Own (sym (delivery_is small)) (own (message_of packet) standing st)
