-- Document 02, Req 01: what `new` and `old` say of the order of a run. A write's stamp is that of its entry in the order, where it came from the chain's log
-- (Visible, `entry` and `shows`; Invariant, `made_visible`).
use mathlib.Core.Path.{◌≡◌, refl, sym, ap, ◌∙◌, subst}
use mathlib.Core.Logic.{inl, inr}
use mathlib.Core.Bool.{true, false}
use mathlib.Core.List.{List, [], ◌∷◌, ◌++◌}
use Prim.Native.Nat.{ℕ}
use lib.ListN.{take}
use Rattle.lists.proofs.Tests.{by_test}
use Rattle.history.specs.History.{◌∈◌, reads, History, begun}
use Rattle.history.specs.Linearizability.{Ahead}
use Rattle.history.proofs.Lists.{here, ahead_first, ahead_append, ahead_front, ahead_map}
use Rattle.history.proofs.Entries.{Entry, read_entry, empty}
use Rattle.history.proofs.Place.{ahead_place}
use Rattle.history.proofs.Claim.{numbers}
use Rattle.contexts.specs.{numbers_of}
use Rattle.store.specs.declared.Write.{Write}
use Rattle.store.specs.{stamp_at}
use Rattle.chain.specs.{is_read_replica, table_of}
use Rattle.waiting.specs.declared.Packet.{Packet}
use Rattle.waiting.specs.Waiting.{look_at}
use Rattle.protocol.specs.Answers.{old_read, new_read}
use Rattle.protocol.specs.declared.Setup.{Setup}
use Rattle.protocol.specs.Starts.{start_refused}
use Rattle.protocol.specs.declared.Answer.{Answer}
use Rattle.protocol.specs.declared.Answer.TheVariants.{Done, Finished, FinishedContext, Refused}
use Rattle.protocol.specs.declared.Message.{Message}
use Rattle.protocol.specs.declared.Message.TheVariants.{NormalRead, Reply}
use Rattle.protocol.specs.declared.Step.{Step}
use Rattle.protocol.specs.declared.Step.TheVariants.{Deliver}
use Rattle.protocol.specs.Messages.{message_of}
use Rattle.protocol.specs.Delivery.{freshness}
use Rattle.protocol.specs.Steps.{Machine, answer_to, after, started}
use Rattle.protocol.proofs.Finished.{FinishedBy, finished_by_reply}
use Rattle.protocol.proofs.Freshness.{old_below, new_from}
use Rattle.write_log.proofs.Log.{stamps}
use Rattle.linearizability.specs.Run.{noted, history_from, history_of}
use Rattle.linearizability.proofs.Members.{has}
use Rattle.linearizability.proofs.Visible.{entry, shows, WritesFrom, Wrote, visible_wrote, visible_unwritten}
use Rattle.linearizability.proofs.Packets.{Answered}
use Rattle.linearizability.proofs.Order.{objects_of, finish_order, finish_read}
use Rattle.linearizability.proofs.Waits.{messages, Stands, stands_in_lem, at_position}
use Rattle.replicas.specs.Visible.{visible_count, made_visible}
use Rattle.linearizability.proofs.Invariant.{Good, finishing, order_next, order_stays}
use Rattle.linearizability.proofs.Replicas.{read_is}
use Rattle.linearizability.proofs.OneOrder.{order_from}
use Rattle.linearizability.proofs.Limits.{reached, machine_of, good_run}

-- ---- what stands before something in the order stays before it

module _ (a b : Entry) where
  ahead_shows : (es : List Entry) (ws : List Write) → Ahead a b es → Ahead a b (shows es ws)
  ahead_shows es [] p = p
  ahead_shows es (w ∷ ws) p = ahead_shows (es ++ entry w ∷ []) ws (ahead_front a b es (entry w ∷ []) p)

  ahead_finish : (h : History) (o : ℕ) (vs : List ℕ) (es : List Entry) → Ahead a b es → Ahead a b (finish_order h o vs es)
  unfolding finish_order
  ahead_finish h o vs es p = by_test (Ahead a b) (has o (numbers es)) (λ e. p) (λ e. ahead_place _ (read_entry o (objects_of o h) vs) a b empty es p)

  ahead_finishing : (answer : Answer) (h : History) (es : List Entry) → Ahead a b es → Ahead a b (finishing answer h es)
  ahead_finishing Done h es p = p
  ahead_finishing (Finished o v f) h es p = ahead_finish h o (v ∷ []) es p
  ahead_finishing (FinishedContext o v) h es p = ahead_finish h o (numbers_of v) es p
  ahead_finishing (Refused r) h es p = p

  ahead_from : (m : Machine) (h : History) (es : List Entry) (xs : List Step) → Ahead a b es → Ahead a b (order_from m h es xs)
  ahead_from m h es [] p = p
  ahead_from m h es (x ∷ xs) p =
      ahead_from (after m x) (noted x (answer_to m x) h) (order_next m (after m x) (answer_to m x) h es) xs
      (ahead_finishing (answer_to m x) h (shows es (made_visible m.store (after m x).store)) (ahead_shows es (made_visible m.store (after m x).store) p))

-- the order of a run in two parts
order_append : (m : Machine) (h : History) (es : List Entry) (xs ys : List Step)
    → order_from m h es (xs ++ ys) ≡ order_from (reached m xs) (history_from m h xs) (order_from m h es xs) ys
order_append m h es [] ys = refl
order_append m h es (x ∷ xs) ys = order_append (after m x) (noted x (answer_to m x) h) (order_next m (after m x) (answer_to m x) h es) xs ys

-- ---- a read that finishes with `new`

-- the entry is a write to x with the stamp c or one above it, and stands in the order before operation o
pub record WrittenBefore (x c o : ℕ) (es : List Entry) : Type 0 where
  pub write : Entry
  pub ordered : write ∈ es
  pub from_carried : WritesFrom x c write
  pub before : Ahead write.operation o (numbers es)

-- one step
module _ {m : Machine} {h : History} {es : List Entry} (g : Good m h es) (at choice o v : ℕ) (e : answer_to m (Deliver at choice) ≡ Finished o v new_read) where
  abbrev by : FinishedBy m at choice o v new_read
  by = finished_by_reply m at choice o v new_read e

  answered : Answered h es o v by.carried new_read
  answered = g.core.packets.fine (Reply o v by.carried new_read)
      (stands_in_lem (subst (λ (q : Message). Stands m.waiting at q) by.replied (at_position m.waiting at by.wide by.inside)))

  abbrev next : List Entry
  next = order_next m (after m (Deliver at choice)) (answer_to m (Deliver at choice)) h es

  next_is : next ≡ finish_order h o (v ∷ []) es
  next_is = rw (e, order_stays m.store (after m (Deliver at choice)).store es (ap visible_count by.stays))

  -- the write was in the order when the read was answered, and the read is put behind all of that
  new_next : (x : ℕ) × (begun o (reads (x ∷ [])) ∈ h) × (w : Entry) × WritesFrom x by.carried w × Ahead w (read_entry o (x ∷ []) (v ∷ [])) next
  new_next = go answered
    where
      go : Answered h es o v by.carried new_read
          → (x : ℕ) × (begun o (reads (x ∷ [])) ∈ h) × (w : Entry) × WritesFrom x by.carried w × Ahead w (read_entry o (x ∷ []) (v ∷ [])) next
      go (inl f) = absurd (f.1 refl)
      go (inr (x, b, was, d, wrote)) =
          let (w, i, from) = wrote refl in
          let (r, same) = finish_read g.core o (x ∷ []) (v ∷ []) b (g.books.opened o by.was_open).1 d in
          (x, b, w, from, subst (Ahead w (read_entry o (x ∷ []) (v ∷ []))) (sym (next_is ∙ same)) (ahead_append r.front _ (r.after_was w i) (here refl)))

-- ---- every run

-- FOR EVERY START THAT IS NOT REFUSED, EVERY LENT ROW OF PLACES AND EVERY LIST OF STEPS, refused ones included
module _ (b : Setup) (starts : start_refused b ≡ false) (row : List Packet) (xs : List Step) where
  -- the machine that the steps reach, and their order
  abbrev m : Machine
  m = machine_of b row xs

  abbrev es : List Entry
  es = order_from (started b row) [] [] xs

  -- `new`: A READ THAT FINISHES SO HAS BEFORE IT, IN THE ORDER OF THE RUN AND WHATEVER STEPS FOLLOW, A WRITE OF ITS OBJECT WITH THE STAMP THAT ITS REPLY CARRIES OR ONE ABOVE IT
  pub new_after_write : (at choice o v : ℕ) → answer_to m (Deliver at choice) ≡ Finished o v new_read
      → (c : ℕ) × (message_of (look_at m.waiting.packets at) ≡ Reply o v c new_read)
      × (x : ℕ) × (begun o (reads (x ∷ [])) ∈ history_of b row xs)
      × ((ys : List Step) → WrittenBefore x c o (order_from (started b row) [] [] (xs ++ Deliver at choice ∷ ys)))
  new_after_write at choice o v e =
      let g = good_run b starts row xs in
      let by = finished_by_reply m at choice o v new_read e in
      let (x, begins, w, from, ahead) = new_next g at choice o v e in
      let read = read_entry o (x ∷ []) (v ∷ []) in (
        by.carried,
        by.replied,
        x,
        begins,
        λ ys.
            let whole = order_from (started b row) [] [] (xs ++ Deliver at choice ∷ ys) in
            let stays : Ahead w read whole = rw (order_append (started b row) [] [] xs (Deliver at choice ∷ ys)) (ahead_from w read _ _ _ ys ahead) in
            record { write = w; ordered = ahead_first w read whole stays; from_carried = from; before = ahead_map (λ (f : Entry). f.operation) w read whole stays },
      )

  -- a normal read that waits for the tail, or for the leader, which its delivery answers (crates/protocol/specs/Delivery.antt, `normal_read`)
  module _ (r o x c : ℕ) (waits : NormalRead r o x c ∈ messages m.waiting) (answers : is_read_replica m.store r ≡ true) where
    abbrev table : ℕ
    table = table_of m.store r

    -- the object's stamp is what the visible writes leave
    stamp_is : stamp_at m.store table x ≡ stamps (take (good_run b starts row xs).n (good_run b starts row xs).log) x
    stamp_is =
        let g = good_run b starts row xs in
        let begins = g.core.packets.fine (NormalRead r o x c) waits in
        (read_is g.replicas r answers x (g.books.ranged o (reads (x ∷ [])) begins x (here refl))).1

    -- `old`: WHEN THE REPLY IS MADE, THE ORDER HAS NO SUCH WRITE
    pub old_before_write : freshness (stamp_at m.store table x) c ≡ old_read → Wrote x c es → ⊥
    old_before_write e = visible_unwritten (good_run b starts row xs).core.visible x c (rw stamp_is at (old_below (stamp_at m.store table x) c e))

    -- `new`: it has one
    pub new_when_answered : freshness (stamp_at m.store table x) c ≡ new_read → Wrote x c es
    new_when_answered e =
        let s = new_from (stamp_at m.store table x) c e in
        visible_wrote (good_run b starts row xs).core.visible x c s.0 (rw stamp_is at s.1)
