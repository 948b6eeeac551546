-- What a delivery does to the invariant, whatever the kind of store: the message is dropped, another comes of it, a row changes, an operation finishes.
use mathlib.Core.Path.{◌≡◌, refl, sym, ap, ◌∙◌, subst}
use mathlib.Core.Bool.{true, false}
use mathlib.Core.List.{List, [], ◌∷◌, ◌++◌, map}
use mathlib.Core.Logic.{inl, inr}
use Prim.Native.Nat.{ℕ, zero, suc, ◌+◌, ◌-◌, ◌≤◌, ◌<◌}
use native.Mathlib.Omega.{arith}
use lib.ListN.{length, take}
use lib.Seq.{slice}
use Rattle.history.specs.History.{◌∈◌, writes, History, finished}
use Rattle.history.proofs.Lists.{there, cases_cons, cases_append, only-member, in_take}
use Rattle.history.proofs.Entries.{Entry, Unfinished}
use Rattle.history.proofs.Growth.{older, begun_not_finished}
use Rattle.stamp.specs.Stamps.{stamp_of, number_of}
use Rattle.switch.specs.Numbers.{number_in, counter_in, committed_in}
use Rattle.operations.specs.{is_open, last_given, closing}
use Rattle.operations.proofs.Behind.{SameOpens, same_self, same_last, same_open}
use Rattle.operations.proofs.Counted.{counted_same, counted_closing}
use Rattle.contexts.specs.{mapped, is_count, size_at, context_at, holding, freeing}
use Rattle.contexts.proofs.Places.{numbers_mapped}
use Rattle.contexts.proofs.Rows.{Apart, size_is, context_closing, context_apart, opens_holding, sized_holding, size_held, numbers_held, freed_apart, opens_freeing, sized_freeing}
use Rattle.operations.proofs.Laws.{SizedOpens, last_closing, open_after_closing}
use Rattle.store.specs.declared.Write.{Write}
use Rattle.store.specs.{value_at}
use Rattle.waiting.specs.Waiting.{held, edited}
use Rattle.replicas.specs.Links.{entries}
use Rattle.replicas.specs.Visible.{visible_count, made_visible}
use Rattle.protocol.specs.Answers.{no_freshness}
use Rattle.waiting.proofs.Laws as waiting
use Rattle.protocol.specs.declared.Answer.TheVariants.{FinishedContext}
use Rattle.protocol.specs.declared.Message.{Message}
use Rattle.protocol.specs.declared.Message.TheVariants.{Completion, Reply, ContextReply}
use Rattle.protocol.specs.declared.Step.TheVariants.{Deliver}
use Rattle.protocol.specs.Decisions.{Outcome, switched, opened, keeping, changing_switch, changing_opens, no_edit, take_out, dropping, passing, overfull}
use Rattle.protocol.specs.Contexts.{dropping_row, answering_context}
use Rattle.protocol.specs.Delivery.{reply}
use Rattle.protocol.specs.Steps.{Machine, machine, given_by, sending}
use Rattle.write_log.proofs.Log.{top}
use Rattle.write_log.proofs.Holds.{Small}
use Rattle.linearizability.proofs.Visible.{shows}
use Rattle.linearizability.proofs.Logged.{Logged, logged_show, slice_is, slice_rising, slice_issued, slice_chain}
use Rattle.protocol.proofs.Effects.{Names}
use Rattle.linearizability.proofs.Packets.{AnsweredContext, row_numbers, Asks, unstamped_one, unstamped, unstamped_append, unstamped_lost, asks_none}
use Rattle.linearizability.proofs.Core.{core_add, core_rows, core_lose, core_leave, core_turn}
use Rattle.linearizability.proofs.Order.{Sent, core_outcome, core_finishes, context_finishes}
use Rattle.linearizability.proofs.Waits.{messages, front, back, Stands, stands_in_lem, taken_out, taken_out_add, edited_nothing, added_two}
use Rattle.linearizability.proofs.SwitchLaws.{top_low}
use Rattle.linearizability.proofs.Invariant.{ReplicasHold, Placed, Books, SwitchHolds, one_chain, only, ChainCore, ChainFine, Good, Then, order_stays, Keeps, placed_by, posted_lost, posted_add}

-- the invariant, from what the list then holds
pub good_of : {k : Machine} {h : History} {es : List Entry} (issued log : List Write) (n : ℕ) (ms : List Message) → messages k.waiting ≡ ms
    → ChainCore h es issued log n ms (committed_in k.switch) k.opens → Logged one_chain issued log 0 n → ReplicasHold k.store log n
    → ((p : Message) → p ∈ ms → Placed k.store p)
    → Books k.opens h → counter_in k.switch + unstamped ms ≤ last_given k.opens → SwitchHolds issued k.switch → waiting.Exact k.waiting → Good k h es
good_of issued log n ms e c l s p b u z x =
    record { issued = issued; log = log; n = n; core = rw e c; logged = l; replicas = s; posted = rw e p; books = b; counted = rw e u; switch_holds = z; exact = x }

-- the chain shows the first n' writes of its log, and sends for the new ones
pub chain_outcome : {h : History} {es : List Entry} {issued log : List Write} {n c : ℕ} {ms : List Message} {opens : List ℕ} → ChainCore h es issued log n ms c opens
    → Logged one_chain issued log 0 n → (n' : ℕ) → n ≤ n' → (sent : List Message) → Sent (slice n n' log) sent
    → ChainCore h (shows es (slice n n' log)) issued log n' (ms ++ sent) c opens
chain_outcome {log} {n} k l n' g sent s =
    core_outcome k {shown' = only (take n' log)} 0 (slice n n' log) (slice_is l n' g) others (slice_rising l n' g) (slice_issued l n' g) (slice_chain l n' g) sent s
  where
    others : (e : ℕ) → (e ≡ 0 → ⊥) → only (take n' log) e ≡ only (take n log) e
    others zero q = absurd (q refl)
    others (suc e) q = refl

-- the reply and the completion of a write are for no replica
pub answer_placed : (s : List ℕ) (w : Write) (q : Message) → q ∈ Reply w.operation w.value 0 no_freshness ∷ Completion w.object w.stamp ∷ [] → Placed s q
answer_placed s w q j = elim (cases_cons j) [ inl e ↦ rw e (tt, omega arith) | inr i ↦ rw (only-member i) (tt, omega arith) ]

-- the writes that become visible when n' are and n were
pub made_visible_lem : (s t : List ℕ) {n n' : ℕ} → visible_count s ≡ n → visible_count t ≡ n' → made_visible s t ≡ entries t n (n' - n)
unfolding made_visible
made_visible_lem s t p q = rw (p, q) refl

-- another store, which shows the same, and the list as it was
pub good_store : {m : Machine} {h : History} {es : List Entry} (g : Good m h es) (t : List ℕ) → ReplicasHold t g.log g.n → Keeps m.store t
    → Good (machine m.switch t m.opens (edited m.waiting no_edit)) h es
good_store {m} g t s e =
    good_of g.issued g.log g.n (messages m.waiting) (ap messages (edited_nothing m.waiting)) g.core g.logged s
    (λ q i. placed_by e q (g.posted q i)) g.books g.counted g.switch_holds (waiting.exact_edited m.waiting no_edit g.exact)

-- another store, in which one more write of the log is visible, and its reply and its completion at the end of the list
pub good_shown : {m : Machine} {h : History} {es : List Entry} (g : Good m h es) → waiting.Roomy m.waiting → (t : List ℕ) (w : Write) → ReplicasHold t g.log (suc g.n) → Keeps m.store t
    → suc g.n ≤ length g.log → slice g.n (suc g.n) g.log ≡ w ∷ [] → made_visible m.store t ≡ slice g.n (suc g.n) g.log → overfull (held m.waiting) 0 2 ≡ false
    → Good (machine m.switch t m.opens (edited m.waiting (sending w))) h (shows es (made_visible m.store t))
good_shown {m} {h} {es} g wide t w s keeps long one shown roomy =
    let sent : List Message = Reply w.operation w.value 0 no_freshness ∷ Completion w.object w.stamp ∷ [] in
    rw shown
    (good_of g.issued g.log (suc g.n) (messages m.waiting ++ sent)
    (added_two m.waiting wide g.exact (Reply w.operation w.value 0 no_freshness) (Completion w.object w.stamp) roomy)
    (chain_outcome g.core g.logged (suc g.n) (omega arith) sent (inr (w, one, refl))) (logged_show g.logged (suc g.n) long) s
    (λ q i. placed_by keeps q (elim (cases_append (messages m.waiting) i) [ inl j ↦ g.posted q j | inr j ↦ answer_placed m.store w q j ]))
    g.books (omega (arith, g.counted, unstamped_append (messages m.waiting) sent)) g.switch_holds (waiting.exact_edited m.waiting _ g.exact))

-- writes that were stamped are to objects that there are
pub issued_small : {m : Machine} {h : History} {es : List Entry} (g : Good m h es) (w : Write) → w ∈ g.issued → w.object < 1024
issued_small g w i = g.books.ranged w.operation (writes w.object w.value) (g.core.visible.meant w i)

pub log_small : {m : Machine} {h : History} {es : List Entry} (g : Good m h es) → Small g.log
log_small g w i = issued_small g w (g.logged.of_issued w i)

-- an operation other than the one that finishes stays unfinished
pub unfinished_other : {h : History} {o p : ℕ} {vs : List ℕ} → (p ≡ o → ⊥) → Unfinished h p → Unfinished (finished o vs ∷ h) p
unfinished_other n u f = elim (cases_cons f.1) [ inl e ↦ n (cc) | inr t ↦ u (f.0, t) ]

-- the books when an operation is open no more, and when it finishes
module _ {opens : List ℕ} {h : History} (o : ℕ) (still : is_open opens o ≡ true) (b : Books opens h) where
  pub books_closed : Books (closing opens o) h
  books_closed = record {
    open_numbers_lem = counted_closing b.open_numbers_lem o still;
    opened = λ p e. b.opened p (open_after_closing opens o b.open_numbers_lem.sized still b.open_numbers_lem.once p e).0;
    numbered = last_closing opens o b.open_numbers_lem.sized still ∙ b.numbered;
    few = rw (last_closing opens o b.open_numbers_lem.sized still) b.few;
    bounded = b.bounded;
    ranged = b.ranged;
    ends_once = b.ends_once;
  }

  books_finish : (vs : List ℕ) → Books (closing opens o) (finished o vs ∷ h)
  books_finish vs = record {
    open_numbers_lem = books_closed.open_numbers_lem;
    opened = λ p e.
        let t = open_after_closing opens o b.open_numbers_lem.sized still b.open_numbers_lem.once p e in
        let was = b.opened p t.0 in
        ((was.0.0, there was.0.1), unfinished_other t.1 was.1);
    numbered = books_closed.numbered;
    few = books_closed.few;
    bounded = λ p q. b.bounded p (q.0, older q.1 begun_not_finished);
    ranged = λ p k i. b.ranged p k (older i begun_not_finished);
    ends_once = ((b.opened o still).1, b.ends_once);
  }

-- the books where the cells behind the open operations changed
pub books_same : {opens opens' : List ℕ} {h : History} → SameOpens opens opens' → SizedOpens opens' → Books opens h → Books opens' h
books_same s z b = record {
  open_numbers_lem = counted_same s z b.open_numbers_lem;
  opened = λ o e. b.opened o (sym (same_open s o) ∙ e);
  numbered = same_last s ∙ b.numbered;
  few = rw (same_last s) b.few;
  bounded = b.bounded;
  ranged = b.ranged;
  ends_once = b.ends_once;
}

-- no visible write has a stamp above the last that the switch gave
pub visible_given : {m : Machine} {h : History} {es : List Entry} (g : Good m h es) → top 0 (take g.n g.log) ≤ stamp_of (number_in m.switch) (counter_in m.switch)
visible_given {m} g = top_low (stamp_of (number_in m.switch) (counter_in m.switch)) 0 (take g.n g.log) (omega arith)
    (λ w i. g.switch_holds.given w (g.logged.of_issued w (in_take g.n g.log i)))

-- so a stamp that is not above them bears the present switch's number or a former one's
pub not_later : {m : Machine} {h : History} {es : List Entry} (g : Good m h es) (t : ℕ) → t ≤ top 0 (take g.n g.log) → number_of t ≤ number_in m.switch
unfolding number_of stamp_of
not_later {m} g t low = omega (arith, low, visible_given g, g.counted, g.books.few)

-- the message that stands at a position is delivered
module _ {m : Machine} {h : History} {es : List Entry} (g : Good m h es) {at : ℕ} (choice : ℕ) {msg : Message} (i : Stands m.waiting at msg) where
  -- what is left of the list, and of the invariant, without the message
  unfoldable pub rest : List Message
  rest = front at m.waiting ++ back at m.waiting

  pub whole : ChainCore h es g.issued g.log g.n (front at m.waiting ++ msg ∷ back at m.waiting) (committed_in m.switch) m.opens
  whole = subst (λ (l : List Message). ChainCore h es g.issued g.log g.n l (committed_in m.switch) m.opens) i.split g.core

  pub fine : ChainFine h es g.issued g.log g.n m.opens msg
  fine = g.core.packets.fine msg (stands_in_lem i)

  pub placed : Placed m.store msg
  placed = g.posted msg (stands_in_lem i)

  pub lost : ChainCore h es g.issued g.log g.n rest (committed_in m.switch) m.opens
  unfolding rest
  lost = core_lose (front at m.waiting) msg (back at m.waiting) whole

  pub others : (q : Message) → q ∈ rest → Placed m.store q
  unfolding rest
  others = posted_lost m.store (front at m.waiting) msg (back at m.waiting) (subst (λ (l : List Message). (q : Message) → q ∈ l → Placed m.store q) i.split g.posted)

  pub fewer : counter_in m.switch + unstamped_one msg + unstamped rest ≤ last_given m.opens
  unfolding rest
  fewer = omega (arith, g.counted, ap unstamped i.split, unstamped_lost (front at m.waiting) msg (back at m.waiting))

  -- the invariant after the delivery, of its outcome
  abbrev pub After : Outcome → Type 0
  After u = Then (Deliver at choice) m h es u

  -- the message is dropped, and the switch may change
  pub good_switched : (w : List ℕ) → ChainCore h es g.issued g.log g.n rest (committed_in w) m.opens → counter_in w ≤ counter_in m.switch → SwitchHolds g.issued w
      → After (changing_switch (given_by m) (switched (dropping at) w))
  unfolding dropping rest
  good_switched w k c z =
      rw (order_stays m.store m.store es refl)
      (good_of g.issued g.log g.n rest (taken_out m.waiting i) k g.logged g.replicas others g.books (omega (arith, c, fewer)) z
      (waiting.exact_edited m.waiting (take_out at) g.exact))

  pub good_dropped : After (keeping (given_by m) (dropping at))
  good_dropped = good_switched m.switch lost (omega arith) g.switch_holds

  -- another message comes of it
  pub good_passed : (w : List ℕ) (q : Message) (issued : List Write) → ChainCore h es issued g.log g.n (rest ++ q ∷ []) (committed_in w) m.opens
      → Logged one_chain issued g.log 0 g.n → Placed m.store q → unstamped_one q ≡ 0 → counter_in w ≤ counter_in m.switch + unstamped_one msg → SwitchHolds issued w
      → After (changing_switch (given_by m) (switched (passing at q) w))
  unfolding passing rest
  good_passed w q issued k l p u c z =
      rw (order_stays m.store m.store es refl)
      (good_of issued g.log g.n (rest ++ q ∷ []) (taken_out_add m.waiting i q) k l g.replicas
      (posted_add m.store rest q others p) g.books (omega (arith, c, u, fewer, unstamped_append rest (q ∷ []))) z
      (waiting.exact_edited m.waiting _ g.exact))

  -- so where the switch stays
  pub good_answered : (q : Message) → ChainCore h es g.issued g.log g.n (rest ++ q ∷ []) (committed_in m.switch) m.opens → Placed m.store q
      → unstamped_one q ≡ 0 → After (keeping (given_by m) (passing at q))
  good_answered q k p u = good_passed m.switch q g.issued k g.logged p u (omega arith) g.switch_holds

  -- a message of which the core allows it
  pub good_sent : (q : Message) → ChainFine h es g.issued g.log g.n m.opens q → ((o : ℕ) → Asks q o → ⊥) → ((r : ℕ) → Names q r → ⊥)
      → Placed m.store q
      → After (keeping (given_by m) (passing at q))
  good_sent q f a b p = good_answered q (core_add lost q f a b) p (asks_none q a)

  -- ---- the message names row r, which alone may change

  module _ (r : ℕ) (names : Names msg r) (opens' : List ℕ) (same : (s : ℕ) → Apart r s → context_at opens' s ≡ context_at m.opens s)
      (open-same : SameOpens m.opens opens') (sized : SizedOpens opens') where
    -- it is dropped
    good_left : After (changing_opens (given_by m) (opened (dropping at) opens'))
    unfolding dropping rest
    good_left =
        rw (order_stays m.store m.store es refl)
        (good_of g.issued g.log g.n rest (taken_out m.waiting i)
        (core_leave (front at m.waiting) msg (back at m.waiting) whole r names same) g.logged g.replicas others
        (books_same open-same sized g.books) (omega (arith, fewer, same_last open-same)) g.switch_holds (waiting.exact_edited m.waiting (take_out at) g.exact))

    -- another message that names the row comes of it
    good_turned : (q : Message) → ChainFine h es g.issued g.log g.n opens' q → ((o : ℕ) → Asks q o → ⊥) → ((s : ℕ) → Names q s → s ≡ r)
        → is_count (size_at opens' r) ≡ true → Placed m.store q → After (changing_opens (given_by m) (opened (passing at q) opens'))
    unfolding passing rest
    good_turned q f a only held p =
        rw (order_stays m.store m.store es refl)
        (good_of g.issued g.log g.n (rest ++ q ∷ []) (taken_out_add m.waiting i q)
        (core_turn (front at m.waiting) msg (back at m.waiting) whole r names same q f a only held) g.logged g.replicas
        (posted_add m.store rest q others p) (books_same open-same sized g.books)
        (omega (arith, fewer, same_last open-same, unstamped_append rest (q ∷ []), asks_none q a)) g.switch_holds
        (waiting.exact_edited m.waiting _ g.exact))

  -- the row is freed
  pub good_freed : (r : ℕ) → Names msg r → After (changing_opens (given_by m) (dropping_row m.opens at r))
  unfolding dropping_row
  good_freed r names =
      good_left r names (freeing m.opens r) (freed_apart m.opens r) (opens_freeing m.opens r) (sized_freeing m.opens r g.books.open_numbers_lem.sized)

  -- the row stays
  pub good_moved : (r : ℕ) → Names msg r → (q : Message) → ChainFine h es g.issued g.log g.n m.opens q → ((o : ℕ) → Asks q o → ⊥)
      → ((s : ℕ) → Names q s → s ≡ r) → Placed m.store q → After (changing_opens (given_by m) (opened (passing at q) m.opens))
  good_moved r names q f a only p =
      good_turned r names m.opens (λ s n. refl) same_self g.books.open_numbers_lem.sized q f a only (g.core.packets.used msg r (stands_in_lem i) names) p

  -- replica q answers with its values of the objects of the row
  pub good_values : (r : ℕ) → Names msg r → (q o : ℕ) → AnsweredContext h es o (map (value_at m.store q) (row_numbers m.opens r))
      → After (changing_opens (given_by m) (answering_context m.store m.opens at q o r))
  unfolding answering_context mapped
  good_values r names q o f =
      let l = m.opens in
      let v = mapped (value_at m.store q) (context_at l r) in
      let z = g.books.open_numbers_lem.sized in
      good_turned r names (holding l r v) (context_apart l r v) (opens_holding l r v) (sized_holding l r v z) (ContextReply o r)
      (subst (AnsweredContext h es o) (sym (numbers_held l r v z ∙ numbers_mapped (value_at m.store q) (context_at l r))) f) (λ p a. a) (λ s e. sym e)
      (ap is_count (size_held l r v z ∙ size_is l r) ∙ g.core.packets.used msg r (stands_in_lem i) names) (tt, omega arith)

  -- ---- a reply finishes its operation

  pub good_finished : (o v c f : ℕ) → msg ≡ Reply o v c f → is_open m.opens o ≡ true → After (changing_opens (given_by m) (reply m.opens at o v f))
  unfolding rest reply
  good_finished o v c f e still =
      rw still
      (rw (order_stays m.store m.store es refl)
      (good_of g.issued g.log g.n rest (taken_out m.waiting i)
      (core_rows (core_finishes lost o v c f (subst (ChainFine h es g.issued g.log g.n m.opens) e fine) (g.books.opened o still).1)
      (λ q j r n. context_closing m.opens o r))
      g.logged g.replicas others (books_finish o still g.books (v ∷ [])) (omega (arith, fewer, last_closing m.opens o g.books.open_numbers_lem.sized still)) g.switch_holds
      (waiting.exact_edited m.waiting _ g.exact)))

  pub good_context : (o r : ℕ) → msg ≡ ContextReply o r → is_open m.opens o ≡ true
      → After (changing_opens (given_by m) (opened (record { answer = FinishedContext o (context_at m.opens r); edit = take_out at }) (freeing (closing m.opens o) r)))
  unfolding rest
  good_context o r e still =
      let l = closing m.opens o in
      let names : Names msg r = subst (λ (q : Message). Names q r) (sym e) refl in
      let agree : (s : ℕ) → Apart r s → context_at (freeing l r) s ≡ context_at m.opens s = λ s n. freed_apart l r s n ∙ context_closing m.opens o s in
      let closed = books_finish o still g.books (row_numbers m.opens r) in
      rw (order_stays m.store m.store es refl)
      (good_of g.issued g.log g.n rest (taken_out m.waiting i)
      (context_finishes (core_leave (front at m.waiting) msg (back at m.waiting) whole r names agree) o (row_numbers m.opens r)
      (subst (ChainFine h es g.issued g.log g.n m.opens) e fine) (g.books.opened o still).1)
      g.logged g.replicas others (books_same (opens_freeing l r) (sized_freeing l r closed.open_numbers_lem.sized) closed)
      (omega (arith, fewer, last_closing m.opens o g.books.open_numbers_lem.sized still, same_last (opens_freeing l r))) g.switch_holds
      (waiting.exact_edited m.waiting _ g.exact))

  -- a reply of an operation that is not open is ignored
  pub good_ignored : (o v f : ℕ) → is_open m.opens o ≡ false → After (changing_opens (given_by m) (reply m.opens at o v f))
  unfolding reply
  good_ignored o v f e = rw e good_dropped
