-- What a step can do, part by part, whatever the machine's lists hold: the one walk through every message and every step. What holds of all steps follows by the few cases of the part that
-- it speaks of.
use mathlib.Core.Path.{◌≡◌, refl, sym, ap, ◌∙◌}
use mathlib.Core.Bool.{Bool, true, false, cond}
use mathlib.Core.List.{List, [], ◌∷◌}
use Prim.Native.Nat.{ℕ, ◌+◌, ◌≤◌, ◌<◌}
use native.Mathlib.Omega.{arith}
use lib.Dec.{eqb, leb, ltb, when}
use lib.ListN.{length}
use borrow.Author.Tests.{eqb-true, eqb-false, leb-false, ltb-false, lt-ltb, lt-leb}
use Rattle.limits.specs as limits
use Rattle.lists.proofs.Tests.{untrue, by_test, both, second_passes}
use Rattle.operations.specs.{is_open, last_given, room_to_open, opening, closing}
use Rattle.contexts.specs.declared.Context.{Context}
use Rattle.contexts.specs.declared.Objects.{Objects}
use Rattle.contexts.specs.{context_of, are_objects, are_different, numbers_of, is_count, is_context, context_at, free_row, holding, freeing}
use Rattle.store.specs.declared.Write.{Write}
use Rattle.store.specs.{live_count, is_quorum}
use Rattle.chain.specs.{head_of, place_of, is_member, is_tail, is_read_replica, table_of, all_permit, permitting}
use Rattle.joins.specs.{is_full, is_joining, beginning, copying, handing_on, without}
use Rattle.replicas.specs.Replicas.{next_position, accepts, taking, applying, pending_at, oldest}
use Rattle.quorum.specs.{logged_by, linked_items, logs, count_logged, logging, next_is_entry, next_entry, acknowledging, executes, executing}
use Rattle.switch.specs.Numbers.{number_in}
use Rattle.switch.specs.DirtySet.{marked, stamp_for, completed, new_switch}
use Rattle.waiting.specs.declared.Edit.{Edit}
use Rattle.waiting.specs.declared.Packet.{Packet}
use Rattle.waiting.specs.Waiting.{look_at}
use Rattle.protocol.specs.declared.Refusal.{Refusal}
use Rattle.protocol.specs.declared.Refusal.TheVariants.{Format, ObjectNumber, OperationsUsedUp, OpenFull, WaitingFull, NoPacket, UnstampedRepeat, NotLive, NoLinkedWrite, SwitchNumber, LastReplica, NotOpen, BufferTooShort, SameObject, ChainFull, JoinUnderWay, NoJoin, WrongStore, NothingToExecute}
use Rattle.protocol.specs.declared.Answer.{Answer}
use Rattle.protocol.specs.declared.Answer.TheVariants.{Done, Finished, FinishedContext, Refused}
use Rattle.protocol.specs.declared.Message.{Message}
use Rattle.protocol.specs.declared.Message.TheVariants.{UnstampedWrite, SwitchRead, StampedWrite, DirectRead, NormalRead, Completion, Reply, ContextRead, DirectContext, NormalContext, ContextReply, Acknowledgement, Unknown}
use Rattle.protocol.specs.declared.Decision.{Decision}
use Rattle.protocol.specs.declared.Step.{Step}
use Rattle.protocol.specs.declared.Step.TheVariants.{Start, BeginRead, BeginWrite, Deliver, Lose, Repeat, Advance, Replace, Tell, Remove, GiveUp, BeginContext, Join, Copy, Execute}
use Rattle.protocol.specs.Answers.{refusal_number, is_accepted}
use Rattle.protocol.specs.Roles.{Role, Reads, Writes, Delivers, Loses, Repeats, GivesUp, Removes, Copies, Other, role_of, position_as}
use Rattle.protocol.specs.Messages.{packet_of, message_of, context_message, is_unstamped, is_of_context, is_context_reply, in_row}
use Rattle.protocol.specs.Reads.{goes_directly, answers_read}
use Rattle.protocol.specs.Contexts.{has_row, released, leaving, dropping_row, context_read, answering_context, direct_context, normal_context, context_reply}
use Rattle.protocol.specs.Decisions.{Given, Outcome, Switched, Stored, Opened, switched, stored, opened, keeping, changing_switch, changing_store, changing_opens}
use Rattle.protocol.specs.Decisions.{no_edit, take_out, take_out_add, add_one, deciding, refusing, dropping, passing, overfull}
use Rattle.protocol.specs.Delivery.{answering, stamping, unstamped_write, switch_read, chain_write, leader_write, stamped_write, acknowledgement, direct_read, normal_read, completion, reply, delivered_message}
use Rattle.protocol.specs.Steps.{Machine, given_by, outcome_of, position_of, is_malformed, decided, decided_in, asking, begin_operation, begin_context, is_sound, delivered, lost, copied, repeated, sending, chain_advancing, follower_advancing, advancing, executing_on, replacing, telling, removing, joining, copying_on, giving_up, answer_to}

-- what a message is to the list of those that wait: the unstamped write of an operation; a stamped write for a replica; one that names a row; a follower's acknowledgement; or none of these
pub data Sort : Type 0 where
  Unstamped : ℕ → Sort
  Stamped : ℕ → Sort
  OfRow : ℕ → Sort
  Acknowledges : ℕ → ℕ → Sort
  Plain : Sort

abbrev pub sort_of : Message → Sort
sort_of (UnstampedWrite o x v) = Unstamped o
sort_of (SwitchRead o x) = Plain
sort_of (StampedWrite r w) = Stamped r
sort_of (DirectRead r number c o x) = Plain
sort_of (NormalRead r o x c) = Plain
sort_of (Completion x t) = Plain
sort_of (Reply o v c f) = Plain
sort_of (ContextRead o r) = OfRow r
sort_of (DirectContext q number c o r) = OfRow r
sort_of (NormalContext q o r) = OfRow r
sort_of (ContextReply o r) = OfRow r
sort_of (Acknowledgement q k) = Acknowledges q k
sort_of Unknown = Plain

abbrev pub SortNames : Sort → ℕ → Type 0
SortNames (Unstamped o) s = ⊥
SortNames (Stamped r) s = ⊥
SortNames (OfRow r) s = r ≡ s
SortNames (Acknowledges q k) s = ⊥
SortNames Plain s = ⊥

-- the message names row s
abbrev pub Names : Message → ℕ → Type 0
Names q s = SortNames (sort_of q) s

-- and no other
pub one_row : (q : Message) (s t : ℕ) → Names q s → Names q t → s ≡ t
one_row q s t = go (sort_of q)
  where
    go : (k : Sort) → SortNames k s → SortNames k t → s ≡ t
    go (Unstamped o) a b = absurd a
    go (Stamped r) a b = absurd a
    go (OfRow r) a b = sym a ∙ b
    go (Acknowledges q k) a b = absurd a
    go Plain a b = absurd a

-- the step is a delivery
abbrev pub IsDeliver : Step → Type 0
IsDeliver x = (at : ℕ) × (choice : ℕ) × (x ≡ Deliver at choice)

-- a step in this role takes a packet out, if it is accepted
abbrev pub takes_as : Role → Answer → Bool
takes_as (Reads xs) a = false
takes_as (Writes x v) a = false
takes_as (Delivers at) a = is_accepted a
takes_as (Loses at) a = is_accepted a
takes_as (Repeats at) a = false
takes_as (GivesUp o) a = false
takes_as (Removes r) a = false
takes_as Copies a = false
takes_as Other a = false

-- the numbers of a step's refusals: 1, 3 to 13, 15 to 19, 23 and 24
abbrev pub is_step_number : ℕ → Bool
is_step_number n = cond (eqb n 1) true (cond (leb 23 n) (leb n 24) (cond (leb 15 n) (leb n 19) (cond (leb 3 n) (leb n 13) false)))

-- ---- what a step x can do to each part; p is the packet at its position, and q the message that p holds

-- the switch
pub data SwitchEffect (q : Message) (x : Step) (w : List ℕ) : List ℕ → Type 0 where
  switch_kept : SwitchEffect q x w w
  marks : (at choice o y v : ℕ) → x ≡ Deliver at choice → q ≡ UnstampedWrite o y v → SwitchEffect q x w (marked w y)
  completes : (at choice y t : ℕ) → x ≡ Deliver at choice → q ≡ Completion y t → SwitchEffect q x w (completed w y t)
  replaces : (number : ℕ) → x ≡ Replace number → SwitchEffect q x w (new_switch number)

-- its link holds an item
abbrev pub Linked : List ℕ → ℕ → Type 0
Linked s r = eqb (linked_items s (table_of s r)) 0 ≡ false

-- the replicas
pub data StoreEffect (k : Role) (s : List ℕ) : List ℕ → Type 0 where
  store_kept : StoreEffect k s s
  permits : (r number : ℕ) → is_member s r ≡ true → StoreEffect k s (permitting s (table_of s r) number)
  -- of a chain
  takes : (r : ℕ) (w : Write) → is_quorum s ≡ false → is_member s r ≡ true → StoreEffect k s (taking s (table_of s r) w)
  takes_as_tail : (r : ℕ) (w : Write) → is_quorum s ≡ false → is_member s r ≡ true → StoreEffect k s (handing_on (taking s (table_of s r) w) w)
  applies : (r : ℕ) (w : Write) → is_quorum s ≡ false → is_member s r ≡ true → StoreEffect k s (applying s (table_of s r) w)
  applies_as_tail : (r : ℕ) (w : Write) → is_quorum s ≡ false → is_member s r ≡ true → StoreEffect k s (handing_on (applying s (table_of s r) w) w)
  removes : (r : ℕ) → is_quorum s ≡ false → k ≡ Removes r → is_member s r ≡ true → StoreEffect k s (without s r)
  joins : is_quorum s ≡ false → is_full s ≡ false → is_joining s ≡ false → StoreEffect k s (beginning s)
  copies : is_quorum s ≡ false → k ≡ Copies → is_joining s ≡ true → StoreEffect k s (copying s)
  -- Req 11: of a quorum store
  leader_logs : (w : Write) → is_quorum s ≡ true → logs s w.stamp ≡ true → StoreEffect k s (logging s w)
  leader_hears : (r n : ℕ) → is_quorum s ≡ true → is_member s r ≡ true → StoreEffect k s (acknowledging s (table_of s r) n)
  follower_logs : (r : ℕ) → is_quorum s ≡ true → is_member s r ≡ true → Linked s r → next_is_entry s (table_of s r) ≡ true → StoreEffect k s (count_logged s (table_of s r))
  follower_executes : (r : ℕ) → is_quorum s ≡ true → is_member s r ≡ true → Linked s r → next_is_entry s (table_of s r) ≡ false
      → StoreEffect k s (applying s (table_of s r) (next_entry s (table_of s r)))
  leader_executes : is_quorum s ≡ true → executes s ≡ true → StoreEffect k s (executing s)

-- no operation begins, finishes or is given up
pub data Quiet : Role → Answer → Type 0 where
  turned_down : (k : Role) (r : Refusal) → Quiet k (Refused r)
  delivers : (at : ℕ) → Quiet (Delivers at) Done
  loses : (at : ℕ) → Quiet (Loses at) Done
  repeats : (at : ℕ) → Quiet (Repeats at) Done
  removal : (r : ℕ) → Quiet (Removes r) Done
  copy : Quiet Copies Done
  other : Quiet Other Done

-- the open operations, with the answer that tells of it
pub data OpensEffect (k : Role) (l : List ℕ) : Answer → List ℕ → Type 0 where
  quiet : {a : Answer} → Quiet k a → OpensEffect k l a l
  begins_read : (xs : List ℕ) → k ≡ Reads xs → room_to_open l ≡ true → OpensEffect k l Done (opening l (last_given l + 1))
  begins_write : (y v : ℕ) → k ≡ Writes y v → room_to_open l ≡ true → OpensEffect k l Done (opening l (last_given l + 1))
  finishes : (at o v f : ℕ) → k ≡ Delivers at → is_open l o ≡ true → OpensEffect k l (Finished o v f) (closing l o)
  finishes_context : (at o : ℕ) (v : Context) → k ≡ Delivers at → is_open l o ≡ true → OpensEffect k l (FinishedContext o v) (closing l o)
  gives_up : (o : ℕ) → k ≡ GivesUp o → is_open l o ≡ true → OpensEffect k l Done (closing l o)

-- then the rows of contexts, with the edit e of the waiting list
pub data RowEffect (p : Packet) (q : Message) (held : ℕ) (e : Edit) (l : List ℕ) : List ℕ → Type 0 where
  rows_kept : ((r : ℕ) → e.take ≡ true → Names q r → ⊥) → RowEffect p q held e l l
  row_passed : (at r : ℕ) (q' : Message) → at < held → Names q r → Names q' r → e ≡ take_out_add at (packet_of q') → RowEffect p q held e l l
  row_answered : (at r : ℕ) (v : Context) (q' : Message) → at < held → Names q r → Names q' r → e ≡ take_out_add at (packet_of q') → RowEffect p q held e l (holding l r v)
  row_freed : (r : ℕ) → Names q r → RowEffect p q held e l (freeing l r)
  row_released : RowEffect p q held e l (released l p)
  row_given : (r : ℕ) (v : Context) (q' : Message) → overfull held 0 1 ≡ false → Names q' r → e ≡ add_one (packet_of q') → RowEffect p q held e l (holding l r v)
  row_copied : (r : ℕ) (v : Context) → overfull held 0 1 ≡ false → is_of_context p ≡ true → e ≡ add_one (in_row p r) → RowEffect p q held e l (holding l r v)

-- the oldest write of a live replica's incoming link
abbrev pub Oldest : List ℕ → Write → Type 0
Oldest s w = (r : ℕ) × (is_member s r ≡ true) × (eqb (pending_at s (place_of s r) (table_of s r)) 0 ≡ false) × (w ≡ oldest s (table_of s r))

-- the edit of the waiting list
pub data EditEffect (p : Packet) (k : Role) (s : List ℕ) (held : ℕ) : Answer → Edit → Type 0 where
  edits_nothing : {a : Answer} → takes_as k a ≡ false → EditEffect p k s held a no_edit
  takes_out_lem : {a : Answer} → takes_as k a ≡ true → position_as k < held → EditEffect p k s held a (take_out (position_as k))
  turns_into : (q : Message) → (packet_of q).object < limits.objects → takes_as k Done ≡ true → position_as k < held → EditEffect p k s held Done (take_out_add (position_as k) (packet_of q))
  answers_write : (w : Write) → w.object < limits.objects → takes_as k Done ≡ true → position_as k < held → overfull held 1 2 ≡ false → EditEffect p k s held Done (answering (position_as k) w)
  adds_new : (q : Message) → (packet_of q).object < limits.objects → takes_as k Done ≡ false → overfull held 0 1 ≡ false → EditEffect p k s held Done (add_one (packet_of q))
  adds_copy : (f : Packet) → f.object ≡ p.object → position_as k < held → takes_as k Done ≡ false → overfull held 0 1 ≡ false → EditEffect p k s held Done (add_one f)
  sends_executed : (w : Write) → is_quorum s ≡ true → executes s ≡ true → w ≡ next_entry s (head_of s) → takes_as k Done ≡ false → overfull held 0 2 ≡ false
      → EditEffect p k s held Done (sending w)
  sends_write : (w : Write) → is_quorum s ≡ false → Oldest s w → takes_as k Done ≡ false → overfull held 0 2 ≡ false → EditEffect p k s held Done (sending w)

-- the answer: what finishes an operation is the delivery of its reply, and changes the open operations alone; a refusal has one of the numbers, and leaves all as it was
abbrev pub AnswerEffect : Given → Message → Step → Outcome → Answer → Type 0
AnswerEffect g q x u Done = Unit {0}
AnswerEffect g q x u (Finished o v f) = IsDeliver x × (position_as (role_of x) < g.held) × (is_open g.opens o ≡ true) × (u.store ≡ g.store) × (c : ℕ) × (q ≡ Reply o v c f)
AnswerEffect g q x u (FinishedContext o v) =
    IsDeliver x × (position_as (role_of x) < g.held) × (is_open g.opens o ≡ true) × (u.store ≡ g.store) × (is_count v.count ≡ true) × (r : ℕ) × (q ≡ ContextReply o r)
AnswerEffect g q x u (Refused r) = when (is_step_number (refusal_number r)) (u ≡ keeping g (refusing r))

pub record Effect (g : Given) (p : Packet) (q : Message) (x : Step) (u : Outcome) : Type 0 where
  pub switch : SwitchEffect q x g.switch u.switch
  pub store : StoreEffect (role_of x) g.store u.store
  -- the open operations, before the rows change
  pub between : List ℕ
  pub opens : OpensEffect (role_of x) g.opens u.decision.answer between
  pub rows : RowEffect p q g.held u.decision.edit between u.opens
  pub edit : EditEffect p (role_of x) g.store g.held u.decision.answer u.decision.edit
  pub answer : AnswerEffect g q x u u.decision.answer

-- ---- the walk

never : (k : Role) (r : Refusal) → takes_as k (Refused r) ≡ false
never (Reads xs) r = refl
never (Writes x v) r = refl
never (Delivers at) r = refl
never (Loses at) r = refl
never (Repeats at) r = refl
never (GivesUp o) r = refl
never (Removes a) r = refl
never Copies r = refl
never Other r = refl

-- a refusal
refused : (g : Given) (p : Packet) (q : Message) (x : Step) (r : Refusal) → is_step_number (refusal_number r) ≡ true → Effect g p q x (keeping g (refusing r))
unfolding refusing
refused g p q x r n = record {
  switch = switch_kept;
  store = store_kept;
  between = g.opens;
  opens = quiet (turned_down (role_of x) r);
  rows = rows_kept (λ s t. untrue t);
  edit = edits_nothing (never (role_of x) r);
  answer = rw n refl;
}

-- ---- a delivery

module _ (g : Given) (p : Packet) (at choice : ℕ) (inside : at < g.held) where
  abbrev x : Step
  x = Deliver at choice

  abbrev Delivering : Message → Outcome → Type 0
  Delivering q u = Effect g p q x u

  -- the packet goes; only the switch and the store may change, and it names no row
  gone : (q : Message) → ((r : ℕ) → Names q r → ⊥) → (w s : List ℕ) → SwitchEffect q x g.switch w → StoreEffect (role_of x) g.store s
      → Delivering q (record { decision = dropping at; switch = w; store = s; opens = g.opens })
  unfolding dropping
  gone q none w s a b = record {
    switch = a;
    store = b;
    between = g.opens;
    opens = quiet (delivers at);
    rows = rows_kept (λ r t. none r);
    edit = takes_out_lem refl inside;
    answer = tt;
  }

  dropped : (q : Message) → ((r : ℕ) → Names q r → ⊥) → Delivering q (keeping g (dropping at))
  dropped q none = gone q none g.switch g.store switch_kept store_kept

  -- another message comes of it
  turned : (q : Message) → ((r : ℕ) → Names q r → ⊥) → (q' : Message) → (packet_of q').object < limits.objects → (w : List ℕ) → SwitchEffect q x g.switch w
      → Delivering q (record { decision = passing at q'; switch = w; store = g.store; opens = g.opens })
  unfolding passing
  turned q none q' small w a = record {
    switch = a;
    store = store_kept;
    between = g.opens;
    opens = quiet (delivers at);
    rows = rows_kept (λ r t. none r);
    edit = turns_into q' small refl inside;
    answer = tt;
  }

  passed : (q : Message) → ((r : ℕ) → Names q r → ⊥) → (q' : Message) → (packet_of q').object < limits.objects → Delivering q (keeping g (passing at q'))
  passed q none q' small = turned q none q' small g.switch switch_kept

  -- a message of a context goes, and its row is free
  freed : (q : Message) (r : ℕ) → Names q r → Delivering q (changing_opens g (dropping_row g.opens at r))
  unfolding dropping_row dropping
  freed q r names = record {
    switch = switch_kept;
    store = store_kept;
    between = g.opens;
    opens = quiet (delivers at);
    rows = row_freed r names;
    edit = takes_out_lem refl inside;
    answer = tt;
  }

  -- another message of the row comes of it
  moved : (q : Message) (r : ℕ) → Names q r → (q' : Message) → Names q' r → (packet_of q').object < limits.objects → Delivering q (changing_opens g (opened (passing at q') g.opens))
  unfolding passing
  moved q r names q' names' small = record {
    switch = switch_kept;
    store = store_kept;
    between = g.opens;
    opens = quiet (delivers at);
    rows = row_passed at r q' inside names names' refl;
    edit = turns_into q' small refl inside;
    answer = tt;
  }

  filled : (q : Message) (a o r : ℕ) → Names q r → Delivering q (changing_opens g (answering_context g.store g.opens at a o r))
  unfolding passing answering_context packet_of
  filled q a o r names = record {
    switch = switch_kept;
    store = store_kept;
    between = g.opens;
    opens = quiet (delivers at);
    rows = row_answered at r _ (ContextReply o r) inside names refl refl;
    edit = turns_into (ContextReply o r) (omega arith) refl inside;
    answer = tt;
  }

  ends : (o v t f : ℕ) → is_open g.opens o ≡ true
      → Delivering (Reply o v t f) (changing_opens g (opened (record { answer = Finished o v f; edit = take_out at }) (closing g.opens o)))
  ends o v t f still = record {
    switch = switch_kept;
    store = store_kept;
    between = closing g.opens o;
    opens = finishes at o v f refl still;
    rows = rows_kept (λ r t n. n);
    edit = takes_out_lem refl inside;
    answer = ((at, choice, refl), inside, still, refl, t, refl);
  }

  ends_context : (o r : ℕ) → is_open g.opens o ≡ true → is_count (context_at g.opens r).count ≡ true
      → Delivering (ContextReply o r) (changing_opens g (opened (record { answer = FinishedContext o (context_at g.opens r); edit = take_out at }) (freeing (closing g.opens o) r)))
  ends_context o r still counts = record {
    switch = switch_kept;
    store = store_kept;
    between = closing g.opens o;
    opens = finishes_context at o (context_at g.opens r) refl still;
    rows = row_freed r refl;
    edit = takes_out_lem refl inside;
    answer = ((at, choice, refl), inside, still, refl, counts, r, refl);
  }

  -- the lone replica answers the write
  taken_as_tail : (r : ℕ) (w : Write) → w.object < limits.objects → is_quorum g.store ≡ false → is_member g.store r ≡ true → overfull g.held 1 2 ≡ false
      → Delivering (StampedWrite r w) (changing_store g (stored (deciding (answering at w)) (handing_on (taking g.store (table_of g.store r) w) w)))
  taken_as_tail r w small chain member roomy = record {
    switch = switch_kept;
    store = takes_as_tail r w chain member;
    between = g.opens;
    opens = quiet (delivers at);
    rows = rows_kept (λ r t n. n);
    edit = answers_write w small refl inside roomy;
    answer = tt;
  }

  message_effect : (q : Message) → (packet_of q).object < limits.objects → has_row g.opens (packet_of q) ≡ true → Delivering q (delivered_message g at choice q)
  unfolding delivered_message stamping unstamped_write switch_read chain_write leader_write stamped_write acknowledgement direct_read normal_read completion reply context_read direct_context normal_context context_reply packet_of has_row is_of_context is_context_reply
  message_effect (UnstampedWrite o y v) low there =
      let q : Message = UnstampedWrite o y v in
      let marking : SwitchEffect q x g.switch (marked g.switch y) = marks at choice o y v refl refl in
      both (λ (u : Switched). Delivering q (changing_switch g u)) (all_permit g.store (number_in g.switch))
      (both (λ (d : Decision). Delivering q (changing_switch g (switched d (marked g.switch y)))) (eqb (stamp_for g.switch y) 0)
      (gone q (λ r n. n) _ _ marking store_kept) (turned q (λ r n. n) _ low _ marking)) (dropped q (λ r n. n))
  message_effect (SwitchRead o y) low there =
      let q : Message = SwitchRead o y in
      let P : Decision → Type 0 = λ d. Delivering q (keeping g d) in
      both P (goes_directly g.switch (y ∷ [])) (passed q (λ r n. n) _ low) (passed q (λ r n. n) _ low)
  message_effect (StampedWrite r w) low there =
      let q : Message = StampedWrite r w in
      let P : Stored → Type 0 = λ u. Delivering q (changing_store g u) in
      by_test P (is_quorum g.store)
      (λ quorum. by_test (λ (s : List ℕ). P (stored (dropping at) s)) (logs g.store w.stamp) (λ new. gone q (λ r n. n) _ _ switch_kept (leader_logs w quorum new)) (λ old. dropped q (λ r n. n)))
      (λ chain. by_test P (is_member g.store r)
      (λ member. both P (accepts g.store (table_of g.store r) w.stamp)
      (both P (is_tail g.store r)
      (by_test P (overfull g.held 1 2) (λ full. refused g p q x WaitingFull refl) (λ roomy. taken_as_tail r w low chain member roomy))
      (gone q (λ r n. n) _ _ switch_kept (takes r w chain member))) (dropped q (λ r n. n)))
      (λ out. dropped q (λ r n. n)))
  message_effect (DirectRead r number t o y) low there =
      let q : Message = DirectRead r number t o y in
      let P : Decision → Type 0 = λ d. Delivering q (keeping g d) in
      both P (is_member g.store r)
      (both P (answers_read g.store (table_of g.store r) number t (y ∷ [])) (passed q (λ r n. n) _ (omega arith)) (passed q (λ r n. n) _ low)) (dropped q (λ r n. n))
  message_effect (NormalRead r o y t) low there =
      let q : Message = NormalRead r o y t in
      let P : Decision → Type 0 = λ d. Delivering q (keeping g d) in
      both P (is_member g.store r) (both P (is_read_replica g.store r) (passed q (λ r n. n) _ (omega arith)) (passed q (λ r n. n) _ low)) (dropped q (λ r n. n))
  message_effect (Completion y t) low there = gone (Completion y t) (λ r n. n) _ _ (completes at choice y t refl refl) store_kept
  message_effect (Reply o v t f) low there =
      by_test (λ (u : Opened). Delivering (Reply o v t f) (changing_opens g u)) (is_open g.opens o) (λ still. ends o v t f still) (λ shut. dropped (Reply o v t f) (λ r n. n))
  message_effect (ContextRead o r) low there =
      let q : Message = ContextRead o r in
      let P : Opened → Type 0 = λ u. Delivering q (changing_opens g u) in
      both P (goes_directly g.switch (numbers_of (context_at g.opens r))) (moved q r refl _ refl (omega arith)) (moved q r refl _ refl (omega arith))
  message_effect (DirectContext a number t o r) low there =
      let q : Message = DirectContext a number t o r in
      let P : Opened → Type 0 = λ u. Delivering q (changing_opens g u) in
      both P (is_member g.store a)
      (both P (answers_read g.store (table_of g.store a) number t (numbers_of (context_at g.opens r))) (filled q (table_of g.store a) o r refl) (moved q r refl _ refl (omega arith)))
      (freed q r refl)
  message_effect (NormalContext a o r) low there =
      let q : Message = NormalContext a o r in
      let P : Opened → Type 0 = λ u. Delivering q (changing_opens g u) in
      both P (is_member g.store a)
      (both P (is_read_replica g.store a) (filled q (table_of g.store a) o r refl) (moved q r refl _ refl (omega arith))) (freed q r refl)
  message_effect (ContextReply o r) low there =
      let q : Message = ContextReply o r in
      by_test (λ (u : Opened). Delivering q (changing_opens g u)) (is_open g.opens o) (λ still. ends_context o r still there) (λ shut. freed q r refl)
  message_effect (Acknowledgement a k) low there =
      let q : Message = Acknowledgement a k in
      let P : Stored → Type 0 = λ u. Delivering q (changing_store g u) in
      by_test P (is_quorum g.store)
      (λ quorum. by_test P (is_member g.store a) (λ member. gone q (λ r n. n) _ _ switch_kept (leader_hears a k quorum member)) (λ out. dropped q (λ r n. n)))
      (λ chain. dropped q (λ r n. n))
  message_effect Unknown low there = dropped Unknown (λ r n. n)

-- a packet's message has an object that there is if the packet has
object_in : (p : Packet) → p.object < limits.objects → (packet_of (message_of p)).object < limits.objects
unfolding message_of context_message packet_of
object_in p low =
    let P : Message → Type 0 = λ q. (packet_of q).object < limits.objects in
    both P (eqb p.kind 1) low (both P (eqb p.kind 2) low (both P (eqb p.kind 3) low (both P (eqb p.kind 4) low (both P (eqb p.kind 5) low (both P (eqb p.kind 6) low
    (both P (eqb p.kind 7) (omega arith) (both P (eqb p.kind 8) (omega arith) (both P (eqb p.kind 9) (omega arith) (both P (eqb p.kind 10) (omega arith)
    (both P (eqb p.kind 11) (omega arith) (both P (eqb p.kind 12) (omega arith) (omega arith))))))))))))

-- and its row is that of the packet
row_in : (opens : List ℕ) (p : Packet) → has_row opens p ≡ true → has_row opens (packet_of (message_of p)) ≡ true
unfolding message_of context_message packet_of has_row is_of_context is_context_reply
row_in opens p there =
    let P : Message → Type 0 = λ q. has_row opens (packet_of q) ≡ true in
    both P (eqb p.kind 1) refl (both P (eqb p.kind 2) refl (both P (eqb p.kind 3) refl (both P (eqb p.kind 4) refl (both P (eqb p.kind 5) refl (both P (eqb p.kind 6) refl
    (both P (eqb p.kind 7) refl (by_test P (eqb p.kind 8) (λ k. rw (eqb-true p.kind 8 k) at there) (λ a. by_test P (eqb p.kind 9) (λ k. rw (eqb-true p.kind 9 k) at there)
    (λ b. by_test P (eqb p.kind 10) (λ k. rw (eqb-true p.kind 10 k) at there) (λ c. by_test P (eqb p.kind 11) (λ k. rw (eqb-true p.kind 11 k) at there) (λ d. both P (eqb p.kind 12) refl refl)))))))))))

-- and the other way round
pub row_of : (opens : List ℕ) (p : Packet) → has_row opens (packet_of (message_of p)) ≡ true → has_row opens p ≡ true
unfolding message_of context_message packet_of has_row is_of_context is_context_reply
row_of opens p =
    let P : Message → Type 0 = λ q. has_row opens (packet_of q) ≡ true → has_row opens p ≡ true in
    let other : (k : ℕ) → k < 8 → eqb p.kind k ≡ true → has_row opens p ≡ true = λ k low e. rw (lt-ltb p.kind 8 (omega (arith, low, eqb-true p.kind k e))) refl in
    by_test P (eqb p.kind 1) (λ k t. other 1 (omega arith) k) (λ n1. by_test P (eqb p.kind 2) (λ k t. other 2 (omega arith) k) (λ n2. by_test P (eqb p.kind 3) (λ k t. other 3 (omega arith) k)
    (λ n3. by_test P (eqb p.kind 4) (λ k t. other 4 (omega arith) k) (λ n4. by_test P (eqb p.kind 5) (λ k t. other 5 (omega arith) k) (λ n5. by_test P (eqb p.kind 6) (λ k t. other 6 (omega arith) k)
    (λ n6. by_test P (eqb p.kind 7) (λ k t. other 7 (omega arith) k) (λ n7. by_test P (eqb p.kind 8) (λ k t. rw (eqb-true p.kind 8 k) t) (λ n8. by_test P (eqb p.kind 9) (λ k t. rw (eqb-true p.kind 9 k) t)
    (λ n9. by_test P (eqb p.kind 10) (λ k t. rw (eqb-true p.kind 10 k) t) (λ n10. by_test P (eqb p.kind 11) (λ k t. rw (eqb-true p.kind 11 k) t)
    (λ n11. by_test P (eqb p.kind 12) (λ k t. rw (eqb-true p.kind 12 k) refl) (λ n12 t. by_test (λ (b : Bool). cond b (cond (eqb p.kind 11) (is_count (context_at opens p.value).count) (is_context (context_at opens p.value))) true ≡ true) (ltb p.kind 8) (λ low. refl)
    (λ high. rw (lt-leb p.kind 11 (omega (arith, ltb-false p.kind 8 high, eqb-false p.kind 8 n8, eqb-false p.kind 9 n9, eqb-false p.kind 10 n10, eqb-false p.kind 11 n11))) refl)))))))))))))

-- ---- every step

module _ (g : Given) (p : Packet) where
  abbrev Of : Step → Outcome → Type 0
  Of x u = Effect g p (message_of p) x u

  -- it changes only the switch, the store or the open operations, and no packet
  only_switch : (x : Step) → role_of x ≡ Other → (w : List ℕ) → SwitchEffect (message_of p) x g.switch w → Of x (changing_switch g (switched (deciding no_edit) w))
  only_switch x plain w a = record {
    switch = a;
    store = store_kept;
    between = g.opens;
    opens = rw plain (quiet other);
    rows = rows_kept (λ s t. untrue t);
    edit = edits_nothing {a = Done} (rw plain refl);
    answer = tt;
  }

  only_store : (x : Step) → Quiet (role_of x) Done → takes_as (role_of x) Done ≡ false → (s : List ℕ) → StoreEffect (role_of x) g.store s → Of x (changing_store g (stored (deciding no_edit) s))
  only_store x still plain s a = record {
    switch = switch_kept;
    store = a;
    between = g.opens;
    opens = quiet still;
    rows = rows_kept (λ s t. untrue t);
    edit = edits_nothing plain;
    answer = tt;
  }

  -- one packet is added
  adds : (x : Step) → takes_as (role_of x) Done ≡ false → (q : Message) → (packet_of q).object < limits.objects → overfull g.held 0 1 ≡ false → (l : List ℕ) → OpensEffect (role_of x) g.opens Done l
      → Of x (changing_opens g (opened (deciding (add_one (packet_of q))) l))
  adds x plain q small roomy l a = record {
    switch = switch_kept;
    store = store_kept;
    between = l;
    opens = a;
    rows = rows_kept (λ s t. untrue t);
    edit = adds_new q small plain roomy;
    answer = tt;
  }

  begin_effect : (x : Step) (isWrite : Bool) (y v : ℕ) → takes_as (role_of x) Done ≡ false
      → (room_to_open g.opens ≡ true → OpensEffect (role_of x) g.opens Done (opening g.opens (last_given g.opens + 1)))
      → Of x (changing_opens g (begin_operation g.opens g.held isWrite y v))
  unfolding begin_operation asking packet_of
  begin_effect x isWrite y v plain begins =
      let P : Opened → Type 0 = λ u. Of x (changing_opens g u) in
      let no : (r : Refusal) → is_step_number (refusal_number r) ≡ true → P (opened (refusing r) g.opens) = refused g p (message_of p) x in
      by_test P (leb limits.objects y) (λ large. no ObjectNumber refl)
      (λ small. both P (leb limits.last_operation (last_given g.opens)) (no OperationsUsedUp refl)
      (by_test P (room_to_open g.opens)
      (λ room. by_test P (overfull g.held 0 1) (λ full. no WaitingFull refl) (λ roomy. adds x plain (asking isWrite (last_given g.opens + 1) y v) (asked isWrite (leb-false limits.objects y small)) roomy _ (begins room)))
      (λ full. no OpenFull refl)))
    where
      asked : (b : Bool) → y < limits.objects → (packet_of (asking b (last_given g.opens + 1) y v)).object < limits.objects
      asked true s = s
      asked false s = s

  context_effect : (y : Objects) → Of (BeginContext y) (changing_opens g (begin_context g.opens g.held y))
  unfolding begin_context packet_of
  context_effect y =
      let P : Opened → Type 0 = λ u. Of (BeginContext y) (changing_opens g u) in
      let no : (r : Refusal) → is_step_number (refusal_number r) ≡ true → P (opened (refusing r) g.opens) = refused g p (message_of p) (BeginContext y) in
      both P (are_objects (context_of y))
      (both P (are_different (context_of y))
      (both P (leb limits.last_operation (last_given g.opens)) (no OperationsUsedUp refl)
      (by_test P (room_to_open g.opens)
      (λ room. by_test P (overfull g.held 0 1) (λ full. no WaitingFull refl)
      (λ roomy. both P (ltb (free_row g.opens) limits.contexts)
      (record {
        switch = switch_kept;
        store = store_kept;
        between = opening g.opens (last_given g.opens + 1);
        opens = begins_read _ refl room;
        rows = row_given (free_row g.opens) (context_of y) (ContextRead (last_given g.opens + 1) (free_row g.opens)) roomy refl refl;
        edit = adds_new (ContextRead (last_given g.opens + 1) (free_row g.opens)) (omega arith) refl roomy;
        answer = tt;
      })
      (no WaitingFull refl)))
      (λ full. no OpenFull refl)))
      (no SameObject refl))
      (no ObjectNumber refl)

  -- the packet leaves the list, and its row is free
  leaves : (x : Step) (at : ℕ) → Quiet (role_of x) Done → takes_as (role_of x) Done ≡ true → position_as (role_of x) ≡ at → at < g.held → Of x (changing_opens g (leaving g.opens p at))
  unfolding leaving dropping
  leaves x at still out is inside = record {
    switch = switch_kept;
    store = store_kept;
    between = g.opens;
    opens = quiet still;
    rows = row_released;
    edit = rw (← is) (takes_out_lem out (rw is inside));
    answer = tt;
  }

  copy_effect : (at : ℕ) → at < g.held → overfull g.held 0 1 ≡ false → Of (Repeat at) (changing_opens g (copied g.opens p))
  unfolding copied
  copy_effect at inside roomy =
      let P : Opened → Type 0 = λ u. Of (Repeat at) (changing_opens g u) in
      by_test P (is_of_context p)
      (λ c. both P (ltb (free_row g.opens) limits.contexts)
      (record {
        switch = switch_kept;
        store = store_kept;
        between = g.opens;
        opens = quiet (repeats at);
        rows = row_copied (free_row g.opens) _ roomy c refl;
        edit = adds_copy (in_row p (free_row g.opens)) refl inside refl roomy;
        answer = tt;
      })
      (refused g p (message_of p) (Repeat at) WaitingFull refl))
      (λ c. record {
        switch = switch_kept;
        store = store_kept;
        between = g.opens;
        opens = quiet (repeats at);
        rows = rows_kept (λ s t. untrue t);
        edit = adds_copy p refl inside refl roomy;
        answer = tt;
      })

  chain_effect : (r : ℕ) → is_quorum g.store ≡ false → Of (Advance r) (changing_store g (chain_advancing g.store g.held r))
  unfolding chain_advancing
  chain_effect r chain =
      let P : Stored → Type 0 = λ u. Of (Advance r) (changing_store g u) in
      let no : (e : Refusal) → is_step_number (refusal_number e) ≡ true → P (stored (refusing e) g.store) = refused g p (message_of p) (Advance r) in
      by_test P (is_member g.store r)
      (λ member. by_test P (eqb (pending_at g.store (place_of g.store r) (table_of g.store r)) 0) (λ none. no NoLinkedWrite refl)
      (λ some. both P (is_tail g.store r)
      (by_test P (overfull g.held 0 2) (λ full. no WaitingFull refl) (λ roomy. record {
        switch = switch_kept;
        store = applies_as_tail r _ chain member;
        between = g.opens;
        opens = quiet other;
        rows = rows_kept (λ s t. untrue t);
        edit = sends_write _ chain (r, member, some, refl) refl roomy;
        answer = tt;
      }))
      (only_store (Advance r) other refl _ (applies r _ chain member))))
      (λ gone. no NotLive refl)

  follower_effect : (r : ℕ) → is_quorum g.store ≡ true → Of (Advance r) (changing_store g (follower_advancing g.store g.held r))
  unfolding follower_advancing packet_of
  follower_effect r quorum =
      let P : Stored → Type 0 = λ u. Of (Advance r) (changing_store g u) in
      let no : (e : Refusal) → is_step_number (refusal_number e) ≡ true → P (stored (refusing e) g.store) = refused g p (message_of p) (Advance r) in
      by_test P (is_member g.store r)
      (λ member. by_test P (eqb (linked_items g.store (table_of g.store r)) 0) (λ none. no NoLinkedWrite refl)
      (λ some. by_test P (next_is_entry g.store (table_of g.store r))
      (λ entry. by_test P (overfull g.held 0 1) (λ full. no WaitingFull refl) (λ roomy. record {
        switch = switch_kept;
        store = follower_logs r quorum member some entry;
        between = g.opens;
        opens = quiet other;
        rows = rows_kept (λ s t. untrue t);
        edit = adds_new (Acknowledgement r (next_position (logged_by g.store (table_of g.store r)))) (omega arith) refl roomy;
        answer = tt;
      }))
      (λ stamp. only_store (Advance r) other refl _ (follower_executes r quorum member some stamp))))
      (λ gone. no NotLive refl)

  advance_effect : (r : ℕ) → Of (Advance r) (changing_store g (advancing g.store g.held r))
  unfolding advancing
  advance_effect r = by_test (λ (u : Stored). Of (Advance r) (changing_store g u)) (is_quorum g.store) (follower_effect r) (chain_effect r)

  execute_effect : Of Execute (changing_store g (executing_on g.store g.held))
  unfolding executing_on
  execute_effect =
      let P : Stored → Type 0 = λ u. Of Execute (changing_store g u) in
      let no : (e : Refusal) → is_step_number (refusal_number e) ≡ true → P (stored (refusing e) g.store) = refused g p (message_of p) Execute in
      by_test P (is_quorum g.store)
      (λ quorum. by_test P (executes g.store)
      (λ next. by_test P (overfull g.held 0 2) (λ full. no WaitingFull refl) (λ roomy. record {
        switch = switch_kept;
        store = leader_executes quorum next;
        between = g.opens;
        opens = quiet other;
        rows = rows_kept (λ s t. untrue t);
        edit = sends_executed _ quorum next refl refl roomy;
        answer = tt;
      }))
      (λ none. no NothingToExecute refl))
      (λ chain. no WrongStore refl)

  pub step_effect : (x : Step) → Of x (decided g p x)
  unfolding decided delivered is_sound lost repeated replacing telling removing joining copying_on giving_up
  step_effect (Start b) = refused g p (message_of p) (Start b) Format refl
  step_effect (BeginRead y) = begin_effect (BeginRead y) false y 0 refl (λ room. begins_read _ refl room)
  step_effect (BeginWrite y v) = begin_effect (BeginWrite y v) true y v refl (λ room. begins_write y v refl room)
  step_effect (Deliver at choice) =
      by_test (Of (Deliver at choice)) (leb g.held at) (λ outside. refused g p (message_of p) (Deliver at choice) NoPacket refl)
      (λ within. by_test (Of (Deliver at choice)) (is_sound g.opens p)
      (λ sound. let t = second_passes (leb limits.objects p.object) (has_row g.opens p) sound in
      message_effect g p at choice (leb-false g.held at within) (message_of p) (object_in p (leb-false limits.objects p.object t.0)) (row_in g.opens p t.1))
      (λ strange. leaves (Deliver at choice) at (delivers at) refl refl (leb-false g.held at within)))
  step_effect (Lose at) =
      by_test (λ (u : Opened). Of (Lose at) (changing_opens g u)) (leb g.held at) (λ outside. refused g p (message_of p) (Lose at) NoPacket refl)
      (λ within. leaves (Lose at) at (loses at) refl refl (leb-false g.held at within))
  step_effect (Repeat at) =
      let P : Opened → Type 0 = λ u. Of (Repeat at) (changing_opens g u) in
      by_test P (leb g.held at) (λ outside. refused g p (message_of p) (Repeat at) NoPacket refl)
      (λ within. both P (is_unstamped p) (refused g p (message_of p) (Repeat at) UnstampedRepeat refl)
      (by_test P (overfull g.held 0 1) (λ full. refused g p (message_of p) (Repeat at) WaitingFull refl) (λ roomy. copy_effect at (leb-false g.held at within) roomy)))
  step_effect (Advance r) = advance_effect r
  step_effect (Replace number) =
      both (λ (u : Switched). Of (Replace number) (changing_switch g u)) (leb number (number_in g.switch)) (refused g p (message_of p) (Replace number) SwitchNumber refl)
      (only_switch (Replace number) refl _ (replaces number refl))
  step_effect (Tell r) =
      by_test (λ (u : Stored). Of (Tell r) (changing_store g u)) (is_member g.store r) (λ member. only_store (Tell r) other refl _ (permits r _ member))
      (λ out. refused g p (message_of p) (Tell r) NotLive refl)
  step_effect (Remove r) =
      let P : Stored → Type 0 = λ u. Of (Remove r) (changing_store g u) in
      by_test P (is_quorum g.store) (λ quorum. refused g p (message_of p) (Remove r) WrongStore refl)
      (λ chain. by_test P (is_member g.store r)
      (λ member. both P (leb (live_count g.store) 1) (refused g p (message_of p) (Remove r) LastReplica refl) (only_store (Remove r) (removal r) refl _ (removes r chain refl member)))
      (λ out. refused g p (message_of p) (Remove r) NotLive refl))
  step_effect (GiveUp o) =
      by_test (λ (u : Opened). Of (GiveUp o) (changing_opens g u)) (is_open g.opens o)
      (λ still. record {
        switch = switch_kept;
        store = store_kept;
        between = closing g.opens o;
        opens = gives_up o refl still;
        rows = rows_kept (λ s t. untrue t);
        edit = edits_nothing refl;
        answer = tt;
      })
      (λ shut. refused g p (message_of p) (GiveUp o) NotOpen refl)
  step_effect (BeginContext y) = context_effect y
  step_effect Join =
      let P : Stored → Type 0 = λ u. Of Join (changing_store g u) in
      by_test P (is_quorum g.store) (λ quorum. refused g p (message_of p) Join WrongStore refl)
      (λ chain. by_test P (is_full g.store) (λ full. refused g p (message_of p) Join ChainFull refl)
      (λ room. by_test P (is_joining g.store) (λ under. refused g p (message_of p) Join JoinUnderWay refl) (λ none. only_store Join other refl _ (joins chain room none))))
  step_effect Copy =
      let P : Stored → Type 0 = λ u. Of Copy (changing_store g u) in
      by_test P (is_quorum g.store) (λ quorum. refused g p (message_of p) Copy WrongStore refl)
      (λ chain. by_test P (is_joining g.store) (λ under. only_store Copy copy refl _ (copies chain refl under)) (λ none. refused g p (message_of p) Copy NoJoin refl))
  step_effect Execute = execute_effect

-- the packet at a step's position
abbrev pub packet_at : Machine → Step → Packet
packet_at m x = look_at m.waiting.packets (position_of x)

-- EVERY STEP OF EVERY MACHINE
pub effect : (m : Machine) (x : Step) → Effect (given_by m) (packet_at m x) (message_of (packet_at m x)) x (outcome_of m x)
unfolding decided_in
effect m x =
    let P : Outcome → Type 0 = Effect (given_by m) (packet_at m x) (message_of (packet_at m x)) x in
    let no : (r : Refusal) → is_step_number (refusal_number r) ≡ true → P (keeping (given_by m) (refusing r)) = refused (given_by m) (packet_at m x) (message_of (packet_at m x)) x in
    both P (is_malformed x) (no Format refl) (both P (ltb (length m.waiting.packets) limits.waiting) (no BufferTooShort refl) (step_effect (given_by m) (packet_at m x) x))

-- a step that is not refused finds 64 places lent
pub accepted_wide : (m : Machine) (x : Step) → is_accepted (answer_to m x) ≡ true → limits.waiting ≤ length m.waiting.packets
unfolding answer_to decided_in refusing
accepted_wide m x =
    let P : Outcome → Type 0 = λ u. is_accepted u.decision.answer ≡ true → limits.waiting ≤ length m.waiting.packets in
    both P (is_malformed x) untrue (by_test P (ltb (length m.waiting.packets) limits.waiting) (λ short. untrue) (λ long a. ltb-false _ _ long))

-- a step in the role of a delivery is a delivery
pub delivery : (x : Step) (at : ℕ) → role_of x ≡ Delivers at → (choice : ℕ) × (x ≡ Deliver at choice)
delivery (Start b) at e = absurd (let z : ◌≡◌ {A = ℕ} 0 1 = cc in omega (arith, z))
delivery (BeginRead x) at e = absurd (let z : ◌≡◌ {A = ℕ} 0 1 = cc in omega (arith, z))
delivery (BeginWrite x v) at e = absurd (let z : ◌≡◌ {A = ℕ} 0 1 = cc in omega (arith, z))
delivery (Deliver p choice) at e = (choice, ap (λ (q : ℕ). Deliver q choice) (ap position_as e))
delivery (Lose p) at e = absurd (let z : ◌≡◌ {A = ℕ} 0 1 = cc in omega (arith, z))
delivery (Repeat p) at e = absurd (let z : ◌≡◌ {A = ℕ} 0 1 = cc in omega (arith, z))
delivery (Advance r) at e = absurd (let z : ◌≡◌ {A = ℕ} 0 1 = cc in omega (arith, z))
delivery (Replace number) at e = absurd (let z : ◌≡◌ {A = ℕ} 0 1 = cc in omega (arith, z))
delivery (Tell r) at e = absurd (let z : ◌≡◌ {A = ℕ} 0 1 = cc in omega (arith, z))
delivery (Remove r) at e = absurd (let z : ◌≡◌ {A = ℕ} 0 1 = cc in omega (arith, z))
delivery (GiveUp o) at e = absurd (let z : ◌≡◌ {A = ℕ} 0 1 = cc in omega (arith, z))
delivery (BeginContext x) at e = absurd (let z : ◌≡◌ {A = ℕ} 0 1 = cc in omega (arith, z))
delivery Join at e = absurd (let z : ◌≡◌ {A = ℕ} 0 1 = cc in omega (arith, z))
delivery Copy at e = absurd (let z : ◌≡◌ {A = ℕ} 0 1 = cc in omega (arith, z))
delivery Execute at e = absurd (let z : ◌≡◌ {A = ℕ} 0 1 = cc in omega (arith, z))
