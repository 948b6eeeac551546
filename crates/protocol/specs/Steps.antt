-- Document 01, 'Steps and their records', with the refusals of 'Turned down' in their order; and the one function that decides every step.
use Rattle.std.specs.Prelude.{Bool, true, false, cond, not, List, ℕ, ◌+◌, eqb, leb, ltb, length}
use Rattle.limits.specs as limits
use Rattle.operations.specs.{last_given, none_open, is_open, room_to_open, opening, closing}
use Rattle.contexts.specs.declared.Objects.{Objects}
use Rattle.contexts.specs.{context_of, are_objects, are_different, is_naming, context_at, free_row, holding}
use Rattle.store.specs.declared.Write.{Write}
use Rattle.store.specs.{live_count, is_quorum}
use Rattle.quorum.specs.{logged_by, linked_items, next_is_entry, next_entry, count_logged, executes, executing, quorum_store}
use Rattle.chain.specs.{head_of, place_of, is_member, is_tail, table_of, permitting, empty_store}
use Rattle.replicas.specs.Replicas.{next_position, applying, pending_at, oldest}
use Rattle.joins.specs.{is_full, is_joining, beginning, copying, handing_on, without}
use Rattle.switch.specs.Numbers.{number_in, marks_in}
use Rattle.switch.specs.DirtySet.{new_switch}
use Rattle.waiting.specs.declared.Packet.{Packet}
use Rattle.waiting.specs.declared.Edit.{Edit}
use Rattle.waiting.specs.Waiting.{WaitingList, held, look_at, edited, none_wait}
use Rattle.protocol.specs.declared.Refusal.TheVariants.{Format, ObjectNumber, OperationsUsedUp, OpenFull, WaitingFull, NoPacket, UnstampedRepeat, NotLive, NoLinkedWrite, SwitchNumber, LastReplica, NotOpen, BufferTooShort, SameObject, ChainFull, JoinUnderWay, NoJoin, WrongStore, NothingToExecute}
use Rattle.protocol.specs.declared.Answer.{Answer}
use Rattle.protocol.specs.declared.Stepped.{Stepped}
use Rattle.protocol.specs.declared.Message.{Message}
use Rattle.protocol.specs.declared.Message.TheVariants.{UnstampedWrite, SwitchRead, ContextRead, Acknowledgement}
use Rattle.protocol.specs.declared.Setup.{Setup}
use Rattle.protocol.specs.declared.Setup.TheVariants.{Missing, Chain, Quorum}
use Rattle.protocol.specs.declared.Step.{Step}
use Rattle.protocol.specs.declared.Step.TheVariants.{Start, BeginRead, BeginWrite, Deliver, Lose, Repeat, Advance, Replace, Tell, Remove, GiveUp, BeginContext, Join, Copy, Execute}
use Rattle.protocol.specs.Starts.{start_refused}
use Rattle.protocol.specs.Roles.{role_of, position_as}
use Rattle.protocol.specs.Messages.{packet_of, reply_to, completion_of, message_of, is_unstamped, is_of_context, in_row}
use Rattle.protocol.specs.Decisions.{Given, given, Outcome, Switched, Stored, Opened, switched, stored, opened, keeping, changing_switch, changing_store, changing_opens}
use Rattle.protocol.specs.Decisions.{deciding, no_edit, add_one, add_two, refusing, overfull}
use Rattle.protocol.specs.Contexts.{has_row, leaving}
use Rattle.protocol.specs.Delivery.{delivered_message}

-- ---- the machine

-- what is lent: the numbers of the switch, of the replicas and of the open operations, and the waiting packets
pub record Machine : Type 0 where
  pub switch : List ℕ
  pub store : List ℕ
  pub opens : List ℕ
  pub waiting : WaitingList

abbrev pub machine : List ℕ → List ℕ → List ℕ → WaitingList → Machine
machine switch store opens w = record { switch = switch; store = store; opens = opens; waiting = w }

-- ---- the start

-- the replicas of a start, of which nothing is written yet
abbrev pub new_store : Setup → List ℕ
new_store Missing = empty_store 0
new_store (Chain n) = empty_store n
new_store (Quorum n) = quorum_store n

-- 'An empty store is the state that an accepted start gives, with no packet waiting', whatever the lent places hold
unfoldable pub started : Setup → List Packet → Machine
started b row = machine (new_switch 1) (new_store b) none_open (none_wait row)

-- what each part is after a start. A refused one leaves everything as it was
unfoldable pub start_switch : Setup → List ℕ → List ℕ
start_switch b w = cond (start_refused b) w (new_switch 1)

unfoldable pub start_store : Setup → List ℕ → List ℕ
start_store b s = cond (start_refused b) s (new_store b)

unfoldable pub start_opens : Setup → List ℕ → List ℕ
start_opens b opens = cond (start_refused b) opens none_open

unfoldable pub start_waiting : Setup → WaitingList → WaitingList
start_waiting b w = cond (start_refused b) w (none_wait w.packets)

abbrev pub after_start : Setup → Machine → Machine
after_start b m = machine (start_switch b m.switch) (start_store b m.store) (start_opens b m.opens) (start_waiting b m.waiting)

-- ---- the steps

-- what a new operation asks of the switch
unfoldable pub asking : Bool → ℕ → ℕ → ℕ → Message
asking isWrite o x v = cond isWrite (UnstampedWrite o x v) (SwitchRead o x)

-- the next operation number is given, it is open, and 'one packet to the switch'. Order of refusals: 3, 4, 5, 6
unfoldable pub begin_operation : List ℕ → ℕ → Bool → ℕ → ℕ → Opened
begin_operation opens held isWrite x v =
    cond (leb limits.objects x) (opened (refusing ObjectNumber) opens)
    (cond (leb limits.last_operation (last_given opens)) (opened (refusing OperationsUsedUp) opens)
    (cond (room_to_open opens)
    (cond (overfull held 0 1) (opened (refusing WaitingFull) opens)
    (opened (deciding (add_one (packet_of (asking isWrite (last_given opens + 1) x v)))) (opening opens (last_given opens + 1))))
    (opened (refusing OpenFull) opens)))

-- Req 02: the same for a read of a whole context, whose objects go into the first free row. Order of refusals: 3, 16, 4, 5, 6; in a state that no run reaches there may
-- be no free row: 6 too
unfoldable pub begin_context : List ℕ → ℕ → Objects → Opened
begin_context opens held x =
    cond (are_objects (context_of x))
    (cond (are_different (context_of x))
    (cond (leb limits.last_operation (last_given opens)) (opened (refusing OperationsUsedUp) opens)
    (cond (room_to_open opens)
    (cond (overfull held 0 1) (opened (refusing WaitingFull) opens)
    (cond (ltb (free_row opens) limits.contexts)
    (opened (deciding (add_one (packet_of (ContextRead (last_given opens + 1) (free_row opens)))))
    (holding (opening opens (last_given opens + 1)) (free_row opens) (context_of x)))
    (opened (refusing WaitingFull) opens)))
    (opened (refusing OpenFull) opens)))
    (opened (refusing SameObject) opens))
    (opened (refusing ObjectNumber) opens)

-- what a packet names is there, as it is in every run: an object up to 1,023, and the row of a context
unfoldable pub is_sound : List ℕ → Packet → Bool
is_sound opens p = cond (leb limits.objects p.object) false (has_row opens p)

-- deliver: 7, then what the packet asks. In a state that no run reaches a packet may name what there is not: it is dropped
unfoldable pub delivered : Given → Packet → ℕ → ℕ → Outcome
delivered g p at choice =
    cond (leb g.held at) (keeping g (refusing NoPacket))
    (cond (is_sound g.opens p) (delivered_message g at choice (message_of p)) (changing_opens g (leaving g.opens p at)))

-- 'lose the packet at a position'
unfoldable pub lost : List ℕ → ℕ → Packet → ℕ → Opened
lost opens held p at = cond (leb held at) (opened (refusing NoPacket) opens) (leaving opens p at)

-- a copy of a packet of a context has a copy of its row; in a state that no run reaches there may be no free row: 6
unfoldable pub copied : List ℕ → Packet → Opened
copied opens p =
    cond (is_of_context p)
    (cond (ltb (free_row opens) limits.contexts)
    (opened (deciding (add_one (in_row p (free_row opens)))) (holding opens (free_row opens) (context_at opens p.value)))
    (opened (refusing WaitingFull) opens))
    (opened (deciding (add_one p)) opens)

-- 'repeat it: a copy at the end of the list'. Order: 7, 8, 6
unfoldable pub repeated : List ℕ → ℕ → Packet → ℕ → Opened
repeated opens held p at =
    cond (leb held at) (opened (refusing NoPacket) opens)
    (cond (is_unstamped p) (opened (refusing UnstampedRepeat) opens) (cond (overfull held 0 1) (opened (refusing WaitingFull) opens) (copied opens p)))

-- what the tail sends for a write
abbrev pub sending : Write → Edit
sending w = add_two (reply_to w) (completion_of w)

-- 'this replica applies the oldest write of its incoming link, and passes it on unless it is the tail'. Order: 9, 10, 6
unfoldable pub chain_advancing : List ℕ → ℕ → ℕ → Stored
chain_advancing s held r =
    cond (is_member s r)
    (cond (eqb (pending_at s (place_of s r) (table_of s r)) 0) (stored (refusing NoLinkedWrite) s)
    (cond (is_tail s r)
    (cond (overfull held 0 2) (stored (refusing WaitingFull) s)
    (stored (deciding (sending (oldest s (table_of s r)))) (handing_on (applying s (table_of s r) (oldest s (table_of s r))) (oldest s (table_of s r)))))
    (stored (deciding no_edit) (applying s (table_of s r) (oldest s (table_of s r))))))
    (stored (refusing NotLive) s)

-- Req 11: 'Advancing a follower logs the entry and sends the leader an acknowledgement packet': what the leader is told is how many it has logged
abbrev pub acknowledges : List ℕ → ℕ → Packet
acknowledges s r = packet_of (Acknowledgement r (next_position (logged_by s (table_of s r))))

-- the oldest item of a follower's link is taken: an entry, or an executed stamp. Order: 9, 10, 6; the leader has no link
unfoldable pub follower_advancing : List ℕ → ℕ → ℕ → Stored
follower_advancing s held r =
    cond (is_member s r)
    (cond (eqb (linked_items s (table_of s r)) 0) (stored (refusing NoLinkedWrite) s)
    (cond (next_is_entry s (table_of s r))
    (cond (overfull held 0 1) (stored (refusing WaitingFull) s) (stored (deciding (add_one (acknowledges s r))) (count_logged s (table_of s r))))
    (stored (deciding no_edit) (applying s (table_of s r) (next_entry s (table_of s r))))))
    (stored (refusing NotLive) s)

-- by the kind of store
unfoldable pub advancing : List ℕ → ℕ → ℕ → Stored
advancing s held r = cond (is_quorum s) (follower_advancing s held r) (chain_advancing s held r)

-- Req 11, tag 14: 'makes the leader execute the next write that a majority holds .., send reply and completion, and put its executed stamp in every link'. Order: 23, 24, 6
unfoldable pub executing_on : List ℕ → ℕ → Stored
executing_on s held =
    cond (is_quorum s)
    (cond (executes s)
    (cond (overfull held 0 2) (stored (refusing WaitingFull) s) (stored (deciding (sending (next_entry s (head_of s)))) (executing s)))
    (stored (refusing NothingToExecute) s))
    (stored (refusing WrongStore) s)

-- 'replace the switch by this number'; 11 if it is not above the present one
unfoldable pub replacing : List ℕ → ℕ → Switched
replacing w number = cond (leb number (number_in w)) (switched (refusing SwitchNumber) w) (switched (deciding no_edit) (new_switch number))

-- 'tell this replica to permit the present switch'
unfoldable pub telling : List ℕ → List ℕ → ℕ → Stored
telling w s r = cond (is_member s r) (stored (deciding no_edit) (permitting s (table_of s r) (number_in w))) (stored (refusing NotLive) s)

-- 'remove this replica'. Order: 9, 12; Req 11: '23 for tags 9, 12 and 13 here .., before any other'
unfoldable pub removing : List ℕ → ℕ → Stored
removing s r =
    cond (is_quorum s) (stored (refusing WrongStore) s)
    (cond (is_member s r) (cond (leb (live_count s) 1) (stored (refusing LastReplica) s) (stored (deciding no_edit) (without s r))) (stored (refusing NotLive) s))

-- Req 04, tag 12: 'a join'. Order: 17, 18
unfoldable pub joining : List ℕ → Stored
joining s =
    cond (is_quorum s) (stored (refusing WrongStore) s)
    (cond (is_full s) (stored (refusing ChainFull) s) (cond (is_joining s) (stored (refusing JoinUnderWay) s) (stored (deciding no_edit) (beginning s))))

-- Req 04, tag 13: a copy to the newcomer; 19 if none joins
unfoldable pub copying_on : List ℕ → Stored
copying_on s =
    cond (is_quorum s) (stored (refusing WrongStore) s) (cond (is_joining s) (stored (deciding no_edit) (copying s)) (stored (refusing NoJoin) s))

-- 'give up this operation; it stays unfinished for good'
unfoldable pub giving_up : List ℕ → ℕ → Opened
giving_up opens o = cond (is_open opens o) (opened (deciding no_edit) (closing opens o)) (opened (refusing NotOpen) opens)

-- ---- every step

-- the position of the waiting list that a step looks at
unfoldable pub position_of : Step → ℕ
position_of x = position_as (role_of x)

-- the decision of a step; p is the packet at its position. A start that comes as a step is refused
unfoldable pub decided : Given → Packet → Step → Outcome
decided g p (Start b) = keeping g (refusing Format)
decided g p (BeginRead x) = changing_opens g (begin_operation g.opens g.held false x 0)
decided g p (BeginWrite x v) = changing_opens g (begin_operation g.opens g.held true x v)
decided g p (Deliver at choice) = delivered g p at choice
decided g p (Lose at) = changing_opens g (lost g.opens g.held p at)
decided g p (Repeat at) = changing_opens g (repeated g.opens g.held p at)
decided g p (Advance r) = changing_store g (advancing g.store g.held r)
decided g p (Replace number) = changing_switch g (replacing g.switch number)
decided g p (Tell r) = changing_store g (telling g.switch g.store r)
decided g p (Remove r) = changing_store g (removing g.store r)
decided g p (GiveUp o) = changing_opens g (giving_up g.opens o)
decided g p (BeginContext x) = changing_opens g (begin_context g.opens g.held x)
decided g p Join = changing_store g (joining g.store)
decided g p Copy = changing_store g (copying_on g.store)
decided g p Execute = changing_store g (executing_on g.store g.held)

-- a step that is none, one with a switch number of more than 16 bits, or one with another number of objects than 2 to 8: 1, before anything else
unfoldable pub is_malformed : Step → Bool
is_malformed (Start b) = true
is_malformed (BeginRead x) = false
is_malformed (BeginWrite x v) = false
is_malformed (Deliver at choice) = false
is_malformed (Lose at) = false
is_malformed (Repeat at) = false
is_malformed (Advance r) = false
is_malformed (Replace number) = leb limits.switch_numbers number
is_malformed (Tell r) = false
is_malformed (Remove r) = false
is_malformed (GiveUp o) = false
is_malformed (BeginContext x) = not (is_naming x)
is_malformed Join = false
is_malformed Copy = false
is_malformed Execute = false

-- then 15, where fewer than 64 places are lent for the packets; then the step itself
unfoldable pub decided_in : ℕ → Given → Packet → Step → Outcome
decided_in places g p x =
    cond (is_malformed x) (keeping g (refusing Format))
    (cond (ltb places limits.waiting) (keeping g (refusing BufferTooShort)) (decided g p x))

abbrev pub given_by : Machine → Given
given_by m = given m.switch m.store m.opens (held m.waiting)

abbrev pub outcome_of : Machine → Step → Outcome
outcome_of m x = decided_in (length m.waiting.packets) (given_by m) (look_at m.waiting.packets (position_of x)) x

-- the answer of a step, and the machine after it
unfoldable pub answer_to : Machine → Step → Answer
answer_to m x = (outcome_of m x).decision.answer

unfoldable pub after : Machine → Step → Machine
after m x = record {
  switch = (outcome_of m x).switch;
  store = (outcome_of m x).store;
  opens = (outcome_of m x).opens;
  waiting = edited m.waiting (outcome_of m x).decision.edit;
}

-- what a step hands back: its answer, how many packets then wait, and the stored number of counting marks (Req 03)
abbrev pub stepped_by : Machine → Step → Stepped
stepped_by m x = record { answer = answer_to m x; count = (after m x).waiting.count; marks = marks_in (after m x).switch }
