-- Document 01, 'What delivery does', rule by rule, with document 02's Req 01. The packet at position `at` leaves the list. w is the switch, s the store.
use Rattle.std.specs.Prelude.{cond, List, [], ◌∷◌, ℕ, eqb}
use Rattle.operations.specs.{is_open, closing}
use Rattle.store.specs.declared.Write.{Write}
use Rattle.store.specs.{value_at, stamp_at, is_quorum}
use Rattle.quorum.specs.{logs, logging, acknowledging}
use Rattle.stamp.specs.Stamps.{is_above}
use Rattle.chain.specs.{is_member, is_tail, is_read_replica, table_of, head_number, read_replica_number, chosen_by, all_permit}
use Rattle.joins.specs.{handing_on}
use Rattle.replicas.specs.Replicas.{accepts, taking}
use Rattle.switch.specs.Numbers.{number_in, committed_in}
use Rattle.switch.specs.DirtySet.{looked_up, marked, stamp_for, completed}
use Rattle.waiting.specs.declared.Edit.{Edit}
use Rattle.protocol.specs.declared.Refusal.TheVariants.{WaitingFull}
use Rattle.protocol.specs.declared.Answer.TheVariants.{Finished}
use Rattle.protocol.specs.declared.Message.{Message}
use Rattle.protocol.specs.declared.Message.TheVariants.{UnstampedWrite, SwitchRead, StampedWrite, DirectRead, NormalRead, Completion, Reply, ContextRead, DirectContext, NormalContext, ContextReply, Acknowledgement, Unknown}
use Rattle.protocol.specs.declared.Decision.{Decision}
use Rattle.protocol.specs.Answers.{no_freshness, old_read, new_read}
use Rattle.protocol.specs.Messages.{reply_to, completion_of}
use Rattle.protocol.specs.Reads.{goes_directly, answers_read}
use Rattle.protocol.specs.Contexts.{context_read, direct_context, normal_context, context_reply}
use Rattle.protocol.specs.Decisions.{Given, Outcome, Switched, Stored, Opened, switched, stored, opened, keeping, changing_switch, changing_store, changing_opens}
use Rattle.protocol.specs.Decisions.{deciding, take_out, take_out_add_two, refusing, dropping, passing, overfull}

-- a write with the stamp that it got goes to the head; one that got none, (0,0), is dropped
unfoldable pub stamping : List ℕ → ℕ → ℕ → ℕ → ℕ → ℕ → Decision
stamping s at o x v stamp =
    cond (eqb stamp 0) (dropping at) (passing at (StampedWrite (head_number s) (record { operation = o; object = x; value = v; stamp = stamp })))

-- 'Unstamped write, to the switch. Dropped unless every live replica permits this switch's number. Otherwise the counter rises by one, the object is
-- marked, and the stamped write goes to the head.'
unfoldable pub unstamped_write : List ℕ → List ℕ → ℕ → ℕ → ℕ → ℕ → Switched
unstamped_write w s at o x v =
    cond (all_permit s (number_in w)) (switched (stamping s at o x v (stamp_for w x)) (marked w x)) (switched (dropping at) w)

-- 'Read, to the switch. If direct reads are on and the object has no counting mark, it goes as a direct read with the switch's number and
-- last-committed stamp, to the live replica at chain place (choice mod number of live replicas), places from 0. Otherwise it goes as a normal read to the tail.'
-- Req 01: 'A read that the switch sends to the tail while its object has a counting mark carries that stamp'; (0,0), which is no mark's, stands for none.
unfoldable pub switch_read : List ℕ → List ℕ → ℕ → ℕ → ℕ → ℕ → Decision
switch_read w s at choice o x =
    cond (goes_directly w (x ∷ []))
    (passing at (DirectRead (chosen_by s choice) (number_in w) (committed_in w) o x))
    (passing at (NormalRead (read_replica_number s) o x (looked_up w x)))

-- what the tail sends in the place of a delivered write
abbrev pub answering : ℕ → Write → Edit
answering at w = take_out_add_two at (reply_to w) (completion_of w)

-- 'Stamped write, to a replica. Dropped if that replica is gone, if the stamp is not above its highest, or if the links hold 64. Otherwise it is applied
-- and put in the link to the next replica. A lone replica acts as tail at the same time.' Req 04: what the tail applies reaches a newcomer that has its copy of the object
unfoldable pub chain_write : List ℕ → ℕ → ℕ → ℕ → Write → Stored
chain_write s held at r w =
    cond (is_member s r)
    (cond (accepts s (table_of s r) w.stamp)
    (cond (is_tail s r)
    (cond (overfull held 1 2) (stored (refusing WaitingFull) s) (stored (deciding (answering at w)) (handing_on (taking s (table_of s r) w) w)))
    (stored (dropping at) (taking s (table_of s r) w)))
    (stored (dropping at) s))
    (stored (dropping at) s)

-- Req 11: 'The leader logs stamped writes in rising order', and a write that it does not log is dropped. A stamped write of a run is for the leader
unfoldable pub leader_write : List ℕ → ℕ → Write → Stored
leader_write s at w = stored (dropping at) (cond (logs s w.stamp) (logging s w) s)

-- by the kind of store
unfoldable pub stamped_write : List ℕ → ℕ → ℕ → ℕ → Write → Stored
stamped_write s held at r w = cond (is_quorum s) (leader_write s at w) (chain_write s held at r w)

-- Req 11: 'an acknowledgement packet, which covers all earlier entries too and can be lost, repeated or late', to the leader
unfoldable pub acknowledgement : List ℕ → ℕ → ℕ → ℕ → Stored
acknowledgement s at q k =
    cond (is_quorum s) (cond (is_member s q) (stored (dropping at) (acknowledging s (table_of s q) k)) (stored (dropping at) s)) (stored (dropping at) s)

-- 'Direct read, to a replica. Dropped if gone. Answered with the object's value if the read's switch number is the one this replica permits and the
-- object's stamp is not above the stamp carried. Otherwise it becomes a normal read to the tail.'
unfoldable pub direct_read : List ℕ → ℕ → ℕ → ℕ → ℕ → ℕ → ℕ → Decision
direct_read s at r number t o x =
    cond (is_member s r)
    (cond (answers_read s (table_of s r) number t (x ∷ []))
    (passing at (Reply o (value_at s (table_of s r) x) 0 no_freshness))
    (passing at (NormalRead (read_replica_number s) o x 0)))
    (dropping at)

-- Req 01: '`old` if the value's stamp is below the one carried, else `new`'; of a read that carries none, neither
unfoldable pub freshness : ℕ → ℕ → ℕ
freshness stamp carried = cond (eqb carried 0) no_freshness (cond (is_above carried stamp) old_read new_read)

-- 'Normal read. Dropped if the replica is gone, else answered.' Req 01: its reply carries the stamp that it carries. Req 04: 'A normal read that reaches a former tail is sent
-- on to the present one'
unfoldable pub normal_read : List ℕ → ℕ → ℕ → ℕ → ℕ → ℕ → Decision
normal_read s at r o x carried =
    cond (is_member s r)
    (cond (is_read_replica s r)
    (passing at (Reply o (value_at s (table_of s r) x) carried (freshness (stamp_at s (table_of s r) x) carried)))
    (passing at (NormalRead (read_replica_number s) o x carried)))
    (dropping at)

-- 'Completion, to the switch. A mark of that object with a stamp not above the completion's is cleared. Last-committed becomes the larger of the two.
-- Direct reads are on from now.' Req 10: 'From now a completion does so only if its stamp bears the present switch's number. Its other effects hold.'
unfoldable pub completion : List ℕ → ℕ → ℕ → ℕ → Switched
completion w at x t = switched (dropping at) (completed w x t)

-- 'Reply. Finishes the operation if it is open; otherwise ignored.'
unfoldable pub reply : List ℕ → ℕ → ℕ → ℕ → ℕ → Opened
reply opens at o v f =
    cond (is_open opens o) (opened (record { answer = Finished o v f; edit = take_out at }) (closing opens o)) (opened (dropping at) opens)

-- what delivery of a message does
unfoldable pub delivered_message : Given → ℕ → ℕ → Message → Outcome
delivered_message g at choice (UnstampedWrite o x v) = changing_switch g (unstamped_write g.switch g.store at o x v)
delivered_message g at choice (SwitchRead o x) = keeping g (switch_read g.switch g.store at choice o x)
delivered_message g at choice (StampedWrite r w) = changing_store g (stamped_write g.store g.held at r w)
delivered_message g at choice (DirectRead r number t o x) = keeping g (direct_read g.store at r number t o x)
delivered_message g at choice (NormalRead r o x t) = keeping g (normal_read g.store at r o x t)
delivered_message g at choice (Completion x t) = changing_switch g (completion g.switch at x t)
delivered_message g at choice (Reply o v t f) = changing_opens g (reply g.opens at o v f)
delivered_message g at choice (ContextRead o r) = changing_opens g (context_read g.switch g.store g.opens at choice o r)
delivered_message g at choice (DirectContext q number t o r) = changing_opens g (direct_context g.store g.opens at q number t o r)
delivered_message g at choice (NormalContext q o r) = changing_opens g (normal_context g.store g.opens at q o r)
delivered_message g at choice (ContextReply o r) = changing_opens g (context_reply g.opens at o r)
delivered_message g at choice (Acknowledgement q k) = changing_store g (acknowledgement g.store at q k)
delivered_message g at choice Unknown = keeping g (dropping at)
