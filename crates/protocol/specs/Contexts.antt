-- Document 02, Req 02: what delivery does with a read of a whole context, and what becomes of its row. w is the switch, s the store; o is the operation, r its row.
use Rattle.std.specs.Prelude.{Bool, true, cond, List, ℕ}
use Rattle.operations.specs.{is_open, closing}
use Rattle.contexts.specs.{numbers_of, mapped, is_count, is_context, context_at, holding, freeing}
use Rattle.store.specs.{value_at}
use Rattle.chain.specs.{is_member, is_read_replica, table_of, read_replica_number, chosen_by}
use Rattle.switch.specs.Numbers.{number_in, committed_in}
use Rattle.waiting.specs.declared.Packet.{Packet}
use Rattle.protocol.specs.declared.Answer.TheVariants.{FinishedContext}
use Rattle.protocol.specs.declared.Message.TheVariants.{DirectContext, NormalContext, ContextReply}
use Rattle.protocol.specs.Messages.{is_of_context, is_context_reply}
use Rattle.protocol.specs.Reads.{goes_directly, answers_read}
use Rattle.protocol.specs.Decisions.{Opened, opened, take_out, dropping, passing}

-- ---- the row of a packet

-- the row of a packet of a context holds 2 to 8 numbers, which are objects until the read is answered: so it is in every run
unfoldable pub has_row : List ℕ → Packet → Bool
has_row opens p =
    cond (is_of_context p) (cond (is_context_reply p) (is_count (context_at opens p.value).count) (is_context (context_at opens p.value))) true

-- ---- a packet leaves the list

-- a row is free again when its packet leaves the list
unfoldable pub released : List ℕ → Packet → List ℕ
released opens p = cond (is_of_context p) (freeing opens p.value) opens

-- the packet leaves the list, and nothing else happens
unfoldable pub leaving : List ℕ → Packet → ℕ → Opened
leaving opens p at = opened (dropping at) (released opens p)

-- the same of a packet that names row r
unfoldable pub dropping_row : List ℕ → ℕ → ℕ → Opened
dropping_row opens at r = opened (dropping at) (freeing opens r)

-- ---- what delivery does

-- a read of a whole context, to the switch
unfoldable pub context_read : List ℕ → List ℕ → List ℕ → ℕ → ℕ → ℕ → ℕ → Opened
context_read w s opens at choice o r =
    cond (goes_directly w (numbers_of (context_at opens r)))
    (opened (passing at (DirectContext (chosen_by s choice) (number_in w) (committed_in w) o r)) opens)
    (opened (passing at (NormalContext (read_replica_number s) o r)) opens)

-- replica q answers the read whole: its row then holds the values, in the order given
unfoldable pub answering_context : List ℕ → List ℕ → ℕ → ℕ → ℕ → ℕ → Opened
answering_context s opens at q o r = opened (passing at (ContextReply o r)) (holding opens r (mapped (value_at s q) (context_at opens r)))

-- the direct read, to replica q: as for a single read, dropped if the replica is gone, and otherwise answered or sent on
unfoldable pub direct_context : List ℕ → List ℕ → ℕ → ℕ → ℕ → ℕ → ℕ → ℕ → Opened
direct_context s opens at q number t o r =
    cond (is_member s q)
    (cond (answers_read s (table_of s q) number t (numbers_of (context_at opens r)))
    (answering_context s opens at (table_of s q) o r)
    (opened (passing at (NormalContext (read_replica_number s) o r)) opens))
    (dropping_row opens at r)

-- the normal read, to replica q; Req 04: sent on where q is a former tail
unfoldable pub normal_context : List ℕ → List ℕ → ℕ → ℕ → ℕ → ℕ → Opened
normal_context s opens at q o r =
    cond (is_member s q)
    (cond (is_read_replica s q) (answering_context s opens at (table_of s q) o r) (opened (passing at (NormalContext (read_replica_number s) o r)) opens))
    (dropping_row opens at r)

-- the reply: it finishes the operation with the values, if the operation is open
unfoldable pub context_reply : List ℕ → ℕ → ℕ → ℕ → Opened
context_reply opens at o r =
    cond (is_open opens o)
    (opened (record { answer = FinishedContext o (context_at opens r); edit = take_out at }) (freeing (closing opens o) r))
    (dropping_row opens at r)
