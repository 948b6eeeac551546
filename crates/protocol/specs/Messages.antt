-- The kinds of packet of document 01, 'What delivery does', and how a packet holds each.
use Rattle.std.specs.Prelude.{Bool, false, cond, ℕ, eqb, leb, ltb}
use Rattle.store.specs.declared.Write.{Write}
use Rattle.waiting.specs.declared.Packet.{Packet}
use Rattle.waiting.specs.Waiting.{blank}
use Rattle.protocol.specs.Answers.{no_freshness}
use Rattle.protocol.specs.declared.Message.{Message}
use Rattle.protocol.specs.declared.Message.TheVariants.{UnstampedWrite, SwitchRead, StampedWrite, DirectRead, NormalRead, Completion, Reply, ContextRead, DirectContext, NormalContext, ContextReply, Acknowledgement, Unknown}

abbrev pub packet : ℕ → ℕ → ℕ → ℕ → ℕ → ℕ → ℕ → Packet
packet kind replica number operation object value stamp =
    record { kind = kind; replica = replica; number = number; operation = operation; stamp = stamp; object = object; value = value }

-- the packet that holds a message. What a reply says of a pending write stands where a direct read's switch number does. Of a read of a whole context the value names the row that holds its objects or its values: a packet does not grow by its contents
unfoldable pub packet_of : Message → Packet
packet_of (UnstampedWrite o x v) = packet 1 0 0 o x v 0
packet_of (SwitchRead o x) = packet 2 0 0 o x 0 0
packet_of (StampedWrite r w) = packet 3 r 0 w.operation w.object w.value w.stamp
packet_of (DirectRead r number t o x) = packet 4 r number o x 0 t
packet_of (NormalRead r o x t) = packet 5 r 0 o x 0 t
packet_of (Completion x t) = packet 6 0 0 0 x 0 t
packet_of (Reply o v t f) = packet 7 0 f o 0 v t
packet_of (ContextRead o r) = packet 8 0 0 o 0 r 0
packet_of (DirectContext q number t o r) = packet 9 q number o 0 r t
packet_of (NormalContext q o r) = packet 10 q 0 o 0 r 0
packet_of (ContextReply o r) = packet 11 0 0 o 0 r 0
packet_of (Acknowledgement q k) = packet 12 q 0 0 0 k 0
packet_of Unknown = blank

-- 'The tail, on applying a write, sends a reply with the written value, then a completion with object and stamp.'
abbrev pub reply_to : Write → Packet
reply_to w = packet_of (Reply w.operation w.value 0 no_freshness)

abbrev pub completion_of : Write → Packet
completion_of w = packet_of (Completion w.object w.stamp)

-- the write that a packet holds
abbrev pub write_of : Packet → Write
write_of p = record { operation = p.operation; object = p.object; value = p.value; stamp = p.stamp }

-- the message of a read of a whole context; what a packet of no kind holds
unfoldable pub context_message : Packet → Message
context_message p =
    cond (eqb p.kind 8) (ContextRead p.operation p.value)
    (cond (eqb p.kind 9) (DirectContext p.replica p.number p.stamp p.operation p.value)
    (cond (eqb p.kind 10) (NormalContext p.replica p.operation p.value)
    (cond (eqb p.kind 11) (ContextReply p.operation p.value) (cond (eqb p.kind 12) (Acknowledgement p.replica p.value) Unknown))))

-- the message that a packet holds
unfoldable pub message_of : Packet → Message
message_of p =
    cond (eqb p.kind 1) (UnstampedWrite p.operation p.object p.value)
    (cond (eqb p.kind 2) (SwitchRead p.operation p.object)
    (cond (eqb p.kind 3) (StampedWrite p.replica (write_of p))
    (cond (eqb p.kind 4) (DirectRead p.replica p.number p.stamp p.operation p.object)
    (cond (eqb p.kind 5) (NormalRead p.replica p.operation p.object p.stamp)
    (cond (eqb p.kind 6) (Completion p.object p.stamp)
    (cond (eqb p.kind 7) (Reply p.operation p.value p.stamp p.number) (context_message p)))))))

-- 'repeat of an unstamped write'
unfoldable pub is_unstamped : Packet → Bool
is_unstamped p = eqb p.kind 1

-- the packet is one of a read of a whole context, and its reply
unfoldable pub is_of_context : Packet → Bool
is_of_context p = cond (ltb p.kind 8) false (leb p.kind 11)

unfoldable pub is_context_reply : Packet → Bool
is_context_reply p = eqb p.kind 11

-- the packet with another row
abbrev pub in_row : Packet → ℕ → Packet
in_row p r = packet p.kind p.replica p.number p.operation p.object r p.stamp
