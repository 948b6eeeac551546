-- The waiting list of document 01, 'Parts and how big they are': packets, oldest first, in a row of lent places of which the first `count` are in use.
use Rattle.std.specs.Prelude.{Bool, false, cond, List, [], ◌∷◌, ℕ, ◌+◌, ◌-◌, min, length, get_or, set, take, leb, ltb}
use Rattle.limits.specs as limits
use Rattle.lists.specs.{moves}
use Rattle.waiting.specs.declared.Packet.{Packet}
use Rattle.waiting.specs.declared.Edit.{Edit}

-- what a slice of packets and a count stand for
pub record WaitingList : Type 0 where
  pub packets : List Packet
  pub count : ℕ

-- the list of a row and a count
abbrev pub waiting_list : List Packet → ℕ → WaitingList
waiting_list packets count = record { packets = packets; count = count }

-- the packet of a place that holds none
abbrev pub blank : Packet
blank = record { kind = 0; replica = 0; number = 0; operation = 0; stamp = 0; object = 0; value = 0 }

-- 'at most 64 packets': how many wait
unfoldable pub held_in : ℕ → ℕ
held_in count = min limits.waiting count

abbrev pub held : WaitingList → ℕ
held w = held_in w.count

-- the packets that wait, oldest first
unfoldable pub waits : WaitingList → List Packet
waits w = take (held w) w.packets

-- none waits, whatever the lent places hold
unfoldable pub none_wait : List Packet → WaitingList
none_wait packets = waiting_list packets 0

-- the packet at a place, blank past the row's end
unfoldable pub look_at : List Packet → ℕ → Packet
look_at packets at = get_or packets at blank

-- ---- an edit

-- whether a packet goes out: one must wait at the position
unfoldable pub takes_out : ℕ → Edit → Bool
takes_out count e = cond e.take (ltb e.at (held_in count)) false

-- how many are left then
unfoldable pub left_by : ℕ → Edit → ℕ
left_by count e = cond (takes_out count e) (held_in count - 1) count

-- 64 lent places are there, and no more than 64 packets wait afterwards; an edit that does not fit changes nothing
unfoldable pub fits : ℕ → ℕ → ℕ → Bool
fits length left add = cond (ltb length limits.waiting) false (leb (left + add) limits.waiting)

-- 'Taking a packet out moves each later one down one place.'
unfoldable pub after_taking : WaitingList → Edit → List Packet
after_taking w e = cond (takes_out w.count e) (moves blank w.packets e.at (held w - 1 - e.at)) w.packets

-- 'New packets go to the end': at most two, in this order, behind the first n
unfoldable pub adding : List Packet → ℕ → Edit → List Packet
adding packets n e = cond (leb 1 e.add) (cond (leb 2 e.add) (set (set packets n e.first) (n + 1) e.second) (set packets n e.first)) packets

unfoldable pub edited : WaitingList → Edit → WaitingList
edited w e =
    cond (fits (length w.packets) (left_by w.count e) e.add)
    (waiting_list (adding (after_taking w e) (left_by w.count e) e) (left_by w.count e + e.add))
    w

-- what an edit adds
unfoldable pub added : Edit → List Packet
added e = cond (leb 1 e.add) (e.first ∷ cond (leb 2 e.add) (e.second ∷ []) []) []
