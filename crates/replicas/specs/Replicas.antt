-- What the replicas do with writes and reads: document 01, 'What delivery does' and the step advance. s is what the lent store holds.
use Rattle.std.specs.Prelude.{Bool, false, cond, not, List, ℕ, ◌+◌, ◌-◌, eqb, leb, ltb}
use Rattle.limits.specs as limits
use Rattle.lists.specs.{all_of}
use Rattle.stamp.specs.Stamps.{is_above, larger_of}
use Rattle.store.specs.{highest_of, permitted_by, applied_by, entry_at, stamp_at, logged, tabled, raised}
use Rattle.chain.specs.{chain_place, member_at, head_of, tail_of}
use Rattle.store.specs.declared.Write.{Write}

-- 'All links together hold at most 64 writes': those that the head has applied and the tail has not
unfoldable pub linked_writes : List ℕ → ℕ
linked_writes s = applied_by s (head_of s) - applied_by s (tail_of s)

-- a stamped write is dropped 'if the stamp is not above its highest, or if the links hold 64'; in a state that no run reaches, also if the replica's log can grow no
-- more
unfoldable pub accepts : List ℕ → ℕ → ℕ → Bool
accepts s r stamp =
    cond (is_above stamp (highest_of s r)) (cond (leb limits.linked (linked_writes s)) false (ltb (applied_by s r) limits.last_position)) false

-- the position after this one; the last stays
unfoldable pub next_position : ℕ → ℕ
next_position p = cond (ltb p limits.last_position) (p + 1) p

-- the replica applies a write: its tables take it, and it has applied one more
unfoldable pub applying : List ℕ → ℕ → Write → List ℕ
applying s r w = raised (tabled s r w) r (larger_of (highest_of s r) w.stamp) (next_position (applied_by s r))

-- 'Otherwise it is applied and put in the link to the next replica.'
unfoldable pub taking : List ℕ → ℕ → Write → List ℕ
taking s r w = applying (logged s (applied_by s r) w) r w

-- how many writes the link into a place of the chain holds, for the replica there: none at the head's
unfoldable pub pending_at : List ℕ → ℕ → ℕ → ℕ
pending_at s place r = cond (eqb place 0) 0 (applied_by s (member_at s (place - 1)) - applied_by s r)

-- how many writes its incoming link holds
unfoldable pub pending : List ℕ → ℕ → ℕ
pending s r = pending_at s (chain_place s r) r

-- the oldest write of its incoming link. 'This replica applies the oldest write of its incoming link, and passes it on unless it is the tail': to have
-- applied it is to have passed it on
unfoldable pub oldest : List ℕ → ℕ → Write
oldest s r = entry_at s (applied_by s r)

-- the object's stamp at replica r is not above the one carried
unfoldable pub is_not_above : List ℕ → ℕ → ℕ → ℕ → Bool
is_not_above s r carried x = not (is_above (stamp_at s r x) carried)

-- a direct read of one object or several is answered 'if the read's switch number is the one this replica permits and the object's stamp is not above the stamp carried'; Req 02:
-- 'and no object's stamp is above the one carried'
unfoldable pub answers_direct : List ℕ → ℕ → ℕ → ℕ → List ℕ → Bool
answers_direct s r number carried xs = cond (eqb (permitted_by s r) number) (all_of (is_not_above s r carried) xs) false
