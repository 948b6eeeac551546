-- The chain of document 01, 'Parts and how big they are': which replicas are live and in which order, and how that changes. s is what the lent store holds.
use Rattle.std.specs.Prelude.{Bool, cond, Option, Some, None, List, ℕ, zero, suc, ◌+◌, ◌-◌, ◌*◌, ◌%◌, get_or, set, replicate, eqb, ltb}
use Rattle.limits.specs as limits
use Rattle.lists.specs.{moves, index_of, list_of, all_of}
use Rattle.store.specs.{live_cell, order_cell, permit_cell, last_number_cell, store_cells, row_of, named, live_count, order_at, number_at, members, permitted_by, is_quorum}

-- ---- by tables

-- the place in the chain, from 0, of the replica that has this table
unfoldable pub chain_place : List ℕ → ℕ → ℕ
chain_place s r = index_of (members s) r

unfoldable pub is_live : List ℕ → ℕ → Bool
is_live s r = ltb (chain_place s r) (live_count s)

-- 'the first live one is the head, the last the tail'; 0 where none is live
unfoldable pub member_at : List ℕ → ℕ → ℕ
member_at s place = get_or (members s) place 0

unfoldable pub head_of : List ℕ → ℕ
head_of s = member_at s 0

unfoldable pub tail_of : List ℕ → ℕ
tail_of s = member_at s (live_count s - 1)

-- ---- by numbers

-- the numbers of the live replicas in chain order
unfoldable pub numbers : List ℕ → List ℕ
numbers s = list_of (number_at s) (live_count s)

unfoldable pub place_of : List ℕ → ℕ → ℕ
place_of s r = index_of (numbers s) r

-- the replica with this number is live
unfoldable pub is_member : List ℕ → ℕ → Bool
is_member s r = ltb (place_of s r) (live_count s)

-- it is the tail
unfoldable pub is_tail : List ℕ → ℕ → Bool
is_tail s r = eqb (place_of s r + 1) (live_count s)

-- Req 04: its table is looked up by its number
unfoldable pub table_of : List ℕ → ℕ → ℕ
table_of s r = member_at s (place_of s r)

-- the place and the table of a live replica, and none where it is gone
unfoldable pub found_place : List ℕ → ℕ → Option ℕ
found_place s r = cond (is_member s r) (Some (place_of s r)) None

unfoldable pub found_table : List ℕ → ℕ → Option ℕ
found_table s r = cond (is_member s r) (Some (table_of s r)) None

unfoldable pub number_in : List ℕ → ℕ → ℕ
number_in s place = get_or (numbers s) place 0

unfoldable pub head_number : List ℕ → ℕ
head_number s = number_in s 0

unfoldable pub tail_number : List ℕ → ℕ
tail_number s = number_in s (live_count s - 1)

-- 'the live replica at chain place (choice mod number of live replicas), places from 0'
unfoldable pub chosen_by : List ℕ → ℕ → ℕ
chosen_by s choice = number_in s (choice % live_count s)

-- ---- the replica that answers normal reads: the tail; Req 11: in a quorum store the leader, which is the head

unfoldable pub read_replica_of : List ℕ → ℕ
read_replica_of s = cond (is_quorum s) (head_of s) (tail_of s)

unfoldable pub read_replica_number : List ℕ → ℕ
read_replica_number s = cond (is_quorum s) (head_number s) (tail_number s)

-- it stands at this place
unfoldable pub is_read_place : List ℕ → ℕ → Bool
is_read_place s place = cond (is_quorum s) (eqb place 0) (eqb (place + 1) (live_count s))

unfoldable pub is_read_replica : List ℕ → ℕ → Bool
is_read_replica s r = is_read_place s (place_of s r)

-- ---- permits

unfoldable pub permits : List ℕ → ℕ → ℕ → Bool
permits s number r = eqb (permitted_by s r) number

-- 'every live replica permits this switch's number'
unfoldable pub all_permit : List ℕ → ℕ → Bool
all_permit s number = all_of (permits s number) (members s)

-- 'tell this replica to permit' a switch
unfoldable pub permitting : List ℕ → ℕ → ℕ → List ℕ
permitting s r number = set s (permit_cell (row_of r)) number

-- ---- removal

-- 'remove this replica', which has this place: each later one moves up one place in the chain, and what each has applied stays. The links are what lies between two
-- neighbours' applied writes, so a middle replica's two links join, the head's outgoing link is lost and the tail's incoming link is emptied. Behind the live replicas stand
-- the free tables, that of a joining replica first: those move up too, and the removed one's table is the last of all.
abbrev pub last_place : ℕ
last_place = 7

unfoldable pub removed : List ℕ → ℕ → List ℕ
removed s place =
    cond (ltb place (live_count s))
    (set (set (moves 0 s (order_cell place) (last_place - place)) (order_cell last_place) (order_at s place)) live_cell (live_count s - 1)) s

-- ---- the start

-- 'An object never written holds value 0 and stamp (0,0).'
unfoldable pub empty_cells : List ℕ
unfolding store_cells
empty_cells = replicate store_cells 0

-- 'Replicas are numbered 1 to n at the start', with permitted switch number 1: the first k of them, each with the table of its number
unfoldable pub numbered : List ℕ → ℕ → List ℕ
numbered s zero = s
numbered s (suc k) = set (set (numbered s k) (order_cell k) (named (k + 1) (k + 1))) (permit_cell k) 1

unfoldable pub empty_store : ℕ → List ℕ
empty_store n = set (set (numbered empty_cells limits.replicas) live_cell n) last_number_cell n
