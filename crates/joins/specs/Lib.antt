-- Document 02, Req 04: a replica joins the chain while traffic runs. Until its sixteenth copy it stands behind the live replicas in the order: it has a table and a number,
-- and is not live. s is what the lent store holds.
use Rattle.std.specs.Prelude.{Bool, true, false, cond, not, List, ℕ, zero, suc, ◌+◌, ◌-◌, ◌*◌, ◌%◌, eqb, leb, ltb, get_or, set}
use Rattle.limits.specs as limits
use Rattle.store.specs.declared.Write.{Write}
use Rattle.store.specs.{live_cell, order_cell, last_number_cell, join_cell, named, live_count, order_at, number_at, highest_of, permitted_by, applied_by, value_at, stamp_at, tabled, raised}
use Rattle.chain.specs.{tail_of, place_of, is_tail, permitting, removed}

-- the cell of a join is set
unfoldable pub is_join_set : List ℕ → Bool
is_join_set s = not (eqb (get_or s join_cell 0) 0)

-- a join is under way: there is a place for the newcomer behind the live replicas
unfoldable pub is_joining : List ℕ → Bool
is_joining s = cond (leb limits.replicas (live_count s)) false (is_join_set s)

-- the copies made so far: below 16 in every state
unfoldable pub copies_made : List ℕ → ℕ
copies_made s = (get_or s join_cell 0 - 1) % limits.copies

-- the newcomer's table and number
unfoldable pub newcomer : List ℕ → ℕ
newcomer s = order_at s (live_count s)

unfoldable pub newcomer_number : List ℕ → ℕ
newcomer_number s = number_at s (live_count s)

unfoldable pub last_number : List ℕ → ℕ
last_number s = get_or s last_number_cell 0 % 256

-- ---- a join begins

-- 'if eight are live or number 255 has been given'
unfoldable pub is_full : List ℕ → Bool
is_full s = cond (leb limits.replicas (live_count s)) true (leb limits.last_replica (last_number s))

-- 'Tag 12 (length 0) begins a join; the newcomer gets the next number never used.' It takes the first free table
unfoldable pub beginning : List ℕ → List ℕ
beginning s =
    set (set (set s (order_cell (live_count s)) (named (last_number s + 1) (newcomer s))) last_number_cell (last_number s + 1)) join_cell 1

-- ---- a copy

-- an object's value and stamp at a table, as a write of it
abbrev pub holding_of : List ℕ → ℕ → ℕ → Write
holding_of s t o = record { operation = 0; object = o; value = value_at s t o; stamp = stamp_at s t o }

-- an object goes from table t to table q
unfoldable pub copied_object : List ℕ → ℕ → ℕ → ℕ → List ℕ
copied_object s q t o = tabled s q (holding_of s t o)

-- k objects from the first on go from table t to table q, 'values and stamps'
unfoldable pub copied : List ℕ → ℕ → ℕ → ℕ → ℕ → List ℕ
copied s q t first zero = s
copied s q t first (suc k) = copied_object (copied s q t first k) q t (first + k)

-- 'The sixteenth copy makes it the tail, with the old tail's highest stamp and permitted switch, and an empty link': it has applied what the old tail has
unfoldable pub promoted : List ℕ → List ℕ
promoted s =
    set (set (permitting (raised s (newcomer s) (highest_of s (tail_of s)) (applied_by s (tail_of s))) (newcomer s) (permitted_by s (tail_of s))) live_cell (live_count s + 1)) join_cell 0

-- 'Each tag 13 (length 0) copies the next 64 objects, from object 0 up, with values and stamps from the tail'
unfoldable pub one_copy : List ℕ → List ℕ
one_copy s = copied s (newcomer s) (tail_of s) (limits.copied_at_once * copies_made s) limits.copied_at_once

unfoldable pub copying : List ℕ → List ℕ
copying s =
    cond (eqb (copies_made s + 1) limits.copies) (promoted (one_copy s)) (set (one_copy s) join_cell (copies_made s + 2))

-- ---- meanwhile

-- the newcomer has its copy of this object
unfoldable pub is_copied : List ℕ → ℕ → Bool
is_copied s o = cond (is_joining s) (ltb o (limits.copied_at_once * copies_made s)) false

-- the replica with this number joins
unfoldable pub is_newcomer : List ℕ → ℕ → Bool
is_newcomer s r = cond (is_joining s) (eqb (newcomer_number s) r) false

-- 'writes that the tail applies to objects already copied reach the newcomer too'
unfoldable pub handing_on : List ℕ → Write → List ℕ
handing_on s w = cond (is_copied s w.object) (tabled s (newcomer s) w) s

-- 'Removing the tail meanwhile ends the join, and the newcomer's number is used up'
unfoldable pub join_ended : List ℕ → ℕ → List ℕ
join_ended s r = cond (is_tail s r) (set s join_cell 0) s

unfoldable pub without : List ℕ → ℕ → List ℕ
without s r = removed (join_ended s r) (place_of s r)
