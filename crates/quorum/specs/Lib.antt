-- Document 02, Req 11: a quorum store, 'a leader with followers .. following the normal case of Viewstamped Replication'. s is what the lent store holds.
-- The leader's log is the log of crates/store, of which the store keeps the last 128 entries. Each replica has logged a front part of the log and has executed a part of that.
-- Every follower is sent the same items in the same order: a link is what lies between the items that a follower has taken and all that were sent.
pub mod Links
use Rattle.std.specs.Prelude.{Bool, true, false, cond, not, List, [], ◌∷◌, ℕ, zero, suc, ◌+◌, ◌-◌, ◌*◌, ◌%◌, max, eqb, leb, ltb, get_or, set}
use Rattle.limits.specs as limits
use Rattle.lists.specs.{all_of}
use Rattle.stamp.specs.Stamps.{is_above}
use Rattle.store.specs.declared.Write.{Write}
use Rattle.store.specs.{kind_cell, logged_cell, acknowledged_cell, item_cell, row_of, live_count, members, highest_of, permitted_by, applied_by, entry_at, logged}
use Rattle.chain.specs.{head_of, empty_store}
use Rattle.replicas.specs.Replicas.{next_position, applying}

-- ---- what each replica has

-- how many entries of the leader's log it has logged; how many it has executed is `applied_by` of crates/store, and its executed stamp `highest_of`
unfoldable pub logged_by : List ℕ → ℕ → ℕ
logged_by s r = get_or s (logged_cell (row_of r)) 0

-- how many entries of its log the leader knows it to have logged, 'by the acknowledgements delivered to it'
unfoldable pub acknowledged_by : List ℕ → ℕ → ℕ
acknowledged_by s r = get_or s (acknowledged_cell (row_of r)) 0

-- ---- the links

-- 'an ordered link of 64 entries and executed stamps to every follower': item p of all that were ever sent is an entry, the next of the log; otherwise it is an executed stamp, that of
-- the next entry that the leader executed
unfoldable pub is_entry : List ℕ → ℕ → Bool
is_entry s p = eqb (get_or s (item_cell p) 0) 1

-- how many items a replica has taken: one for each entry that it has logged and one for each that it has executed. The leader has made them all
unfoldable pub items_taken : List ℕ → ℕ → ℕ
items_taken s r = logged_by s r + applied_by s r

-- how many its link holds
unfoldable pub linked_items : List ℕ → ℕ → ℕ
linked_items s r = items_taken s (head_of s) - items_taken s r

unfoldable pub has_room : List ℕ → ℕ → Bool
has_room s r = ltb (linked_items s r) limits.linked

-- no link is full
unfoldable pub links_have_room : List ℕ → Bool
links_have_room s = all_of (has_room s) (members s)

-- ---- the leader logs

-- the stamp of the last entry; (0,0) while there is none
unfoldable pub last_logged : List ℕ → ℕ
last_logged s = (entry_at s (logged_by s (head_of s) - 1)).stamp

-- 'at most 64 unexecuted'
unfoldable pub unexecuted : List ℕ → ℕ
unexecuted s = logged_by s (head_of s) - applied_by s (head_of s)

-- 'a write that is not above the last logged, or finds a link or the log full, is dropped'; in a state that no run reaches, also if the log can grow no more
unfoldable pub logs : List ℕ → ℕ → Bool
logs s stamp =
    cond (is_above stamp (last_logged s))
    (cond (ltb (unexecuted s) limits.linked) (cond (links_have_room s) (ltb (logged_by s (head_of s)) limits.last_position) false) false) false

-- an item is sent to every follower: 1 an entry, 0 an executed stamp
unfoldable pub sending_item : List ℕ → ℕ → List ℕ
sending_item s item = set s (item_cell (items_taken s (head_of s))) item

unfoldable pub count_logged : List ℕ → ℕ → List ℕ
count_logged s r = set s (logged_cell (row_of r)) (next_position (logged_by s r))

-- 'logs stamped writes in rising order .. and sends each down an ordered link .. to every follower'
unfoldable pub logging : List ℕ → Write → List ℕ
logging s w = count_logged (sending_item (logged s (logged_by s (head_of s)) w) 1) (head_of s)

-- ---- a follower takes the oldest item of its link

unfoldable pub next_is_entry : List ℕ → ℕ → Bool
next_is_entry s r = is_entry s (items_taken s r)

-- the next entry to execute
unfoldable pub next_entry : List ℕ → ℕ → Write
next_entry s r = entry_at s (applied_by s r)

-- 'Advancing a follower logs the entry'; 'a follower executes up to that stamp on taking it': one stamp is sent for each entry that the leader executed, so up to that stamp is one more
unfoldable pub taking_item : List ℕ → ℕ → List ℕ
taking_item s r = cond (next_is_entry s r) (count_logged s r) (applying s r (next_entry s r))

-- 'an acknowledgement .. covers all earlier entries too and can be lost, repeated or late'
unfoldable pub acknowledging : List ℕ → ℕ → ℕ → List ℕ
acknowledging s r k = set s (acknowledged_cell (row_of r)) (max (acknowledged_by s r) k)

-- ---- the leader executes

-- replica r holds entry p, as far as the leader knows; 'counting itself'
unfoldable pub is_holder : List ℕ → ℕ → ℕ → Bool
is_holder s p r = cond (eqb r (head_of s)) true (ltb p (acknowledged_by s r))

unfoldable pub count_of : (ℕ → Bool) → List ℕ → ℕ
count_of f [] = 0
count_of f (r ∷ rs) = cond (f r) (count_of f rs + 1) (count_of f rs)

-- 'the next write that a majority holds'
unfoldable pub majority_holds : List ℕ → ℕ → Bool
majority_holds s p = ltb (live_count s) (2 * count_of (is_holder s p) (members s))

unfoldable pub executes : List ℕ → Bool
executes s = cond (eqb (unexecuted s) 0) false (cond (majority_holds s (applied_by s (head_of s))) (links_have_room s) false)

-- 'makes the leader execute the next write .. and put its executed stamp in every link'
unfoldable pub executing : List ℕ → List ℕ
executing s = applying (sending_item s 0) (head_of s) (next_entry s (head_of s))

-- ---- direct reads

-- 'A replica answers a direct read, of one object or several, if it permits the read's switch and its executed stamp is not below the one carried'
unfoldable pub answers_behind : List ℕ → ℕ → ℕ → ℕ → Bool
answers_behind s r number carried = cond (eqb (permitted_by s r) number) (not (is_above carried (highest_of s r))) false

-- ---- the start

-- 'Tag 33 (length 1) starts 3, 5 or 7 replicas, replica 1 the leader and head for good'
unfoldable pub quorum_store : ℕ → List ℕ
quorum_store n = set (empty_store n) kind_cell 1
