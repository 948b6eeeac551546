-- The store that a caller lends: the chain's order, what each replica keeps, and the writes that stand in the links. Where each thing lies, and what is
-- read there.
use Rattle.std.specs.Prelude.{Bool, List, ℕ, ◌+◌, ◌*◌, ◌/◌, ◌%◌, min, eqb, get_or, set}
use Rattle.limits.specs as limits
use Rattle.lists.specs.{list_of}
use Rattle.stamp.specs.Stamps.{stamp_in, set_stamp}
use Rattle.store.specs.declared.Write.{Write}

-- how many replicas are live, then the replica at each chain place: inside the store a replica is known by its table, 1 to 8, and its number, by which packets and steps
-- name it, stands beside the table (Req 04)
abbrev pub live_cell : ℕ
live_cell = 0

abbrev pub order_cell : ℕ → ℕ
order_cell place = 1 + place

-- what each replica keeps, by its row. Req 07: a stamp has two cells
abbrev pub highest_cell : ℕ → ℕ
highest_cell row = 9 + 2 * row

abbrev pub permit_cell : ℕ → ℕ
permit_cell row = 25 + row

abbrev pub applied_cell : ℕ → ℕ
applied_cell row = 33 + row

-- the write at a position of the log: at most 128 positions in a row are needed at once, so the remainder tells them apart
unfoldable pub entry_cell : ℕ → ℕ → ℕ
entry_cell field position = 41 + field * limits.kept + position % limits.kept

unfoldable pub entry_stamp_cell : ℕ → ℕ
entry_stamp_cell position = 425 + 2 * (position % limits.kept)

-- a row of 1,024 values for each replica, then as many rows of stamps
unfoldable pub value_cell : ℕ → ℕ → ℕ
value_cell row o = 681 + (row * limits.objects + o % limits.objects)

unfoldable pub stamp_cell : ℕ → ℕ → ℕ
stamp_cell row o = 8873 + 2 * (row * limits.objects + o % limits.objects)

-- Req 04: the last replica number given; and one more than the copies made while a replica joins, 0 while none does
abbrev pub last_number_cell : ℕ
last_number_cell = 25257

abbrev pub join_cell : ℕ
join_cell = 25258

-- Req 11: 0 for a chain, 1 for a quorum store
abbrev pub kind_cell : ℕ
kind_cell = 25259

-- how many entries each replica has logged, how many of them it has acknowledged, and the kinds of the last 64 items that the leader sent
abbrev pub logged_cell : ℕ → ℕ
logged_cell row = 25260 + row

abbrev pub acknowledged_cell : ℕ → ℕ
acknowledged_cell row = 25268 + row

unfoldable pub item_cell : ℕ → ℕ
item_cell p = 25276 + p % limits.linked

-- shut, so that no check counts to it
unfoldable pub store_cells : ℕ
store_cells = 25340

-- ---- what is read

-- 'up to 8 replicas': at most 8 are live in every state
unfoldable pub live_count : List ℕ → ℕ
live_count s = min limits.replicas (get_or s live_cell 0)

-- a replica in one cell: its table, and above that its number; each has 8 bits
abbrev pub named : ℕ → ℕ → ℕ
named number table = 256 * number + table

abbrev pub table_in : ℕ → ℕ
table_in cell = cell % 256

abbrev pub number_in : ℕ → ℕ
number_in cell = cell / 256 % 256

-- the table of the replica at a place, and its number
unfoldable pub order_at : List ℕ → ℕ → ℕ
order_at s place = table_in (get_or s (order_cell place) 0)

unfoldable pub number_at : List ℕ → ℕ → ℕ
number_at s place = number_in (get_or s (order_cell place) 0)

-- the tables of the live replicas in chain order, the head's first
unfoldable pub members : List ℕ → List ℕ
members s = list_of (order_at s) (live_count s)

-- each table, 1 to 8, has a row of its own
unfoldable pub row_of : ℕ → ℕ
row_of r = r % limits.replicas

-- 'the highest stamp it has applied, and a permitted switch number'
unfoldable pub highest_of : List ℕ → ℕ → ℕ
highest_of s r = stamp_in s (highest_cell (row_of r))

unfoldable pub permitted_by : List ℕ → ℕ → ℕ
permitted_by s r = get_or s (permit_cell (row_of r)) 0

-- how many writes it has applied, of the log of writes that the head has applied
unfoldable pub applied_by : List ℕ → ℕ → ℕ
applied_by s r = get_or s (applied_cell (row_of r)) 0

unfoldable pub entry_at : List ℕ → ℕ → Write
entry_at s position = record {
  operation = get_or s (entry_cell 0 position) 0;
  object = get_or s (entry_cell 1 position) 0;
  value = get_or s (entry_cell 2 position) 0;
  stamp = stamp_in s (entry_stamp_cell position);
}

-- 'Each has a value and stamp per object'
unfoldable pub value_at : List ℕ → ℕ → ℕ → ℕ
value_at s r o = get_or s (value_cell (row_of r) o) 0

unfoldable pub stamp_at : List ℕ → ℕ → ℕ → ℕ
stamp_at s r o = stamp_in s (stamp_cell (row_of r) o)

-- Req 11: whether it is a quorum store, a leader with followers, and no chain
unfoldable pub is_quorum : List ℕ → Bool
is_quorum s = eqb (get_or s kind_cell 0) 1

-- ---- what is written

-- a write stands at a position of the log
unfoldable pub logged : List ℕ → ℕ → Write → List ℕ
logged s position w =
    set_stamp (set (set (set s (entry_cell 0 position) w.operation) (entry_cell 1 position) w.object) (entry_cell 2 position) w.value)
    (entry_stamp_cell position) w.stamp

-- a replica's tables take a write
unfoldable pub tabled : List ℕ → ℕ → Write → List ℕ
tabled s r w = set_stamp (set s (value_cell (row_of r) w.object) w.value) (stamp_cell (row_of r) w.object) w.stamp

-- a replica has this highest stamp, and has applied so many writes
unfoldable pub raised : List ℕ → ℕ → ℕ → ℕ → List ℕ
raised s r highest applied = set (set_stamp s (highest_cell (row_of r)) highest) (applied_cell (row_of r)) applied
