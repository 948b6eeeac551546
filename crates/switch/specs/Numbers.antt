-- The numbers of the switch, which the caller lends: where each lies. Document 01, 'Parts and how big they are': 'number (1 at the start), counter,
-- last-committed stamp, a direct-reads sign (off at the start), and the marks'. Req 03: 'The switch keeps the number of counting marks as part of its state.'
use Rattle.std.specs.Prelude.{Bool, not, List, ℕ, ◌+◌, ◌*◌, ◌%◌, eqb, get_or}
use Rattle.limits.specs as limits
use Rattle.stamp.specs.Stamps.{stamp_in}

abbrev pub number_cell : ℕ
number_cell = 0

abbrev pub counter_cell : ℕ
counter_cell = 1

abbrev pub committed_cell : ℕ
committed_cell = 2

-- Req 07: a stamp has two cells
abbrev pub direct_cell : ℕ
direct_cell = 4

-- 'Three stages of 16 slots': slots 0 to 15 are the first stage's. First the object of each slot, then the stamp of each
abbrev pub slots : ℕ
slots = 48

abbrev pub object_cell : ℕ → ℕ
object_cell i = 5 + i

abbrev pub slot_stamp_cell : ℕ → ℕ
slot_stamp_cell i = 53 + 2 * i

-- the stored number of counting marks
abbrev pub marks_cell : ℕ
marks_cell = 149

abbrev pub switch_cells : ℕ
switch_cells = 150

-- what is read there; a number has 16 bits
unfoldable pub number_in : List ℕ → ℕ
number_in w = get_or w number_cell 0 % limits.switch_numbers

unfoldable pub counter_in : List ℕ → ℕ
counter_in w = get_or w counter_cell 0

unfoldable pub committed_in : List ℕ → ℕ
committed_in w = stamp_in w committed_cell

unfoldable pub direct_in : List ℕ → Bool
direct_in w = not (eqb (get_or w direct_cell 0) 0)

unfoldable pub marks_in : List ℕ → ℕ
marks_in w = get_or w marks_cell 0

unfoldable pub slot_object : List ℕ → ℕ → ℕ
slot_object w i = get_or w (object_cell i) 0

unfoldable pub slot_stamp : List ℕ → ℕ → ℕ
slot_stamp w i = stamp_in w (slot_stamp_cell i)
