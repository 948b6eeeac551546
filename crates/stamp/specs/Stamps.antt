-- A stamp (the field's sequence number) is a switch number and a counter, held as one number.
use Rattle.std.specs.Prelude.{Bool, cond, List, ℕ, ◌+◌, ◌*◌, ◌/◌, ◌%◌, eqb, ltb, get_or, set}
use Rattle.limits.specs.{counters}

unfoldable pub stamp_of : ℕ → ℕ → ℕ
stamp_of number counter = number * counters + counter

unfoldable pub number_of : ℕ → ℕ
number_of stamp = stamp / counters

unfoldable pub counter_of : ℕ → ℕ
counter_of stamp = stamp % counters

-- 'compared by switch number first, then counter': a is above b
unfoldable pub is_above : ℕ → ℕ → Bool
is_above a b = cond (eqb (number_of a) (number_of b)) (ltb (counter_of b) (counter_of a)) (ltb (number_of b) (number_of a))

-- the larger of the two
unfoldable pub larger_of : ℕ → ℕ → ℕ
larger_of a b = cond (is_above b a) b a

-- Req 07: a stamp has 48 bits and lies in two neighbouring cells of 32, its switch number in the first. Whatever they hold, all that stands above the counter is the switch number
unfoldable pub stamp_in : List ℕ → ℕ → ℕ
stamp_in l i = stamp_of (get_or l i 0) (get_or l (i + 1) 0)

unfoldable pub set_stamp : List ℕ → ℕ → ℕ → List ℕ
set_stamp l i t = set (set l i (number_of t)) (i + 1) (counter_of t)
