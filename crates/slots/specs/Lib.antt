-- The slots of document 01, 'The marks (dirty set)': which are an object's, and the tests of one slot. A slot holds an object and a stamp.
use Rattle.std.specs.Prelude.{Bool, true, false, cond, ℕ, ◌+◌, ◌/◌, ◌%◌, eqb}
use Rattle.stamp.specs.Stamps.{is_above}

-- 'Object o has slot o mod 16 in the first stage, (o div 16) mod 16 in the second, o div 64 in the third.'
unfoldable pub first_slot : ℕ → ℕ
first_slot o = o % 16

unfoldable pub second_slot : ℕ → ℕ
second_slot o = 16 + o / 16 % 16

-- up to object 1,023 o div 64 is below 16; the remainder makes it total
unfoldable pub third_slot : ℕ → ℕ
third_slot o = 32 + o / 64 % 16

-- 'A slot holds an object and a stamp, or nothing.' The stamp (0,0), which no write bears, stands for nothing.
unfoldable pub holds_object : ℕ → ℕ → ℕ → Bool
holds_object object stamp o = cond (eqb stamp 0) false (eqb object o)

-- 'A mark counts while its stamp is above the last-committed stamp'
unfoldable pub counts_above : ℕ → ℕ → Bool
counts_above stamp committed = is_above stamp committed

-- 'otherwise its slot is free'
unfoldable pub is_free : ℕ → ℕ → Bool
is_free stamp committed = cond (counts_above stamp committed) false true

-- the slot holds a mark of the object whose stamp is above c
unfoldable pub holds_above : ℕ → ℕ → ℕ → ℕ → Bool
holds_above object stamp o c = cond (holds_object object stamp o) (counts_above stamp c) false

-- 'A mark of that object with a stamp not above the completion's is cleared.'
unfoldable pub is_completed : ℕ → ℕ → ℕ → ℕ → Bool
is_completed object stamp o t = cond (holds_object object stamp o) (cond (is_above stamp t) false true) false
