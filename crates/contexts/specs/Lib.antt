-- Document 02, Req 02: the contexts that are being read. A context is a list of up to eight numbers: the objects of a read until it is answered, and their values then.
-- Each lies in one of 64 rows of nine cells, behind the open operations: how many numbers there are, and the numbers. A row with none is free. A packet names its row.
use Rattle.std.specs.Prelude.{Bool, true, false, cond, Option, Some, None, List, [], ◌∷◌, ℕ, ◌+◌, ◌*◌, ◌%◌, min, eqb, leb, ltb, get_or, set}
use Rattle.limits.specs as limits
use Rattle.lists.specs.{index_of, list_of, all_of}
use Rattle.operations.specs.{context_cells}
use Rattle.contexts.specs.declared.Context.{Context}
use Rattle.contexts.specs.declared.Objects.{Objects}

-- ---- a context

abbrev pub context : ℕ → ℕ → ℕ → ℕ → ℕ → ℕ → ℕ → ℕ → ℕ → Context
context n a b c d e f g h =
    record { count = n; first = a; second = b; third = c; fourth = d; fifth = e; sixth = f; seventh = g; eighth = h }

-- its eight places
abbrev pub places_of : Context → List ℕ
places_of v =
    v.first ∷ v.second ∷ v.third ∷ v.fourth ∷ v.fifth ∷ v.sixth ∷ v.seventh ∷ v.eighth ∷ []

unfoldable pub place_of : Context → ℕ → ℕ
place_of v i = get_or (places_of v) i 0

-- how many numbers it has: there are eight places
unfoldable pub size_of : Context → ℕ
size_of v = min limits.context_most v.count

-- its numbers, in the order given
unfoldable pub numbers_of : Context → List ℕ
numbers_of v = list_of (place_of v) (size_of v)

-- what stands at place i of n numbers: nothing behind the last
unfoldable pub kept_at : ℕ → ℕ → ℕ → ℕ
kept_at n i x = cond (ltb i n) x 0

-- the context whose numbers are f of this one's
unfoldable pub mapped : (ℕ → ℕ) → Context → Context
mapped f v =
    context v.count (kept_at v.count 0 (f v.first)) (kept_at v.count 1 (f v.second)) (kept_at v.count 2 (f v.third))
    (kept_at v.count 3 (f v.fourth)) (kept_at v.count 4 (f v.fifth)) (kept_at v.count 5 (f v.sixth))
    (kept_at v.count 6 (f v.seventh)) (kept_at v.count 7 (f v.eighth))

-- ---- tests

-- 'a read of 2 to 8 objects'
unfoldable pub is_count : ℕ → Bool
is_count n = cond (leb limits.context_least n) (leb n limits.context_most) false

unfoldable pub is_object : ℕ → Bool
is_object x = ltb x limits.objects

-- no object is above 1,023
unfoldable pub are_objects : Context → Bool
are_objects v = all_of is_object (numbers_of v)

-- the number at place i stands at no earlier one
unfoldable pub stands_first : List ℕ → ℕ → Bool
stands_first l i = eqb (index_of l (get_or l i 0)) i

-- no number stands twice
unfoldable pub are_different : Context → Bool
are_different v = all_of (stands_first (numbers_of v)) (list_of (λ i. i) (size_of v))

-- a context of 2 to 8 objects: in a state that no run reaches a row may hold another
unfoldable pub is_context : Context → Bool
is_context v = cond (is_count v.count) (are_objects v) false

-- ---- the objects that a step names

abbrev pub context_of : Objects → Context
context_of x =
    context x.count x.first x.second x.third x.fourth x.fifth x.sixth x.seventh x.eighth

-- the place is one of the first n, or empty
unfoldable pub empty_at : ℕ → ℕ → ℕ → Bool
empty_at n i x = cond (ltb i n) true (eqb x 0)

-- 'another number of objects in a step': the places behind the last object are 0, or there would be others
unfoldable pub is_naming : Objects → Bool
is_naming x =
    cond (is_count x.count)
    (cond (empty_at x.count 2 x.third)
    (cond (empty_at x.count 3 x.fourth)
    (cond (empty_at x.count 4 x.fifth)
    (cond (empty_at x.count 5 x.sixth) (cond (empty_at x.count 6 x.seventh) (empty_at x.count 7 x.eighth) false) false) false) false) false)
    false

-- ---- the rows

-- where row r begins; every number names a row
unfoldable pub row_cell : ℕ → ℕ
row_cell r = context_cells + r % limits.contexts * 9

-- how many numbers row r holds
unfoldable pub size_at : List ℕ → ℕ → ℕ
size_at cells r = get_or cells (row_cell r) 0

unfoldable pub number_at : List ℕ → ℕ → ℕ → ℕ
number_at cells r i = kept_at (size_at cells r) i (get_or cells (row_cell r + 1 + i) 0)

-- the context in row r
unfoldable pub context_at : List ℕ → ℕ → Context
context_at cells r =
    context (size_at cells r) (number_at cells r 0) (number_at cells r 1) (number_at cells r 2) (number_at cells r 3) (number_at cells r 4)
    (number_at cells r 5) (number_at cells r 6) (number_at cells r 7)

-- the first free row, 64 where none is
unfoldable pub free_row : List ℕ → ℕ
free_row cells = index_of (list_of (size_at cells) limits.contexts) 0

-- that row, and none where every row is in use
unfoldable pub found_row : List ℕ → Option ℕ
found_row cells = cond (ltb (free_row cells) limits.contexts) (Some (free_row cells)) None

-- these numbers, from a place on
unfoldable pub puts : List ℕ → ℕ → List ℕ → List ℕ
puts cells i [] = cells
puts cells i (x ∷ l) = puts (set cells i x) (i + 1) l

-- row r holds a context
unfoldable pub holding : List ℕ → ℕ → Context → List ℕ
holding cells r v = puts cells (row_cell r) (v.count ∷ places_of v)

-- row r is free
unfoldable pub freeing : List ℕ → ℕ → List ℕ
freeing cells r = set cells (row_cell r) 0
