-- The open operations of document 01: their numbers stand without a gap in the first of the cells that the caller lends. Behind the 64 cells stand how many they are,
-- and the last number given.
use Rattle.std.specs.Prelude.{Bool, cond, List, ℕ, ◌+◌, ◌-◌, min, ltb, get_or, set, replicate}
use Rattle.limits.specs as limits
use Rattle.lists.specs.{index_of, list_of}
pub mod Search

abbrev pub open_count_cell : ℕ
open_count_cell = 64

abbrev pub last_given_cell : ℕ
last_given_cell = 65

-- behind them lie the contexts of crates/contexts: 64 rows of nine cells
abbrev pub context_cells : ℕ
context_cells = 66

abbrev pub open_cells : ℕ
open_cells = 642

-- 'at most 64 are open'
unfoldable pub open_count : List ℕ → ℕ
open_count cells = min limits.open_operations (get_or cells open_count_cell 0)

unfoldable pub open_numbers : List ℕ → List ℕ
open_numbers cells = list_of (λ i. get_or cells i 0) (open_count cells)

-- 'Operations are numbered from 1': the last number given, 0 before the first
unfoldable pub last_given : List ℕ → ℕ
last_given cells = get_or cells last_given_cell 0

unfoldable pub none_open : List ℕ
none_open = replicate open_cells 0

unfoldable pub open_place : List ℕ → ℕ → ℕ
open_place cells o = index_of (open_numbers cells) o

unfoldable pub is_open : List ℕ → ℕ → Bool
is_open cells o = ltb (open_place cells o) (open_count cells)

unfoldable pub room_to_open : List ℕ → Bool
room_to_open cells = ltb (open_count cells) limits.open_operations

-- the operation is open, and its number is the last one given
unfoldable pub opening : List ℕ → ℕ → List ℕ
opening cells o =
    cond (room_to_open cells) (set (set (set cells (open_count cells) o) open_count_cell (open_count cells + 1)) last_given_cell o) cells

-- the operation is open no more: the last of the open numbers takes its place, and leaves its own empty
unfoldable pub closing : List ℕ → ℕ → List ℕ
closing cells o =
    cond (is_open cells o)
    (set (set (set cells (open_place cells o) (get_or cells (open_count cells - 1) 0)) (open_count cells - 1) 0) open_count_cell (open_count cells - 1))
    cells
