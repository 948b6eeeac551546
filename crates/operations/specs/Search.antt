-- How the code finds the place of an operation: by a sum over all cells.
use Rattle.std.specs.Prelude.{cond, List, ℕ, zero, suc, ◌≡◌, ◌+◌, ◌<◌, Option, MatchOption, eqb, get_or}

-- what a cell adds: 65,536 and its place, where it holds the number
abbrev pub weight_at : ℕ → ℕ → ℕ → ℕ
weight_at cell o i = cond (eqb cell o) (65536 + i) 0

-- the sum over the first n cells
unfoldable pub weighed : List ℕ → ℕ → ℕ → ℕ
weighed cells o zero = 0
weighed cells o (suc n) = weighed cells o n + weight_at (get_or cells n 0) o n

-- the place that was found is this one among so many, and none where this is past the last
abbrev pub IsPlace : ℕ → ℕ → Option ℕ → Type 0
IsPlace place count found = MatchOption found (place ≡ count) (λ i. (place ≡ i) × (i < count))
