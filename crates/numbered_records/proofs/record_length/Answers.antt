use mathlib.Core.List.{List, [], ◌∷◌}
use Prim.Native.Nat.{ℕ, zero, suc, ◌+◌, ◌≤◌}
use native.Mathlib.Omega.{arith}
use lib.ListN.{get_or}
use Rattle.numbered_records.specs.{record_size}
use Rattle.records.specs.Records.{lengths, content_length}
use borrow.Author.Rules.{rules}
use Rattle.numbered_records.proofs.record_length.Goals as goal

-- an element of a list is at most the sum of the list
abbrev sum : List ℕ → ℕ
sum [] = 0
sum (x ∷ l) = x + sum l

at_most : (l : List ℕ) (k : ℕ) → get_or l k 0 ≤ sum l
at_most [] k = omega arith
at_most (x ∷ l) zero = omega arith
at_most (x ∷ l) (suc k) = omega (arith, at_most l k)

content_short : (k : ℕ) → content_length k ≤ 26
unfolding content_length
content_short k = at_most lengths k

pub overflow_add-result : goal.overflow_add-result
overflow_add-result c = let short : c.content_length.result ≤ 26 = rw c.content_length.ensures (content_short _) in search (rules, short)

pub returns-then-has_numbers : goal.returns-then-has_numbers
unfolding record_size
returns-then-has_numbers c = simp (← c.kind_of_tag-kind.ensures, c.if-has_numbers.true, ← c.has_numbers.ensures, ← c.content_length.ensures)

pub returns-else-has_numbers : goal.returns-else-has_numbers
unfolding record_size
returns-else-has_numbers c = simp (← c.kind_of_tag-kind.ensures, c.if-has_numbers.false, ← c.has_numbers.ensures)
