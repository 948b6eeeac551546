-- A stamp past the end of the cells: it reads as (0,0), and nothing takes it.
use Rattle.std.proofs.Common.{◌≡◌, ℕ, ◌+◌, ◌≤◌, List, length, get_or, set, arith}
use Rattle.std.proofs.lemmas.List.{get_or_past, set_past}
use Rattle.stamp.specs.Stamps.{stamp_of, number_of, counter_of, stamp_in, set_stamp}

further : {m i : ℕ} → m ≤ i → m ≤ i + 1
further p = omega arith

pub none_read : (l : List ℕ) (i : ℕ) → length l ≤ i → stamp_in l i ≡ 0
unfolding stamp_in stamp_of
none_read l i p = rw (get_or_past l i 0 p, get_or_past l (i + 1) 0 (further p))

pub none_taken : (l : List ℕ) (i t : ℕ) → length l ≤ i → set_stamp l i t ≡ l
unfolding set_stamp
none_taken l i t p = rw (set_past l i (number_of t) p, set_past l (i + 1) (counter_of t) (further p))
