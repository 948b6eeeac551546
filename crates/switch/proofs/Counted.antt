-- Req 03: the stored number of counting marks is the count over the slots, wherever it was: after a mark, after a completion however many marks it stops, and in a
-- new switch.
use mathlib.Core.Path.{◌≡◌, refl, sym, ap, ◌∙◌}
use mathlib.Core.Bool.{Bool, true, false, cond}
use mathlib.Core.List.{List}
use mathlib.Core.Logic.{inl, inr}
use Prim.Native.Nat.{ℕ, zero, suc, ◌+◌, ◌-◌, ◌≤◌, ◌<◌}
use native.Mathlib.Omega.{arith}
use native.Mathlib.Decide.{ℕ_discrete}
use borrow.Author.Tests.{ne_eqb}
use Rattle.stamp.proofs.Laws.{le_above}
use Rattle.slots.specs.{counts_above}
use Rattle.stamp.specs.Stamps.{stamp_in}
use Rattle.stamp.proofs.Cells.{stamp_reads}
use Rattle.switch.specs.Numbers.{committed_cell, slot_stamp_cell, slots, committed_in, marks_in, slot_stamp}
use Rattle.switch.specs.DirtySet.{slot_for, next_stamp, less_one, one_more, marks_for, marking, marked, committing, completed, new_switch, counted_to, counted_marks}
use Rattle.switch.proofs.Laws.{SizedSwitch, MarkedCases, marked_cases, stamp_marking, stamp_unmarked, marks_marking, marking_committed, sized_marked, sized_completed, completed_beside, marks_completed, sized_new, new_marks, stamp_new}

-- ---- counting over slots

-- two switches with the same stamps in their slots count alike
counted_same : (v w : List ℕ) (c n : ℕ) → ((i : ℕ) → i < n → slot_stamp v i ≡ slot_stamp w i) → counted_to v c n ≡ counted_to w c n
unfolding counted_to
counted_same v w c zero e = refl
counted_same v w c (suc n) e = rw (e n (omega arith), counted_same v w c n (λ i b. e i (omega arith)))

counted_most : (w : List ℕ) (c n : ℕ) → counted_to w c n ≤ n
unfolding counted_to
counted_most w c zero = omega arith
counted_most w c (suc n) = go (counts_above (slot_stamp w n) c) (counted_most w c n)
  where
    go : (b : Bool) → counted_to w c n ≤ n → cond b (counted_to w c n + 1) (counted_to w c n) ≤ suc n
    go true h = omega (arith, h)
    go false h = omega (arith, h)

-- one for a mark that counts
abbrev one : Bool → ℕ
one b = cond b 1 0

counted_next : (w : List ℕ) (c n : ℕ) → counted_to w c (suc n) ≡ counted_to w c n + one (counts_above (slot_stamp w n) c)
unfolding counted_to
counted_next w c n = go (counts_above (slot_stamp w n) c)
  where
    go : (b : Bool) → cond b (counted_to w c n + 1) (counted_to w c n) ≡ counted_to w c n + one b
    go true = refl
    go false = omega arith

-- a slot that counts is among those counted
counted_least : (w : List ℕ) (c i n : ℕ) → i < n → one (counts_above (slot_stamp w i) c) ≤ counted_to w c n
counted_least w c i zero b = absurd (omega arith)
counted_least w c i (suc n) b = go (ℕ_discrete i n) (λ l. counted_least w c i n l)
  where
    go : Dec (i ≡ n) → (i < n → one (counts_above (slot_stamp w i) c) ≤ counted_to w c n) → one (counts_above (slot_stamp w i) c) ≤ counted_to w c (suc n)
    go (yes e) rest = rw e (omega (arith, counted_next w c n))
    go (no e) rest = omega (arith, counted_next w c n, rest (omega (arith, e)))

-- where one slot alone has another stamp, the counts differ by what that slot is worth
counted_changed : (v w : List ℕ) (c i n : ℕ) → i < n → ((j : ℕ) → j < n → (j ≡ i → ⊥) → slot_stamp v j ≡ slot_stamp w j)
    → counted_to v c n + one (counts_above (slot_stamp w i) c) ≡ counted_to w c n + one (counts_above (slot_stamp v i) c)
counted_changed v w c i zero b e = absurd (omega arith)
counted_changed v w c i (suc n) b e = go (ℕ_discrete i n) (λ l. counted_changed v w c i n l (λ j h. e j (omega arith)))
  where
    Differ : ℕ → Type 0
    Differ k = counted_to v c k + one (counts_above (slot_stamp w i) c) ≡ counted_to w c k + one (counts_above (slot_stamp v i) c)

    go : Dec (i ≡ n) → (i < n → Differ n) → Differ (suc n)
    go (yes q) rest =
        let same = counted_same v w c n (λ j l. e j (omega arith) (λ p. omega arith)) in
        let old : one (counts_above (slot_stamp w i) c) ≡ one (counts_above (slot_stamp w n) c) = ap (λ (k : ℕ). one (counts_above (slot_stamp w k) c)) q in
        let new : one (counts_above (slot_stamp v i) c) ≡ one (counts_above (slot_stamp v n) c) = ap (λ (k : ℕ). one (counts_above (slot_stamp v k) c)) q in
        omega (arith, same, old, new, counted_next v c n, counted_next w c n)
    go (no q) rest =
        let same : one (counts_above (slot_stamp v n) c) ≡ one (counts_above (slot_stamp w n) c) = ap (λ (s : ℕ). one (counts_above s c)) (e n (omega arith) (λ p. q (sym p))) in
        omega (arith, same, counted_next v c n, counted_next w c n, rest (omega (arith, q)))

-- ---- the stored number

-- what holds of the switch in every run: it has as many numbers as the code's type gives, and the stored number is the count over the slots
pub record SwitchInvariant (w : List ℕ) : Type 0 where
  pub sized : SizedSwitch w
  pub stored : marks_in w ≡ counted_marks w

-- a number that is the count before a mark is the count after it
moved : (k k' : ℕ) (old new : Bool) → k ≤ slots → one old ≤ k → k' + one old ≡ k + one new → one_more new (less_one old k) ≡ k'
unfolding one_more less_one
moved k k' true true m l e = rw (ne_eqb (k - 1) 4294967295 (λ q. omega arith)) (omega arith)
moved k k' true false m l e = omega arith
moved k k' false true m l e = rw (ne_eqb k 4294967295 (λ q. omega arith)) (omega arith)
moved k k' false false m l e = omega arith

stored_marking : (w : List ℕ) (o i : ℕ) → i < slots → SwitchInvariant w → marks_in (marking w o i) ≡ counted_marks (marking w o i)
unfolding counted_marks marks_for
stored_marking w o i b h =
    let c = committed_in w in
    let new = stamp_marking w o i h.sized b in
    let changed = counted_changed (marking w o i) w c i slots b (λ j l n. stamp_unmarked w o i h.sized b j l n) in
    marks_marking w o i h.sized b ∙
    rw (h.stored, marking_committed w o i)
    (moved (counted_to w c slots) (counted_to (marking w o i) c slots) (counts_above (slot_stamp w i) c) (counts_above (next_stamp w) c) (counted_most w c slots)
    (counted_least w c i slots b) (rw new at changed))

pub invariant_marked : (w : List ℕ) (o : ℕ) → SwitchInvariant w → SwitchInvariant (marked w o)
invariant_marked w o h = record { sized = sized_marked w o h.sized; stored = go (marked_cases w o) }
  where
    go : MarkedCases w o → marks_in (marked w o) ≡ counted_marks (marked w o)
    go (inl e) = rw e.1 h.stored
    go (inr e) = rw e.1 (stored_marking w o (slot_for w o) e.3 h)

-- the number that a completion stores is no part of the count
stamp_beside : (w : List ℕ) (o t i : ℕ) → i < slots → slot_stamp (completed w o t) i ≡ slot_stamp (committing w o t) i
unfolding slot_stamp
stamp_beside w o t i b =
    stamp_reads (completed w o t) (committing w o t) (slot_stamp_cell i) (completed_beside w o t (slot_stamp_cell i) (λ e. omega (arith, e, b))) (completed_beside w o t (slot_stamp_cell i + 1) (λ e. omega (arith, e, b)))

counted_completed : (w : List ℕ) (o t : ℕ) → counted_marks (completed w o t) ≡ counted_marks (committing w o t)
unfolding counted_marks committed_in
counted_completed w o t =
    rw (stamp_reads (completed w o t) (committing w o t) committed_cell (completed_beside w o t committed_cell (λ e. omega (arith, e))) (completed_beside w o t (committed_cell + 1) (λ e. omega (arith, e))))
    (counted_same (completed w o t) (committing w o t) (stamp_in (committing w o t) committed_cell) slots (stamp_beside w o t))

-- however many marks the completion stops, and whatever number was stored before
pub invariant_completed : (w : List ℕ) (o t : ℕ) → SizedSwitch w → SwitchInvariant (completed w o t)
invariant_completed w o t z = record { sized = sized_completed w o t z; stored = marks_completed w o t z ∙ sym (counted_completed w o t) }

-- no mark of a new switch counts
new_counted_to : (n c k : ℕ) → counted_to (new_switch n) c k ≡ 0
unfolding counted_to counts_above
new_counted_to n c zero = refl
new_counted_to n c (suc k) = rw (stamp_new n k, le_above 0 c (omega arith)) (new_counted_to n c k)

new_counted : (n : ℕ) → counted_marks (new_switch n) ≡ 0
unfolding counted_marks
new_counted n = new_counted_to n (committed_in (new_switch n)) slots

pub invariant_new : (n : ℕ) → SwitchInvariant (new_switch n)
invariant_new n = record { sized = sized_new n; stored = new_marks n ∙ sym (new_counted n) }
