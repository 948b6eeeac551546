-- How the switch's number, counter, last-committed stamp and direct-reads sign move: only as the rules say. And what each slot holds afterwards.
use mathlib.Core.Path.{◌≡◌, refl, sym, ap, ◌∙◌}
use mathlib.Core.Bool.{Bool, true, false, cond, not, false≢true}
use mathlib.Core.List.{List}
use mathlib.Core.Logic.{◌⊎◌, inl, inr}
use Prim.Native.Nat.{ℕ, zero, suc, ◌+◌, ◌%◌, ◌≤◌, ◌<◌}
use native.Mathlib.Omega.{arith}
use native.Mathlib.Decide.{ℕ_discrete}
use lib.Dec.{eqb, ltb}
use lib.ListN.{length, get_or, set, replicate, length-set, length-replicate}
use lib.Seq.{get_or-set_same, get_or-set_other}
use borrow.Author.Tests.{eqb-false, ne_eqb, ltb-true}
use Rattle.limits.specs.{switch_numbers, last_counter}
use Rattle.stamp.specs.Stamps.{stamp_of, is_above, larger_of, stamp_in, set_stamp}
use Rattle.stamp.proofs.Cells.{length_stamp, stamp_reads, stamp_same, cell_beside, stamp_beside, stamp_kept}
use Rattle.stamp.proofs.Laws.{lt_above, above_false}
use Rattle.switch.specs.Numbers.{number_cell, counter_cell, committed_cell, direct_cell, object_cell, slot_stamp_cell, marks_cell, slots, switch_cells, number_in, counter_in, committed_in, direct_in, marks_in, slot_object, slot_stamp}
use Rattle.slots.specs.{first_slot, second_slot, third_slot, holds_object, is_completed}
use Rattle.switch.specs.DirtySet.{slot_for, next_stamp, marks_for, slot_marked, marking, can_mark, marked, stamp_for, cleared_at, is_own, raising, committing, completed, new_switch, counted_marks}
use Rattle.switch.proofs.FirstSlot.{slots_rise}

-- as many numbers as the code's type gives
abbrev pub SizedSwitch : List ℕ → Type 0
SizedSwitch w = length w ≡ switch_cells

-- ---- a mark is made, or the switch stays as it is

abbrev pub MarkedCases : List ℕ → ℕ → Type 0
MarkedCases w o =
    ((can_mark w o ≡ false) × (marked w o ≡ w) × (stamp_for w o ≡ 0)) ⊎
    ((can_mark w o ≡ true) × (marked w o ≡ marking w o (slot_for w o)) × (stamp_for w o ≡ next_stamp w) × (slot_for w o < slots) × (counter_in w ≡ last_counter → ⊥))

can_mark_lem : (w : List ℕ) (o : ℕ) → can_mark w o ≡ true → (slot_for w o < slots) × (counter_in w ≡ last_counter → ⊥)
unfolding can_mark
can_mark_lem w o = go (eqb (counter_in w) last_counter) refl
  where
    go : (a : Bool) → eqb (counter_in w) last_counter ≡ a → cond a false (ltb (slot_for w o) slots) ≡ true → (slot_for w o < slots) × (counter_in w ≡ last_counter → ⊥)
    go true p e = absurd (false≢true e)
    go false p e = (ltb-true (slot_for w o) slots e, eqb-false (counter_in w) last_counter p)

pub marked_cases : (w : List ℕ) (o : ℕ) → MarkedCases w o
unfolding marked stamp_for
marked_cases w o = go (can_mark w o) refl
  where
    go : (b : Bool) → can_mark w o ≡ b → MarkedCases w o
    go true e = inr (e, rw e, rw e, (can_mark_lem w o e).0, (can_mark_lem w o e).1)
    go false e = inl (e, rw e, rw e)

-- a write that is not dropped has a stamp, and its counter is not 0
pub next_stamp_used : (w : List ℕ) → next_stamp w ≡ 0 → ⊥
unfolding next_stamp stamp_of
next_stamp_used w e = omega arith

pub stamp_used : (w : List ℕ) (o : ℕ) → (stamp_for w o ≡ 0 → ⊥) → stamp_for w o ≡ stamp_of (number_in w) (counter_in w + 1)
unfolding next_stamp
stamp_used w o n = go (marked_cases w o)
  where
    go : MarkedCases w o → stamp_for w o ≡ stamp_of (number_in w) (counter_in w + 1)
    go (inl e) = absurd (n e.2)
    go (inr e) = e.2

-- ---- a number that a mark leaves as it is

-- what a mark does beside the stored number of counting marks
marking_beside : (w : List ℕ) (o i j : ℕ) → (j ≡ marks_cell → ⊥) → get_or (marking w o i) j 0 ≡ get_or (slot_marked w o i) j 0
unfolding marking
marking_beside w o i j d = get_or-set_other (slot_marked w o i) marks_cell j (marks_for w i (next_stamp w)) 0 d

-- the switch with the counter moved on, and then with the object in its slot
abbrev moved : List ℕ → List ℕ
moved w = set w counter_cell (counter_in w + 1)

abbrev taken : List ℕ → ℕ → ℕ → List ℕ
taken w o i = set (moved w) (object_cell i) o

marking_kept : (w : List ℕ) (o i j : ℕ) → (j ≡ counter_cell → ⊥) → (j ≡ object_cell i → ⊥) → (j ≡ slot_stamp_cell i → ⊥) → (j ≡ slot_stamp_cell i + 1 → ⊥) → (j ≡ marks_cell → ⊥) → get_or (marking w o i) j 0 ≡ get_or w j 0
marking_kept w o i j a b c f d =
    marking_beside w o i j d ∙
    cell_beside (taken w o i) (slot_stamp_cell i) (next_stamp w) j c f ∙
    get_or-set_other (moved w) (object_cell i) j o 0 b ∙
    get_or-set_other w counter_cell j (counter_in w + 1) 0 a

-- the four that it changes
module _ (w : List ℕ) (o i : ℕ) (z : SizedSwitch w) (h : i < slots) where
  pub counter_marking : counter_in (marking w o i) ≡ counter_in w + 1
  unfolding counter_in
  counter_marking =
      marking_beside w o i counter_cell (λ e. omega (arith, e)) ∙
      cell_beside (taken w o i) (slot_stamp_cell i) (next_stamp w) counter_cell (λ e. omega (arith, e)) (λ e. omega (arith, e)) ∙
      get_or-set_other (moved w) (object_cell i) counter_cell o 0 (λ e. omega (arith, e)) ∙
      get_or-set_same w counter_cell (counter_in w + 1) 0 (omega (arith, z))

  pub object_marking : slot_object (marking w o i) i ≡ o
  unfolding slot_object
  object_marking =
      marking_beside w o i (object_cell i) (λ e. omega (arith, e, h)) ∙
      cell_beside (taken w o i) (slot_stamp_cell i) (next_stamp w) (object_cell i) (λ e. omega (arith, e, h)) (λ e. omega (arith, e, h)) ∙
      get_or-set_same (moved w) (object_cell i) o 0 (simp length-set (omega (arith, z, h)))

  long : length (taken w o i) ≡ switch_cells
  long = length-set (moved w) (object_cell i) o ∙ length-set w counter_cell (counter_in w + 1) ∙ z

  pub stamp_marking : slot_stamp (marking w o i) i ≡ next_stamp w
  unfolding slot_stamp marking
  stamp_marking =
      stamp_kept (slot_marked w o i) marks_cell (marks_for w i (next_stamp w)) (slot_stamp_cell i) (λ e. omega (arith, e, h)) (λ e. omega (arith, e, h)) ∙
      stamp_same (taken w o i) (slot_stamp_cell i) (next_stamp w) (omega (arith, long, h))

  pub marks_marking : marks_in (marking w o i) ≡ marks_for w i (next_stamp w)
  unfolding marking marks_in
  marks_marking =
      get_or-set_same (slot_marked w o i) marks_cell (marks_for w i (next_stamp w)) 0 (omega (arith, length_stamp (taken w o i) (slot_stamp_cell i) (next_stamp w), long))

  -- every other slot stays
  pub object_unmarked : (j : ℕ) → j < slots → (j ≡ i → ⊥) → slot_object (marking w o i) j ≡ slot_object w j
  unfolding slot_object
  object_unmarked j b n =
      marking_kept w o i (object_cell j) (λ e. omega (arith, e)) (λ e. n (omega (arith, e))) (λ e. omega (arith, e, b)) (λ e. omega (arith, e, b)) (λ e. omega (arith, e, b))

  pub stamp_unmarked : (j : ℕ) → j < slots → (j ≡ i → ⊥) → slot_stamp (marking w o i) j ≡ slot_stamp w j
  unfolding slot_stamp
  stamp_unmarked j b n =
      stamp_reads (marking w o i) w (slot_stamp_cell j)
      (marking_kept w o i (slot_stamp_cell j) (λ e. omega (arith, e)) (λ e. omega (arith, e, h)) (λ e. n (omega (arith, e))) (λ e. omega (arith, e)) (λ e. omega (arith, e, b)))
      (marking_kept w o i (slot_stamp_cell j + 1) (λ e. omega (arith, e)) (λ e. omega (arith, e, h)) (λ e. omega (arith, e)) (λ e. n (omega (arith, e))) (λ e. omega (arith, e, b)))

-- ---- after a mark

-- what holds of the switch as it was, and of every marked one, holds of the result
by_marked : (P : List ℕ → Type 0) (w : List ℕ) (o : ℕ) → P w → P (marking w o (slot_for w o)) → P (marked w o)
by_marked P w o a b = go (marked_cases w o)
  where
    go : MarkedCases w o → P (marked w o)
    go (inl e) = rw e.1 a
    go (inr e) = rw e.1 b

pub marked_number : (w : List ℕ) (o : ℕ) → number_in (marked w o) ≡ number_in w
unfolding number_in
marked_number w o =
    by_marked (λ v. get_or v number_cell 0 % switch_numbers ≡ get_or w number_cell 0 % switch_numbers) w o refl
    (ap (λ (n : ℕ). n % switch_numbers) (marking_kept w o (slot_for w o) number_cell (λ e. omega (arith, e)) (λ e. omega (arith, e)) (λ e. omega (arith, e)) (λ e. omega (arith, e)) (λ e. omega (arith, e))))

pub marking_committed : (w : List ℕ) (o i : ℕ) → committed_in (marking w o i) ≡ committed_in w
unfolding committed_in
marking_committed w o i =
    stamp_reads (marking w o i) w committed_cell
    (marking_kept w o i committed_cell (λ e. omega (arith, e)) (λ e. omega (arith, e)) (λ e. omega (arith, e)) (λ e. omega (arith, e)) (λ e. omega (arith, e)))
    (marking_kept w o i (committed_cell + 1) (λ e. omega (arith, e)) (λ e. omega (arith, e)) (λ e. omega (arith, e)) (λ e. omega (arith, e)) (λ e. omega (arith, e)))

pub marked_committed : (w : List ℕ) (o : ℕ) → committed_in (marked w o) ≡ committed_in w
marked_committed w o = by_marked (λ v. committed_in v ≡ committed_in w) w o refl (marking_committed w o (slot_for w o))

pub marked_direct : (w : List ℕ) (o : ℕ) → direct_in (marked w o) ≡ direct_in w
unfolding direct_in
marked_direct w o =
    by_marked (λ v. not (eqb (get_or v direct_cell 0) 0) ≡ not (eqb (get_or w direct_cell 0) 0)) w o refl
    (ap (λ (n : ℕ). not (eqb n 0)) (marking_kept w o (slot_for w o) direct_cell (λ e. omega (arith, e)) (λ e. omega (arith, e)) (λ e. omega (arith, e)) (λ e. omega (arith, e)) (λ e. omega (arith, e))))

-- the counter rises by one exactly if the write gets a stamp
pub marked_counter : (w : List ℕ) (o : ℕ) → SizedSwitch w → counter_in (marked w o) ≡ cond (eqb (stamp_for w o) 0) (counter_in w) (counter_in w + 1)
marked_counter w o z = go (marked_cases w o)
  where
    go : MarkedCases w o → counter_in (marked w o) ≡ cond (eqb (stamp_for w o) 0) (counter_in w) (counter_in w + 1)
    go (inl e) = rw (e.1, e.2)
    go (inr e) = rw (e.1, e.2, ne_eqb (next_stamp w) 0 (next_stamp_used w)) (counter_marking w o (slot_for w o) z e.3)

-- a write that gets no stamp leaves the switch as it was
pub marked_stays : (w : List ℕ) (o : ℕ) → stamp_for w o ≡ 0 → marked w o ≡ w
marked_stays w o e = go (marked_cases w o)
  where
    go : MarkedCases w o → marked w o ≡ w
    go (inl m) = m.1
    go (inr m) = absurd (next_stamp_used w (sym m.2 ∙ e))

pub sized_marked : (w : List ℕ) (o : ℕ) → SizedSwitch w → SizedSwitch (marked w o)
unfolding marking set_stamp
sized_marked w o h = by_marked SizedSwitch w o h (simp length-set h)

-- the next stamp is above last-committed where that is at most the last stamp given
pub next_above_committed : (w : List ℕ) → committed_in w ≤ stamp_of (number_in w) (counter_in w) → is_above (next_stamp w) (committed_in w) ≡ true
unfolding next_stamp stamp_of
next_above_committed w h = lt_above _ _ (omega arith)

-- ---- a completion

completed_low : (x s o t : ℕ) → is_completed x s o t ≡ true → s ≤ t
unfolding is_completed
completed_low x s o t = go (holds_object x s o) (is_above s t) refl
  where
    go : (a b : Bool) → is_above s t ≡ b → cond a (cond b false true) false ≡ true → s ≤ t
    go true true p e = absurd (false≢true e)
    go true false p e = above_false s t p
    go false b p e = absurd (false≢true e)

-- w is v without some marks that the completion t covers: every other number stays
pub record Covered (t : ℕ) (v w : List ℕ) : Type 0 where
  pub same_length : length w ≡ length v
  pub same : (j : ℕ) → j < slot_stamp_cell 0 → get_or w j 0 ≡ get_or v j 0
  pub stamps : (i : ℕ) → (slot_stamp w i ≡ slot_stamp v i) ⊎ ((slot_stamp w i ≡ 0) × (slot_stamp v i ≤ t))

covered_none : (t : ℕ) (v : List ℕ) → Covered t v v
covered_none t v = record { same_length = refl; same = λ j b. refl; stamps = λ i. inl refl }

-- a slot that was emptied
covered_one : (t : ℕ) (v : List ℕ) (i : ℕ) → SizedSwitch v → i < slots → slot_stamp v i ≤ t → Covered t v (set_stamp v (slot_stamp_cell i) 0)
unfolding slot_stamp
covered_one t v i z b low = record {
  same_length = length_stamp v (slot_stamp_cell i) 0;
  same = λ j h. cell_beside v (slot_stamp_cell i) 0 j (λ e. omega (arith, e, h)) (λ e. omega (arith, e, h));
  stamps = λ j. elim (ℕ_discrete j i) [
    | yes e ↦ rw e (inr (stamp_same v (slot_stamp_cell i) 0 (omega (arith, z, b)), low))
    | no n ↦ inl (stamp_beside v (slot_stamp_cell i) 0 (slot_stamp_cell j) (λ e. n (omega (arith, e))) (λ e. omega (arith, e)) (λ e. omega (arith, e)))
  ];
}

cleared_covered : (v : List ℕ) (o t i : ℕ) → SizedSwitch v → i < slots → Covered t v (cleared_at v o t i)
unfolding cleared_at
cleared_covered v o t i z b = go (is_completed (slot_object v i) (slot_stamp v i) o t) refl
  where
    go : (c : Bool) → is_completed (slot_object v i) (slot_stamp v i) o t ≡ c → Covered t v (cond c (set_stamp v (slot_stamp_cell i) 0) v)
    go true e = covered_one t v i z b (completed_low (slot_object v i) (slot_stamp v i) o t e)
    go false e = covered_none t v

covered_twice : {t : ℕ} {a b c : List ℕ} → Covered t a b → Covered t b c → Covered t a c
covered_twice {t} {a} {b} {c} f g = record {
  same_length = g.same_length ∙ f.same_length;
  same = λ j h. g.same j h ∙ f.same j h;
  stamps = λ i. go i (f.stamps i) (g.stamps i);
}
  where
    go : (i : ℕ) → (slot_stamp b i ≡ slot_stamp a i) ⊎ ((slot_stamp b i ≡ 0) × (slot_stamp a i ≤ t)) → (slot_stamp c i ≡ slot_stamp b i) ⊎ ((slot_stamp c i ≡ 0) × (slot_stamp b i ≤ t)) → (slot_stamp c i ≡ slot_stamp a i) ⊎ ((slot_stamp c i ≡ 0) × (slot_stamp a i ≤ t))
    go i (inl e) (inl d) = inl (d ∙ e)
    go i (inl e) (inr d) = inr (d.0, omega (arith, d.1, e))
    go i (inr e) (inl d) = inr (d ∙ e.0, e.1)
    go i (inr e) (inr d) = inr (d.0, e.1)

abbrev pub cleared_of : List ℕ → ℕ → ℕ → List ℕ
cleared_of w o t = cleared_at (cleared_at (cleared_at w o t (first_slot o)) o t (second_slot o)) o t (third_slot o)

pub completed_covered : (w : List ℕ) (o t : ℕ) → SizedSwitch w → Covered t w (cleared_of w o t)
completed_covered w o t z =
    let rise = slots_rise o in
    let one = cleared_covered w o t (first_slot o) z (omega (arith, rise)) in
    let two = cleared_covered (cleared_at w o t (first_slot o)) o t (second_slot o) (one.same_length ∙ z) (omega (arith, rise)) in
    let both = covered_twice one two in
    covered_twice both (cleared_covered (cleared_at (cleared_at w o t (first_slot o)) o t (second_slot o)) o t (third_slot o) (both.same_length ∙ z) (omega (arith, rise)))

-- the three numbers that a completion sets beside the slots
pub completed_beside : (w : List ℕ) (o t j : ℕ) → (j ≡ marks_cell → ⊥) → get_or (completed w o t) j 0 ≡ get_or (committing w o t) j 0
unfolding completed
completed_beside w o t j d = get_or-set_other (committing w o t) marks_cell j (counted_marks (committing w o t)) 0 d

-- direct reads may be turned on beside last-committed
committing_beside : (w : List ℕ) (o t j : ℕ) → (j ≡ direct_cell → ⊥) → get_or (committing w o t) j 0 ≡ get_or (raising w o t) j 0
unfolding committing
committing_beside w o t j d = go (is_own w t)
  where
    go : (b : Bool) → get_or (cond b (set (raising w o t) direct_cell 1) (raising w o t)) j 0 ≡ get_or (raising w o t) j 0
    go true = get_or-set_other (raising w o t) direct_cell j 1 0 d
    go false = refl

completed_raised : (w : List ℕ) (o t j : ℕ) → (j ≡ direct_cell → ⊥) → (j ≡ marks_cell → ⊥) → get_or (completed w o t) j 0 ≡ get_or (raising w o t) j 0
completed_raised w o t j b d = completed_beside w o t j d ∙ committing_beside w o t j b

raised_beside : (w : List ℕ) (o t j : ℕ) → (j ≡ committed_cell → ⊥) → (j ≡ committed_cell + 1 → ⊥) → get_or (raising w o t) j 0 ≡ get_or (cleared_of w o t) j 0
unfolding raising
raised_beside w o t j a c = cell_beside (cleared_of w o t) committed_cell (larger_of (committed_in w) t) j a c

completed_other : (w : List ℕ) (o t j : ℕ) → (j ≡ committed_cell → ⊥) → (j ≡ committed_cell + 1 → ⊥) → (j ≡ direct_cell → ⊥) → (j ≡ marks_cell → ⊥) → get_or (completed w o t) j 0 ≡ get_or (cleared_of w o t) j 0
completed_other w o t j a c b d = completed_raised w o t j b d ∙ raised_beside w o t j a c

module _ (w : List ℕ) (o t : ℕ) (z : SizedSwitch w) where
  sized_cleared : length (cleared_of w o t) ≡ switch_cells
  sized_cleared = (completed_covered w o t z).same_length ∙ z

  sized_raised : SizedSwitch (raising w o t)
  unfolding raising
  sized_raised = length_stamp (cleared_of w o t) committed_cell (larger_of (committed_in w) t) ∙ sized_cleared

  sized_committing : SizedSwitch (committing w o t)
  unfolding committing
  sized_committing = go (is_own w t)
    where
      go : (b : Bool) → SizedSwitch (cond b (set (raising w o t) direct_cell 1) (raising w o t))
      go true = length-set (raising w o t) direct_cell 1 ∙ sized_raised
      go false = sized_raised

  pub sized_completed : SizedSwitch (completed w o t)
  unfolding completed
  sized_completed = simp length-set sized_committing

  pub completed_number : number_in (completed w o t) ≡ number_in w
  unfolding number_in
  completed_number =
      ap (λ (n : ℕ). n % switch_numbers)
      (completed_other w o t number_cell (λ e. omega (arith, e)) (λ e. omega (arith, e)) (λ e. omega (arith, e)) (λ e. omega (arith, e)) ∙ (completed_covered w o t z).same number_cell (omega arith))

  pub completed_counter : counter_in (completed w o t) ≡ counter_in w
  unfolding counter_in
  completed_counter =
      completed_other w o t counter_cell (λ e. omega (arith, e)) (λ e. omega (arith, e)) (λ e. omega (arith, e)) (λ e. omega (arith, e)) ∙ (completed_covered w o t z).same counter_cell (omega arith)

  pub completed_committed : committed_in (completed w o t) ≡ larger_of (committed_in w) t
  unfolding raising committed_in
  completed_committed =
      stamp_reads (completed w o t) (raising w o t) committed_cell
      (completed_raised w o t committed_cell (λ e. omega (arith, e)) (λ e. omega (arith, e))) (completed_raised w o t (committed_cell + 1) (λ e. omega (arith, e)) (λ e. omega (arith, e))) ∙
      stamp_same (cleared_of w o t) committed_cell (larger_of (committed_in w) t) (omega (arith, sized_cleared))

  -- Req 10: a completion of the switch's own turns direct reads on, and another leaves them as they were
  pub completed_direct : direct_in (completed w o t) ≡ cond (is_own w t) true (direct_in w)
  unfolding committing direct_in
  completed_direct = ap (λ (n : ℕ). not (eqb n 0)) (completed_beside w o t direct_cell (λ e. omega (arith, e))) ∙ go (is_own w t)
    where
      go : (b : Bool) → not (eqb (get_or (cond b (set (raising w o t) direct_cell 1) (raising w o t)) direct_cell 0) 0) ≡ cond b true (not (eqb (get_or w direct_cell 0) 0))
      go true = ap (λ (n : ℕ). not (eqb n 0)) (get_or-set_same (raising w o t) direct_cell 1 0 (omega (arith, sized_raised)))
      go false =
          ap (λ (n : ℕ). not (eqb n 0))
          (raised_beside w o t direct_cell (λ e. omega (arith, e)) (λ e. omega (arith, e)) ∙ (completed_covered w o t z).same direct_cell (omega arith))

  -- the stored number is counted anew
  pub marks_completed : marks_in (completed w o t) ≡ counted_marks (committing w o t)
  unfolding completed marks_in
  marks_completed = get_or-set_same (committing w o t) marks_cell (counted_marks (committing w o t)) 0 (omega (arith, sized_committing))

  -- each slot keeps its object; it keeps its stamp, or was emptied and had one that the completion covers
  pub object_completed : (i : ℕ) → i < slots → slot_object (completed w o t) i ≡ slot_object w i
  unfolding slot_object
  object_completed i b =
      completed_other w o t (object_cell i) (λ e. omega (arith, e)) (λ e. omega (arith, e)) (λ e. omega (arith, e)) (λ e. omega (arith, e, b)) ∙ (completed_covered w o t z).same (object_cell i) (omega (arith, b))

  stamp_cleared : (i : ℕ) → i < slots → slot_stamp (completed w o t) i ≡ slot_stamp (cleared_of w o t) i
  unfolding slot_stamp
  stamp_cleared i b =
      stamp_reads (completed w o t) (cleared_of w o t) (slot_stamp_cell i)
      (completed_other w o t (slot_stamp_cell i) (λ e. omega (arith, e)) (λ e. omega (arith, e)) (λ e. omega (arith, e)) (λ e. omega (arith, e, b)))
      (completed_other w o t (slot_stamp_cell i + 1) (λ e. omega (arith, e)) (λ e. omega (arith, e)) (λ e. omega (arith, e)) (λ e. omega (arith, e, b)))

  pub stamp_completed : (i : ℕ) → i < slots → (slot_stamp (completed w o t) i ≡ slot_stamp w i) ⊎ ((slot_stamp (completed w o t) i ≡ 0) × (slot_stamp w i ≤ t))
  stamp_completed i b = go ((completed_covered w o t z).stamps i)
    where
      go : (slot_stamp (cleared_of w o t) i ≡ slot_stamp w i) ⊎ ((slot_stamp (cleared_of w o t) i ≡ 0) × (slot_stamp w i ≤ t)) →
          (slot_stamp (completed w o t) i ≡ slot_stamp w i) ⊎ ((slot_stamp (completed w o t) i ≡ 0) × (slot_stamp w i ≤ t))
      go (inl e) = inl (stamp_cleared i b ∙ e)
      go (inr e) = inr (stamp_cleared i b ∙ e.0, e.1)

-- ---- a new switch

zeros : (n j : ℕ) → ◌≡◌ {A = ℕ} (get_or (replicate n 0) j 0) 0
zeros zero j = refl
zeros (suc n) zero = refl
zeros (suc n) (suc j) = zeros n j

new_other : (n j : ℕ) → (j ≡ 0 → ⊥) → get_or (new_switch n) j 0 ≡ 0
unfolding new_switch
new_other n j d = get_or-set_other (replicate switch_cells 0) 0 j n 0 d ∙ zeros switch_cells j

-- two cells of it are the stamp (0,0)
new_stamp : (n j : ℕ) → (j ≡ 0 → ⊥) → stamp_in (new_switch n) j ≡ 0
unfolding stamp_in stamp_of
new_stamp n j d = rw (new_other n j d, new_other n (j + 1) (λ e. omega (arith, e)))

pub sized_new : (n : ℕ) → SizedSwitch (new_switch n)
unfolding new_switch
sized_new n = length-set (replicate switch_cells 0) 0 n ∙ length-replicate {A = ℕ} switch_cells 0

pub new_number : (n : ℕ) → n < switch_numbers → number_in (new_switch n) ≡ n
unfolding number_in new_switch
new_number n h = omega (arith, get_or-set_same (replicate switch_cells 0) 0 n 0 (omega (arith, length-replicate {A = ℕ} switch_cells 0)))

pub new_counter : (n : ℕ) → counter_in (new_switch n) ≡ 0
unfolding counter_in
new_counter n = new_other n counter_cell (λ e. omega (arith, e))

pub new_committed : (n : ℕ) → committed_in (new_switch n) ≡ 0
unfolding committed_in
new_committed n = new_stamp n committed_cell (λ e. omega (arith, e))

pub new_marks : (n : ℕ) → marks_in (new_switch n) ≡ 0
unfolding marks_in
new_marks n = new_other n marks_cell (λ e. omega (arith, e))

pub new_direct : (n : ℕ) → direct_in (new_switch n) ≡ false
unfolding direct_in
new_direct n = ap (λ (k : ℕ). not (eqb k 0)) (new_other n direct_cell (λ e. omega (arith, e)))

pub stamp_new : (n i : ℕ) → slot_stamp (new_switch n) i ≡ 0
unfolding slot_stamp
stamp_new n i = new_stamp n (slot_stamp_cell i) (λ e. omega (arith, e))
