-- What look-up gives after a mark, a completion and a replacement. A counting mark is lost only by a completion of its object that is not below it,
-- by last-committed reaching it, or by replacement.
use mathlib.Core.Path.{◌≡◌, refl, sym, ap, ◌∙◌}
use mathlib.Core.Bool.{Bool, true, false, cond, true≢false, false≢true}
use mathlib.Core.List.{List}
use mathlib.Core.Logic.{◌⊎◌, inl, inr}
use Prim.Native.Nat.{ℕ, ◌≤◌, ◌<◌}
use native.Mathlib.Omega.{arith}
use native.Mathlib.Decide.{ℕ_discrete}
use lib.Dec.{eqb}
use borrow.Author.Tests.{eqb-true, eq-eqb, ne_eqb}
use Rattle.stamp.specs.Stamps.{stamp_of, is_above, larger_of}
use Rattle.stamp.proofs.Laws.{lt_above, le_above, above_true, above_false, larger_is}
use Rattle.switch.specs.Numbers.{slots, number_in, counter_in, committed_in, slot_object, slot_stamp}
use Rattle.slots.specs.{first_slot, second_slot, third_slot, holds_object, counts_above, is_free, holds_above}
use Rattle.switch.specs.DirtySet.{holds_at, free_slot, slot_for, mark_above, looked_up, next_stamp, marking, marked, stamp_for, completed, new_switch}
use Rattle.switch.proofs.FirstSlot.{Own, Least, NonePasses, own_below, first_same, first_gives, first_at, first_none}
use Rattle.switch.proofs.Laws.{SizedSwitch, MarkedCases, marked_cases, next_stamp_used, next_above_committed, object_marking, stamp_marking, object_unmarked, stamp_unmarked, marked_committed}
use Rattle.switch.proofs.Laws.{completed_committed, object_completed, stamp_completed, stamp_new}

-- ---- tests of one slot

-- an empty slot holds no object
empty_holds_not : (x o : ℕ) → holds_object x 0 o ≡ false
unfolding holds_object
empty_holds_not x o = refl

-- a slot whose stamp is not (0,0) holds its own object, and no other
holds_own : (x s : ℕ) → (s ≡ 0 → ⊥) → holds_object x s x ≡ true
unfolding holds_object
holds_own x s h = rw (ne_eqb s 0 h, eq-eqb x x refl)

holds_not_other : (x s o : ℕ) → (x ≡ o → ⊥) → holds_object x s o ≡ false
unfolding holds_object
holds_not_other x s o h = rw (ne_eqb x o h) (go (eqb s 0))
  where
    go : (b : Bool) → cond b false false ≡ false
    go true = refl
    go false = refl

holds_object_lem : (x s o : ℕ) → holds_object x s o ≡ true → x ≡ o
unfolding holds_object
holds_object_lem x s o = go (eqb s 0)
  where
    go : (b : Bool) → cond b false (eqb x o) ≡ true → x ≡ o
    go true e = absurd (false≢true e)
    go false e = eqb-true x o e

-- the test of look-up, from its two parts
above_of : (x s o c : ℕ) → holds_object x s o ≡ true → is_above s c ≡ true → holds_above x s o c ≡ true
unfolding holds_above counts_above
above_of x s o c h g = rw h g

not_above_unheld : (x s o c : ℕ) → holds_object x s o ≡ false → holds_above x s o c ≡ false
unfolding holds_above
not_above_unheld x s o c h = rw h

not_above_low : (x s o c : ℕ) → s ≤ c → holds_above x s o c ≡ false
unfolding holds_above counts_above
not_above_low x s o c h = rw (le_above s c h) (go (holds_object x s o))
  where
    go : (b : Bool) → cond b false false ≡ false
    go true = refl
    go false = refl

above_stamp : (x s o c : ℕ) → holds_above x s o c ≡ true → c < s
unfolding holds_above counts_above
above_stamp x s o c = go (holds_object x s o)
  where
    go : (b : Bool) → cond b (is_above s c) false ≡ true → c < s
    go true e = above_true s c e
    go false e = absurd (false≢true e)

above_holds : (x s o c : ℕ) → holds_above x s o c ≡ true → holds_object x s o ≡ true
unfolding holds_above
above_holds x s o c = go (holds_object x s o)
  where
    go : (b : Bool) → cond b (counts_above s c) false ≡ true → b ≡ true
    go true e = refl
    go false e = absurd (false≢true e)

free_low : (s c : ℕ) → is_free s c ≡ true → s ≤ c
unfolding is_free counts_above
free_low s c = go (is_above s c) refl
  where
    go : (b : Bool) → is_above s c ≡ b → cond b false true ≡ true → s ≤ c
    go true p e = absurd (false≢true e)
    go false p e = above_false s c p

-- ---- where a mark goes

-- the slot for a mark is one of the object's own. It is the first that holds the object; or no own slot holds it, and the slot is free
abbrev pub Target : List ℕ → ℕ → ℕ → Type 0
Target w o i = Least o (holds_at w o) i ⊎ (Own o i × (slot_stamp w i ≤ committed_in w) × NonePasses o (holds_at w o))

pub slot_target : (w : List ℕ) (o : ℕ) → slot_for w o < slots → Target w o (slot_for w o)
unfolding slot_for free_slot
slot_target w o h = go (first_gives o (holds_at w o) (free_slot w o)) (first_gives o (λ i. is_free (slot_stamp w i) (committed_in w)) slots)
  where
    free_least : (i : ℕ) → Least o (λ j. is_free (slot_stamp w j) (committed_in w)) i → NonePasses o (holds_at w o) → Target w o i
    free_least i l n = inr (l.0, free_low (slot_stamp w i) (committed_in w) l.1, n)

    go : Least o (holds_at w o) (slot_for w o) ⊎ ((slot_for w o ≡ free_slot w o) × NonePasses o (holds_at w o))
        → Least o (λ i. is_free (slot_stamp w i) (committed_in w)) (free_slot w o) ⊎ ((free_slot w o ≡ slots) × NonePasses o (λ i. is_free (slot_stamp w i) (committed_in w)))
        → Target w o (slot_for w o)
    go (inl l) f = inl l
    go (inr e) (inl l) = rw e.0 (free_least (free_slot w o) l e.1)
    go (inr e) (inr f) = absurd (omega (arith, e.0, f.0))

-- ---- after a mark

-- the test of look-up at one slot
abbrev test : ℕ → ℕ → List ℕ → ℕ → Bool
test p c v j = holds_above (slot_object v j) (slot_stamp v j) p c

module _ (w : List ℕ) (o : ℕ) (z : SizedSwitch w) (h : slot_for w o < slots) where
  after : List ℕ
  after = marking w o (slot_for w o)

  test_there : (p c j : ℕ) → j < slots → (j ≡ slot_for w o → ⊥) → test p c after j ≡ test p c w j
  unfolding after
  test_there p c j b n = rw (object_unmarked w o (slot_for w o) z h j b n, stamp_unmarked w o (slot_for w o) z h j b n)

  -- no own slot before the marked one holds the object
  before : (j : ℕ) → Own o j → j < slot_for w o → holds_at w o j ≡ false
  before j m l = go (slot_target w o h)
    where
      go : Target w o (slot_for w o) → holds_at w o j ≡ false
      go (inl t) = t.2 j m l
      go (inr t) = t.2 j m

  own_here : Own o (slot_for w o)
  own_here = go (slot_target w o h)
    where
      go : Target w o (slot_for w o) → Own o (slot_for w o)
      go (inl t) = t.0
      go (inr t) = t.0

  -- the object's mark is the new one
  pub marking_same : (c : ℕ) → is_above (next_stamp w) c ≡ true → mark_above (marking w o (slot_for w o)) o c ≡ next_stamp w
  unfolding mark_above after
  marking_same c a =
      first_at o (test o c after) (slot_stamp after) 0 (slot_for w o) (own_here, here, earlier) ∙ stamp_marking w o (slot_for w o) z h
    where
      here : test o c after (slot_for w o) ≡ true
      here =
          rw (object_marking w o (slot_for w o) z h, stamp_marking w o (slot_for w o) z h)
          (above_of o (next_stamp w) o c (holds_own o (next_stamp w) (next_stamp_used w)) a)

      earlier : (j : ℕ) → Own o j → j < slot_for w o → test o c after j ≡ false
      earlier j m l =
          test_there o c j (own_below o j m) (λ e. omega arith) ∙ not_above_unheld (slot_object w j) (slot_stamp w j) o c (before j m l)

  -- before the mark the slot had no counting mark of another object
  no_other : (p : ℕ) → (p ≡ o → ⊥) → test p (committed_in w) w (slot_for w o) ≡ false
  no_other p n = go (slot_target w o h)
    where
      go : Target w o (slot_for w o) → test p (committed_in w) w (slot_for w o) ≡ false
      go (inl t) =
          let e : slot_object w (slot_for w o) ≡ o = holds_object_lem (slot_object w (slot_for w o)) (slot_stamp w (slot_for w o)) o t.1 in
          not_above_unheld _ _ p (committed_in w) (holds_not_other (slot_object w (slot_for w o)) (slot_stamp w (slot_for w o)) p (λ q. n (sym q ∙ e)))
      go (inr t) = not_above_low (slot_object w (slot_for w o)) (slot_stamp w (slot_for w o)) p (committed_in w) t.1

  -- other objects' counting marks stay
  pub marking_other : (p : ℕ) → (p ≡ o → ⊥) → mark_above (marking w o (slot_for w o)) p (committed_in w) ≡ mark_above w p (committed_in w)
  unfolding mark_above after
  marking_other p n =
      first_same p (test p (committed_in w) after) (test p (committed_in w) w) (slot_stamp after) (slot_stamp w) 0
      (λ j m. same j m (ℕ_discrete j (slot_for w o))) (λ j m t. found j m t (ℕ_discrete j (slot_for w o)))
    where
      gone : test p (committed_in w) after (slot_for w o) ≡ false
      gone =
          rw (object_marking w o (slot_for w o) z h, stamp_marking w o (slot_for w o) z h)
          (not_above_unheld o (next_stamp w) p (committed_in w) (holds_not_other o (next_stamp w) p (λ q. n (sym q))))

      same : (j : ℕ) → Own p j → Dec (j ≡ slot_for w o) → test p (committed_in w) after j ≡ test p (committed_in w) w j
      same j m (yes e) = rw e (gone ∙ sym (no_other p n))
      same j m (no e) = test_there p (committed_in w) j (own_below p j m) e

      found : (j : ℕ) → Own p j → test p (committed_in w) after j ≡ true → Dec (j ≡ slot_for w o) → slot_stamp after j ≡ slot_stamp w j
      found j m t (yes e) =
          absurd (true≢false (sym t ∙ ap (test p (committed_in w) after) e ∙ gone))
      found j m t (no e) = stamp_unmarked w o (slot_for w o) z h j (own_below p j m) e

-- marking an object gives it the write's stamp for its mark
pub lookup_marked : (w : List ℕ) (o : ℕ) → SizedSwitch w → committed_in w ≤ stamp_of (number_in w) (counter_in w) → (stamp_for w o ≡ 0 → ⊥) →
    looked_up (marked w o) o ≡ stamp_for w o
unfolding looked_up
lookup_marked w o z b n = go (marked_cases w o)
  where
    go : MarkedCases w o → mark_above (marked w o) o (committed_in (marked w o)) ≡ stamp_for w o
    go (inl m) = absurd (n m.2)
    go (inr m) = rw (marked_committed w o, m.1, m.2) (marking_same w o z m.3 (committed_in w) (next_above_committed w b))

-- the marks of other objects stay, whether this one is marked or not
pub lookup_marked_other : (w : List ℕ) (o p : ℕ) → SizedSwitch w → (p ≡ o → ⊥) → looked_up (marked w o) p ≡ looked_up w p
unfolding looked_up
lookup_marked_other w o p z n = go (marked_cases w o)
  where
    go : MarkedCases w o → mark_above (marked w o) p (committed_in (marked w o)) ≡ mark_above w p (committed_in w)
    go (inl m) = rw m.1
    go (inr m) = rw (marked_committed w o, m.1) (marking_other w o z m.3 p n)

-- ---- after a completion

-- look-up after a completion, of any object: the first mark above the larger of the two stamps
pub lookup_completed : (w : List ℕ) (o t p : ℕ) → SizedSwitch w → looked_up (completed w o t) p ≡ mark_above w p (larger_of (committed_in w) t)
unfolding looked_up mark_above
lookup_completed w o t p z =
    rw (completed_committed w o t z)
    (first_same p (test p c (completed w o t)) (test p c w) (slot_stamp (completed w o t)) (slot_stamp w) 0
    (λ j m. same j m (stamp_completed w o t z j (own_below p j m))) (λ j m e. found j e (stamp_completed w o t z j (own_below p j m))))
  where
    c : ℕ
    c = larger_of (committed_in w) t

    covers : t ≤ c
    covers = omega (arith, larger_is (committed_in w) t)

    Kept : ℕ → Type 0
    Kept j = (slot_stamp (completed w o t) j ≡ slot_stamp w j) ⊎ ((slot_stamp (completed w o t) j ≡ 0) × (slot_stamp w j ≤ t))

    same : (j : ℕ) → Own p j → Kept j → test p c (completed w o t) j ≡ test p c w j
    same j m (inl e) = rw (object_completed w o t z j (own_below p j m), e)
    same j m (inr e) =
        rw (object_completed w o t z j (own_below p j m), e.0)
        (not_above_unheld (slot_object w j) 0 p c (empty_holds_not (slot_object w j) p) ∙ sym (not_above_low (slot_object w j) (slot_stamp w j) p c (omega (arith, e.1, covers))))

    found : (j : ℕ) → test p c (completed w o t) j ≡ true → Kept j → slot_stamp (completed w o t) j ≡ slot_stamp w j
    found j e (inl d) = d
    found j e (inr d) =
        absurd (true≢false (sym e ∙ ap (λ (s : ℕ). holds_above (slot_object (completed w o t) j) s p c) d.0 ∙ not_above_unheld _ 0 p c (empty_holds_not _ p)))

-- a mark that is above a raised last-committed stamp is still the one that is found
raised : (w : List ℕ) (p c d : ℕ) → c ≤ d → is_above (mark_above w p c) d ≡ true → mark_above w p d ≡ mark_above w p c
unfolding mark_above
raised w p c d l = go (first_slot p) (go (second_slot p) (go (third_slot p) (λ e. refl)))
  where
    at : ℕ → ℕ → Bool
    at b j = holds_above (slot_object w j) (slot_stamp w j) p b

    go : (j : ℕ) {x y : ℕ} → (is_above x d ≡ true → y ≡ x) → is_above (cond (at c j) (slot_stamp w j) x) d ≡ true → cond (at d j) (slot_stamp w j) y ≡ cond (at c j) (slot_stamp w j) x
    go j {x} {y} rest = by (at c j) (at d j) refl refl
      where
        higher : at c j ≡ true → d < slot_stamp w j → at d j ≡ true
        higher q g = above_of _ _ p d (above_holds _ _ p c q) (lt_above (slot_stamp w j) d g)

        lower : at d j ≡ true → at c j ≡ true
        lower r = above_of _ _ p c (above_holds _ _ p d r) (lt_above (slot_stamp w j) c (omega (arith, above_stamp (slot_object w j) (slot_stamp w j) p d r)))

        by : (a b : Bool) → at c j ≡ a → at d j ≡ b → is_above (cond a (slot_stamp w j) x) d ≡ true → cond b (slot_stamp w j) y ≡ cond a (slot_stamp w j) x
        by true true q r e = refl
        by true false q r e = absurd (true≢false (sym (higher q (above_true (slot_stamp w j) d e)) ∙ r))
        by false true q r e = absurd (true≢false (sym (lower r) ∙ q))
        by false false q r e = rest e

-- a counting mark is not lost by a completion, of whichever object, while it is above the completion's stamp
pub lookup_kept : (w : List ℕ) (o t p : ℕ) → SizedSwitch w → is_above (looked_up w p) (larger_of (committed_in w) t) ≡ true → looked_up (completed w o t) p ≡ looked_up w p
unfolding looked_up
lookup_kept w o t p z e = lookup_completed w o t p z ∙ raised w p (committed_in w) (larger_of (committed_in w) t) (omega (arith, larger_is (committed_in w) t)) e

-- ---- what look-up gives

-- no mark, or one that counts
pub lookup_counts : (w : List ℕ) (o : ℕ) → (looked_up w o ≡ 0) ⊎ (is_above (looked_up w o) (committed_in w) ≡ true)
unfolding looked_up mark_above
lookup_counts w o = go (first_slot o) (go (second_slot o) (go (third_slot o) (inl refl)))
  where
    go : (j : ℕ) {x : ℕ} → (x ≡ 0) ⊎ (is_above x (committed_in w) ≡ true)
        → (cond (holds_above (slot_object w j) (slot_stamp w j) o (committed_in w)) (slot_stamp w j) x ≡ 0) ⊎ (is_above (cond (holds_above (slot_object w j) (slot_stamp w j) o (committed_in w)) (slot_stamp w j) x) (committed_in w) ≡ true)
    go j {x} rest = by (holds_above (slot_object w j) (slot_stamp w j) o (committed_in w)) refl
      where
        by : (b : Bool) → holds_above (slot_object w j) (slot_stamp w j) o (committed_in w) ≡ b → (cond b (slot_stamp w j) x ≡ 0) ⊎ (is_above (cond b (slot_stamp w j) x) (committed_in w) ≡ true)
        by true e = inr (lt_above _ _ (above_stamp (slot_object w j) (slot_stamp w j) o (committed_in w) e))
        by false e = rest

-- a new switch has no marks
pub lookup_new : (n o : ℕ) → looked_up (new_switch n) o ≡ 0
unfolding looked_up mark_above
lookup_new n o =
    first_none o (test o (committed_in (new_switch n)) (new_switch n)) (slot_stamp (new_switch n)) 0
    (λ j m. rw (stamp_new n j) (not_above_unheld (slot_object (new_switch n) j) 0 o _ (empty_holds_not _ o)))
