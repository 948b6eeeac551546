-- The laws of stamps that the layers above use: the order by switch number and counter is the order of the numbers that hold them.
use mathlib.Core.Path.{◌≡◌, refl, sym, ◌∙◌}
use mathlib.Core.Bool.{Bool, true, false, cond}
use mathlib.Core.Logic.{◌⊎◌, inl, inr}
use Prim.Native.Nat.{ℕ, ◌+◌, ◌/◌, ◌%◌, ◌≤◌, ◌<◌, max}
use native.Mathlib.Omega.{arith}
use lib.Dec.{eqb, ltb}
use borrow.Author.Tests.{eqb-true, eqb-false, ltb-true, ltb-false, lt-ltb, le-ltb}
use Rattle.limits.specs.{counters}
use Rattle.stamp.specs.Stamps.{stamp_of, number_of, counter_of, is_above, larger_of}

-- the two parts of a stamp
pub number_of_stamp : (n c : ℕ) → c < counters → number_of (stamp_of n c) ≡ n
unfolding number_of stamp_of
number_of_stamp n c h = omega arith

pub counter_of_stamp : (n c : ℕ) → c < counters → counter_of (stamp_of n c) ≡ c
unfolding counter_of stamp_of
counter_of_stamp n c h = omega arith

pub stamp_of_parts : (t : ℕ) → stamp_of (number_of t) (counter_of t) ≡ t
unfolding stamp_of number_of counter_of
stamp_of_parts t = omega arith

-- the paper's order is the order of the numbers
pub above_is : (a b : ℕ) → is_above a b ≡ ltb b a
unfolding is_above number_of counter_of
above_is a b = go (eqb (a / counters) (b / counters)) refl
  where
    lower : eqb (a / counters) (b / counters) ≡ true → ltb (b % counters) (a % counters) ≡ ltb b a
    lower e = by_counter (ltb b a) refl
      where
        by_counter : (t : Bool) → ltb b a ≡ t → ltb (b % counters) (a % counters) ≡ t
        by_counter true q = lt-ltb (b % counters) (a % counters) (omega (arith, eqb-true, ltb-true))
        by_counter false q = le-ltb (b % counters) (a % counters) (omega (arith, eqb-true, ltb-false))

    higher : eqb (a / counters) (b / counters) ≡ false → ltb (b / counters) (a / counters) ≡ ltb b a
    higher e = by_number (ltb b a) refl
      where
        by_number : (t : Bool) → ltb b a ≡ t → ltb (b / counters) (a / counters) ≡ t
        by_number true q = lt-ltb (b / counters) (a / counters) (omega (arith, eqb-false (a / counters) (b / counters) e, ltb-true))
        by_number false q = le-ltb (b / counters) (a / counters) (omega (arith, ltb-false b a q))

    go : (t : Bool) → eqb (a / counters) (b / counters) ≡ t → cond (eqb (a / counters) (b / counters)) (ltb (b % counters) (a % counters)) (ltb (b / counters) (a / counters)) ≡ ltb b a
    go true e = rw e (lower e)
    go false e = rw e (higher e)

-- the test and the fact
pub lt_above : (a b : ℕ) → b < a → is_above a b ≡ true
lt_above a b h = above_is a b ∙ lt-ltb b a h

pub le_above : (a b : ℕ) → a ≤ b → is_above a b ≡ false
le_above a b h = above_is a b ∙ le-ltb b a h

pub above_true : (a b : ℕ) → is_above a b ≡ true → b < a
above_true a b e = ltb-true b a (sym (above_is a b) ∙ e)

pub above_false : (a b : ℕ) → is_above a b ≡ false → a ≤ b
above_false a b e = ltb-false b a (sym (above_is a b) ∙ e)

-- a total order
pub above_or_not : (a b : ℕ) → (is_above a b ≡ true) ⊎ (is_above a b ≡ false)
above_or_not a b = go (is_above a b) refl
  where
    go : (t : Bool) → is_above a b ≡ t → (is_above a b ≡ true) ⊎ (is_above a b ≡ false)
    go true e = inl e
    go false e = inr e

pub above_total : (a b : ℕ) → is_above a b ≡ false → is_above b a ≡ false → a ≡ b
above_total a b p q = omega (arith, above_false a b p, above_false b a q)

pub above_not_back : (a b : ℕ) → is_above a b ≡ true → is_above b a ≡ false
above_not_back a b p = le_above b a (omega (arith, above_true a b p))

pub above_trans : (a b c : ℕ) → is_above a b ≡ true → is_above b c ≡ true → is_above a c ≡ true
above_trans a b c p q = lt_above a c (omega (arith, above_true a b p, above_true b c q))

-- the larger of two
pub larger_is : (a b : ℕ) → larger_of a b ≡ max a b
unfolding larger_of
larger_is a b = go (is_above b a) refl
  where
    go : (t : Bool) → is_above b a ≡ t → cond (is_above b a) b a ≡ max a b
    go true e = rw e (omega (arith, above_true b a e))
    go false e = rw e (omega (arith, above_false b a e))

-- a later counter of the same switch, and any counter of a later switch, is above
pub next_above : (n c : ℕ) → is_above (stamp_of n (c + 1)) (stamp_of n c) ≡ true
unfolding stamp_of
next_above n c = lt_above _ _ (omega arith)

pub later_switch_above : (m n c d : ℕ) → n < m → d < counters → is_above (stamp_of m c) (stamp_of n d) ≡ true
unfolding stamp_of
later_switch_above m n c d h k = lt_above _ _ (omega arith)
