-- What holds of the records that are kept: the last one is refused with the same number, and none of those between can be dropped any more.
use mathlib.Core.Path.{◌≡◌, refl, sym, ap, ◌∙◌}
use mathlib.Core.Bool.{Bool, true, false, cond}
use mathlib.Core.List.{List, [], ◌∷◌}
use Prim.Native.Nat.{ℕ, zero, suc, ◌+◌, ◌-◌, ◌≤◌, ◌<◌}
use native.Mathlib.Decide.{ℕ_discrete}
use native.Mathlib.Omega.{arith}
use lib.Dec.{eqb}
use lib.ListN.{get_or, set}
use lib.Seq.{get_or-set_other}
use borrow.Author.Tests.{eqb-true, eqb-false}
use Rattle.lists.proofs.Tests.{by_test, both, second_passes}
use Rattle.shortening.specs.Shortening.{is_same, drops, tried, passed, dropped, rounds}

-- how many of records i down to 1 are kept
abbrev pub kept_in : ℕ → List ℕ → ℕ
kept_in zero flags = 0
kept_in (suc i) flags = cond (eqb (get_or flags (suc i) 0) 0) 0 1 + kept_in i flags

pub kept_most : (m : ℕ) (flags : List ℕ) → kept_in m flags ≤ m
kept_most zero flags = omega arith
kept_most (suc m) flags = go (eqb (get_or flags (suc m) 0) 0) (kept_most m flags)
  where
    go : (t : Bool) → kept_in m flags ≤ m → cond t 0 1 + kept_in m flags ≤ suc m
    go true h = omega (arith, h)
    go false h = omega (arith, h)

zeroed : (flags : List ℕ) (i : ℕ) → get_or (set flags i 0) i 0 ≡ 0
zeroed [] i = refl
zeroed (x ∷ flags) zero = refl
zeroed (x ∷ flags) (suc i) = zeroed flags i

-- a later record
kept_beside : (m i : ℕ) (flags : List ℕ) → m < i → kept_in m (set flags i 0) ≡ kept_in m flags
kept_beside zero i flags h = refl
kept_beside (suc m) i flags h =
    λ j. cond (eqb (get_or-set_other flags i (suc m) 0 0 (λ e. omega (arith, e, h)) j) 0) 0 1 + kept_beside m i flags (omega (arith, h)) j

-- one that is dropped
kept_less : (m i : ℕ) (flags : List ℕ) → eqb (get_or flags i 0) 0 ≡ false → 0 < i → i ≤ m → kept_in m (set flags i 0) + 1 ≡ kept_in m flags
kept_less zero i flags e a b = absurd (omega arith)
kept_less (suc m) i flags e a b = go (ℕ_discrete i (suc m)) (λ c. kept_less m i flags e a c)
  where
    go : Dec (i ≡ suc m) → (i ≤ m → kept_in m (set flags i 0) + 1 ≡ kept_in m flags)
        → cond (eqb (get_or (set flags i 0) (suc m) 0) 0) 0 1 + kept_in m (set flags i 0) + 1 ≡ cond (eqb (get_or flags (suc m) 0) 0) 0 1 + kept_in m flags
    go (yes same) rest =
        let gone : get_or (set flags i 0) (suc m) 0 ≡ 0 = ap (λ (j : ℕ). get_or (set flags i 0) j 0) (sym same) ∙ zeroed flags i in
        let was : eqb (get_or flags (suc m) 0) 0 ≡ false = ap (λ (j : ℕ). eqb (get_or flags j 0) 0) (sym same) ∙ e in
        rw (gone, was) (omega (arith, kept_beside m i flags (omega (arith, same))))
    go (no other) rest =
        let same : get_or (set flags i 0) (suc m) 0 ≡ get_or flags (suc m) 0 = get_or-set_other flags i (suc m) 0 0 (λ e. other (sym e)) in
        rw same (omega (arith, rest (omega (arith, other, b))))

-- ---- the number stays the same

module _ (l : List ℕ) (count k : ℕ) where
  abbrev Same : List ℕ → Type 0
  Same flags = is_same l count k flags ≡ true

  -- a drop stands only if it leaves the number
  drops_same : (flags : List ℕ) (i : ℕ) → drops l count k flags i ≡ true → Same (set flags i 0)
  unfolding drops
  drops_same flags i e = (second_passes (eqb (get_or flags i 0) 0) (is_same l count k (set flags i 0)) e).1

  drops_flag : (flags : List ℕ) (i : ℕ) → drops l count k flags i ≡ true → eqb (get_or flags i 0) 0 ≡ false
  unfolding drops
  drops_flag flags i e = (second_passes (eqb (get_or flags i 0) 0) (is_same l count k (set flags i 0)) e).0

  tried_same : (flags : List ℕ) (i : ℕ) → Same flags → Same (tried l count k flags i)
  unfolding tried
  tried_same flags i s = by_test Same (drops l count k flags i) (λ e. drops_same flags i e) (λ e. s)

  passed_same : (i : ℕ) (flags : List ℕ) → Same flags → Same (passed l count k i flags)
  unfolding passed
  passed_same zero flags s = s
  passed_same (suc i) flags s = passed_same i (tried l count k flags (suc i)) (tried_same flags (suc i) s)

  pub rounds_same : (f : ℕ) (flags : List ℕ) → Same flags → Same (rounds f l count k flags)
  unfolding rounds
  rounds_same zero flags s = s
  rounds_same (suc f) flags s =
      let after = passed_same (count - 2) flags s in
      both Same (eqb (dropped l count k (count - 2) flags) 0) after (rounds_same f (passed l count k (count - 2) flags) after)

  -- ---- none of those between can be dropped any more

  -- records i down to 1 cannot be dropped
  abbrev pub Kept : ℕ → List ℕ → Type 0
  Kept i flags = (j : ℕ) → 0 < j → j ≤ i → drops l count k flags j ≡ false

  -- a pass that drops none changes nothing, and found none that could be dropped
  pub pass_stable : (i : ℕ) (flags : List ℕ) → dropped l count k i flags ≡ 0 → (passed l count k i flags ≡ flags) × Kept i flags
  unfolding passed dropped tried
  pass_stable zero flags e = (refl, λ j a b. absurd (omega arith))
  pass_stable (suc i) flags e = go (drops l count k flags (suc i)) refl e (pass_stable i)
    where
      go : (t : Bool) → drops l count k flags (suc i) ≡ t → cond t 1 0 + dropped l count k i (cond t (set flags (suc i) 0) flags) ≡ 0
          → ((fs : List ℕ) → dropped l count k i fs ≡ 0 → (passed l count k i fs ≡ fs) × Kept i fs)
          → (passed l count k i (cond t (set flags (suc i) 0) flags) ≡ flags) × Kept (suc i) flags
      go true p q rest = absurd (omega (arith, q))
      go false p q rest =
          let r = rest flags (omega (arith, q)) in
          (r.0, λ j a b. last j a b (ℕ_discrete j (suc i)) r.1)
        where
          last : (j : ℕ) → 0 < j → j ≤ suc i → Dec (j ≡ suc i) → Kept i flags → drops l count k flags j ≡ false
          last j a b (yes same) kept = ap (drops l count k flags) same ∙ p
          last j a b (no other) kept = kept j a (omega (arith, other))

  -- ---- it always ends

  -- what a pass drops is gone
  pass_falls : (m i : ℕ) (flags : List ℕ) → i ≤ m → kept_in m (passed l count k i flags) + dropped l count k i flags ≡ kept_in m flags
  unfolding passed dropped tried
  pass_falls m zero flags h = omega arith
  pass_falls m (suc i) flags h = go (drops l count k flags (suc i)) refl (λ fs. pass_falls m i fs (omega (arith, h)))
    where
      go : (t : Bool) → drops l count k flags (suc i) ≡ t
          → ((fs : List ℕ) → kept_in m (passed l count k i fs) + dropped l count k i fs ≡ kept_in m fs)
          → kept_in m (passed l count k i (cond t (set flags (suc i) 0) flags)) + (cond t 1 0 + dropped l count k i (cond t (set flags (suc i) 0) flags)) ≡ kept_in m flags
      go true e rest =
          omega (arith, rest (set flags (suc i) 0), kept_less m (suc i) flags (drops_flag flags (suc i) e) (omega arith) h)
      go false e rest = omega (arith, rest flags)

  -- after enough passes one has dropped none
  pub rounds_stable : (f : ℕ) (flags : List ℕ) → kept_in (count - 2) flags < f → dropped l count k (count - 2) (rounds f l count k flags) ≡ 0
  unfolding rounds
  rounds_stable zero flags h = absurd (omega arith)
  rounds_stable (suc f) flags h = go (eqb (dropped l count k (count - 2) flags) 0) refl (rounds_stable f (passed l count k (count - 2) flags))
    where
      go : (t : Bool) → eqb (dropped l count k (count - 2) flags) 0 ≡ t
          → (kept_in (count - 2) (passed l count k (count - 2) flags) < f → dropped l count k (count - 2) (rounds f l count k (passed l count k (count - 2) flags)) ≡ 0)
          → dropped l count k (count - 2) (cond t (passed l count k (count - 2) flags) (rounds f l count k (passed l count k (count - 2) flags))) ≡ 0
      go true e rest =
          let none = eqb-true (dropped l count k (count - 2) flags) 0 e in
          ap (dropped l count k (count - 2)) (pass_stable (count - 2) flags none).0 ∙ none
      go false e rest = rest (omega (arith, h, pass_falls (count - 2) (count - 2) flags (omega arith), eqb-false (dropped l count k (count - 2) flags) 0 e))
