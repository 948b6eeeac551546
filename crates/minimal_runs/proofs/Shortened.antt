-- Of every input that is shortened: the last record of what is kept is refused with the same number, no one of those between can be dropped any more, and the first and the last
-- are kept.
use mathlib.Core.Path.{◌≡◌, refl, sym, ap, ◌∙◌, subst}
use mathlib.Core.Logic.{◌≢◌}
use mathlib.Core.Bool.{Bool, true, false, cond}
use mathlib.Core.List.{List, ◌++◌}
use Prim.Native.Nat.{ℕ, zero, suc, ◌+◌, ◌-◌, ◌*◌, ◌≤◌, ◌<◌}
use native.Mathlib.Nat.{add-zero}
use native.Mathlib.Omega.{arith}
use lib.Dec.{eqb, leb, ltb}
use lib.ListN.{length, get_or, set, take, drop, replicate, get_or-replicate}
use lib.Seq.{take-add, take_all, get_or-set_other}
use borrow.Author.Tests.{eqb-true, eqb-false, eq-eqb, ne_eqb, leb-true}
use Rattle.std.specs.Prelude.{Option, Some, None, Result, Ok, Err}
use Rattle.limits.specs as limits
use Rattle.lists.proofs.Tests.{both}
use Rattle.protocol.specs.Starts.{setup_of, start_refused}
use Rattle.records.specs.declared.Malformed.{Malformed}
use Rattle.records.specs.declared.Record.{Record}
use Rattle.records.specs.Records.{next_at}
use Rattle.shortening.specs.Shortening.{size_at, place_of, is_record, records_from, met_from, met_first, met, records_in, refusal_of, kept_to, is_same, drops, tried, passed, dropped, rounds, most_records, flags_of, shortened}
use Rattle.shortening.specs.Promises.{Within, Sound}
use Rattle.shortening.proofs.Records.{record_lies, place_next_lem, place_one, within_one, within_more}
use Rattle.minimal_runs.proofs.Minimal.{kept_in, kept_most, rounds_same, pass_stable, rounds_stable}

-- ---- the records of an input in which nothing is met

all_read : (l : List ℕ) (at count : ℕ) → at ≡ length l → at ≡ place_of count l → at ≤ 19 * count → Within count l → 1 ≤ count → Sound count l
all_read l at count e p big w some = record { within = w; ends = sym p ∙ e; short = omega (arith, e, big); some = some }

sound_from : (f : ℕ) (l : List ℕ) (at count : ℕ) → met_from f l at ≡ 0 → length l ≤ at + f → at ≡ place_of count l → at ≤ 19 * count → at ≤ length l → Within count l → 1 ≤ count
    → Sound (count + records_from f l at) l
unfolding met_from records_from
sound_from zero l at count e fuel p big inside w some =
    subst (λ (n : ℕ). Sound n l) (sym (add-zero count)) (all_read l at count (omega (arith, fuel, inside)) p big w some)
sound_from (suc f) l at count e fuel p big inside w some = end (leb (length l) at) refl e (sound_from f l (at + size_at l at) (count + 1))
  where
    Later : Type 0
    Later = met_from f l (at + size_at l at) ≡ 0 → length l ≤ at + size_at l at + f → at + size_at l at ≡ place_of (count + 1) l → at + size_at l at ≤ 19 * (count + 1) → at + size_at l at ≤ length l
        → Within (count + 1) l → 1 ≤ count + 1 → Sound (count + 1 + records_from f l (at + size_at l at)) l

    next : (t : Bool) → is_record (next_at l at) ≡ t → cond t (met_from f l (at + size_at l at)) 1 ≡ 0 → Later
        → Sound (count + cond t (1 + records_from f l (at + size_at l at)) 0) l
    next true there q later =
        let lies = record_lies l at there in
        let place : at + size_at l at ≡ place_of (count + 1) l = (λ j. p j + size_at l (p j)) ∙ sym (place_next_lem count l) in
        let sum : count + 1 + records_from f l (at + size_at l at) ≡ count + (1 + records_from f l (at + size_at l at)) = omega arith in
        subst (λ (n : ℕ). Sound n l) sum
        (later q (omega (arith, fuel, lies.1)) place (omega (arith, big, lies.2)) lies.0 (within_more count l w (omega (arith, place, lies.0))) (omega arith))
    next false there q later = absurd (omega (arith, q))

    end : (t : Bool) → leb (length l) at ≡ t → cond t 0 (cond (is_record (next_at l at)) (met_from f l (at + size_at l at)) 1) ≡ 0 → Later
        → Sound (count + cond t 0 (cond (is_record (next_at l at)) (1 + records_from f l (at + size_at l at)) 0)) l
    end true b q later =
        subst (λ (n : ℕ). Sound n l) (sym (add-zero count)) (all_read l at count (omega (arith, leb-true (length l) at b, inside)) p big w some)
    end false b q later = next (is_record (next_at l at)) refl q later

-- a start that is read
first_met : (l : List ℕ) (f : Result (Option Record) Malformed) → met_first l f ≡ 0 → (is_record f ≡ true) × (met_from (length l) l (size_at l 0) ≡ 0)
first_met l (Ok (Some r)) e = go (start_refused (setup_of r.step)) e
  where
    go : (t : Bool) → cond t 2 (met_from (length l) l (size_at l 0)) ≡ 0 → (true ≡ true) × (met_from (length l) l (size_at l 0) ≡ 0)
    go true q = absurd (omega (arith, q))
    go false q = (refl, q)
first_met l (Ok None) e = absurd (omega (arith, e))
first_met l (Err x) e = absurd (omega (arith, e))

pub sound_input : (l : List ℕ) → met l ≡ 0 → Sound (records_in l) l
unfolding met records_in
sound_input l e = go (ltb limits.input (length l)) e
  where
    go : (t : Bool) → cond t 14 (met_first l (next_at l 0)) ≡ 0 → Sound (1 + records_from (length l) l (size_at l 0)) l
    go true q = absurd (omega (arith, q))
    go false q =
        let first = first_met l (next_at l 0) q in
        let lies = record_lies l 0 first.0 in
        let inside : size_at l 0 ≤ length l = omega (arith, lies.0) in
        sound_from (length l) l (size_at l 0) 1 first.1 (omega arith) (sym (place_one l)) (omega (arith, lies.2)) inside (within_one l inside) (omega arith)

-- ---- all records, and then those that are kept

abbrev ones : ℕ → List ℕ
ones n = replicate n 1

ones_at : (n i : ℕ) → i < n → get_or (ones n) i 0 ≡ 1
ones_at n i h = get_or-replicate n i 1 0 h

kept_all : (n i : ℕ) (l : List ℕ) → i ≤ n → kept_to i l (ones n) ≡ take (place_of i l) l
unfolding kept_to place_of
kept_all n zero l h = refl
kept_all n (suc i) l h =
    let one : get_or (ones n) i 0 ≡ 1 = ones_at n i (omega (arith, h)) in
    let some : eqb (get_or (ones n) i 0) 0 ≡ false = ne_eqb (get_or (ones n) i 0) 0 (λ e. omega (arith, one, e)) in
    rw some (ap (λ (k : List ℕ). k ++ take (size_at l (place_of i l)) (drop (place_of i l) l)) (kept_all n i l (omega (arith, h))) ∙ sym (take-add (place_of i l) (size_at l (place_of i l)) l))

-- a pass touches no record but those between
passed_beside : (l : List ℕ) (count k i : ℕ) (flags : List ℕ) (j : ℕ) → ((t : ℕ) → 0 < t → t ≤ i → j ≢ t) → get_or (passed l count k i flags) j 0 ≡ get_or flags j 0
unfolding passed tried
passed_beside l count k zero flags j h = refl
passed_beside l count k (suc i) flags j h =
    passed_beside l count k i (cond (drops l count k flags (suc i)) (set flags (suc i) 0) flags) j (λ t a b. h t a (omega (arith, b))) ∙
    both (λ (fs : List ℕ). get_or fs j 0 ≡ get_or flags j 0) (drops l count k flags (suc i)) (get_or-set_other flags (suc i) j 0 0 (h (suc i) (omega arith) (omega arith))) refl

rounds_beside : (f : ℕ) (l : List ℕ) (count k : ℕ) (flags : List ℕ) (j : ℕ) → ((t : ℕ) → 0 < t → t ≤ count - 2 → j ≢ t) → get_or (rounds f l count k flags) j 0 ≡ get_or flags j 0
unfolding rounds
rounds_beside zero l count k flags j h = refl
rounds_beside (suc f) l count k flags j h = go (eqb (dropped l count k (count - 2) flags) 0) (rounds_beside f l count k (passed l count k (count - 2) flags) j h)
  where
    go : (t : Bool) → get_or (rounds f l count k (passed l count k (count - 2) flags)) j 0 ≡ get_or (passed l count k (count - 2) flags) j 0
        → get_or (cond t (passed l count k (count - 2) flags) (rounds f l count k (passed l count k (count - 2) flags))) j 0 ≡ get_or flags j 0
    go true e = passed_beside l count k (count - 2) flags j h
    go false e = e ∙ passed_beside l count k (count - 2) flags j h

-- FOR EVERY INPUT IN WHICH NOTHING IS MET, of at most 512 records
module _ (l : List ℕ) (meets : met l ≡ 0) (few : records_in l ≤ most_records) where
  start_same : is_same l (records_in l) (refusal_of l) (replicate most_records 1) ≡ true
  unfolding is_same
  start_same =
      let all : kept_to (records_in l) l (replicate most_records 1) ≡ l =
      kept_all most_records (records_in l) l few ∙ ap (λ (n : ℕ). take n l) (sound_input l meets).ends ∙ take_all (length l) l (omega arith) in
      eq-eqb _ _ (ap refusal_of all)

  -- 'the last is refused with the same number'
  pub shortened_refused : refusal_of (shortened l) ≡ refusal_of l
  unfolding shortened flags_of is_same
  shortened_refused = eqb-true _ _ (rounds_same l (records_in l) (refusal_of l) most_records (replicate most_records 1) start_same)

  -- 'dropping any one more of those between changes that': the last is accepted then, or refused with another number
  pub shortened_minimal : (j : ℕ) → 0 < j → j ≤ records_in l - 2 → get_or (flags_of l) j 0 ≢ 0 → refusal_of (kept_to (records_in l) l (set (flags_of l) j 0)) ≢ refusal_of l
  unfolding flags_of drops is_same
  shortened_minimal j some low kept =
      let flags : List ℕ = rounds most_records l (records_in l) (refusal_of l) (replicate most_records 1) in
      let fewer : kept_in (records_in l - 2) (replicate most_records 1) < most_records = omega (arith, kept_most (records_in l - 2) (replicate most_records 1), few) in
      let none = rounds_stable l (records_in l) (refusal_of l) most_records (replicate most_records 1) fewer in
      let stays = (pass_stable l (records_in l) (refusal_of l) (records_in l - 2) flags none).1 j some low in
      let there : eqb (get_or flags j 0) 0 ≡ false = ne_eqb (get_or flags j 0) 0 kept in
      eqb-false _ _ (rw there at stays)

  -- the first record and the last are kept
  pub first_kept : get_or (flags_of l) 0 0 ≡ 1
  unfolding flags_of
  first_kept =
      rounds_beside most_records l (records_in l) (refusal_of l) (replicate most_records 1) 0 (λ t a b e. omega (arith, e, a)) ∙ ones_at most_records 0 (omega arith)

  pub last_kept : get_or (flags_of l) (records_in l - 1) 0 ≡ 1
  unfolding flags_of
  last_kept =
      rounds_beside most_records l (records_in l) (refusal_of l) (replicate most_records 1) (records_in l - 1) (λ t a b e. omega (arith, e, a, b)) ∙
      ones_at most_records (records_in l - 1) (omega (arith, few))
