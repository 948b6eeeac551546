-- Every run ends: it is over after as many turns as the input has bytes, and from then on nothing is printed.
use mathlib.Core.Path.{◌≡◌, refl, ap}
use mathlib.Core.Bool.{Bool, true, false, cond}
use mathlib.Core.Logic.{◌⊎◌, inl, inr}
use mathlib.Core.List.{List, []}
use Prim.Native.Nat.{ℕ, zero, suc, ◌+◌, ◌-◌, ◌<◌, ◌≤◌}
use native.Mathlib.Omega.{arith}
use lib.Dec.{ltb}
use lib.ListN.{length}
use Rattle.limits.specs as limits
use Rattle.lists.proofs.Tests.{both}
use Rattle.protocol.specs.declared.Step.{Step}
use Rattle.protocol.specs.Steps.{Machine}
use Rattle.std.specs.Prelude.{Option, Some, None, Result, Ok, Err}
use Rattle.records.specs.declared.Malformed.{Malformed}
use Rattle.records.specs.declared.Record.{Record}
use Rattle.records.specs.Records.{read_to, next_at}
use Rattle.records.proofs.Round.{next_record, next_position_lem}
use Rattle.turns.specs.Turns.{Standing, Printed, continued, read_next, next_printed, stopped, started_with, first_read, first_printed}
use Rattle.runs.specs.Runs.{lines_from, joined}

-- how a run stands after k turns
abbrev pub after_turns : ℕ → List ℕ → Standing → Standing
after_turns zero input u = u
after_turns (suc k) input u = after_turns k input (next_printed input u).then

-- a record that is read has at least three bytes, within the input
pub read_ahead : (input : List ℕ) (over : Bool) (at n : ℕ) (x : Step) → read_next input over at ≡ Ok (Some (read_to x n)) → (at + 3 ≤ n) × (n ≤ length input)
unfolding read_next
read_ahead input over at n x = go over
  where
    go : (t : Bool) → cond t (Ok None) (next_at input at) ≡ Ok (Some (read_to x n)) → (at + 3 ≤ n) × (n ≤ length input)
    go true e = let z : ◌≡◌ {A = ℕ} 0 1 = cc in absurd (omega arith)
    go false e = let p = next_position_lem input at n x (next_record input at n x e).0 in (omega (arith, p.0), p.2)

-- once over, a run stays so and prints nothing
pub over_next : (input : List ℕ) (u : Standing) → u.over ≡ true → next_printed input u ≡ continued u (Ok None)
unfolding next_printed read_next
over_next input u e = rw e refl

over_stays : (k : ℕ) (input : List ℕ) (u : Standing) → u.over ≡ true → (after_turns k input u).over ≡ true
over_stays zero input u e = e
over_stays (suc k) input u e = over_stays k input (next_printed input u).then (ap (λ (p : Printed). p.then.over) (over_next input u e))

pub over_prints : (k : ℕ) (input : List ℕ) (u : Standing) → u.over ≡ true → joined (lines_from k input u) ≡ []
unfolding lines_from joined
over_prints zero input u e = refl
over_prints (suc k) input u e = rw (over_next input u e) (over_prints k input (continued u (Ok None)).then refl)

-- each turn goes ahead in the input or ends the run
ends : (k : ℕ) (input : List ℕ) (u : Standing) → u.at ≤ length input → length input - u.at < k → (after_turns k input u).over ≡ true
unfolding next_printed
ends zero input u within few = absurd (omega arith)
ends (suc k) input u within few = go (read_next input u.over u.at) refl (ends k input)
  where
    go : (f : Result (Option Record) Malformed) → read_next input u.over u.at ≡ f
        → ((v : Standing) → v.at ≤ length input → length input - v.at < k → (after_turns k input v).over ≡ true)
        → (after_turns k input (continued u f).then).over ≡ true
    go (Ok (Some r)) e later = let p = read_ahead input u.over u.at r.end r.step e in later _ p.1 (omega (arith, p.0, p.1))
    go (Ok None) e later = over_stays k input _ refl
    go (Err x) e later = over_stays k input _ refl

module _ (m : Machine) (input : List ℕ) where
  -- how a run stands after its first record
  abbrev pub begun : Standing
  begun = (first_printed m input).then

  -- it is over, or stands within the input, past its start
  abbrev pub Ahead : Standing → Type 0
  Ahead u = (u.over ≡ true) ⊎ ((0 < u.at) × (u.at ≤ length input))

  pub read_ahead_first : (f : Result (Option Record) Malformed) → next_at input 0 ≡ f → Ahead (first_read m f).then
  unfolding stopped started_with
  read_ahead_first (Ok (Some r)) e = let p = next_position_lem input 0 r.end r.step (next_record input 0 r.end r.step e).0 in inr (p.1, p.2)
  read_ahead_first (Ok None) e = inl refl
  read_ahead_first (Err x) e = inl refl

  begun_ahead : Ahead begun
  unfolding first_printed stopped
  begun_ahead = both (λ (p : Printed). Ahead p.then) (ltb limits.input (length input)) (inl refl) (read_ahead_first (next_at input 0) refl)

  -- EVERY RUN ENDS, after at most as many turns as the input has bytes; and more turns print nothing more
  pub run_ends : (after_turns (length input) input begun).over ≡ true
  run_ends = elim begun_ahead [ inl e ↦ over_stays (length input) input begun e | inr p ↦ ends (length input) input begun p.1 (omega (arith, p.0, p.1)) ]

  pub run_prints_no_more : (j : ℕ) → joined (lines_from j input (after_turns (length input) input begun)) ≡ []
  run_prints_no_more j = over_prints j input (after_turns (length input) input begun) run_ends
