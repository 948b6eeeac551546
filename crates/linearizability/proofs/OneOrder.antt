-- Demand 3: every run from an empty store has one order of its operations, and it is computed from the run.
use mathlib.Core.Path.{◌≡◌, refl, sym, subst}
use mathlib.Core.Bool.{false}
use mathlib.Core.List.{List, [], ◌∷◌}
use Prim.Native.Nat.{ℕ, zero, suc}
use native.Mathlib.Omega.{arith}
use Rattle.lists.proofs.Tests.{untrue}
use Rattle.history.specs.History.{History}
use Rattle.history.specs.Linearizability.{OneOrder}
use Rattle.history.proofs.Lists.{no_member}
use Rattle.history.proofs.Entries.{Entry, Linearizes}
use Rattle.history.proofs.Claim.{numbers, one_order_of}
use Rattle.operations.specs.{none_open}
use Rattle.operations.proofs.Counted.{counted_none}
use Rattle.operations.proofs.Laws.{last_none, none_open_lem}
use Rattle.switch.proofs.Laws.{new_counter, new_committed}
use Rattle.store.specs.declared.Write.{Write}
use Rattle.waiting.specs.declared.Packet.{Packet}
use Rattle.waiting.specs.Waiting.{none_wait}
use Rattle.waiting.proofs.Laws.{waits_none, exact_none}
use Rattle.protocol.specs.declared.Setup.{Setup}
use Rattle.protocol.specs.declared.Setup.TheVariants.{Missing, Chain, Quorum}
use Rattle.protocol.specs.Starts.{start_refused}
use Rattle.protocol.proofs.Refusals.{start_accepted, quorum_accepted}
use Rattle.protocol.specs.declared.Step.{Step}
use Rattle.protocol.specs.Steps.{Machine, answer_to, after, new_store, started}
use Rattle.write_log.proofs.Shows.{shows_start}
use Rattle.write_log.proofs.Joined.{joined_start}
use Rattle.write_log.proofs.StoreKind.{kind_start}
use Rattle.write_log.proofs.QuorumHolds.{quorum_holds_start}
use Rattle.linearizability.specs.Run.{noted, history_from, history_of}
use Rattle.linearizability.proofs.Visible.{none_shown}
use Rattle.linearizability.proofs.Logged.{logged_start}
use Rattle.linearizability.proofs.Core.{Core, core_start}
use Rattle.linearizability.proofs.Waits.{messages}
use Rattle.linearizability.proofs.SwitchLaws.{holds_new}
use Rattle.linearizability.proofs.Invariant.{one_chain, only, ReplicasHold, in_chain, in_quorum, Good, order_next}
use Rattle.linearizability.proofs.Deliveries.{good_of}
use Rattle.linearizability.proofs.Steps.{good_step}

-- the order of a run, step by step
abbrev pub order_from : Machine → History → List Entry → List Step → List Entry
order_from m h es [] = es
order_from m h es (x ∷ xs) = order_from (after m x) (noted x (answer_to m x) h) (order_next m (after m x) (answer_to m x) h es) xs

-- the order of the operations of a run from the empty store that a start gives
abbrev pub order_of : Setup → List Packet → List Step → List ℕ
order_of b row xs = numbers (order_from (started b row) [] [] xs)

-- an empty store
no_messages : (row : List Packet) → messages (none_wait row) ≡ []
no_messages row = rw (waits_none row)

core_begins : Core one_chain [] [] [] (only []) [] (λ d. 0) none_open
core_begins = subst (λ (f : ℕ → List Write). Core one_chain [] [] [] f [] (λ d. 0) none_open) (λ j d. empty d j) core_start
  where
    empty : (d : ℕ) → none_shown d ≡ only [] d
    empty zero = refl
    empty (suc d) = refl

-- the replicas of a start that is not refused
start_holds : (b : Setup) → start_refused b ≡ false → ReplicasHold (new_store b) [] 0
unfolding start_refused
start_holds Missing starts = untrue (sym starts)
start_holds (Chain n) starts =
    let fits = (start_accepted n).0 starts in
    in_chain (record { kind = kind_start n; shown = shows_start n fits.0 fits.1; joined = joined_start n fits.1 })
start_holds (Quorum n) starts = let fits = quorum_accepted n starts in in_quorum (quorum_holds_start n (omega (arith, fits.0)) (omega (arith, fits.1)))

pub good_start : (b : Setup) → start_refused b ≡ false → (row : List Packet) → Good (started b row) [] []
unfolding started
good_start b starts row =
    good_of [] [] 0 [] (no_messages row) (subst (λ (f : ℕ → ℕ). Core one_chain [] [] [] (only []) [] f none_open) (λ j d. sym (new_committed 1) j) core_begins) logged_start (start_holds b starts) (λ p m. absurd (no_member m))
    (record {
      open_numbers_lem = counted_none;
      opened = λ o e. absurd (none_open_lem o e);
      numbered = last_none;
      few = omega (arith, last_none);
      bounded = λ o b. absurd (no_member b.1);
      ranged = λ o k i. absurd (no_member i);
      ends_once = tt;
    })
    (omega (arith, new_counter 1)) (holds_new 1 (omega arith) (λ u i. absurd (no_member i))) (exact_none row)

-- one step of the machine keeps the invariant
pub good_after : {m : Machine} {h : History} {es : List Entry} → Good m h es → (x : Step) → Good (after m x) (noted x (answer_to m x) h) (order_next m (after m x) (answer_to m x) h es)
unfolding after answer_to
good_after g x = good_step g x

run_linearizes : (xs : List Step) (m : Machine) (h : History) (es : List Entry) → Good m h es → Linearizes (history_from m h xs) (order_from m h es xs)
run_linearizes [] m h es g = g.core.visible.linearizes
run_linearizes (x ∷ xs) m h es g = run_linearizes xs (after m x) (noted x (answer_to m x) h) (order_next m (after m x) (answer_to m x) h es) (good_after g x)

-- FOR EVERY START THAT IS NOT REFUSED, EVERY LENT ROW OF PLACES, however many there are and whatever they hold, AND EVERY LIST OF STEPS, refused ones
-- included, one order explains the whole run
pub one_order : (b : Setup) → start_refused b ≡ false → (row : List Packet) → (xs : List Step) → OneOrder (history_of b row xs) (order_of b row xs)
one_order b starts row xs = one_order_of (run_linearizes xs (started b row) [] [] (good_start b starts row))
