-- What holds of every run besides its order: what the theorems of links assume, and that an operation finishes once at the most, and never after it was
-- given up.
use mathlib.Core.Path.{◌≡◌, refl, sym, ap, ◌∙◌, subst}
use mathlib.Core.Bool.{true, false}
use mathlib.Core.List.{List, [], ◌∷◌, ◌++◌}
use mathlib.Core.Logic.{inl, inr}
use Prim.Native.Nat.{ℕ, ◌+◌, ◌≤◌, ◌<◌}
use native.Mathlib.Omega.{arith}
use lib.Dec.{ltb}
use lib.ListN.{length}
use Rattle.lists.proofs.Tests.{by_test, both}
use Rattle.limits.specs as limits
use Rattle.history.specs.History.{◌∈◌, History, begun, finished, Finished}
use Rattle.history.specs.Linearizability.{Ahead}
use Rattle.history.proofs.Entries.{Entry, Unfinished}
use Rattle.history.proofs.Growth.{begun_not_finished}
use Rattle.operations.specs.{is_open, last_given, room_to_open, opening, closing}
use Rattle.operations.proofs.Behind.{SameOpens, same_open, same_last}
use Rattle.operations.proofs.Laws.{last_opening, open_before, last_closing, open_after_closing}
use Rattle.store.specs.declared.Write.{Write}
use Rattle.store.specs.{is_quorum}
use Rattle.chain.specs.{chain_place, is_member, table_of}
use Rattle.replicas.specs.Links.{all_links}
use Rattle.replicas.proofs.Cells.{SizedStore}
use Rattle.replicas.proofs.Descending.{Descending}
use Rattle.joins.specs.{is_joining, newcomer_number}
use Rattle.replicas.proofs.Links.{links_together}
use Rattle.waiting.specs.declared.Packet.{Packet}
use Rattle.protocol.specs.declared.Setup.{Setup}
use Rattle.protocol.specs.Starts.{start_refused}
use Rattle.protocol.specs.declared.Answer.TheVariants.{Done, Refused}
use Rattle.protocol.specs.declared.Message.TheVariants.{StampedWrite}
use Rattle.protocol.specs.declared.Step.{Step}
use Rattle.protocol.specs.declared.Step.TheVariants.{GiveUp}
use Rattle.protocol.specs.Decisions.{Outcome, Opened, changing_opens, refusing}
use Rattle.protocol.specs.Steps.{Machine, given_by, outcome_of, giving_up, decided, is_malformed, decided_in, answer_to, after, started}
use Rattle.write_log.proofs.Places.{joining_set}
use Rattle.write_log.proofs.Shows.{head_place}
use Rattle.write_log.proofs.Tables.{at_head_first}
use Rattle.linearizability.specs.Run.{noted, history_from, history_of}
use Rattle.linearizability.proofs.Waits.{messages}
use Rattle.linearizability.proofs.Invariant.{ReplicasHold, in_chain, in_quorum, EndsOnce, Good}
use Rattle.linearizability.proofs.Deliveries.{unfinished_other}
use Rattle.linearizability.proofs.Steps.{unfinished_begin}
use Rattle.linearizability.proofs.OneOrder.{good_after}
use Rattle.linearizability.proofs.Limits.{held_run, reached, machine_of, good_run, linked_within}
use Rattle.linearizability.proofs.Opens.{Change, stays, begins, finishes, gives_up, change}

-- ---- the store of a run

sized_of : {s : List ℕ} {log : List Write} {n : ℕ} → ReplicasHold s log n → SizedStore s
sized_of (in_chain k) = k.shown.sized
sized_of (in_quorum k) = k.shown.sized

-- FOR EVERY START THAT IS NOT REFUSED, EVERY LENT ROW OF PLACES AND EVERY LIST OF STEPS, refused ones included
module _ (b : Setup) (starts : start_refused b ≡ false) (row : List Packet) (xs : List Step) where
  -- what crates/replicas/proofs/Links.antt assumes of a chain's store: so its theorems are about the stores of runs
  pub run_descending : is_quorum (machine_of b row xs).store ≡ false → Descending (machine_of b row xs).store
  run_descending chain = (held_run b starts row xs chain).shown.falls

  pub run_sized : SizedStore (machine_of b row xs).store
  run_sized = sized_of (good_run b starts row xs).replicas

  -- and of a write that a live replica takes: it is at the head
  pub accepted_at_head : is_quorum (machine_of b row xs).store ≡ false → (r : ℕ) (w : Write) → StampedWrite r w ∈ messages (machine_of b row xs).waiting → is_member (machine_of b row xs).store r ≡ true
      → chain_place (machine_of b row xs).store (table_of (machine_of b row xs).store r) ≡ 0
  accepted_at_head chain r w i member =
      let g = good_run b starts row xs in
      let s = (machine_of b row xs).store in
      ap (chain_place s) (at_head_first s r (g.posted (StampedWrite r w) i).0 member) ∙ head_place (held_run b starts row xs chain).shown

  -- nor is a write that waits for a newcomer: its number is below the newcomer's
  pub below_newcomer : (r : ℕ) (w : Write) → StampedWrite r w ∈ messages (machine_of b row xs).waiting → is_joining (machine_of b row xs).store ≡ true
      → r < newcomer_number (machine_of b row xs).store
  below_newcomer r w i joins = ((good_run b starts row xs).posted (StampedWrite r w) i).0.2 (joining_set (machine_of b row xs).store joins)

  -- 'All links together hold at most 64 writes', counted link by link
  pub links_within : is_quorum (machine_of b row xs).store ≡ false → all_links (machine_of b row xs).store ≤ 64
  links_within chain = omega (arith, links_together (machine_of b row xs).store (run_descending chain), linked_within b starts row xs chain)

-- ---- an operation finishes once

ends_ahead : (h : History) → EndsOnce h → (o : ℕ) (us vs : List ℕ) → Ahead (finished o us) (finished o vs) h → ⊥
ends_ahead [] u o us vs a = a
ends_ahead (begun p k ∷ h) u o us vs (inl a) = begun_not_finished (sym a.0)
ends_ahead (begun p k ∷ h) u o us vs (inr a) = ends_ahead h u o us vs a
ends_ahead (finished p ws ∷ h) u o us vs (inl a) = let same : o ≡ p = finished_same a.0 in u.0 (vs, subst (λ (q : ℕ). finished q vs ∈ h) same a.1)
  where
    finished_same : finished o us ≡ finished p ws → o ≡ p
    finished_same e = cc
ends_ahead (finished p ws ∷ h) u o us vs (inr a) = ends_ahead h u.1 o us vs a

-- no operation finishes twice, with whatever values
pub finished_once : (b : Setup) → start_refused b ≡ false → (row : List Packet) (xs : List Step) (o : ℕ) (us vs : List ℕ)
    → Ahead (finished o us) (finished o vs) (history_of b row xs) → ⊥
finished_once b starts row xs = ends_ahead (history_of b row xs) (good_run b starts row xs).books.ends_once

-- ---- an operation that is open no more

-- it has a number that was given, and is not open
abbrev Shut : List ℕ → ℕ → Type 0
Shut opens o = (is_open opens o ≡ true → ⊥) × (o ≤ last_given opens)

-- whatever the cells behind the open operations hold
shut_kept : {cells cells' : List ℕ} {o : ℕ} → SameOpens cells cells' → Shut cells o → Shut cells' o
shut_kept {o} c s = (λ e. s.0 (sym (same_open c o) ∙ e), rw (same_last c) s.1)

-- every step leaves it so, and does not finish it
module _ {m : Machine} {h : History} {es : List Entry} (g : Good m h es) (o : ℕ) (s : Shut m.opens o) (u : Unfinished h o) where
  shut_opening : room_to_open m.opens ≡ true → Shut (opening m.opens (last_given m.opens + 1)) o
  shut_opening room =
      let next = last_given m.opens + 1 in (
        λ e. elim (open_before m.opens next g.books.open_numbers_lem.sized room o e) [ inl q ↦ omega (arith, s.1) | inr q ↦ s.0 q ],
        omega (arith, s.1, last_opening m.opens next g.books.open_numbers_lem.sized room),
      )

  shut_closing : (p : ℕ) → is_open m.opens p ≡ true → Shut (closing m.opens p) o
  shut_closing p still = (
    λ e. s.0 (open_after_closing m.opens p g.books.open_numbers_lem.sized still g.books.open_numbers_lem.once o e).0,
    rw (last_closing m.opens p g.books.open_numbers_lem.sized still) s.1,
  )

  shut_changed : {l cells' l' : List ℕ} {h' : History} → Change m.opens h l cells' h' l' → Shut cells' o × Unfinished h' o
  shut_changed (stays c e q) = (shut_kept c s, rw e u)
  shut_changed (begins k room c e q) = (shut_kept c (shut_opening room), rw e (unfinished_begin u))
  shut_changed (finishes p vs still c e q) =
      (shut_kept c (shut_closing p still), rw e (unfinished_other (λ d. s.0 (subst (λ (i : ℕ). is_open m.opens i ≡ true) (sym d) still)) u))
  shut_changed (gives_up p still c e q) = (shut_kept c (shut_closing p still), rw e u)

-- so no step of the rest of the run finishes it
shut_run : {m : Machine} {h : History} {es : List Entry} → Good m h es → (o : ℕ) → Shut m.opens o → Unfinished h o → (xs : List Step)
    → Unfinished (history_from m h xs) o
shut_run g o s u [] = u
shut_run {m} {h} g o s u (x ∷ xs) = let k = shut_changed g o s u (change m h [] x) in shut_run {m = after m x} (good_after g x) o k.0 k.1 xs

-- ---- an operation that was given up

-- a give-up that is done: the operation was open, and is open no more
abbrev GaveUp : List ℕ → ℕ → Outcome → Type 0
GaveUp opens o u = u.decision.answer ≡ Done → (is_open opens o ≡ true) × (u.opens ≡ closing opens o)

gave_up : (m : Machine) (o : ℕ) → GaveUp m.opens o (outcome_of m (GiveUp o))
unfolding decided_in decided giving_up refusing
gave_up m o =
    both P (is_malformed (GiveUp o)) refused
    (both P (ltb (length m.waiting.packets) limits.waiting) refused
    (by_test (λ (u : Opened). P (changing_opens (given_by m) u)) (is_open m.opens o) (λ still e. (still, refl)) (λ closed. refused)))
  where
    P : Outcome → Type 0
    P = GaveUp m.opens o

    refused : {A : Type 0} {r : _} → Refused r ≡ Done → A
    refused e = absurd (let z : ◌≡◌ {A = ℕ} 0 1 = cc in omega arith)

-- the history of a run in two parts
pub history_append : (m : Machine) (h : History) (xs ys : List Step) → history_from m h (xs ++ ys) ≡ history_from (reached m xs) (history_from m h xs) ys
history_append m h [] ys = refl
history_append m h (x ∷ xs) ys = history_append (after m x) (noted x (answer_to m x) h) xs ys

-- 'give up this operation; it stays unfinished for good': whatever steps came before, and whatever steps follow
pub given_up_unfinished : (b : Setup) → start_refused b ≡ false → (row : List Packet) (xs ys : List Step) (o : ℕ) → answer_to (machine_of b row xs) (GiveUp o) ≡ Done
    → Finished (history_of b row (xs ++ GiveUp o ∷ ys)) o → ⊥
unfolding answer_to after
given_up_unfinished b starts row xs ys o e =
    let m = machine_of b row xs in
    let g = good_run b starts row xs in
    let books = g.books in
    let t = gave_up m o e in
    let was = books.opened o t.0 in
    let shut : Shut (closing m.opens o) o = (
      λ q. (open_after_closing m.opens o books.open_numbers_lem.sized t.0 books.open_numbers_lem.once o q).1 refl,
      omega (arith, (books.bounded o was.0).1, books.numbered, last_closing m.opens o books.open_numbers_lem.sized t.0),
    ) in
    rw (history_append (started b row) [] xs (GiveUp o ∷ ys))
    (shut_run (good_after g (GiveUp o)) o (rw t.1 shut) was.1 ys)
