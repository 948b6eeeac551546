-- Document 01, 'Steps and their records', of the step remove in every run: what it does to the links.
use mathlib.Core.Path.{◌≡◌, refl}
use mathlib.Core.Bool.{true, false}
use mathlib.Core.List.{List, [], ◌++◌}
use Prim.Native.Nat.{ℕ, ◌+◌, ◌<◌}
use lib.Dec.{leb, ltb}
use lib.ListN.{length}
use Rattle.lists.proofs.Tests.{by_test, both}
use Rattle.limits.specs as limits
use Rattle.store.specs.{live_count, is_quorum}
use Rattle.chain.specs.{chain_place, is_live, place_of, is_member, table_of}
use Rattle.joins.specs.{without}
use Rattle.replicas.specs.Links.{link_into, successor_of}
use Rattle.waiting.specs.declared.Packet.{Packet}
use Rattle.protocol.specs.declared.Answer.TheVariants.{Done}
use Rattle.protocol.specs.declared.Setup.{Setup}
use Rattle.protocol.specs.declared.Step.{Step}
use Rattle.protocol.specs.declared.Step.TheVariants.{Remove}
use Rattle.protocol.specs.Starts.{start_refused}
use Rattle.protocol.specs.Decisions.{Outcome, Stored, changing_store, refusing}
use Rattle.protocol.specs.Steps.{Machine, given_by, outcome_of, removing, decided, is_malformed, decided_in, answer_to, after}
use Rattle.write_log.proofs.Removed.{without_itself, without_head, without_between, without_others}
use Rattle.linearizability.proofs.Limits.{machine_of, good_run, held_run}
use Rattle.linearizability.proofs.Invariant.{ChainHolds}
use Rattle.linearizability.proofs.NewTail.{refused}

-- a removal that is done: the store is a chain, and the replica was live
abbrev Removed : List ℕ → ℕ → Outcome → Type 0
Removed s r u = u.decision.answer ≡ Done → (is_quorum s ≡ false) × (is_member s r ≡ true) × (u.store ≡ without s r)

removed_by : (m : Machine) (r : ℕ) → Removed m.store r (outcome_of m (Remove r))
unfolding decided_in decided removing refusing
removed_by m r =
    both P (is_malformed (Remove r)) refused
    (both P (ltb (length m.waiting.packets) limits.waiting) refused
    (by_test Q (is_quorum m.store) (λ quorum. refused)
    (λ chain. by_test Q (is_member m.store r) (λ member. both Q (leb (live_count m.store) 1) refused (λ e. (chain, member, refl))) (λ gone. refused))))
  where
    P : Outcome → Type 0
    P = Removed m.store r

    Q : Stored → Type 0
    Q u = P (changing_store (given_by m) u)

-- FOR EVERY START THAT IS NOT REFUSED, EVERY LENT ROW OF PLACES AND EVERY LIST OF STEPS, refused ones included
module _ (b : Setup) (starts : start_refused b ≡ false) (row : List Packet) (xs : List Step) (r : ℕ) (done : answer_to (machine_of b row xs) (Remove r) ≡ Done) where
  -- the store before the removal and after it, and the table of the removed replica
  abbrev s : List ℕ
  s = (machine_of b row xs).store

  abbrev t : List ℕ
  t = (after (machine_of b row xs) (Remove r)).store

  abbrev gone : ℕ
  gone = table_of s r

  member : is_member s r ≡ true
  unfolding answer_to
  member = (removed_by (machine_of b row xs) r done).1

  store_is : t ≡ without s r
  unfolding answer_to after
  store_is = (removed_by (machine_of b row xs) r done).2

  -- what holds of the chain
  holds : ChainHolds s (good_run b starts row xs).log (good_run b starts row xs).n
  unfolding answer_to
  holds = held_run b starts row xs (removed_by (machine_of b row xs) r done).0

  -- 'Removing the tail empties its incoming link; those writes get no reply.'
  pub own_link_emptied : link_into t gone ≡ []
  own_link_emptied = rw store_is (without_itself holds.shown holds.joined r member)

  module _ (more : place_of s r + 1 < live_count s) where
    -- 'Removing the head loses its outgoing link.'
    pub head_link_lost : place_of s r ≡ 0 → link_into t (successor_of s gone) ≡ []
    head_link_lost first = rw store_is (without_head holds.shown holds.joined r member more first)

    -- 'Removing one between joins its two links, the outgoing link's writes first.'
    pub links_joined : 0 < place_of s r → link_into t (successor_of s gone) ≡ link_into s (successor_of s gone) ++ link_into s gone
    links_joined later = rw store_is (without_between holds.shown holds.joined r member more later)

  -- and no other link changes
  pub other_links_stay : (q : ℕ) → is_live s q ≡ true → (chain_place s q ≡ place_of s r → ⊥) → (chain_place s q ≡ place_of s r + 1 → ⊥) → link_into t q ≡ link_into s q
  other_links_stay q live d e = rw store_is (without_others holds.shown holds.joined r member q live d e)
