-- Document 02, Req 04: what holds of joins in every run. When the newcomer becomes the tail its tables are the old tail's, object by object; and no number is given twice.
use mathlib.Core.Path.{◌≡◌, refl}
use mathlib.Core.Bool.{true, false}
use mathlib.Core.List.{List, []}
use Prim.Native.Nat.{ℕ, ◌+◌, ◌≤◌, ◌<◌}
use native.Mathlib.Omega.{arith}
use lib.Dec.{ltb}
use lib.ListN.{length}
use Rattle.lists.proofs.Tests.{by_test, both}
use Rattle.limits.specs as limits
use Rattle.store.specs.{is_quorum, live_count, number_at, highest_of, permitted_by, value_at, stamp_at}
use Rattle.chain.specs.{is_live, tail_of, tail_number}
use Rattle.joins.specs.{is_joining, copies_made, newcomer, newcomer_number, last_number, is_full, beginning, copying}
use Rattle.replicas.specs.Links.{link_into}
use Rattle.waiting.specs.declared.Packet.{Packet}
use Rattle.protocol.specs.declared.Setup.{Setup}
use Rattle.protocol.specs.Starts.{start_refused}
use Rattle.protocol.specs.declared.Answer.TheVariants.{Done, Refused}
use Rattle.protocol.specs.declared.Step.{Step}
use Rattle.protocol.specs.declared.Step.TheVariants.{Join, Copy}
use Rattle.protocol.specs.Decisions.{Outcome, Stored, changing_store, refusing}
use Rattle.protocol.specs.Steps.{Machine, given_by, outcome_of, joining, copying_on, decided, is_malformed, decided_in, answer_to, after}
use Rattle.write_log.proofs.Joins.{not_full, newcomer_beginning, last_beginning}
use Rattle.write_log.proofs.Places.{joining_set}
use Rattle.write_log.proofs.NewTail.{live_more, tail_newcomer, tail_newcomer_number, tail_value, tail_stamp, tail_highest, tail_permitted}
use Rattle.write_log.proofs.Links.{link_copying, link_newcomer}
use Rattle.linearizability.proofs.Invariant.{ChainHolds}
use Rattle.linearizability.proofs.Replicas.{in_places}
use Rattle.linearizability.proofs.Limits.{good_run, held_run, machine_of}

pub refused : {A : Type 0} {r : _} → Refused r ≡ Done → A
refused e = absurd (let z : ◌≡◌ {A = ℕ} 0 1 = cc in omega (arith, z))

-- a copy that is done: the store is a chain, and a join was under way
abbrev Copied : List ℕ → Outcome → Type 0
Copied s u = u.decision.answer ≡ Done → (is_quorum s ≡ false) × (is_joining s ≡ true) × (u.store ≡ copying s)

copied_on : (m : Machine) → Copied m.store (outcome_of m Copy)
unfolding decided_in decided copying_on refusing
copied_on m =
    both P (is_malformed Copy) refused
    (both P (ltb (length m.waiting.packets) limits.waiting) refused
    (by_test Q (is_quorum m.store) (λ quorum. refused) (λ chain. by_test Q (is_joining m.store) (λ joins e. (chain, joins, refl)) (λ none. refused))))
  where
    P : Outcome → Type 0
    P = Copied m.store

    Q : Stored → Type 0
    Q u = P (changing_store (given_by m) u)

-- a join that is begun: the store is a chain, and there was a place and a number
abbrev Begun : List ℕ → Outcome → Type 0
Begun s u = u.decision.answer ≡ Done → (is_quorum s ≡ false) × (live_count s < 8) × (last_number s < 255) × (u.store ≡ beginning s)

begun_join : (m : Machine) → Begun m.store (outcome_of m Join)
unfolding decided_in decided joining refusing
begun_join m =
    both P (is_malformed Join) refused
    (both P (ltb (length m.waiting.packets) limits.waiting) refused
    (by_test Q (is_quorum m.store) (λ quorum. refused)
    (λ chain. by_test Q (is_full m.store) (λ full. refused)
    (λ room. both Q (is_joining m.store) refused (λ e. let b = not_full m.store room in (chain, b.0, b.1, refl))))))
  where
    P : Outcome → Type 0
    P = Begun m.store

    Q : Stored → Type 0
    Q u = P (changing_store (given_by m) u)

-- FOR EVERY START THAT IS NOT REFUSED, EVERY LENT ROW OF PLACES AND EVERY LIST OF STEPS, refused ones included
module _ (b : Setup) (starts : start_refused b ≡ false) (row : List Packet) (xs : List Step) where
  abbrev m : Machine
  m = machine_of b row xs

  abbrev s : List ℕ
  s = m.store

  -- the sixteenth copy is done
  module _ (done : answer_to m Copy ≡ Done) (all : copies_made s + 1 ≡ 16) where
    abbrev t : List ℕ
    t = (after m Copy).store

    joins : is_joining s ≡ true
    unfolding answer_to
    joins = (copied_on m done).1

    store_is : t ≡ copying s
    unfolding answer_to after
    store_is = (copied_on m done).2

    -- what holds of the chain
    holds : ChainHolds s (good_run b starts row xs).log (good_run b starts row xs).n
    unfolding answer_to
    holds = held_run b starts row xs (copied_on m done).0

    -- one more is live, and it is the tail, by table and by number
    pub new_tail_is : tail_of t ≡ newcomer s
    new_tail_is = rw store_is (tail_newcomer holds.shown holds.joined (joining_set s joins) all)

    pub new_tail_number : tail_number t ≡ newcomer_number s
    new_tail_number = rw store_is (tail_newcomer_number holds.shown holds.joined (joining_set s joins) all)

    -- ITS TABLES ARE THE OLD TAIL'S, OBJECT BY OBJECT
    pub one_more_live : live_count t ≡ live_count s + 1
    one_more_live = rw store_is (live_more holds.shown holds.joined (joining_set s joins) all)

    pub new_tail_value : (o : ℕ) → o < 1024 → value_at t (tail_of t) o ≡ value_at s (tail_of s) o
    new_tail_value o h = rw store_is (tail_value holds.shown holds.joined (joining_set s joins) all o h)

    pub new_tail_stamp : (o : ℕ) → o < 1024 → stamp_at t (tail_of t) o ≡ stamp_at s (tail_of s) o
    new_tail_stamp o h = rw store_is (tail_stamp holds.shown holds.joined (joining_set s joins) all o h)

    -- 'with the old tail's highest stamp and permitted switch, and an empty link'
    pub new_tail_highest : highest_of t (tail_of t) ≡ highest_of s (tail_of s)
    new_tail_highest = rw store_is (tail_highest holds.shown holds.joined (joining_set s joins) all)

    pub new_tail_permitted : permitted_by t (tail_of t) ≡ permitted_by s (tail_of s)
    new_tail_permitted = rw store_is (tail_permitted holds.shown holds.joined (joining_set s joins) all)

    pub new_tail_link : link_into t (newcomer s) ≡ []
    new_tail_link = rw store_is (link_newcomer holds.shown holds.joined (joining_set s joins) all)

    -- and the others' links stay
    pub other_links : (r : ℕ) → is_live s r ≡ true → link_into t r ≡ link_into s r
    other_links r live = rw store_is (link_copying holds.shown holds.joined (joining_set s joins) r live)

  -- 'the next number never used': it is the last given from then on, and above that of every live replica
  pub newcomer_next : answer_to m Join ≡ Done
      → (newcomer_number (after m Join).store ≡ last_number s + 1) × (last_number (after m Join).store ≡ last_number s + 1) × ((p : ℕ) → p < live_count s → number_at s p ≤ last_number s)
  unfolding answer_to after
  newcomer_next done =
      let (chain, few, left, is) = begun_join m done in
      let k = held_run b starts row xs chain in
      rw is (newcomer_beginning s k.shown.sized few left, last_beginning s k.shown.sized few left, λ p h. k.joined.places.given p h)

  -- two live replicas have two numbers
  pub live_numbers_apart : (p q : ℕ) → p < live_count s → q < live_count s → number_at s p ≡ number_at s q → p ≡ q
  live_numbers_apart = (in_places (good_run b starts row xs).replicas).numbers_apart
