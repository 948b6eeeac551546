-- Document 02, Req 04, 'the next number never used': in every run no replica's number is given twice. The last number given never falls, and every number that is in use is at most it.
use mathlib.Core.Path.{◌≡◌}
use mathlib.Core.Bool.{true, false}
use mathlib.Core.List.{List}
use Prim.Native.Nat.{ℕ, ◌≤◌, ◌<◌}
use native.Mathlib.Omega.{arith}
use Rattle.history.specs.History.{◌∈◌}
use Rattle.store.specs.declared.Write.{Write}
use Rattle.store.specs.{live_count, number_at}
use Rattle.chain.specs.{table_of}
use Rattle.joins.specs.{is_joining, newcomer_number, last_number}
use Rattle.waiting.specs.declared.Packet.{Packet}
use Rattle.protocol.specs.declared.Message.{Message}
use Rattle.protocol.specs.declared.Setup.{Setup}
use Rattle.protocol.specs.declared.Step.{Step}
use Rattle.protocol.specs.Starts.{start_refused}
use Rattle.protocol.specs.Roles.{Role}
use Rattle.protocol.specs.Steps.{Machine, after}
use Rattle.protocol.proofs.Effects.{StoreEffect, store_kept, takes, takes_as_tail, applies, applies_as_tail, permits, removes, joins, copies, leader_logs, leader_hears, follower_logs, follower_executes, leader_executes, effect}
use Rattle.write_log.proofs.Places.{joining_set, last_number_same, places_applying, places_permitting, places_trans}
use Rattle.quorum.specs.{next_entry}
use Rattle.write_log.proofs.QuorumHolds.{places_counted, places_acknowledging, places_logging, places_executing}
use Rattle.write_log.proofs.Joins.{not_full, last_beginning}
use Rattle.write_log.proofs.Beside.{places_handing}
use Rattle.write_log.proofs.Taken.{places_taking}
use Rattle.write_log.proofs.Joined.{last_copying}
use Rattle.write_log.proofs.Without.{last_without}
use Rattle.linearizability.proofs.Waits.{messages}
use Rattle.linearizability.proofs.Invariant.{addressee, ReplicasHold, chain_held}
use Rattle.linearizability.proofs.Replicas.{in_places}
use Rattle.linearizability.proofs.Limits.{machine_of, good_run}

last_of : {s : List ℕ} {log : List Write} {n : ℕ} → ReplicasHold s log n → {k : Role} {t : List ℕ} → StoreEffect k s t → last_number s ≤ last_number t
last_of {s} h store_kept = omega arith
last_of {s} h (takes r w chain member) = omega (arith, last_number_same (places_taking s (table_of s r) w).same)
last_of {s} h (takes_as_tail r w chain member) = omega (arith, last_number_same (places_trans (places_taking s (table_of s r) w) (places_handing _ w)).same)
last_of {s} h (applies r w chain member) = omega (arith, last_number_same (places_applying s (table_of s r) w).same)
last_of {s} h (applies_as_tail r w chain member) = omega (arith, last_number_same (places_trans (places_applying s (table_of s r) w) (places_handing _ w)).same)
last_of {s} h (permits r number member) = omega (arith, last_number_same (places_permitting s (table_of s r) number).same)
last_of {s} h (removes r chain e member) = let k = chain_held chain h in omega (arith, last_without k.shown k.joined r member)
last_of {s} h (joins chain room none) = let fits = not_full s room in omega (arith, last_beginning s (chain_held chain h).shown.sized fits.0 fits.1)
last_of {s} h (copies chain e under) = let k = chain_held chain h in omega (arith, last_copying k.shown k.joined (joining_set s under))
last_of {s} h (leader_logs w quorum accepted) = omega (arith, last_number_same (places_logging s w).same)
last_of {s} h (leader_hears r k quorum member) = omega (arith, last_number_same (places_acknowledging s (table_of s r) k).same)
last_of {s} h (follower_logs r quorum member some entry) = omega (arith, last_number_same (places_counted s (table_of s r)).same)
last_of {s} h (follower_executes r quorum member some stamp) = omega (arith, last_number_same (places_applying s (table_of s r) (next_entry s (table_of s r))).same)
last_of {s} h (leader_executes quorum can) = omega (arith, last_number_same (places_executing s).same)

-- FOR EVERY START THAT IS NOT REFUSED, EVERY LENT ROW OF PLACES AND EVERY LIST OF STEPS, refused ones included
module _ (b : Setup) (starts : start_refused b ≡ false) (row : List Packet) (xs : List Step) where
  abbrev m : Machine
  m = machine_of b row xs

  abbrev s : List ℕ
  s = m.store

  pub last_never_falls : (x : Step) → last_number s ≤ last_number (after m x).store
  unfolding after
  last_never_falls x = last_of (good_run b starts row xs).replicas (effect m x).store

  -- every live replica's number, the newcomer's, and every number that a waiting packet names
  pub live_given : (p : ℕ) → p < live_count s → number_at s p ≤ last_number s
  live_given p h = (in_places (good_run b starts row xs).replicas).given p h

  pub newcomer_given : is_joining s ≡ true → newcomer_number s ≡ last_number s
  newcomer_given j = ((in_places (good_run b starts row xs).replicas).joining (joining_set s j)).1

  pub named_given : (q : Message) → q ∈ messages m.waiting → addressee q ≤ last_number s
  named_given q i = ((good_run b starts row xs).posted q i).1
