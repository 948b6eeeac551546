-- Req 10: in every run, while direct reads are on, last-committed bears the present switch's number. A replacement sets it to (0,0), so the present switch has had a
-- completion of its own since it took over. And while they are on, no write to an object without a counting mark was ever stamped above last-committed: that is what a direct
-- read rests on where replicas lag behind.
use mathlib.Core.Path.{◌≡◌, refl}
use mathlib.Core.Bool.{true, false}
use mathlib.Core.List.{List}
use Prim.Native.Nat.{ℕ, ◌≤◌}
use Rattle.history.specs.History.{◌∈◌}
use Rattle.stamp.specs.Stamps.{number_of}
use Rattle.switch.specs.Numbers.{number_in, committed_in, direct_in}
use Rattle.switch.specs.DirtySet.{looked_up}
use Rattle.store.specs.declared.Write.{Write}
use Rattle.waiting.specs.declared.Packet.{Packet}
use Rattle.protocol.specs.declared.Setup.{Setup}
use Rattle.protocol.specs.Starts.{start_refused}
use Rattle.protocol.specs.declared.Message.TheVariants.{StampedWrite}
use Rattle.protocol.specs.declared.Step.{Step}
use Rattle.linearizability.proofs.SwitchLaws.{unmarked_low}
use Rattle.linearizability.proofs.Waits.{messages}
use Rattle.linearizability.proofs.Limits.{machine_of, good_run}

-- FOR EVERY START THAT IS NOT REFUSED, EVERY LENT ROW OF PLACES AND EVERY LIST OF STEPS, refused ones included
module _ (b : Setup) (starts : start_refused b ≡ false) (row : List Packet) (xs : List Step) where
  pub own_completion : direct_in (machine_of b row xs).switch ≡ true → number_of (committed_in (machine_of b row xs).switch) ≡ number_in (machine_of b row xs).switch
  own_completion = (good_run b starts row xs).switch_holds.own

  -- of the writes that wait for the head
  pub waiting_covered : direct_in (machine_of b row xs).switch ≡ true → (r : ℕ) (w : Write) → StampedWrite r w ∈ messages (machine_of b row xs).waiting
      → looked_up (machine_of b row xs).switch w.object ≡ 0 → w.stamp ≤ committed_in (machine_of b row xs).switch
  waiting_covered on r w i none =
      let g = good_run b starts row xs in
      unmarked_low g.switch_holds on w.object none w (g.core.packets.fine (StampedWrite r w) i) refl
