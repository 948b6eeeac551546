-- What is left by deciding a step, a delivery or another.
use Rattle.std.specs.Prelude.{◌≡◌, List, ℕ}
use Rattle.protocol.specs.declared.Decision.{Decision}
use Rattle.protocol.specs.Decisions.{Outcome}

-- a decision, and what is lent then, are those of an outcome
pub record Leaves (d : Decision) (switch store opens : List ℕ) (u : Outcome) : Type 0 where
  pub decides : d ≡ u.decision
  pub switch_is : switch ≡ u.switch
  pub store_is : store ≡ u.store
  pub opens_is : opens ≡ u.opens
