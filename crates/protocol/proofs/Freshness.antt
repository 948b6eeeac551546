-- What the freshness of a reply says of the object's stamp where the read is answered, and of the stamp that the read carries.
use mathlib.Core.Path.{◌≡◌, refl}
use mathlib.Core.Bool.{Bool, true, false, cond}
use Prim.Native.Nat.{ℕ, ◌≤◌, ◌<◌}
use native.Mathlib.Omega.{arith}
use lib.Dec.{eqb}
use borrow.Author.Tests.{eqb-false}
use Rattle.stamp.specs.Stamps.{is_above}
use Rattle.stamp.proofs.Laws.{above_true, above_false}
use Rattle.protocol.specs.Answers.{no_freshness, old_read, new_read}
use Rattle.protocol.specs.Delivery.{freshness}

module _ (stamp carried : ℕ) where
  -- what each of the three numbers says
  Says : ℕ → Type 0
  Says f = (f ≡ old_read → stamp < carried) × (f ≡ new_read → (0 < carried) × (carried ≤ stamp))

  says : Says (freshness stamp carried)
  unfolding freshness Says
  says = go (eqb carried 0) refl (is_above carried stamp) refl
    where
      go : (none : Bool) → eqb carried 0 ≡ none → (above : Bool) → is_above carried stamp ≡ above → Says (cond none no_freshness (cond above old_read new_read))
      go true e b f = (λ q. absurd (omega (arith, q)), λ q. absurd (omega (arith, q)))
      go false e true f = (λ q. above_true carried stamp f, λ q. absurd (omega (arith, q)))
      go false e false f = (λ q. absurd (omega (arith, q)), λ q. (omega (arith, eqb-false carried 0 e), above_false carried stamp f))

  -- `old`: the value's stamp is below the one carried
  pub old_below : freshness stamp carried ≡ old_read → stamp < carried
  unfolding Says
  old_below = says.0

  -- `new`: the read carries a stamp, and the value's is not below it
  pub new_from : freshness stamp carried ≡ new_read → (0 < carried) × (carried ≤ stamp)
  unfolding Says
  new_from = says.1
