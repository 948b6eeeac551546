-- What is left by an outcome, part by part.
use mathlib.Core.Path.{◌≡◌}
use mathlib.Core.List.{List}
use Prim.Native.Nat.{ℕ}
use Rattle.protocol.specs.declared.Decision.{Decision}
use Rattle.packet_delivery.specs.{Leaves}

pub leaves : {d e : Decision} {w v s t l m : List ℕ} → d ≡ e → w ≡ v → s ≡ t → l ≡ m → Leaves d w s l (record { decision = e; switch = v; store = t; opens = m })
leaves a b c d = record { decides = a; switch_is = b; store_is = c; opens_is = d }
