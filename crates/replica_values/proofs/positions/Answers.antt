use mathlib.Core.Path.{refl}
use Rattle.chain.proofs.Found.{some_table, none_table}
use Rattle.replica_values.specs.{has_positions, positions_told, positions_in}
use Rattle.replica_values.proofs.positions.Goals as goal

pub returns-then-not-is_quorum : goal.returns-then-not-is_quorum
unfolding positions_told positions_in has_positions
returns-then-not-is_quorum c = simp (← c.is_quorum.ensures, c.if-not-is_quorum.true) (refl, refl)

pub returns-in_default : goal.returns-in_default
unfolding positions_told positions_in has_positions
returns-in_default c = simp (← c.is_quorum.ensures, c.if-not-is_quorum.false, none_table _ _ c.in_default.ensures) (refl, refl)

pub returns : goal.returns
unfolding positions_told positions_in has_positions
returns c = let found = some_table _ _ _ c.in-Some.ensures in simp (← c.is_quorum.ensures, c.if-not-is_quorum.false, found.0, found.1, ← c.logged.ensures, ← c.applied.ensures, ← c.acknowledged.ensures) (refl, refl)
