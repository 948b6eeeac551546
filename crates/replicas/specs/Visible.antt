-- The writes that are visible: those that the replica that answers normal reads has applied, or need not apply any more. s and t are what the lent store holds before and after a step.
use Rattle.std.specs.Prelude.{List, ℕ, ◌-◌}
use Rattle.store.specs.{applied_by}
use Rattle.chain.specs.{read_replica_of}
use Rattle.store.specs.declared.Write.{Write}
use Rattle.replicas.specs.Links.{entries}

-- that replica's position in the log
unfoldable pub visible_count : List ℕ → ℕ
visible_count s = applied_by s (read_replica_of s)

-- the writes that a step made visible, in the order of the log: none where the position stays
unfoldable pub made_visible : List ℕ → List ℕ → List Write
made_visible s t = entries t (visible_count s) (visible_count t - visible_count s)
