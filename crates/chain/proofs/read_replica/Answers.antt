use mathlib.Core.Path.{sym, ◌∙◌}
use Rattle.chain.proofs.Numbers.{read_replica_is, read_replica_leader}
use Rattle.chain.proofs.read_replica.Goals as goal

pub returns-then-is_quorum : goal.returns-then-is_quorum
returns-then-is_quorum c = c.head.ensures ∙ sym (read_replica_leader _ (sym c.is_quorum.ensures ∙ c.if-is_quorum.true))

pub returns-else-is_quorum : goal.returns-else-is_quorum
returns-else-is_quorum c = c.tail.ensures ∙ sym (read_replica_is _ (sym c.is_quorum.ensures ∙ c.if-is_quorum.false))
