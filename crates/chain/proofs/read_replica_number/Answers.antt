use mathlib.Core.Path.{sym, ◌∙◌}
use Rattle.chain.proofs.Numbers.{read_number_is, read_number_leader}
use Rattle.chain.proofs.read_replica_number.Goals as goal

pub returns-then-is_quorum : goal.returns-then-is_quorum
returns-then-is_quorum c = c.head_number.ensures ∙ sym (read_number_leader _ (sym c.is_quorum.ensures ∙ c.if-is_quorum.true))

pub returns-else-is_quorum : goal.returns-else-is_quorum
returns-else-is_quorum c = c.tail_number.ensures ∙ sym (read_number_is _ (sym c.is_quorum.ensures ∙ c.if-is_quorum.false))
