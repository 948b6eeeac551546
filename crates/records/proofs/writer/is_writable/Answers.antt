use mathlib.Core.Path.{refl}
use Rattle.records.proofs.Table.{in_table}
use Rattle.records.proofs.writer.is_writable.Goals as goal

pub returns-in-BeginContext : goal.returns-in-BeginContext
returns-in-BeginContext c = simp (c.in-BeginContext.is, c.is_naming.ensures)

pub returns-in_default : goal.returns-in_default
returns-in_default c = rw ((in_table c.args.step c.in_default.not-BeginContext).0, ← c.kind_of.ensures) refl
