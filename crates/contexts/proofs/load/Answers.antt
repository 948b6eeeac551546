use Rattle.contexts.specs.{context_at}
use Rattle.contexts.proofs.load.Goals as goal

pub returns : goal.returns
unfolding context_at
returns c = simp (← c.number_at-8.ensures, ← c.number_at-7.ensures, ← c.number_at-6.ensures, ← c.number_at-5.ensures, ← c.number_at-4.ensures, ← c.number_at-3.ensures, ← c.number_at-2.ensures, ← c.number_at.ensures, ← c.size_at.ensures)
