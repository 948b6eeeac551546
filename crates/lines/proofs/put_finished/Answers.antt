use Rattle.line_lengths.specs.Lines.{line_of}
use Rattle.lines.proofs.Text.{puts_then}
use Rattle.line_lengths.proofs.Laws.{finished_length}
use native.Mathlib.Omega.{arith}
use Rattle.lines.proofs.put_finished.Goals as goal

pub put_ok-at-requires : goal.put_ok-at-requires
put_ok-at-requires c = let a = c.args in omega (arith, c.requires, finished_length a.number a.operation a.value a.freshness a.waiting a.marks)

pub put_finish-requires : goal.put_finish-requires
put_finish-requires c = let a = c.args in omega (arith, c.requires, finished_length a.number a.operation a.value a.freshness a.waiting a.marks, c.put_ok-at.ensures.after, c.put_ok-at.ensures.long)

pub returns : goal.returns
unfolding line_of
returns c = puts_then c.put_ok-at.ensures c.put_finish.ensures
