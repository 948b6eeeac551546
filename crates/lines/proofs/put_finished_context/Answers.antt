use native.Mathlib.Omega.{arith}
use Rattle.line_lengths.proofs.Laws.{finished_context_length}
use Rattle.lines.proofs.Text.{puts_then}
use Rattle.line_lengths.specs.Lines.{line_of}
use Rattle.lines.proofs.put_finished_context.Goals as goal

pub put_ok-at-requires : goal.put_ok-at-requires
put_ok-at-requires c =
    omega (arith, c.requires, finished_context_length c.args.number c.args.read c.args.v c.args.waiting c.args.marks)

pub put_context-requires : goal.put_context-requires
put_context-requires c =
    omega (
      arith,
      c.requires,
      finished_context_length c.args.number c.args.read c.args.v c.args.waiting c.args.marks,
      c.put_ok-at.ensures.after,
      c.put_ok-at.ensures.long,
    )

pub returns : goal.returns
unfolding line_of
returns c =
    puts_then c.put_ok-at.ensures c.put_context.ensures
