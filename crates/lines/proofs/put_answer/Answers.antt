use Rattle.line_lengths.specs.Lines.{line_of}
use Rattle.line_lengths.proofs.Laws.{answer_length}
use Rattle.lines.proofs.Text.{put_room, put_short, has_room_lem, no_room}
use native.Mathlib.Omega.{arith}
use mathlib.Core.Path.{sym, ◌∙◌}
use Rattle.lines.proofs.put_answer.Goals as goal

pub put_line-requires : goal.put_line-requires
put_line-requires c = let a = c.args in has_room_lem _ _ _ (line_of a.number a.answer a.waiting a.marks) _ c.fits.ensures c.if-fits.true (answer_length a.number a.answer a.waiting a.marks)

pub overflow_sub-result : goal.overflow_sub-result
overflow_sub-result c = omega (arith, c.put_line.ensures.after)

pub returns-then-fits : goal.returns-then-fits
returns-then-fits c = (omega (arith, c.put_line.ensures.after), c.put_line.ensures.there ∙ sym (put_room _ _ _ c.put_line.ensures.room))

pub put_line-requires-then-fits-2 : goal.put_line-requires-then-fits-2
put_line-requires-then-fits-2 c = let a = c.args in has_room_lem _ _ _ (line_of a.number a.answer a.waiting a.marks) _ c.fits-2.ensures c.if-fits-2.true (omega (arith, c.line_length-n.ensures))

pub returns-then-fits-2 : goal.returns-then-fits-2
returns-then-fits-2 c = (c.line_length-n.ensures, c.put_line-then-fits-2.ensures.there ∙ sym (put_room _ _ _ c.put_line-then-fits-2.ensures.room))

pub returns-else-fits-2 : goal.returns-else-fits-2
returns-else-fits-2 c = let a = c.args in (c.line_length-n.ensures, sym (put_short _ _ (line_of a.number a.answer a.waiting a.marks) (no_room _ _ _ (line_of a.number a.answer a.waiting a.marks) _ c.fits-2.ensures c.if-fits-2.false c.line_length-n.ensures)))
