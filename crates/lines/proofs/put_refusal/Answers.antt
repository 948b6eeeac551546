use Rattle.line_lengths.specs.Lines.{no_line}
use Rattle.lines.proofs.Text.{put_room, put_short, has_room_lem, no_room}
use native.Mathlib.Omega.{arith}
use mathlib.Core.Path.{sym, ◌∙◌}
use Rattle.lines.proofs.put_refusal.Goals as goal

pub put_no-requires : goal.put_no-requires
put_no-requires c = let a = c.args in has_room_lem _ _ _ (no_line a.number a.refusal) _ c.fits.ensures c.if-fits.true (omega (arith, c.no_length-n.ensures))

pub returns-then-fits : goal.returns-then-fits
returns-then-fits c = (c.no_length-n.ensures, c.put_no.ensures.there ∙ sym (put_room _ _ _ c.put_no.ensures.room))

pub returns-else-fits : goal.returns-else-fits
returns-else-fits c = let a = c.args in (c.no_length-n.ensures, sym (put_short _ _ (no_line a.number a.refusal) (no_room _ _ _ (no_line a.number a.refusal) _ c.fits.ensures c.if-fits.false c.no_length-n.ensures)))
