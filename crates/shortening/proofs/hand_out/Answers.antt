use mathlib.Core.Path.{ap}
use mathlib.Core.List.{◌++◌}
use lib.ListN.{length, drop}
use borrow.Author.Tests.{lt-leb, le-leb}
use Rattle.shortening.proofs.hand_out.Goals as goal

pub returns-then-out-size : goal.returns-then-out-size
returns-then-out-size c =
    let s = c.args in
    let short = lt-leb s.size (length s.out.now) c.if-out-size.true in (simp short, simp short)

pub returns : goal.returns
returns c =
    let s = c.args in
    let room = le-leb s.size (length s.out.now) c.if-out-size.false in
    (simp room, simp room (ap (λ l. l ++ drop s.size s.out.now) c.copy_from_slice.ensures.after))
