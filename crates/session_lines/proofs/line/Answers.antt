use borrow.Author.Tests.{le-leb, lt-leb}
use Rattle.session_lines.specs.{put_bytes}
use Rattle.session_lines.proofs.line.Goals as goal

pub returns-then-n-room : goal.returns-then-n-room
unfolding put_bytes
returns-then-n-room c = let put = c.put_line-n.ensures in
    (simp (← put.0, le-leb _ _ c.if-n-room.true), put.1)

pub returns-else-n-room : goal.returns-else-n-room
unfolding put_bytes
returns-else-n-room c = let put = c.put_line-n.ensures in
    (simp (← put.0, lt-leb _ _ c.if-n-room.false), put.1)
