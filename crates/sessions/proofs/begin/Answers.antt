use Rattle.sessions.specs.{session_started}
use Rattle.sessions.proofs.begin.Goals as goal
use Rattle.sessions.proofs.begin.Goals.{then-is_refused, else-is_refused}

pub returns : goal.returns
unfolding session_started
returns c =
    let begun = c.start-answer.ensures in
    let bytes = c.start_asked-b.ensures in
    rw (← bytes) (
      elim c.if-is_refused.branch [
        | then-is_refused w ↦ simp (c.session_of.ensures, c.refusal_in.ensures, begun.0, c.no_values.ensures, w.marks-is, ← c.is_refused.ensures, w.if-is_refused.true)
        | else-is_refused w ↦ simp (c.session_of.ensures, c.refusal_in.ensures, begun.0, c.no_values.ensures, w.marks-is, ← c.is_refused.ensures, w.if-is_refused.false)
      ],
      begun.1,
      begun.2,
      begun.3,
    )
