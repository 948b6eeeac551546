use mathlib.Core.Path.{sym, ◌∙◌}
use Rattle.lists.proofs.Tests.{untrue}
use Rattle.quorum.specs.{logs}
use Rattle.quorum.proofs.accepts.Goals as goal
use Rattle.quorum.proofs.accepts.Goals.{then-above, else-above, then-not_executed-lt-UNEXECUTED, else-not_executed-lt-UNEXECUTED}

pub returns-then-links_have_room : goal.returns-then-links_have_room
unfolding logs
returns-then-links_have_room c =
    let room = c.if-links_have_room.true in
    elim c.if-not_executed-lt-UNEXECUTED.branch [
      | then-not_executed-lt-UNEXECUTED w ↦
          elim c.if-above.branch [
            | then-above v ↦
                simp (← c.last_logged.ensures, ← c.above.ensures, v.if-above.true, ← v.not_executed.ensures, sym v.value-is ∙ w.if-not_executed-lt-UNEXECUTED.true, ← w.links_have_room.ensures, sym w.value-is ∙ room, ← c.head.ensures, ← c.logged.ensures)
            | else-above v ↦ untrue (sym v.if-above.false ∙ sym v.value-is ∙ w.if-not_executed-lt-UNEXECUTED.true)
          ]
      | else-not_executed-lt-UNEXECUTED w ↦ untrue (sym w.if-not_executed-lt-UNEXECUTED.false ∙ sym w.value-is ∙ room)
    ]

pub returns-else-links_have_room : goal.returns-else-links_have_room
unfolding logs
returns-else-links_have_room c =
    let full = c.if-links_have_room.false in
    elim c.if-not_executed-lt-UNEXECUTED.branch [
      | then-not_executed-lt-UNEXECUTED w ↦
          elim c.if-above.branch [
            | then-above v ↦
                simp (full, ← c.last_logged.ensures, ← c.above.ensures, v.if-above.true, ← v.not_executed.ensures, sym v.value-is ∙ w.if-not_executed-lt-UNEXECUTED.true, ← w.links_have_room.ensures, sym w.value-is ∙ full)
            | else-above v ↦ untrue (sym v.if-above.false ∙ sym v.value-is ∙ w.if-not_executed-lt-UNEXECUTED.true)
          ]
      | else-not_executed-lt-UNEXECUTED w ↦
          elim c.if-above.branch [
            | then-above v ↦
                simp (full, ← c.last_logged.ensures, ← c.above.ensures, v.if-above.true, ← v.not_executed.ensures, sym v.value-is ∙ w.if-not_executed-lt-UNEXECUTED.false)
            | else-above v ↦ simp (full, ← c.last_logged.ensures, ← c.above.ensures, v.if-above.false)
          ]
    ]
