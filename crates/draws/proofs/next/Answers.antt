use Rattle.draws.specs.{step_drawn, seed_after}
use Rattle.draws.proofs.next.Goals as goal

pub returns-then-has_two : goal.returns-then-has_two
unfolding step_drawn seed_after
returns-then-has_two c =
    let tag = c.draw-tag.ensures in
    let first = c.draw-first.ensures in
    let second = c.draw-second.ensures in
    let kind = c.kind_from-kind.ensures in (
      simp (← tag, ← first, ← second, ← kind, ← c.upper.ensures, ← c.upper-2.ensures, ← c.step_from-step.ensures),
      simp (← tag, ← first, ← second, ← kind, ← c.has_two.ensures, c.if-has_two.true),
    )

pub returns-else-has_two : goal.returns-else-has_two
unfolding step_drawn seed_after
returns-else-has_two c =
    let tag = c.draw-tag.ensures in
    let first = c.draw-first.ensures in
    let second = c.draw-second.ensures in
    let kind = c.kind_from-kind.ensures in (
      simp (← tag, ← first, ← second, ← kind, ← c.upper.ensures, ← c.upper-2.ensures, ← c.step_from-step.ensures),
      simp (← tag, ← first, ← second, ← kind, ← c.has_two.ensures, c.if-has_two.false),
    )
