use mathlib.Core.Path.{◌≡◌, sym}
use Rattle.std.specs.Prelude.{None}
use native.Mathlib.Omega.{arith}
use borrow.Author.Rules.{rules}
use Rattle.lines.proofs.Text.{put_nothing}
use Rattle.turns.specs.Promises.{place_after}
use Rattle.turns.proofs.conclude.Goals as goal

pub returns-in-Ok-None : goal.returns-in-Ok-None
unfolding place_after
returns-in-Ok-None c = let none : c.in-Ok-None.field-0 ≡ None = search rules in rw (c.in-Ok-None.is, none) (record {
  run = c.end.ensures;
  place = omega arith;
  there = sym (put_nothing _ _);
})
