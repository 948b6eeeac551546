use borrow.Author.Tests.{le-leb, lt-leb}
use Rattle.numbered_records.specs.{context_written, context_buffer}
use Rattle.numbered_records.proofs.write_context.Goals as goal

pub returns-then-objects-gt8 : goal.returns-then-objects-gt8
unfolding context_written context_buffer
returns-then-objects-gt8 c = (simp (lt-leb _ _ c.if-objects-gt8.true), simp (lt-leb _ _ c.if-objects-gt8.true))

pub returns : goal.returns
unfolding context_written context_buffer
returns c = let done = c.write_at.ensures in
    let few = le-leb _ _ c.if-objects-gt8.false in
    (simp (few, ← c.objects_from.ensures) done.0, simp (few, ← c.objects_from.ensures) done.1)
