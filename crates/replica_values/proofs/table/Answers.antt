use borrow.Author.Tests.{le-leb, lt-leb}
use Rattle.chain.proofs.Found.{some_table, none_table}
use Rattle.replica_values.specs.{table_for}
use Rattle.replica_values.proofs.table.Goals as goal

pub returns-then-object-ge-OBJECTS : goal.returns-then-object-ge-OBJECTS
unfolding table_for
returns-then-object-ge-OBJECTS c = simp (le-leb _ _ c.if-object-ge-OBJECTS.true)

pub returns-in-Some : goal.returns-in-Some
unfolding table_for
returns-in-Some c = let found = some_table _ _ _ c.in-Some.ensures in simp (lt-leb _ _ c.if-object-ge-OBJECTS.false, found.0, found.1)

pub returns-then-not-is_newcomer : goal.returns-then-not-is_newcomer
unfolding table_for
returns-then-not-is_newcomer c = simp (lt-leb _ _ c.if-object-ge-OBJECTS.false, none_table _ _ c.in_default.ensures, ← c.is_newcomer.ensures, c.if-not-is_newcomer.true)

pub returns-then-is_copied : goal.returns-then-is_copied
unfolding table_for
returns-then-is_copied c = simp (lt-leb _ _ c.if-object-ge-OBJECTS.false, none_table _ _ c.in_default.ensures, ← c.is_newcomer.ensures, c.if-not-is_newcomer.false, ← c.is_copied.ensures, c.if-is_copied.true, ← c.newcomer.ensures)

pub returns : goal.returns
unfolding table_for
returns c = simp (lt-leb _ _ c.if-object-ge-OBJECTS.false, none_table _ _ c.in_default.ensures, ← c.is_newcomer.ensures, c.if-not-is_newcomer.false, ← c.is_copied.ensures, c.if-is_copied.false)
