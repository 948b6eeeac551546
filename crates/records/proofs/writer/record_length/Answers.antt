use mathlib.Core.Path.{◌≡◌}
use lib.ListN.{length}
use Rattle.records.specs.Records.{content_of, content_length, kind_of}
use Rattle.records.proofs.Table.{record_size_lem, in_table}
use Rattle.records.proofs.writer.record_length.Goals as goal

pub returns-in-BeginContext : goal.returns-in-BeginContext
returns-in-BeginContext c = simp (c.in-BeginContext.is, record_size_lem, c.objects_length.ensures)

pub returns-in_default : goal.returns-in_default
returns-in_default c =
    let size : length (content_of c.args.step) ≡ content_length (kind_of c.args.step) = (in_table c.args.step c.in_default.not-BeginContext).1 in
    simp (record_size_lem, size, c.content_length.ensures, c.kind_of.ensures)
