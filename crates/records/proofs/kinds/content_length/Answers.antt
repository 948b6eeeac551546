use Rattle.records.specs.Records.{lengths, content_length}
use Rattle.std.proofs.Common.{rules}
use Rattle.records.proofs.kinds.content_length.Goals as goal

pub returns : goal.returns
unfolding content_length
returns c = search rules
