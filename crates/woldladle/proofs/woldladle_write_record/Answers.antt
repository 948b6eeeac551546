use mathlib.Core.Path.{ap, ◌∙◌}
use Rattle.records.specs.Records.{written_refusal}
use Rattle.numbered_records.proofs.Refusals.{record_refused}
use Rattle.woldladle.proofs.woldladle_write_record.Goals as goal

pub returns : goal.returns
returns c =
    let done = c.write_record.ensures in
    (c.refusal_in.ensures ∙ ap written_refusal done.0 ∙ record_refused c.args.out.now c.args.tag c.args.first c.args.second, done.1)
