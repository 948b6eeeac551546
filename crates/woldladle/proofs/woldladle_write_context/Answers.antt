use mathlib.Core.Path.{ap, ◌∙◌}
use Rattle.records.specs.Records.{written_refusal}
use Rattle.numbered_records.proofs.Refusals.{context_refused}
use Rattle.woldladle.proofs.woldladle_write_context.Goals as goal

pub returns : goal.returns
returns c =
    let done = c.write_context.ensures in
    (c.refusal_in.ensures ∙ ap written_refusal done.0 ∙ context_refused c.args.out.now c.args.objects.now, done.1)
