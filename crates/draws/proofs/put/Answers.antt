use Rattle.std.proofs.Common.{◌∙◌, arith}
use Rattle.draws.proofs.Drawn.{rest_room, run_written}
use Rattle.draws.proofs.put.Goals as goal

pub write-requires : goal.write-requires
write-requires c =
    let s = c.args in
    let p = c.requires in
    (p.0, omega arith, rest_room s.out.now s.seed s.n s.steps p.1 _ c.write_at.ensures.1)

pub returns : goal.returns
returns c =
    let s = c.args in
    let p = c.requires in
    c.write.ensures ∙
    run_written s.out.now s.seed s.n s.steps p.1 _ c.write_at.ensures.1
