use mathlib.Core.Path.{ap}
use lib.ListN.{replicate}
use Rattle.waiting.specs.declared.Packet.{Packet}
use Rattle.runs.proofs.blank_places.Goals as goal

pub returns : goal.returns
returns c = ap (λ (p : Packet). replicate 64 p) c.blank.ensures
