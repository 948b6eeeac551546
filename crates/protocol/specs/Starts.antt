-- The start: what a step sets up, and what is refused. Document 01, tag 32, and 'Turned down', 1 and 2; document 02, Req 11, tag 33.
use Rattle.std.specs.Prelude.{Bool, true, false, cond, not, eqb, ltb}
use Rattle.limits.specs as limits
use Rattle.protocol.specs.declared.Answer.{Answer}
use Rattle.protocol.specs.declared.Answer.TheVariants.{Done, Refused}
use Rattle.protocol.specs.declared.Refusal.{Refusal}
use Rattle.protocol.specs.declared.Refusal.TheVariants.{Format, Replicas}
use Rattle.protocol.specs.declared.Setup.{Setup}
use Rattle.protocol.specs.declared.Setup.TheVariants.{Missing, Chain, Quorum}
use Rattle.protocol.specs.declared.Step.{Step}
use Rattle.protocol.specs.declared.Step.TheVariants.{Start, BeginRead, BeginWrite, Deliver, Lose, Repeat, Advance, Replace, Tell, Remove, GiveUp, BeginContext, Join, Copy, Execute}

-- what a step sets up: nothing, unless it is a start
abbrev pub setup_of : Step → Setup
setup_of (Start b) = b
setup_of (BeginRead x) = Missing
setup_of (BeginWrite x v) = Missing
setup_of (Deliver at choice) = Missing
setup_of (Lose at) = Missing
setup_of (Repeat at) = Missing
setup_of (Advance r) = Missing
setup_of (Replace number) = Missing
setup_of (Tell r) = Missing
setup_of (Remove r) = Missing
setup_of (GiveUp o) = Missing
setup_of (BeginContext x) = Missing
setup_of Join = Missing
setup_of Copy = Missing
setup_of Execute = Missing

-- 'start missing'; 'n outside 1 to 8'; Req 11: 'starts 3, 5 or 7 replicas'
unfoldable pub start_refused : Setup → Bool
start_refused Missing = true
start_refused (Chain n) = cond (eqb n 0) true (ltb limits.replicas n)
start_refused (Quorum n) = cond (eqb n 3) false (cond (eqb n 5) false (not (eqb n 7)))

-- by 1 where there is none, by 2 for its numbers
abbrev pub start_refusal : Setup → Refusal
start_refusal Missing = Format
start_refusal (Chain n) = Replicas
start_refusal (Quorum n) = Replicas

unfoldable pub start_answer : Setup → Answer
start_answer b = cond (start_refused b) (Refused (start_refusal b)) Done
