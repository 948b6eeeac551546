-- What a step is to the clients and to the waiting list: the one place that lists the steps for both. Whatever asks only that is defined over roles.
use Rattle.std.specs.Prelude.{List, [], ◌∷◌, ℕ}
use Rattle.contexts.specs.{context_of, numbers_of}
use Rattle.protocol.specs.declared.Step.{Step}
use Rattle.protocol.specs.declared.Step.TheVariants.{Start, BeginRead, BeginWrite, Deliver, Lose, Repeat, Advance, Replace, Tell, Remove, GiveUp, BeginContext, Join, Copy, Execute}

-- a client begins a read of these objects, or a write; the packet at a position is delivered, lost or repeated; an operation is given up; a replica is removed, or copied to; or none of these
pub data Role : Type 0 where
  Reads : List ℕ → Role
  Writes : ℕ → ℕ → Role
  Delivers : ℕ → Role
  Loses : ℕ → Role
  Repeats : ℕ → Role
  GivesUp : ℕ → Role
  Removes : ℕ → Role
  Copies : Role
  Other : Role

abbrev pub role_of : Step → Role
role_of (Start b) = Other
role_of (BeginRead x) = Reads (x ∷ [])
role_of (BeginWrite x v) = Writes x v
role_of (Deliver at choice) = Delivers at
role_of (Lose at) = Loses at
role_of (Repeat at) = Repeats at
role_of (Advance r) = Other
role_of (Replace number) = Other
role_of (Tell r) = Other
role_of (Remove r) = Removes r
role_of (GiveUp o) = GivesUp o
role_of (BeginContext x) = Reads (numbers_of (context_of x))
role_of Join = Other
role_of Copy = Copies
role_of Execute = Other

-- the position of the waiting list that it looks at
abbrev pub position_as : Role → ℕ
position_as (Reads xs) = 0
position_as (Writes x v) = 0
position_as (Delivers at) = at
position_as (Loses at) = at
position_as (Repeats at) = at
position_as (GivesUp o) = 0
position_as (Removes r) = 0
position_as Copies = 0
position_as Other = 0
