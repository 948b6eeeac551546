-- The history and the open operations one step later, by the step's role: what specs/Run.antt says step by step.
use mathlib.Core.Path.{◌≡◌, refl}
use mathlib.Core.List.{List}
use Prim.Native.Nat.{ℕ}
use Rattle.history.specs.History.{reads, writes, History}
use Rattle.protocol.specs.declared.Answer.{Answer}
use Rattle.protocol.specs.declared.Step.{Step}
use Rattle.protocol.specs.declared.Step.TheVariants.{Start, BeginRead, BeginWrite, Deliver, Lose, Repeat, Advance, Replace, Tell, Remove, GiveUp, BeginContext, Join, Copy, Execute}
use Rattle.protocol.specs.Roles.{Role, Reads, Writes, Delivers, Loses, Repeats, GivesUp, Removes, Copies, Other, role_of}
use Rattle.linearizability.specs.Run.{beginning, ending, noted, open_begun, open_ended, open_given_up, open_noted}

abbrev pub noted_as : Role → Answer → History → History
noted_as (Reads xs) a h = beginning (reads xs) a h
noted_as (Writes x v) a h = beginning (writes x v) a h
noted_as (Delivers at) a h = ending a h
noted_as (Loses at) a h = h
noted_as (Repeats at) a h = h
noted_as (GivesUp o) a h = h
noted_as (Removes r) a h = h
noted_as Copies a h = h
noted_as Other a h = h

abbrev pub open_noted_as : Role → Answer → History → List ℕ → List ℕ
open_noted_as (Reads xs) a h l = open_begun a h l
open_noted_as (Writes x v) a h l = open_begun a h l
open_noted_as (Delivers at) a h l = open_ended a l
open_noted_as (Loses at) a h l = l
open_noted_as (Repeats at) a h l = l
open_noted_as (GivesUp o) a h l = open_given_up o a l
open_noted_as (Removes r) a h l = l
open_noted_as Copies a h l = l
open_noted_as Other a h l = l

pub noted_as_lem : (x : Step) (a : Answer) (h : History) (l : List ℕ) → (noted x a h ≡ noted_as (role_of x) a h) × (open_noted x a h l ≡ open_noted_as (role_of x) a h l)
noted_as_lem (Start b) a h l = (refl, refl)
noted_as_lem (BeginRead x) a h l = (refl, refl)
noted_as_lem (BeginWrite x v) a h l = (refl, refl)
noted_as_lem (Deliver at choice) a h l = (refl, refl)
noted_as_lem (Lose at) a h l = (refl, refl)
noted_as_lem (Repeat at) a h l = (refl, refl)
noted_as_lem (Advance r) a h l = (refl, refl)
noted_as_lem (Replace number) a h l = (refl, refl)
noted_as_lem (Tell r) a h l = (refl, refl)
noted_as_lem (Remove r) a h l = (refl, refl)
noted_as_lem (GiveUp o) a h l = (refl, refl)
noted_as_lem (BeginContext x) a h l = (refl, refl)
noted_as_lem Join a h l = (refl, refl)
noted_as_lem Copy a h l = (refl, refl)
noted_as_lem Execute a h l = (refl, refl)
