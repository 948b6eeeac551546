-- What a writer answers is, in a number, the refusal that the exported functions give.
use mathlib.Core.Path.{◌≡◌, refl}
use mathlib.Core.Bool.{Bool, true, false, cond}
use mathlib.Core.List.{List}
use Prim.Native.Nat.{ℕ}
use lib.Dec.{leb}
use lib.ListN.{length}
use Rattle.std.specs.Prelude.{Result, Err}
use Rattle.limits.specs as limits
use Rattle.records.specs.declared.WriteError.{WriteError}
use Rattle.records.specs.declared.WriteError.TheVariants.{NoRecord}
use Rattle.records.specs.Records.{kind_of_tag, written_at, written_refusal}
use Rattle.protocol.specs.declared.Step.TheVariants.{BeginContext}
use Rattle.numbered_records.specs.{is_record, step_from, objects_from, record_written, record_refusal, context_written, context_refusal}

refused : (t : Bool) (r : Result ℕ WriteError) → written_refusal (cond t r (Err NoRecord)) ≡ cond t (written_refusal r) 1
refused true r = refl
refused false r = refl

pub record_refused : (buf : List ℕ) (tag a b : ℕ) → written_refusal (record_written buf tag a b) ≡ record_refusal buf tag a b
unfolding record_written record_refusal
record_refused buf tag a b = refused (is_record tag a b) (written_at buf 0 (step_from (kind_of_tag tag) a b))

pub context_refused : (buf xs : List ℕ) → written_refusal (context_written buf xs) ≡ context_refusal buf xs
unfolding context_written context_refusal
context_refused buf xs = refused (leb (length xs) limits.context_most) (written_at buf 0 (BeginContext (objects_from xs)))
