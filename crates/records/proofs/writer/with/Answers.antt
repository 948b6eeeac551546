use mathlib.Core.Path.{refl, sym, ◌∙◌}
use mathlib.Core.List.{append_assoc}
use Prim.Native.Nat.{◌+◌, ◌-◌}
use native.Mathlib.Omega.{arith}
use lib.ListN.{length, take, drop}
use Rattle.std.proofs.lemmas.List.Edits.{sets-eq, paste_all}
use Rattle.std.proofs.lemmas.Slice.{put_mid-paste}
use Rattle.records.proofs.writer.with.Goals as goal

pub returns : goal.returns
returns c =
    let part = c.args.part.now in
    let bytes = c.args.bytes in
    let at = c.args.at in
    put_mid-paste at (at + length part - at) bytes c.copy_from_slice.new.self part (length part) c.copy_from_slice.ensures.after (omega arith) refl ∙
    paste_all bytes at part (length part) refl ∙
    sym (sets-eq part bytes at (omega arith) ∙ append_assoc (take at bytes) part (drop (at + length part) bytes))
