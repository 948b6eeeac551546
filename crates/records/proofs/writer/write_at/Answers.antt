use mathlib.Core.Path.{◌≡◌, ap, ◌∙◌}
use Prim.Native.Nat.{ℕ}
use lib.ListN.{take}
use Rattle.records.specs.Records.{record_of, has_room, written_at, buffer_after}
use Rattle.records.proofs.writer.write_at.Goals as goal

pub returns-then-not-is_writable : goal.returns-then-not-is_writable
unfolding written_at buffer_after
returns-then-not-is_writable c = (simp (← c.is_writable.ensures, c.if-not-is_writable.true), simp (← c.is_writable.ensures, c.if-not-is_writable.true))

pub returns-then-not-within : goal.returns-then-not-within
unfolding has_room written_at buffer_after
returns-then-not-within c =
    let room = c.within.ensures in
    let none = c.if-not-within.true in (
      simp (← c.is_writable.ensures, c.if-not-is_writable.false, ← c.record_length-count.ensures, ← room, none),
      simp (← c.is_writable.ensures, c.if-not-is_writable.false, ← c.record_length-count.ensures, ← room, none),
    )

pub returns : goal.returns
unfolding has_room written_at buffer_after
returns c =
    let n = c.record_length-count in
    let r = c.record_of in
    let room = c.within.ensures in
    let some = c.if-not-within.false in
    let bytes : take n.result r.result ≡ record_of c.args.step = ap (λ (i : ℕ). take i r.result) n.ensures ∙ r.ensures in (
      simp (← c.is_writable.ensures, c.if-not-is_writable.false, ← n.ensures, ← room, some),
      c.put.ensures ∙ simp (bytes, ← c.is_writable.ensures, c.if-not-is_writable.false, ← n.ensures, ← room, some),
    )
