use mathlib.Core.Path.{◌≡◌, refl, sym, ap, ◌∙◌}
use mathlib.Core.List.{List}
use Prim.Native.Nat.{ℕ, ◌+◌, ◌*◌}
use native.Mathlib.Numerals.{add-one}
use native.Mathlib.Omega.{arith}
use Rattle.joins.specs.{copied_object, copied, one_copy}
use Rattle.joins.proofs.copy_objects.Goals as goal

-- one more is copied
copied_more : (s : List ℕ) (q t first k : ℕ) → copied s q t first (k + 1) ≡ copied_object (copied s q t first k) q t (first + k)
unfolding copied
copied_more s q t first k = ap (copied s q t first) (add-one k)

pub loop-k-init : goal.loop-k-init
unfolding copied
loop-k-init c = refl

pub loop-k-preserved : goal.loop-k-preserved
loop-k-preserved c =
    let turn = c.loop-k in
    let q = c.newcomer-q.result in
    let t = c.tail-t.result in
    let first = 64 * c.copies-first.result in
    c.copy_object.ensures ∙ ap (λ (l : List ℕ). copied_object l q t (first + turn.k)) turn.invariant ∙ sym (copied_more _ q t first turn.k)

pub returns : goal.returns
unfolding one_copy
returns c =
    let done = c.loop-k in
    let all : done.k ≡ 64 = omega arith in
    simp (← c.copies-first.ensures.0, ← c.tail-t.ensures, ← c.newcomer-q.ensures) (done.invariant ∙ ap (copied _ _ _ _) all)
