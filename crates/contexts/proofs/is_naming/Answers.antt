use mathlib.Core.Path.{◌≡◌, refl, sym, ◌∙◌}
use mathlib.Core.Bool.{Bool, true, false, cond}
use Rattle.contexts.specs.{empty_at, is_count, is_naming}
use Rattle.contexts.proofs.is_naming.Goals as goal
use Rattle.contexts.proofs.is_naming.Goals.{then-is_count, else-is_count, then-is_empty, else-is_empty, then-is_empty-2, else-is_empty-2, then-is_empty-3, else-is_empty-3, then-is_empty-4, else-is_empty-4}

-- what `&&` gives, of a test r whose meaning is a and a test s whose meaning is b
pass : {a r : Bool} (b : Bool) {s v : Bool} → r ≡ a → r ≡ true → s ≡ b → v ≡ s → v ≡ cond a b false
pass b p q e f = rw (sym p ∙ q) (f ∙ e)

fail : {a r : Bool} (b : Bool) {v : Bool} → r ≡ a → r ≡ false → v ≡ r → v ≡ cond a b false
fail b p q f = rw (sym p ∙ q) (f ∙ q)

-- the tests nest to the left in the code and to the right in the definition
nested : (a b c d e f g : Bool) {v : Bool} → v ≡ cond (cond (cond (cond (cond a b false) c false) d false) e false) f false
    → cond v g false ≡ cond a (cond b (cond c (cond d (cond e (cond f g false) false) false) false) false) false
nested false b c d e f g p = rw p refl
nested true false c d e f g p = rw p refl
nested true true false d e f g p = rw p refl
nested true true true false e f g p = rw p refl
nested true true true true false f g p = rw p refl
nested true true true true true f g p = rw p refl

pub returns-then-is_empty-5 : goal.returns-then-is_empty-5
unfolding is_naming
returns-then-is_empty-5 c =
    let x = c.args.x in
    let v0 : c.if-is_count.value ≡ cond (is_count x.count) (empty_at x.count 2 x.third) false = elim c.if-is_count.branch [
      | then-is_count w ↦ pass _ c.is_count.ensures w.if-is_count.true w.is_empty.ensures w.value-is
      | else-is_count w ↦ fail _ c.is_count.ensures w.if-is_count.false w.value-is
    ] in
    let v1 : c.if-is_empty.value ≡ cond (cond (is_count x.count) (empty_at x.count 2 x.third) false) (empty_at x.count 3 x.fourth) false = elim c.if-is_empty.branch [
      | then-is_empty w ↦ pass _ v0 w.if-is_empty.true w.is_empty-then-is_empty.ensures w.value-is
      | else-is_empty w ↦ fail _ v0 w.if-is_empty.false w.value-is
    ] in
    let v2 : c.if-is_empty-2.value ≡ cond (cond (cond (is_count x.count) (empty_at x.count 2 x.third) false) (empty_at x.count 3 x.fourth) false) (empty_at x.count 4 x.fifth) false = elim c.if-is_empty-2.branch [
      | then-is_empty-2 w ↦ pass _ v1 w.if-is_empty-2.true w.is_empty-then-is_empty-2.ensures w.value-is
      | else-is_empty-2 w ↦ fail _ v1 w.if-is_empty-2.false w.value-is
    ] in
    let v3 : c.if-is_empty-3.value ≡ cond (cond (cond (cond (is_count x.count) (empty_at x.count 2 x.third) false) (empty_at x.count 3 x.fourth) false) (empty_at x.count 4 x.fifth) false) (empty_at x.count 5 x.sixth) false = elim c.if-is_empty-3.branch [
      | then-is_empty-3 w ↦ pass _ v2 w.if-is_empty-3.true w.is_empty-then-is_empty-3.ensures w.value-is
      | else-is_empty-3 w ↦ fail _ v2 w.if-is_empty-3.false w.value-is
    ] in
    let v4 : c.if-is_empty-4.value ≡ cond (cond (cond (cond (cond (is_count x.count) (empty_at x.count 2 x.third) false) (empty_at x.count 3 x.fourth) false) (empty_at x.count 4 x.fifth) false) (empty_at x.count 5 x.sixth) false) (empty_at x.count 6 x.seventh) false = elim c.if-is_empty-4.branch [
      | then-is_empty-4 w ↦ pass _ v3 w.if-is_empty-4.true w.is_empty-then-is_empty-4.ensures w.value-is
      | else-is_empty-4 w ↦ fail _ v3 w.if-is_empty-4.false w.value-is
    ] in
    c.is_empty-then-is_empty-5.ensures ∙ rw c.if-is_empty-5.true at (nested (is_count x.count) (empty_at x.count 2 x.third) (empty_at x.count 3 x.fourth) (empty_at x.count 4 x.fifth) (empty_at x.count 5 x.sixth) (empty_at x.count 6 x.seventh) (empty_at x.count 7 x.eighth) v4)

pub returns-else-is_empty-5 : goal.returns-else-is_empty-5
unfolding is_naming
returns-else-is_empty-5 c =
    let x = c.args.x in
    let v0 : c.if-is_count.value ≡ cond (is_count x.count) (empty_at x.count 2 x.third) false = elim c.if-is_count.branch [
      | then-is_count w ↦ pass _ c.is_count.ensures w.if-is_count.true w.is_empty.ensures w.value-is
      | else-is_count w ↦ fail _ c.is_count.ensures w.if-is_count.false w.value-is
    ] in
    let v1 : c.if-is_empty.value ≡ cond (cond (is_count x.count) (empty_at x.count 2 x.third) false) (empty_at x.count 3 x.fourth) false = elim c.if-is_empty.branch [
      | then-is_empty w ↦ pass _ v0 w.if-is_empty.true w.is_empty-then-is_empty.ensures w.value-is
      | else-is_empty w ↦ fail _ v0 w.if-is_empty.false w.value-is
    ] in
    let v2 : c.if-is_empty-2.value ≡ cond (cond (cond (is_count x.count) (empty_at x.count 2 x.third) false) (empty_at x.count 3 x.fourth) false) (empty_at x.count 4 x.fifth) false = elim c.if-is_empty-2.branch [
      | then-is_empty-2 w ↦ pass _ v1 w.if-is_empty-2.true w.is_empty-then-is_empty-2.ensures w.value-is
      | else-is_empty-2 w ↦ fail _ v1 w.if-is_empty-2.false w.value-is
    ] in
    let v3 : c.if-is_empty-3.value ≡ cond (cond (cond (cond (is_count x.count) (empty_at x.count 2 x.third) false) (empty_at x.count 3 x.fourth) false) (empty_at x.count 4 x.fifth) false) (empty_at x.count 5 x.sixth) false = elim c.if-is_empty-3.branch [
      | then-is_empty-3 w ↦ pass _ v2 w.if-is_empty-3.true w.is_empty-then-is_empty-3.ensures w.value-is
      | else-is_empty-3 w ↦ fail _ v2 w.if-is_empty-3.false w.value-is
    ] in
    let v4 : c.if-is_empty-4.value ≡ cond (cond (cond (cond (cond (is_count x.count) (empty_at x.count 2 x.third) false) (empty_at x.count 3 x.fourth) false) (empty_at x.count 4 x.fifth) false) (empty_at x.count 5 x.sixth) false) (empty_at x.count 6 x.seventh) false = elim c.if-is_empty-4.branch [
      | then-is_empty-4 w ↦ pass _ v3 w.if-is_empty-4.true w.is_empty-then-is_empty-4.ensures w.value-is
      | else-is_empty-4 w ↦ fail _ v3 w.if-is_empty-4.false w.value-is
    ] in
    c.if-is_empty-5.false ∙ rw c.if-is_empty-5.false at (nested (is_count x.count) (empty_at x.count 2 x.third) (empty_at x.count 3 x.fourth) (empty_at x.count 4 x.fifth) (empty_at x.count 5 x.sixth) (empty_at x.count 6 x.seventh) (empty_at x.count 7 x.eighth) v4)
