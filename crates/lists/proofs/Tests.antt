-- Tests: what holds of what a test chooses, and two tests in a row.
use mathlib.Core.Path.{◌≡◌, refl}
use mathlib.Core.Bool.{Bool, true, false, cond, false≢true}

-- a test that fails does not pass
pub untrue : {A : Type 0} → false ≡ true → A
untrue e = absurd (false≢true e)

-- a fact of what is chosen, from a proof for each result of the test
pub by_test : {A : Type 0} (P : A → Type 0) (b : Bool) {x y : A} → (b ≡ true → P x) → (b ≡ false → P y) → P (cond b x y)
by_test P true f g = f refl
by_test P false f g = g refl

-- what holds of both holds of the one that a test chooses
pub both : {A : Type 0} (P : A → Type 0) (b : Bool) {x y : A} → P x → P y → P (cond b x y)
both P b p q = by_test P b (λ e. p) (λ e. q)

-- two tests in a row that pass; the first fails and the second passes
pub two_pass : (a b : Bool) → cond a b false ≡ true → (a ≡ true) × (b ≡ true)
two_pass true b e = (refl, e)
two_pass false b e = untrue e

pub second_passes : (a b : Bool) → cond a false b ≡ true → (a ≡ false) × (b ≡ true)
second_passes true b e = untrue e
second_passes false b e = (refl, e)
