-- What `all` finds over a range of places: whether every number of the list by those places passes the test.
use mathlib.Core.Path.{◌≡◌, refl, ap, ◌∙◌}
use mathlib.Core.Bool.{Bool, true, false, cond, ◌&&◌}
use mathlib.Core.List.{List}
use Prim.Native.Nat.{ℕ, zero, suc, ◌+◌, ◌<◌, suc-le-suc, zero-le}
use native.Mathlib.Omega.{arith}
use denote.Param.Members.{Mut}
use Rattle.std.specs.declared.ops.Range.{Range}
use Rattle.std.specs.declared.option.Option.{Option}
use Rattle.std.proofs.iter.Yields.{nat_range_steps}
use Rattle.std.proofs.lemmas.Iterator.{YieldsList-from_range}
use Rattle.std.proofs.lemmas.Iterator.Search.{all_from_yields_List}
use Rattle.std.specs.Fn.{Called}
use Rattle.std.specs.Iterator.{YieldsThen}
use Rattle.std.specs.List.{range_with_len, FoldsTo, list_all}
use Rattle.std.specs.Option.{MatchOption}
use Rattle.lists.specs.{list_of, all_of}

both_pass : (b x y : Bool) → x ≡ y → b && x ≡ cond b y false
both_pass true x y e = e
both_pass false x y e = refl

all_range : (t : ℕ → Bool) (f g : ℕ → ℕ) (a n : ℕ) → ((i : ℕ) → f (a + i) ≡ g i) → list_all (λ i. t (f i)) (range_with_len a n) ≡ all_of t (list_of g n)
unfolding all_of list_of
all_range t f g a zero e = refl
all_range t f g a (suc n) e =
    ap (λ (x : ℕ). t x && list_all (λ i. t (f i)) (range_with_len (a + 1) n)) (ap f (omega arith) ∙ e 0) ∙
    both_pass (t (g 0)) _ _ (all_range t f (λ i. g (suc i)) (a + 1) n (λ i. ap f (omega arith) ∙ e (suc i)))

-- f is what stands at a place, and the closure tests that
pub all_places : {F : Type 0} {g : Mut F (ℕ × Unit {0}) Bool} {s : Range ℕ} (t : ℕ → Bool) (f : ℕ → ℕ) (n : ℕ) {u : Range ℕ} {j : F} {r : Bool}
    → (xs : List ℕ) × (o : Option ℕ) × (k : F) × YieldsThen nat_range_steps s xs o u × FoldsTo (λ p x q. Called g p (x, tt) true q) j xs k × MatchOption o (r ≡ true) (λ x. (r ≡ false) × ((h : F) × Called g k (x, tt) false h))
    → s ≡ record { start = 0; end = n }
    → ((x : ℕ) (b : Bool) (q : F) → Called g j (x, tt) b q → (q ≡ j) × (b ≡ t (f x)))
    → r ≡ all_of t (list_of f n)
all_places t f n {u} {j} {r} ran e each =
    all_from_yields_List (λ i. t (f i)) u j r ran (YieldsList-from_range 0 n n e (omega arith)) each ∙ all_range t f f 0 n (λ i. ap f (omega arith))

-- two tests that agree at each place
pub all_same : (t r : ℕ → Bool) (f : ℕ → ℕ) (n : ℕ) → ((i : ℕ) → i < n → t (f i) ≡ r (f i)) → all_of t (list_of f n) ≡ all_of r (list_of f n)
unfolding all_of list_of
all_same t r f zero e = refl
all_same t r f (suc n) e =
    ap (λ (b : Bool). cond b (all_of t (list_of (λ i. f (suc i)) n)) false) (e 0 (suc-le-suc zero-le)) ∙
    ap (λ (b : Bool). cond (r (f 0)) b false) (all_same t r (λ i. f (suc i)) n (λ i h. e (suc i) (suc-le-suc h)))
