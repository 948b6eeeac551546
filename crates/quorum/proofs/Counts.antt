-- How many numbers of a list pass a test, and how many of the live replicas do.
use mathlib.Core.Path.{◌≡◌, refl, sym, ap, ◌∙◌}
use mathlib.Core.Bool.{Bool, true, false, cond}
use mathlib.Core.List.Memᴰ.{head as here}
use mathlib.Core.List.Memᴰ.{tail as there}
use mathlib.Core.List.{List, [], ◌∷◌, Memᴰ}
use Prim.Native.Nat.{ℕ, zero, suc, ◌+◌, ◌≤◌}
use native.Mathlib.Omega.{arith}
use lib.ListN.{length}
use Rattle.std.specs.List.{filter, range_with_len}
use Rattle.lists.specs.{list_of}
use Rattle.lists.proofs.Places.{list_of_same}
use Rattle.store.specs.{live_count, order_at, members}
use Rattle.chain.specs.{member_at}
use Rattle.chain.proofs.Members.{member_order, count_most as count_most_live}
use Rattle.quorum.specs.{count_of}

-- where every number that passes one test passes another, the other counts no fewer
pub count_most : (f g : ℕ → Bool) (l : List ℕ) → ((r : ℕ) → Memᴰ r l → f r ≡ true → g r ≡ true) → count_of f l ≤ count_of g l
unfolding count_of
count_most f g [] h = omega arith
count_most f g (q ∷ l) h = go (f q) (g q) refl refl (count_most f g l (λ r m. h r (there m)))
  where
    go : (a b : Bool) → f q ≡ a → g q ≡ b → count_of f l ≤ count_of g l → cond a (count_of f l + 1) (count_of f l) ≤ cond b (count_of g l + 1) (count_of g l)
    go true true p e rest = omega (arith, rest)
    go true false p e rest = absurd (let z : true ≡ false = sym (h q (here refl) p) ∙ e in let k : ◌≡◌ {A = ℕ} 0 1 = cc in omega arith)
    go false true p e rest = omega (arith, rest)
    go false false p e rest = omega (arith, rest)

-- no more than there are
count_within : (t : ℕ → Bool) (f : ℕ → ℕ) (n : ℕ) → count_of t (list_of f n) ≤ n
unfolding count_of list_of
count_within t f zero = omega arith
count_within t f (suc n) = go (t (f 0)) (count_within t (λ i. f (suc i)) n)
  where
    go : (b : Bool) → count_of t (list_of (λ i. f (suc i)) n) ≤ n → cond b (count_of t (list_of (λ i. f (suc i)) n) + 1) (count_of t (list_of (λ i. f (suc i)) n)) ≤ suc n
    go true h = omega (arith, h)
    go false h = omega (arith, h)

-- over the places of a range, g is what f gives from place a on
count_range : (t : ℕ → Bool) (f g : ℕ → ℕ) (a n : ℕ) → ((i : ℕ) → f (a + i) ≡ g i) → length (filter (λ i. t (f i)) (range_with_len a n)) ≡ count_of t (list_of g n)
unfolding count_of list_of
count_range t f g a zero e = refl
count_range t f g a (suc n) e =
    let rest : List ℕ = filter (λ i. t (f i)) (range_with_len (a + 1) n) in
    ap (λ (x : ℕ). length (cond (t x) (a ∷ rest) rest)) (ap f (omega arith) ∙ e 0) ∙
    go (t (g 0)) rest (count_of t (list_of (λ i. g (suc i)) n)) (count_range t f (λ i. g (suc i)) (a + 1) n (λ i. ap f (omega arith) ∙ e (suc i)))
  where
    go : (b : Bool) (rest : List ℕ) (k : ℕ) → length rest ≡ k → length (cond b (a ∷ rest) rest) ≡ cond b (k + 1) k
    go true rest k h = omega (arith, h)
    go false rest k h = h

-- the live replicas, by their places
pub members_by_place : (s : List ℕ) → list_of (member_at s) (live_count s) ≡ members s
unfolding members
members_by_place s = list_of_same (member_at s) (order_at s) (live_count s) (λ i h. member_order s i h)

-- how many of the live replicas pass a test, of which there are at most eight
pub counted : (t : ℕ → Bool) (s : List ℕ) (n found : ℕ) → n ≡ live_count s → found ≡ length (filter (λ i. t (member_at s i)) (range_with_len 0 n)) → (found ≡ count_of t (members s)) × (found ≤ 8)
counted t s n found e f =
    let g : found ≡ count_of t (list_of (member_at s) n) = f ∙ count_range t (member_at s) (member_at s) 0 n (λ i. ap (member_at s) (omega arith)) in
    (g ∙ ap (λ (k : ℕ). count_of t (list_of (member_at s) k)) e ∙ ap (count_of t) (members_by_place s), omega (arith, g, count_within t (member_at s) n, e, count_most_live s))
