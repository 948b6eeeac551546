-- Which of an object's three slots is found first.
use mathlib.Core.Path.{◌≡◌, refl, sym, ap, ◌∙◌}
use mathlib.Core.Bool.{Bool, true, false, cond, true≢false, false≢true}
use mathlib.Core.Logic.{◌⊎◌, inl, inr}
use Prim.Native.Nat.{ℕ, ◌<◌}
use native.Mathlib.Omega.{arith}
use Rattle.slots.specs.{first_slot, second_slot, third_slot}
use Rattle.std.specs.Prelude.{Option, Some, None, MatchOption, IfSome}
use Rattle.switch.specs.DirtySet.{first_of}
use Rattle.switch.specs.Found.{IsSlot}

-- one of the object's own slots
abbrev pub Own : ℕ → ℕ → Type 0
Own o i = (i ≡ first_slot o) ⊎ ((i ≡ second_slot o) ⊎ (i ≡ third_slot o))

pub slots_rise : (o : ℕ) → (first_slot o < second_slot o) × (second_slot o < third_slot o) × (third_slot o < 48)
unfolding first_slot second_slot third_slot
slots_rise o = (omega arith, omega arith, omega arith)

pub own_below : (o i : ℕ) → Own o i → i < 48
own_below o i (inl e) = omega (arith, e, slots_rise o)
own_below o i (inr (inl e)) = omega (arith, e, slots_rise o)
own_below o i (inr (inr e)) = omega (arith, e, slots_rise o)

-- two searches agree where their tests agree, and what they find agrees where a test passes
cond_same : {A : Type 0} (b c : Bool) (x y u v : A) → b ≡ c → (b ≡ true → x ≡ y) → u ≡ v → cond b x u ≡ cond c y v
cond_same true true x y u v e f g = f refl
cond_same true false x y u v e f g = absurd (true≢false e)
cond_same false true x y u v e f g = absurd (false≢true e)
cond_same false false x y u v e f g = g

pub first_same : {A : Type 0} (o : ℕ) (s t : ℕ → Bool) (f g : ℕ → A) (n : A) → ((i : ℕ) → Own o i → s i ≡ t i) → ((i : ℕ) → Own o i → s i ≡ true → f i ≡ g i) →
    first_of o s f n ≡ first_of o t g n
first_same o s t f g n e h =
    cond_same _ _ _ _ _ _ (e (first_slot o) (inl refl)) (h (first_slot o) (inl refl))
    (cond_same _ _ _ _ _ _ (e (second_slot o) (inr (inl refl))) (h (second_slot o) (inr (inl refl)))
    (cond_same _ _ _ _ _ _ (e (third_slot o) (inr (inr refl))) (h (third_slot o) (inr (inr refl))) refl))

-- what is found: the least own slot that passes, or nothing and no own slot passes
abbrev pub Least : ℕ → (ℕ → Bool) → ℕ → Type 0
Least o t i = Own o i × (t i ≡ true) × ((j : ℕ) → Own o j → j < i → t j ≡ false)

abbrev pub NonePasses : ℕ → (ℕ → Bool) → Type 0
NonePasses o t = (j : ℕ) → Own o j → t j ≡ false

at : (t : ℕ → Bool) (j i : ℕ) (b : Bool) → j ≡ i → t i ≡ b → t j ≡ b
at t j i b e h = ap t e ∙ h

abbrev found : ℕ → ℕ → Bool → Bool → Bool → ℕ
found o n a b c = cond a (first_slot o) (cond b (second_slot o) (cond c (third_slot o) n))

pub first_gives : (o : ℕ) (t : ℕ → Bool) (n : ℕ) → Least o t (first_of o t (λ i. i) n) ⊎ ((first_of o t (λ i. i) n ≡ n) × NonePasses o t)
first_gives o t n = go (t (first_slot o)) (t (second_slot o)) (t (third_slot o)) refl refl refl
  where
    go : (a b c : Bool) → t (first_slot o) ≡ a → t (second_slot o) ≡ b → t (third_slot o) ≡ c → Least o t (found o n a b c) ⊎ ((found o n a b c ≡ n) × NonePasses o t)
    go true b c p q r = inl (inl refl, p, before)
      where
        before : (j : ℕ) → Own o j → j < first_slot o → t j ≡ false
        before j (inl e) h = absurd (omega (arith, e))
        before j (inr (inl e)) h = absurd (omega (arith, e, slots_rise o))
        before j (inr (inr e)) h = absurd (omega (arith, e, slots_rise o))
    go false true c p q r = inl (inr (inl refl), q, before)
      where
        before : (j : ℕ) → Own o j → j < second_slot o → t j ≡ false
        before j (inl e) h = at t j (first_slot o) false e p
        before j (inr (inl e)) h = absurd (omega (arith, e))
        before j (inr (inr e)) h = absurd (omega (arith, e, slots_rise o))
    go false false true p q r = inl (inr (inr refl), r, before)
      where
        before : (j : ℕ) → Own o j → j < third_slot o → t j ≡ false
        before j (inl e) h = at t j (first_slot o) false e p
        before j (inr (inl e)) h = at t j (second_slot o) false e q
        before j (inr (inr e)) h = absurd (omega (arith, e))
    go false false false p q r = inr (refl, none)
      where
        none : NonePasses o t
        none j (inl e) = at t j (first_slot o) false e p
        none j (inr (inl e)) = at t j (second_slot o) false e q
        none j (inr (inr e)) = at t j (third_slot o) false e r

-- the least own slot that passes is the one that is found
pub first_at : {A : Type 0} (o : ℕ) (t : ℕ → Bool) (f : ℕ → A) (n : A) (i : ℕ) → Least o t i → first_of o t f n ≡ f i
first_at o t f n i (l) = go l.0 l.1 l.2
  where
    go : Own o i → t i ≡ true → ((j : ℕ) → Own o j → j < i → t j ≡ false) → first_of o t f n ≡ f i
    go (inl e) p b = rw (sym (ap t e) ∙ p) (ap f (sym e))
    go (inr (inl e)) p b =
        let one : t (first_slot o) ≡ false = b (first_slot o) (inl refl) (omega (arith, e, slots_rise o)) in
        rw (one, sym (ap t e) ∙ p) (ap f (sym e))
    go (inr (inr e)) p b =
        let one : t (first_slot o) ≡ false = b (first_slot o) (inl refl) (omega (arith, e, slots_rise o)) in
        let two : t (second_slot o) ≡ false = b (second_slot o) (inr (inl refl)) (omega (arith, e, slots_rise o)) in
        rw (one, two, sym (ap t e) ∙ p) (ap f (sym e))

pub first_none : {A : Type 0} (o : ℕ) (t : ℕ → Bool) (f : ℕ → A) (n : A) → NonePasses o t → first_of o t f n ≡ n
first_none o t f n h = rw (h (first_slot o) (inl refl), h (second_slot o) (inr (inl refl)), h (third_slot o) (inr (inr refl)))

-- ---- what the search of the code found, as the searches of the definitions say it

picked : {A : Type 0} (a b c : Bool) (x y z : ℕ) (f : ℕ → A) (n : A) (r : Option ℕ) → r ≡ cond a (Some x) (cond b (Some y) (cond c (Some z) None)) →
    MatchOption r (cond a (f x) (cond b (f y) (cond c (f z) n)) ≡ n) (λ i. cond a (f x) (cond b (f y) (cond c (f z) n)) ≡ f i)
picked true b c x y z f n r e = rw e refl
picked false true c x y z f n r e = rw e refl
picked false false true x y z f n r e = rw e refl
picked false false false x y z f n r e = rw e refl

pub found_gives : {A : Type 0} (o : ℕ) (t : ℕ → Bool) (f : ℕ → A) (n : A) (r : Option ℕ) → r ≡ first_of o t Some None →
    MatchOption r (first_of o t f n ≡ n) (λ i. first_of o t f n ≡ f i)
found_gives o t f n r e = picked (t (first_slot o)) (t (second_slot o)) (t (third_slot o)) (first_slot o) (second_slot o) (third_slot o) f n r e

pub found_slot : (o : ℕ) (t : ℕ → Bool) (r : Option ℕ) → r ≡ first_of o t Some None → IfSome r (λ i. i < 48) → IsSlot (first_of o t (λ i. i) 48) r
found_slot o t (Some i) e h = (found_gives o t (λ i. i) 48 (Some i) e, h)
found_slot o t None e h = found_gives o t (λ i. i) 48 None e

-- the slot that was found, or where none was that of a second search
pub found_or : {P : Type 0} (o : ℕ) (t : ℕ → Bool) (slot : ℕ) (r s : Option ℕ) → r ≡ first_of o t Some None → IfSome r (λ i. i < 48) → MatchOption r P (λ i. s ≡ Some i) →
    (P → IsSlot slot s) → IsSlot (first_of o t (λ i. i) slot) s
found_or o t slot (Some i) s e h q g = rw q (found_gives o t (λ i. i) slot (Some i) e, h)
found_or o t slot None s e h q g = rw (found_gives o t (λ i. i) slot None e) (g q)

pub found_none : (slot : ℕ) (r : Option ℕ) → IsSlot slot r → ((i : ℕ) → r ≡ Some i → ⊥) → slot ≡ 48
found_none slot (Some i) h n = absurd (n i refl)
found_none slot None h n = h
