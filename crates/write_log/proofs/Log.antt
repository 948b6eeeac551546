-- The log of a chain: the writes that the head has applied, the oldest first. Each replica has applied a front part of it.
use mathlib.Core.Path.{◌≡◌, refl, sym, ap, ◌∙◌, subst}
use mathlib.Core.Logic.{◌⊎◌, inl, inr}
use mathlib.Core.Bool.{Bool, true, false, cond}
use mathlib.Core.List.{List, [], ◌∷◌, ◌++◌}
use Prim.Native.Nat.{ℕ, zero, suc, ◌-◌, ◌≤◌, ◌<◌}
use native.Mathlib.Nat.{add-sub_of_le}
use native.Mathlib.Omega.{arith}
use lib.Dec.{eqb}
use lib.ListN.{length, take, drop, take-append-drop, get_or}
use lib.Seq.{take-add, take-length}
use borrow.Author.Tests.{eqb-true, eq-eqb}
use Rattle.history.specs.History.{◌∈◌, writes}
use Rattle.history.proofs.Lists.{here, there, no_member, cases_cons}
use Rattle.history.proofs.Entries.{Store, empty, put}
use Rattle.store.specs.declared.Write.{Write}

-- a table of one number for each object after some writes: of the values, `table (λ w. w.value) empty log`; of the stamps likewise
abbrev pub table : (Write → ℕ) → Store → List Write → Store
table f s [] = s
table f s (w ∷ ws) = table f (put (writes w.object (f w)) s) ws

abbrev pub values : List Write → Store
values = table (λ w. w.value) empty

abbrev pub stamps : List Write → Store
stamps = table (λ w. w.stamp) empty

-- the stamp of the last write, the highest one
abbrev pub top : ℕ → List Write → ℕ
top lo [] = lo
top lo (w ∷ ws) = top w.stamp ws

-- the stamps rise strictly, all above lo
abbrev pub Rising : ℕ → List Write → Type 0
Rising lo [] = Unit {0}
Rising lo (w ∷ ws) = (lo < w.stamp) × Rising w.stamp ws

pub table_append : (f : Write → ℕ) (s : Store) (a b : List Write) → table f s (a ++ b) ≡ table f (table f s a) b
table_append f s [] b = refl
table_append f s (w ∷ a) b = table_append f (put (writes w.object (f w)) s) a b

pub top_append : (lo : ℕ) (a b : List Write) → top lo (a ++ b) ≡ top (top lo a) b
top_append lo [] b = refl
top_append lo (w ∷ a) b = top_append w.stamp a b

pub rising_front : (lo : ℕ) (a b : List Write) → Rising lo (a ++ b) → Rising lo a
rising_front lo [] b r = tt
rising_front lo (w ∷ a) b r = (r.0, rising_front w.stamp a b r.1)

-- the stamp of the last write
pub top_none : (lo : ℕ) (l : List Write) → length l ≡ 0 → top lo l ≡ lo
top_none lo [] e = refl
top_none lo (w ∷ l) e = absurd (omega (arith, e))

pub top_last : (lo : ℕ) (d : Write) (l : List Write) (n : ℕ) → length l ≡ suc n → top lo l ≡ (get_or l n d).stamp
top_last lo d [] n e = absurd (omega (arith, e))
top_last lo d (w ∷ []) zero e = refl
top_last lo d (w ∷ []) (suc n) e = absurd (omega (arith, e))
top_last lo d (w ∷ u ∷ l) zero e = absurd (omega (arith, e))
top_last lo d (w ∷ u ∷ l) (suc n) e = top_last w.stamp d (u ∷ l) n (omega (arith, e))

pub rising_back : (lo : ℕ) (a b : List Write) → Rising lo (a ++ b) → Rising (top lo a) b
rising_back lo [] b r = r
rising_back lo (w ∷ a) b r = rising_back w.stamp a b r.1

pub rising_append : (lo : ℕ) (a b : List Write) → Rising lo a → Rising (top lo a) b → Rising lo (a ++ b)
rising_append lo [] b p q = q
rising_append lo (w ∷ a) b p q = (p.0, rising_append w.stamp a b p.1 q)

pub rising_top : (lo : ℕ) (a : List Write) → Rising lo a → lo ≤ top lo a
rising_top lo [] r = omega arith
rising_top lo (w ∷ a) r = omega (arith, r.0, rising_top w.stamp a r.1)

pub rising_above : (lo : ℕ) (a : List Write) (w : Write) → Rising lo a → w ∈ a → lo < w.stamp
rising_above lo [] w r m = absurd (no_member m)
rising_above lo (u ∷ a) w r m = elim (cases_cons m) [
  | inl e ↦ subst (λ (z : Write). lo < z.stamp) (sym e) r.0
  | inr n ↦ let h = rising_above u.stamp a w r.1 n in omega (arith, r.0)
]

pub below_top : (lo : ℕ) (a : List Write) (w : Write) → Rising lo a → w ∈ a → w.stamp ≤ top lo a
below_top lo [] w r m = absurd (no_member m)
below_top lo (u ∷ a) w r m = elim (cases_cons m) [
  | inl e ↦ subst (λ (z : Write). z.stamp ≤ top u.stamp a) (sym e) (rising_top u.stamp a r.1)
  | inr n ↦ below_top u.stamp a w r.1 n
]

-- a write to x changes object y for each table, or for none
put_either : (x y : ℕ) → ((v : ℕ) (s : Store) → put (writes x v) s y ≡ v) ⊎ ((v : ℕ) (s : Store) → put (writes x v) s y ≡ s y)
put_either x y = go (eqb x y)
  where
    go : (b : Bool) → ((v : ℕ) (s : Store) → cond b v (s y) ≡ v) ⊎ ((v : ℕ) (s : Store) → cond b v (s y) ≡ s y)
    go true = inl (λ v s. refl)
    go false = inr (λ v s. refl)

rising_from : (lo hi : ℕ) (l : List Write) → lo ≤ hi → Rising hi l → Rising lo l
rising_from lo hi [] g r = tt
rising_from lo hi (u ∷ l) g r = (omega (arith, r.0), r.1)

-- a stamp of at least d stays so, if the writes are all at d or above
stamp_from : (c d x : ℕ) (t : Store) (mid : List Write) → d ≤ suc c → Rising c mid → d ≤ t x → d ≤ table (λ w. w.stamp) t mid x
stamp_from c d x t [] low r h = h
stamp_from c d x t (w ∷ ws) low r h = stamp_from c d x (put (writes w.object w.stamp) t) ws low (rising_from c w.stamp ws (omega (arith, r.0)) r.1) (elim (put_either w.object x) [
  | inl e ↦ rw (e w.stamp t) (omega (arith, r.0))
  | inr e ↦ rw (e w.stamp t) h
])

-- why a direct read is right: of the writes above c none was to x, if x's stamp after them is at most c
pub untouched : (c x : ℕ) (s t : Store) (mid : List Write) → Rising c mid → table (λ w. w.stamp) t mid x ≤ c → table (λ w. w.value) s mid x ≡ s x
untouched c x s t [] r h = refl
untouched c x s t (w ∷ ws) r h =
    let low : Rising c ws = rising_from c w.stamp ws (omega (arith, r.0)) r.1 in
    let s' : Store = put (writes w.object w.value) s in
    let t' : Store = put (writes w.object w.stamp) t in
    elim (put_either w.object x) [
      | inl e ↦ absurd (let up = stamp_from c (suc c) x t' ws (omega arith) low (rw (e w.stamp t) (omega (arith, r.0))) in omega (arith, up, h))
      | inr e ↦ untouched c x s' t' ws low h ∙ e w.value s
    ]

-- an object's stamp is not below that of any write to it
pub stamp_last : (lo : ℕ) (s : Store) (l : List Write) (w : Write) → Rising lo l → w ∈ l → w.stamp ≤ table (λ u. u.stamp) s l w.object
stamp_last lo s [] w r m = absurd (no_member m)
stamp_last lo s (u ∷ l) w r m = elim (cases_cons m) [
  | inl e ↦ stamp_from u.stamp w.stamp w.object (put (writes u.object u.stamp) s) l (omega (arith, ap (λ (z : Write). z.stamp) e)) r.1
      (rw (eq-eqb u.object w.object (ap (λ (z : Write). z.object) (sym e))) (omega (arith, ap (λ (z : Write). z.stamp) e)))
  | inr n ↦ stamp_last u.stamp (put (writes u.object u.stamp) s) l w r.1 n
]

-- and if it is not what the table began with, it is that of a write to it
pub stamp_of_lem : (s : Store) (l : List Write) (x : ℕ)
    → (table (λ u. u.stamp) s l x ≡ s x) ⊎ ((w : Write) × (w ∈ l) × (w.object ≡ x) × (w.stamp ≡ table (λ u. u.stamp) s l x))
stamp_of_lem s [] x = inl refl
stamp_of_lem s (u ∷ l) x = elim (stamp_of_lem (put (writes u.object u.stamp) s) l x) [
  | inl e ↦ go (eqb u.object x) refl e
  | inr t ↦ inr (t.0, there t.1, t.2, t.3)
]
  where
    last : ℕ
    last = table (λ w. w.stamp) (put (writes u.object u.stamp) s) l x

    go : (b : Bool) → eqb u.object x ≡ b → last ≡ cond b u.stamp (s x) → (last ≡ s x) ⊎ ((w : Write) × (w ∈ u ∷ l) × (w.object ≡ x) × (w.stamp ≡ last))
    go true q e = inr (u, here refl, eqb-true u.object x q, sym e)
    go false q e = inl e

-- the parts of a log
pub rising_take : (lo m : ℕ) (log : List Write) → Rising lo log → Rising lo (take m log)
rising_take lo m log r = rising_front lo (take m log) (drop m log) (rw take-append-drop r)

pub top_take : (n m : ℕ) (log : List Write) → Rising 0 log → n ≤ m → top 0 (take n log) ≤ top 0 (take m log)
top_take n m log r g =
    let e : take m log ≡ take n log ++ take (m - n) (drop n log) = rw (← take-add, add-sub_of_le g) in
    let up = rising_back 0 (take n log) (take (m - n) (drop n log)) (subst (Rising 0) e (rising_take 0 m log r)) in
    rw (e, top_append) (rising_top (top 0 (take n log)) (take (m - n) (drop n log)) up)

-- so a replica that has applied the first m writes shows the same value of x as the tail, that has applied the first n
pub same_value : (n m c x : ℕ) (log : List Write) → Rising 0 log → n ≤ m → c ≤ top 0 (take n log) → stamps (take m log) x ≤ c
    → values (take m log) x ≡ values (take n log) x
same_value n m c x log r g k h =
    let mid : List Write = take (m - n) (drop n log) in
    let e : take m log ≡ take n log ++ mid = rw (← take-add, add-sub_of_le g) in
    let up : Rising c mid = rising_from c (top 0 (take n log)) mid k (rising_back 0 (take n log) mid (subst (Rising 0) e (rising_take 0 m log r))) in
    let h' : table (λ w. w.stamp) (stamps (take n log)) mid x ≤ c = rw (← table_append, ← e) h in
    ap (λ (l : List Write). values l x) e ∙ ap (λ (t : Store). t x) (table_append (λ w. w.value) empty (take n log) mid) ∙ untouched c x (values (take n log)) (stamps (take n log)) mid up h'

-- and a replica that has executed a front part of the visible writes shows the same value of x as all of them leave, if its part reaches a stamp c above which there is no
-- write to x
pub behind_value : (k c x : ℕ) (log : List Write) → Rising 0 log → k ≤ length log → c ≤ top 0 (take k log)
    → ((w : Write) → w ∈ log → w.object ≡ x → w.stamp ≤ c) → values (take k log) x ≡ values log x
behind_value k c x log up l reach low =
    let all : take (length log) log ≡ log = take-length log in
    let last : stamps log x ≤ c = elim (stamp_of_lem empty log x) [ inl e ↦ omega (arith, e) | inr t ↦ omega (arith, t.3, low t.0 t.1 t.2) ] in
    sym (ap (λ (t : List Write). values t x) (sym all) ∙ same_value k (length log) c x log up l reach (rw all last))
