-- Where a packet of the waiting list stands after a step's edit.
use mathlib.Core.Path.{◌≡◌, refl, sym, ap, ◌∙◌, subst}
use mathlib.Core.Bool.{Bool, true, false, cond}
use mathlib.Core.List.{List, [], ◌∷◌, ◌++◌}
use Prim.Native.Nat.{ℕ, zero, suc, ◌+◌, ◌-◌, ◌≤◌, ◌<◌}
use native.Mathlib.Decide.{dec_lt}
use native.Mathlib.Omega.{arith}
use lib.Dec.{ltb}
use lib.ListN.{length, get_or, take, drop, get_or-append}
use lib.Seq.{length-take-le, get_or-take, get_or-append_seam}
use borrow.Author.Tests.{ltb-true, ltb-false}
use Rattle.lists.specs.{without}
use Rattle.lists.proofs.Closing.{length_without}
use Rattle.waiting.specs.declared.Packet.{Packet}
use Rattle.waiting.specs.declared.Edit.{Edit}
use Rattle.waiting.specs.Waiting.{WaitingList, blank, held, look_at, waits, edited, added}
use Rattle.waiting.proofs.Laws as waiting
use Rattle.protocol.specs.declared.Decision.{Decision}
use Rattle.protocol.specs.declared.Step.{Step}
use Rattle.protocol.specs.Decisions.{take_out, take_out_add}
use Rattle.linearizability.proofs.Edits.{Edits}
use Rattle.read_bound.specs.Follow.{moved_up}

-- ---- a list without one element

without_before : {A : Type 0} (l : List A) (p j : ℕ) (d : A) → p < length l → j < p → get_or (without l p) j d ≡ get_or l j d
unfolding without
without_before l p j d b h =
    get_or-append (take p l) (drop (suc p) l) d j (omega (arith, h, length-take-le p l (omega (arith, b)))) ∙ get_or-take p l j d h

without_behind : {A : Type 0} (l : List A) (p j : ℕ) (d : A) → p ≤ j → get_or (without l p) j d ≡ get_or l (suc j) d
unfolding without
without_behind [] zero j d h = refl
without_behind [] (suc p) j d h = refl
without_behind (x ∷ l) zero j d h = refl
without_behind (x ∷ l) (suc p) zero d h = absurd (omega arith)
without_behind (x ∷ l) (suc p) (suc j) d h = without_behind l p j d (omega arith)

without_moved : {A : Type 0} (l : List A) (p i : ℕ) (d : A) → p < length l → i < length l → (p ≡ i → ⊥) → get_or (without l p) (moved_up p i) d ≡ get_or l i d
without_moved l p i d b h n = go (ltb p i) refl
  where
    go : (t : Bool) → ltb p i ≡ t → get_or (without l p) (cond t (i - 1) i) d ≡ get_or l i d
    go true e =
        let low : p < i = ltb-true p i e in
        let up : suc (i - 1) ≡ i = omega (arith, low) in
        without_behind l p (i - 1) d (omega (arith, low)) ∙ ap (λ (k : ℕ). get_or l k d) up
    go false e = without_before l p i d b (omega (arith, n, ltb-false p i e))

-- ---- a packet after an edit

module _ (w : WaitingList) (roomy : waiting.Roomy w) (exact : waiting.Exact w) (x : Step) (d : Decision) (f : Edits x (held w) d) where
  abbrev e : Edit
  e = d.edit

  -- where the packet at position i stands
  abbrev pub moved : ℕ → ℕ
  moved i = cond e.take (moved_up e.at i) i

  length_is : length (waits w) ≡ held w
  length_is = waiting.length_waits w roomy

  -- it stands there, and is the same packet
  abbrev pub StillThere : ℕ → ℕ → Type 0
  StillThere i j = (j < held (edited w e)) × (look_at (edited w e).packets j ≡ look_at w.packets i)

  taken : (i : ℕ) → i < held w → (e.at ≡ i → ⊥) → e.take ≡ true → StillThere i (moved_up e.at i)
  taken i h n t =
      let inside : e.at < held w = omega (arith, f.at_is t, f.inside t) in
      let few : held (edited w e) ≡ held w - 1 + e.add = waiting.held_edited_taking w e roomy t inside (f.fits t) in
      let low : moved_up e.at i < held w - 1 = below inside in
      let is = waiting.waits_edited_taking w e roomy t inside f.most (f.fits t) in
      let rest : length (without (waits w) e.at) ≡ held w - 1 = length_without (waits w) e.at (omega (arith, inside, length_is)) ∙ ap (λ (k : ℕ). k - 1) length_is in (
        omega (arith, few, low),
        waiting.look_is (edited w e) (moved_up e.at i) (omega (arith, few, low)) ∙ ap (λ (l : List Packet). get_or l (moved_up e.at i) blank) is ∙
            get_or-append (without (waits w) e.at) (added e) blank (moved_up e.at i) (omega (arith, rest, low)) ∙
            without_moved (waits w) e.at i blank (omega (arith, inside, length_is)) (omega (arith, h, length_is)) n ∙ sym (waiting.look_is w i h),
      )
    where
      below : e.at < held w → moved_up e.at i < held w - 1
      below inside = go (ltb e.at i) refl
        where
          go : (t : Bool) → ltb e.at i ≡ t → cond t (i - 1) i < held w - 1
          go true k = omega (arith, h, ltb-true e.at i k)
          go false k = omega (arith, h, n, inside, ltb-false e.at i k)

  kept : (i : ℕ) → i < held w → e.take ≡ false → StillThere i i
  kept i h t = go (dec_lt 64 (held w + e.add))
    where
      go : Dec (64 < held w + e.add) → StillThere i i
      go (yes full) =
          let same : edited w e ≡ w = waiting.edited_over w e exact t full in
          subst (λ (v : WaitingList). (i < held v) × (look_at v.packets i ≡ look_at w.packets i)) (sym same) (h, refl)
      go (no room) =
          let fits : held w + e.add ≤ 64 = omega (arith, room) in
          let more : held (edited w e) ≡ held w + e.add = waiting.held_edited_keeping w e roomy exact t fits in (
            omega (arith, h, more),
            waiting.look_is (edited w e) i (omega (arith, h, more)) ∙ ap (λ (l : List Packet). get_or l i blank) (waiting.waits_edited_keeping w e roomy exact t f.most fits) ∙
                get_or-append (waits w) (added e) blank i (omega (arith, h, length_is)) ∙ sym (waiting.look_is w i h),
          )

  pub still_there : (i : ℕ) → i < held w → (e.take ≡ true → e.at ≡ i → ⊥) → StillThere i (moved i)
  still_there i h n = go e.take refl
    where
      go : (b : Bool) → e.take ≡ b → StillThere i (cond b (moved_up e.at i) i)
      go true t = taken i h (n t) t
      go false t = kept i h t

-- ---- the packet that is delivered

module _ (w : WaitingList) (roomy : waiting.Roomy w) (i : ℕ) (inside : i < held w) where
  -- nothing comes of it
  pub fewer_wait : held (edited w (take_out i)) ≡ held w - 1
  fewer_wait = waiting.held_edited_taking w (take_out i) roomy refl inside (omega (arith, waiting.held_most w)) ∙ omega arith

  -- a packet comes of it, which is the last
  module _ (p : Packet) where
    pub as_many_wait : held (edited w (take_out_add i p)) ≡ held w
    as_many_wait = waiting.held_edited_taking w (take_out_add i p) roomy refl inside (omega (arith, inside, waiting.held_most w)) ∙ omega (arith, inside)

    pub last_packet : look_at (edited w (take_out_add i p)).packets (held w - 1) ≡ p
    unfolding added
    last_packet =
        let e = take_out_add i p in
        let is = waiting.waits_edited_taking w e roomy refl inside (omega arith) (omega (arith, inside, waiting.held_most w)) in
        let rest : length (without (waits w) i) ≡ held w - 1 =
        length_without (waits w) i (omega (arith, inside, waiting.length_waits w roomy)) ∙ ap (λ (k : ℕ). k - 1) (waiting.length_waits w roomy) in
        waiting.look_is (edited w e) (held w - 1) (omega (arith, inside, as_many_wait)) ∙ ap (λ (l : List Packet). get_or l (held w - 1) blank) is ∙
        ap (λ (k : ℕ). get_or (without (waits w) i ++ p ∷ []) k blank) (sym rest) ∙ get_or-append_seam (without (waits w) i) p [] blank
