-- Bytes put one after the other are those bytes put at once; and what putting them into a lent buffer leaves.
use mathlib.Core.Path.{◌≡◌, refl, ap, sym, ◌∙◌}
use mathlib.Core.Bool.{Bool, true, false, cond}
use mathlib.Core.List.{List, [], ◌∷◌, ◌++◌, append_assoc, append-nil}
use Prim.Native.Nat.{ℕ, suc, ◌+◌, ◌-◌, ◌≤◌, ◌<◌}
use native.Mathlib.Nat.{add-zero}
use native.Mathlib.Omega.{arith}
use lib.Dec.{leb}
use lib.ListN.{length, take, drop, set, length-set, length-append, length-drop, take-append-drop}
use lib.Seq.{sets, sets-eq, length-take-le, take_at, drop_at, drop-drop}
use borrow.Author.Tests.{le-leb, lt-leb, leb-true, leb-false}
use Rattle.lines.specs.Text.{pasted, put_in, Puts}

module _ (b : List ℕ) (at : ℕ) (w : List ℕ) (h : at + length w ≤ length b) where
  head_length : length (take at b ++ w) ≡ at + length w
  head_length = length-append (take at b) w ∙ ap (λ (k : ℕ). k + length w) (length-take-le at b (omega arith))

  pub length_pasted : length (pasted b at w) ≡ length b
  length_pasted =
      length-append (take at b ++ w) (drop (at + length w) b) ∙
      omega (arith, head_length, length-drop (at + length w) b)

  -- all up to the end of what was put, all before it, and all after it
  pub take_pasted : take (at + length w) (pasted b at w) ≡ take at b ++ w
  take_pasted = take_at (take at b ++ w) (drop (at + length w) b) (at + length w) head_length

  pub before_pasted : take at (pasted b at w) ≡ take at b
  before_pasted =
      ap (take at) (append_assoc (take at b) w (drop (at + length w) b)) ∙
      take_at (take at b) (w ++ drop (at + length w) b) at (length-take-le at b (omega arith))

  pub drop_pasted : drop (at + length w) (pasted b at w) ≡ drop (at + length w) b
  drop_pasted = drop_at (take at b ++ w) (drop (at + length w) b) (at + length w) head_length

  -- a buffer with the same bytes before, there and after
  pub pasted_by : (b' : List ℕ) → take (at + length w) b' ≡ take at b ++ w → drop (at + length w) b' ≡ drop (at + length w) b → b' ≡ pasted b at w
  pasted_by b' e f =
      sym (take-append-drop (at + length w) b') ∙ λ j. e j ++ f j

  -- one after the other
  pub pasted_twice : (v : List ℕ) → pasted (pasted b at w) (at + length w) v ≡ pasted b at (w ++ v)
  pasted_twice v =
      let ends : at + length w + length v ≡ at + length (w ++ v) = omega (arith, length-append w v) in
      let rest : drop (at + length w + length v) (pasted b at w) ≡ drop (at + length (w ++ v)) b =
      sym (drop-drop (length v) (at + length w) (pasted b at w)) ∙
      ap (drop (length v)) drop_pasted ∙
      drop-drop (length v) (at + length w) b ∙
      ap (λ (k : ℕ). drop k b) ends in
      (λ j. take_pasted j ++ v ++ rest j) ∙ ap (λ (l : List ℕ). l ++ drop (at + length (w ++ v)) b) (append_assoc (take at b) w v)

-- what two functions put, the second after the first
pub puts_then : {b b' b'' : List ℕ} {at p r : ℕ} {w v : List ℕ} → Puts b at w p b' → Puts b' p v r b'' → Puts b at (w ++ v) r b''
puts_then {b} {b'} {b''} {at} {p} {r} {w} {v} f g = record {
  room = omega (arith, length-append w v, g.room, f.after, f.long);
  after = g.after ∙ ap (λ (k : ℕ). k + length v) f.after ∙ omega (arith, length-append w v);
  there = g.there ∙ (λ j. pasted (f.there j) (f.after j) v) ∙ pasted_twice b at w f.room v;
  long = g.long ∙ f.long;
}

-- how long parts are together
abbrev pub together : List (List ℕ) → ℕ
together [] = 0
together (w ∷ ws) = length w + together ws

-- a place that has room for parts, one after the other
pub record Room (b : List ℕ) (at : ℕ) (ws : List (List ℕ)) : Type 0 where
  pub room : at + together ws ≤ length b

-- so it has room for the first, and behind the first for the others
pub room_first : {b : List ℕ} {at : ℕ} {w : List ℕ} {ws : List (List ℕ)} → Room b at (w ∷ ws) → at + length w ≤ length b
room_first h = omega (arith, h.room)

pub room_then : {b b' : List ℕ} {at p : ℕ} {w : List ℕ} {ws : List (List ℕ)} → Puts b at w p b' → Room b at (w ∷ ws) → Room b' p ws
room_then f h = record { room = omega (arith, f.after, f.long, h.room) }

-- nothing is put
pub puts_none : (b : List ℕ) (at : ℕ) → at ≤ length b → Puts b at [] at b
puts_none b at h = record {
  room = omega arith;
  after = omega arith;
  there = sym ((λ j. append-nil (take at b) j ++ drop (add-zero at j) b) ∙ take-append-drop at b);
  long = refl;
}

-- ---- into a buffer, if it has room

-- what the test of the room says of bytes t that are n, or at most n
pub has_room_lem : (at n long : ℕ) (t : List ℕ) (r : Bool) → r ≡ leb (at + n) long → r ≡ true → length t ≤ n → at + length t ≤ long
has_room_lem at n long t r e f few = omega (arith, leb-true (at + n) long (sym e ∙ f))

pub no_room : (at n long : ℕ) (t : List ℕ) (r : Bool) → r ≡ leb (at + n) long → r ≡ false → n ≡ length t → long < at + length t
no_room at n long t r e f same = omega (arith, leb-false (at + n) long (sym e ∙ f), same)

module _ (b : List ℕ) (at : ℕ) (t : List ℕ) where
  pub put_short : length b < at + length t → put_in b at t ≡ b
  unfolding put_in
  put_short h = rw (lt-leb (at + length t) (length b) h)

  pub put_room : at + length t ≤ length b → put_in b at t ≡ pasted b at t
  unfolding put_in
  put_room h = rw (le-leb (at + length t) (length b) h)

  either : (P : List ℕ → Type 0) → P b → (at + length t ≤ length b → P (pasted b at t)) → P (put_in b at t)
  unfolding put_in
  either P short room = go (leb (at + length t) (length b)) refl
    where
      go : (x : Bool) → leb (at + length t) (length b) ≡ x → P (cond x (pasted b at t) b)
      go true e = room (leb-true _ _ e)
      go false e = short

  -- no byte before or after the text changes, and with room the text stands there
  pub put_length : length (put_in b at t) ≡ length b
  put_length = either (λ l. length l ≡ length b) refl (λ h. length_pasted b at t h)

  pub put_before : take at (put_in b at t) ≡ take at b
  put_before = either (λ l. take at l ≡ take at b) refl (λ h. before_pasted b at t h)

  pub put_after : drop (at + length t) (put_in b at t) ≡ drop (at + length t) b
  put_after = either (λ l. drop (at + length t) l ≡ drop (at + length t) b) refl (λ h. drop_pasted b at t h)

  pub put_there : at + length t ≤ length b → take (at + length t) (put_in b at t) ≡ take at b ++ t
  put_there h = ap (take (at + length t)) (put_room h) ∙ take_pasted b at t h

-- no bytes change nothing
pub put_nothing : (b : List ℕ) (at : ℕ) → put_in b at [] ≡ b
put_nothing b at =
    either b at [] (λ l. l ≡ b) refl (λ h. sym (puts_none b at (omega arith)).there)
