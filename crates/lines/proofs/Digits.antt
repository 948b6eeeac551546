-- A number's digits, filled in from the last to the first.
use mathlib.Core.Path.{◌≡◌, sym, ap, ◌∙◌}
use mathlib.Core.List.{List, ◌∷◌, ◌++◌, append_assoc, append-nil}
use Prim.Native.Nat.{ℕ, suc, ◌+◌, ◌-◌, ◌/◌, ◌%◌, ◌≤◌, ◌<◌}
use native.Mathlib.Nat.{add-suc, add-zero}
use native.Mathlib.Omega.{arith}
use lib.ListN.{length, set, take, drop, length-set, take-append-drop}
use lib.Seq.{slice, slice_empty, slice-cons, take-set-le, drop-set-lt, take-set-lt, get_or-set_same, take-take}
use Rattle.line_lengths.specs.Lines.{digits}

-- the first t bytes, of which those from place at up to at + left are still to be the digits of rest
abbrev pub filled : ℕ → ℕ → ℕ → ℕ → List ℕ → List ℕ
filled at t left rest b = take at b ++ digits left rest ++ slice (at + left) t b

pub fill_none : (at k n : ℕ) (b : List ℕ) → take at b ++ digits k n ≡ filled at (at + k) k n b
fill_none at k n b = sym (rw (slice_empty (at + k) b) (append-nil (take at b ++ digits k n)))

-- the last digit that is missing
fill_one : (at t m n : ℕ) (b : List ℕ) → at + m < t → t ≤ length b
    → filled at t (suc m) n b ≡ filled at t m (n / 10) (set b (at + m) (48 + n % 10))
unfolding digits
fill_one at t m n b h k =
    let d : ℕ = 48 + n % 10 in
    let b' : List ℕ = set b (at + m) d in
    let rest : slice (suc (at + m)) t b' ≡ slice (suc (at + m)) t b =
    ap (drop (suc (at + m))) (take-set-lt t b (at + m) d h) ∙ drop-set-lt (suc (at + m)) (take t b) (at + m) d (omega arith) in
    let last : slice (at + m) t b' ≡ d ∷ slice (at + suc m) t b =
    slice-cons (at + m) t b' 0 h (rw (length-set b (at + m) d) k) ∙
    ap (λ (x : ℕ). x ∷ slice (suc (at + m)) t b') (get_or-set_same b (at + m) d 0 (omega arith)) ∙
    ap (λ (l : List ℕ). d ∷ l) (rest ∙ ap (λ (i : ℕ). slice i t b) (sym (add-suc at m))) in
    sym (simp (last, take-set-le at b (at + m) d (omega arith), append_assoc))

pub fill_more : (at t left n : ℕ) (b : List ℕ) → 0 < left → at + left ≤ t → t ≤ length b
    → filled at t left n b ≡ filled at t (left - 1) (n / 10) (set b (at + (left - 1)) (48 + n % 10))
fill_more at t left n b p h k =
    let e : left ≡ suc (left - 1) = omega arith in
    ap (λ (i : ℕ). filled at t i n b) e ∙ fill_one at t (left - 1) n b (omega arith) k

pub fill_all : (at t n : ℕ) (b : List ℕ) → at ≤ t → filled at t 0 n b ≡ take t b
unfolding digits
fill_all at t n b h = simp (append-nil, add-zero, ← take-take at t b) (take-append-drop at (take t b))
