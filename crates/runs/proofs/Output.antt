-- What turns leave in a lent buffer: its whole lines as far as they fit, or a piece of the output.
use mathlib.Core.Path.{◌≡◌, refl, ap, sym, ◌∙◌, subst}
use mathlib.Core.Bool.{Bool, true, false, cond}
use mathlib.Core.List.{List, [], ◌∷◌, ◌++◌, append_assoc, append-nil}
use Prim.Native.Nat.{ℕ, zero, suc, ◌+◌, ◌<◌, ◌≤◌}
use native.Mathlib.Nat.{add-zero}
use native.Mathlib.Omega.{arith}
use lib.Dec.{leb, T}
use lib.ListN.{length, take, drop, replicate, length-append, take-append-drop}
use lib.Seq.{length-take-le}
use borrow.Author.Tests.{le-leb, lt-leb, lt-ltb, leb-true, leb-false}
use Rattle.lines.specs.Text.{pasted, put_in}
use Rattle.line_lengths.proofs.Laws.{longest}
use Rattle.lines.proofs.Text.{put_length, put_short, put_room, put_there, pasted_twice}
use Rattle.limits.specs as limits
use Rattle.switch.specs.Numbers.{switch_cells}
use Rattle.operations.specs.{none_open}
use Rattle.chain.specs.{empty_cells}
use Rattle.waiting.specs.declared.Packet.{Packet}
use Rattle.waiting.specs.Waiting.{blank, none_wait}
use Rattle.protocol.specs.Steps.{Machine, machine}
use Rattle.std.specs.Prelude.{None, Ok}
use Rattle.turns.specs.declared.Run.{Run}
use Rattle.turns.specs.declared.Ran.{Ran}
use Rattle.turns.specs.Turns.{Standing, continued, next_printed, first_printed}
use Rattle.runs.specs.Runs.{lines_from, joined, fitting, holding, untouched, lines_on, lines_of, printed}
use Rattle.turns.specs.Promises.{Turned, turned_to, turned, goes_on, place_after, last_place, Stands, stands_as, one_turn}
use Rattle.runs.specs.Promises.{last_line, first_piece, next_piece, InUse, to_print}
use Rattle.turns.proofs.Filling.{goes_low, turned_stops, fewer_at_end}
use Rattle.runs.proofs.Ends.{over_next, over_prints}
use Rattle.runs.proofs.Whole.{printed_short, next_short, begins_short}

-- ---- bytes at a place

pasted_none : (b : List ℕ) (at : ℕ) → pasted b at [] ≡ b
pasted_none b at = (λ j. append-nil (take at b) j ++ drop (add-zero at j) b) ∙ take-append-drop at b

-- the place after n bytes
pub place_is : (used n : ℕ) → used + n ≤ last_place → place_after used n ≡ used + n
unfolding place_after
place_is used n h = omega arith

-- ---- lines as far as they fit

-- none past the end of the buffer
fitting_past : (room used : ℕ) (ls : List (List ℕ)) → room < used → fitting room used ls ≡ []
unfolding fitting
fitting_past room used [] h = refl
fitting_past room used (l ∷ ls) h = rw (lt-leb (used + length l) room (omega arith))

-- a run that is over leaves none
fitting_over : (room used k : ℕ) (input : List ℕ) (u : Standing) → u.over ≡ true → joined (fitting room used (lines_from k input u)) ≡ []
unfolding fitting lines_from joined
fitting_over room used zero input u e = refl
fitting_over room used (suc k) input u e = rw (over_next input u e) (go (leb (used + 0) room) (fitting_over room (used + 0) k input (continued u (Ok None)).then refl))
  where
    go : (t : Bool) → joined (fitting room (used + 0) (lines_from k input (continued u (Ok None)).then)) ≡ []
        → joined (cond t ([] ∷ fitting room (used + 0) (lines_from k input (continued u (Ok None)).then)) []) ≡ []
    go true later = later
    go false later = refl

-- a line, and those that follow
fitting_next : (b : List ℕ) (used : ℕ) (l : List ℕ) (ls : List (List ℕ))
    → pasted (put_in b used l) (used + length l) (joined (fitting (length b) (used + length l) ls)) ≡ pasted b used (joined (fitting (length b) used (l ∷ ls)))
unfolding fitting joined
fitting_next b used l ls = go (leb (used + length l) (length b)) refl
  where
    go : (t : Bool) → leb (used + length l) (length b) ≡ t
        → pasted (put_in b used l) (used + length l) (joined (fitting (length b) (used + length l) ls)) ≡ pasted b used (joined (cond t (l ∷ fitting (length b) (used + length l) ls) []))
    go true e =
        let fits : used + length l ≤ length b = leb-true (used + length l) (length b) e in
        rw (put_room b used l fits) (pasted_twice b used l fits (joined (fitting (length b) (used + length l) ls)))
    go false e =
        let short : length b < used + length l = leb-false (used + length l) (length b) e in
        rw (put_short b used l short, fitting_past (length b) (used + length l) ls short) (pasted_none b (used + length l) ∙ sym (pasted_none b used))

-- ---- all turns

-- a turn is done where the run is not over
goes_all : (k used : ℕ) → used ≤ last_place → goes_on false (suc k) used last_place ≡ true
unfolding goes_on
goes_all k used h = rw (lt-ltb 0 (suc k) (omega arith)) (le-leb used last_place h)

pub over_stops : (over : Bool) (k used stop : ℕ) → over ≡ true → goes_on over k used stop ≡ false
unfolding goes_on
over_stops over k used stop e = rw e

abbrev Held : ℕ → List ℕ → Standing → List ℕ → ℕ → Turned → Type 0
Held k input u b used t = (t.used ≡ used + length (joined (lines_from k input u))) × (t.out ≡ pasted b used (joined (fitting (length b) used (lines_from k input u))))

turned_holds : (k : ℕ) (input : List ℕ) (u : Standing) (b : List ℕ) (used : ℕ) → used + length (joined (lines_from k input u)) ≤ last_place → Held k input u b used (turned k last_place input u b used)
unfolding turned lines_from joined fitting
turned_holds zero input u b used h = (omega arith, sym (pasted_none b used))
turned_holds (suc k) input u b used h = go u.over refl (λ v b' n few. turned_holds k input v b' n few)
  where
    go : (t : Bool) → u.over ≡ t
        → ((v : Standing) (b' : List ℕ) (n : ℕ) → n + length (joined (lines_from k input v)) ≤ last_place → Held k input v b' n (turned k last_place input v b' n))
        → Held (suc k) input u b used (turned (suc k) last_place input u b used)
    go true e later =
        rw (turned_stops (suc k) last_place input u b used (over_stops u.over (suc k) used last_place e))
        (rw (over_prints (suc k) input u e) (omega arith), rw (fitting_over (length b) used (suc k) input u e) (sym (pasted_none b used)))
    go false e later =
        let line = (next_printed input u).line in
        let rest = lines_from k input (next_printed input u).then in
        let goes : goes_on u.over (suc k) used last_place ≡ true = rw e (goes_all k used (omega arith)) in
        let more : length (line ++ joined rest) ≡ length line + length (joined rest) = length-append line (joined rest) in
        let place : place_after used (length line) ≡ used + length line = place_is used (length line) (omega (arith, more)) in
        let held = later (next_printed input u).then (put_in b used line) (used + length line) (omega (arith, more)) in
        rw (goes, place) (held.0 ∙ omega (arith, more), held.1 ∙ rw (put_length b used line) (fitting_next b used line rest))

-- ---- the whole output in a lent buffer

-- the first record, and all turns after it
pub print_holds : (input out : List ℕ) (switch store opens : List ℕ) (row : List Packet) (buffer : List ℕ) (ran : Ran)
    → row ≡ replicate limits.waiting blank → Stands ran switch store opens row buffer (one_turn (length input) out 0 (first_printed (machine (replicate switch_cells 0) empty_cells none_open (none_wait row)) input))
    → (n : ℕ) (b : List ℕ) → n ≡ (turned ran.run.left last_place input (stands_as ran.run switch store opens row) buffer ran.used).used
    → b ≡ (turned ran.run.left last_place input (stands_as ran.run switch store opens row) buffer ran.used).out
    → (n ≡ length (printed input)) × (b ≡ holding out (lines_of input))
unfolding printed lines_on holding joined
print_holds input out switch store opens row buffer ran blanks stands n b e f =
    let g : Stands ran switch store opens row buffer (one_turn (length input) out 0 (first_printed untouched input)) =
    subst (λ (l : List Packet). Stands ran switch store opens row buffer (one_turn (length input) out 0 (first_printed (machine (replicate switch_cells 0) empty_cells none_open (none_wait l)) input))) blanks stands in
    let line = (first_printed untouched input).line in
    let rest = lines_from (length input) input (first_printed untouched input).then in
    let more : length (line ++ joined rest) ≡ length line + length (joined rest) = length-append line (joined rest) in
    let short : length (line ++ joined rest) ≤ 3276800 = printed_short input in
    let place : place_after 0 (length line) ≡ 0 + length line = place_is 0 (length line) (omega (arith, more, short)) in
    let held = turned_holds (length input) input (first_printed untouched input).then (put_in out 0 line) (0 + length line) (omega (arith, more, short)) in
    let same : turned ran.run.left last_place input (stands_as ran.run switch store opens row) buffer ran.used ≡ turned (length input) last_place input (first_printed untouched input).then (put_in out 0 line) (0 + length line) =
    rw (g.stands, g.place, g.there, g.left, place) refl in
    (e ∙ ap (λ (t : Turned). t.used) same ∙ held.0 ∙ omega (arith, more), f ∙ ap (λ (t : Turned). t.out) same ∙ held.1 ∙ rw (put_length out 0 line) (fitting_next out 0 line rest))

-- ---- a piece of the output

-- the piece is what the turns print, and the rest is still to be printed
abbrev Parted : ℕ → List ℕ → Standing → List ℕ → ℕ → Turned → Type 0
Parted k input u b used t =
    (t.used ≤ length b) × (length t.out ≡ length b) × (take t.used t.out ++ joined (lines_from t.left input t.then) ≡ take used b ++ joined (lines_from k input u))

pub turned_piece : (k stop : ℕ) (input : List ℕ) (u : Standing) (b : List ℕ) (used : ℕ) → stop + longest ≤ length b → length b ≤ last_place → used ≤ length b → Parted k input u b used (turned k stop input u b used)
unfolding turned lines_from joined
turned_piece zero stop input u b used room small h = (h, refl, refl)
turned_piece (suc k) stop input u b used room small h = go (goes_on u.over (suc k) used stop) refl (λ v b' n r s i. turned_piece k stop input v b' n r s i)
  where
    go : (t : Bool) → goes_on u.over (suc k) used stop ≡ t
        → ((v : Standing) (b' : List ℕ) (n : ℕ) → stop + longest ≤ length b' → length b' ≤ last_place → n ≤ length b' → Parted k input v b' n (turned k stop input v b' n))
        → Parted (suc k) input u b used (cond t
        (turned k stop input (next_printed input u).then (put_in b used (next_printed input u).line) (place_after used (length (next_printed input u).line))) (turned_to u (suc k) b used))
    go false e later = (h, refl, refl)
    go true e later =
        let line = (next_printed input u).line in
        let rest = joined (lines_from k input (next_printed input u).then) in
        let fits : used + length line ≤ length b = omega (arith, goes_low u.over (suc k) used stop e, next_short input u) in
        let long : length (put_in b used line) ≡ length b = put_length b used line in
        let part = later (next_printed input u).then (put_in b used line) (used + length line) (omega (arith, long)) (omega (arith, long)) (omega (arith, long)) in
        rw (place_is used (length line) (omega arith))
        (omega (arith, part.0, long), part.1 ∙ long, part.2 ∙ ap (λ (l : List ℕ). l ++ rest) (put_there b used line fits) ∙ append_assoc (take used b) line rest)

-- in the code's terms
module _ (input : List ℕ) (stop : ℕ) (r : Run) (switch store opens : List ℕ) (row : List Packet) (b : List ℕ) (used : ℕ) (room : stop + longest ≤ length b) (small : length b ≤ last_place) (h : used ≤ length b)
    (ran : Ran) (switch' store' opens' : List ℕ) (row' : List Packet) (b' : List ℕ)
    (g : Stands ran switch' store' opens' row' b' (turned r.left stop input (stands_as r switch store opens row) b used)) where
  parts : Parted r.left input (stands_as r switch store opens row) b used (turned r.left stop input (stands_as r switch store opens row) b used)
  parts = turned_piece r.left stop input (stands_as r switch store opens row) b used room small h

  pub piece_used : InUse ran.used b'
  piece_used =
      let within : ran.used ≤ length b' = rw (g.place, g.there) (omega (arith, parts.0, parts.1)) in
      (within, sym (length-take-le ran.used b' within))

  pub piece_parts : take ran.used b' ++ to_print input ran.run switch' store' opens' row' ≡ take used b ++ to_print input r switch store opens row
  unfolding to_print
  piece_parts = rw (g.place, g.there, g.stands, g.left) parts.2

-- the first piece: the first record, and turns after it
module _ (input switch store opens : List ℕ) (row : List Packet) (b : List ℕ) where
  abbrev lent : List Packet → Machine
  lent l = machine switch store opens (none_wait l)

  pub first_parts : length b ≡ 65536 → row ≡ replicate limits.waiting blank → (begun : Ran) (switch₁ store₁ opens₁ b₁ : List ℕ)
      → Stands begun switch₁ store₁ opens₁ row b₁ (one_turn (length input) b 0 (first_printed (lent row) input))
      → (ran : Ran) (switch₂ store₂ opens₂ : List ℕ) (row₂ : List Packet) (b₂ : List ℕ)
      → Stands ran switch₂ store₂ opens₂ row₂ b₂ (turned begun.run.left last_line input (stands_as begun.run switch₁ store₁ opens₁ row) b₁ begun.used)
      → InUse ran.used b₂ × (take ran.used b₂ ++ to_print input ran.run switch₂ store₂ opens₂ row₂ ≡ joined (lines_on (lent (replicate limits.waiting blank)) input))
      × Stands ran switch₂ store₂ opens₂ row₂ b₂ (first_piece (lent (replicate limits.waiting blank)) input b)
  unfolding lines_on joined to_print first_piece
  first_parts long blanks begun switch₁ store₁ opens₁ b₁ f ran switch₂ store₂ opens₂ row₂ b₂ g =
      let line = (first_printed (lent row) input).line in
      let short : length line ≤ longest = begins_short (lent row) input in
      let place : begun.used ≡ 0 + length line = f.place ∙ place_is 0 (length line) (omega arith) in
      let wide : length b₁ ≡ 65536 = ap length f.there ∙ put_length b 0 line ∙ long in
      let room : last_line + longest ≤ length b₁ = omega (arith, wide) in
      let small : length b₁ ≤ last_place = omega (arith, wide) in
      let within : begun.used ≤ length b₁ = omega (arith, wide, place, short) in
      let there : take begun.used b₁ ≡ line = rw (place, f.there) (put_there b 0 line (omega (arith, long, short))) in
      let rest : to_print input begun.run switch₁ store₁ opens₁ row ≡ joined (lines_from (length input) input (first_printed (lent row) input).then) = rw (f.stands, f.left) refl in (
        piece_used input last_line begun.run switch₁ store₁ opens₁ row b₁ begun.used room small within ran switch₂ store₂ opens₂ row₂ b₂ g,
        piece_parts input last_line begun.run switch₁ store₁ opens₁ row b₁ begun.used room small within ran switch₂ store₂ opens₂ row₂ b₂ g ∙ (λ j. there j ++ rest j)
            ∙ ap (λ (l : List Packet). (first_printed (lent l) input).line ++ joined (lines_from (length input) input (first_printed (lent l) input).then)) blanks,
        subst (Stands ran switch₂ store₂ opens₂ row₂ b₂)
            ((λ j. turned (f.left j) last_line input (f.stands j) (f.there j) (f.place j)) ∙ ap (λ (l : List Packet). first_piece (lent l) input b) blanks) g,
      )

-- the pieces that follow
module _ (input : List ℕ) (r : Run) (switch store opens : List ℕ) (row : List Packet) (b : List ℕ) where
  pub next_parts : length b ≡ 65536 → (ran : Ran) (switch₁ store₁ opens₁ : List ℕ) (row₁ : List Packet) (b₁ : List ℕ)
      → Stands ran switch₁ store₁ opens₁ row₁ b₁ (turned r.left last_line input (stands_as r switch store opens row) b 0)
      → InUse ran.used b₁ × (take ran.used b₁ ++ to_print input ran.run switch₁ store₁ opens₁ row₁ ≡ to_print input r switch store opens row) × (goes_on r.over r.left 0 0 ≡ true → ran.run.left < r.left)
      × Stands ran switch₁ store₁ opens₁ row₁ b₁ (next_piece r switch store opens row input b)
  unfolding goes_on next_piece
  next_parts long ran switch₁ store₁ opens₁ row₁ b₁ g =
      let room : last_line + longest ≤ length b = omega (arith, long) in
      let small : length b ≤ last_place = omega (arith, long) in (
        piece_used input last_line r switch store opens row b 0 room small (omega arith) ran switch₁ store₁ opens₁ row₁ b₁ g,
        piece_parts input last_line r switch store opens row b 0 room small (omega arith) ran switch₁ store₁ opens₁ row₁ b₁ g,
        λ e. rw g.left (fewer_at_end last_line input r switch store opens row b 0 e),
        g,
      )

-- where no piece follows, nothing is left to print
pub nothing_left : (input : List ℕ) (r : Run) (switch store opens : List ℕ) (row : List Packet) → goes_on r.over r.left 0 0 ≡ false → to_print input r switch store opens row ≡ []
unfolding to_print stands_as lines_from joined goes_on
nothing_left input r switch store opens row e = go r.over r.left refl refl e
  where
    go : (over : Bool) (k : ℕ) → r.over ≡ over → r.left ≡ k → goes_on over k 0 0 ≡ false → joined (lines_from r.left input (stands_as r switch store opens row)) ≡ []
    go true k o l f = over_prints r.left input (stands_as r switch store opens row) o
    go false zero o l f = rw l refl
    go false (suc k) o l f = absurd (subst T (rw (lt-ltb 0 (suc k) (omega arith)) at f) tt)
