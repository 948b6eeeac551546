-- The steps that are drawn: each has a record of at most nine bytes, and so a run of 7,000 has room in 65,536.
use Rattle.std.proofs.Common.{◌≡◌, ℕ, zero, suc, ◌+◌, ◌-◌, ◌*◌, ◌%◌, ◌<◌, ◌≤◌, true, false, cond, eqb, List, [], ◌++◌, length, take, drop, sym, refl, ap, ◌∙◌, append-nil, add-zero, arith, length-append, take-append-drop, le-leb}
use borrow.Author.Tests.{eqb-false}
use Rattle.lists.proofs.Tests.{by_test}
use Rattle.protocol.specs.declared.Setup.TheVariants.{Chain}
use Rattle.protocol.specs.declared.Step.{Step}
use Rattle.protocol.specs.declared.Step.TheVariants.{Start, BeginRead, BeginWrite, Deliver, Lose, Repeat, Advance, Replace, Tell, Remove, GiveUp}
use Rattle.records.specs.Records.{two_bytes, four_bytes, content_of, record_of, is_start, is_writable, has_room, buffer_after}
use Rattle.records.proofs.Table.{record_size_lem}
use Rattle.lines.specs.Text.{pasted}
use Rattle.lines.proofs.Text.{length_pasted, pasted_twice}
use Rattle.draws.specs.{step_from, kind_from, step_drawn, seed_after, steps_drawn, records_of, bytes_drawn, most_steps}

-- the kind that is drawn is 1 to 10
drawn_kind : (draw : ℕ) → (1 ≤ kind_from draw) × (kind_from draw ≤ 10)
unfolding kind_from
drawn_kind draw = (omega arith, omega arith)

-- a kind is n, or above it
or_above : (P : Step → Type 0) (k n : ℕ) {x y : Step} → n ≤ k → P x → (n + 1 ≤ k → P y) → P (cond (eqb k n) x y)
or_above P k n least p above = by_test P (eqb k n) (λ is. p) (λ other. above (omega (arith, eqb-false k n other)))

-- what holds of a step of each kind holds of every step that is drawn
by_kind : (P : Step → Type 0) (draw a b : ℕ) → P (BeginRead (a % 1024)) → P (BeginWrite (a % 1024) b) → P (Deliver (a % 64) (b % 256)) → P (Lose (a % 64))
    → P (Repeat (a % 64)) → P (Advance (a % 8 + 1)) → P (Replace a) → P (Tell (a % 8 + 1)) → P (Remove (a % 8 + 1)) → P (GiveUp a) → P (step_from (kind_from draw) a b)
unfolding step_from
by_kind P draw a b p₁ p₂ p₃ p₄ p₅ p₆ p₇ p₈ p₉ p₁₀ = go (kind_from draw) (drawn_kind draw).0 (drawn_kind draw).1
  where
    go : (k : ℕ) → 1 ≤ k → k ≤ 10 → P (step_from k a b)
    go k least most =
        or_above P k 1 least p₁
        (λ h. or_above P k 2 h p₂
        (λ h. or_above P k 3 h p₃
        (λ h. or_above P k 4 h p₄
        (λ h. or_above P k 5 h p₅
        (λ h. or_above P k 6 h p₆
        (λ h. or_above P k 7 h p₇ (λ h. or_above P k 8 h p₈ (λ h. or_above P k 9 h p₉ (λ h. or_above P k 10 h p₁₀ (λ h. absurd (omega arith)))))))))))

-- it can be written
pub drawn_writable : (seed : ℕ) → is_writable (step_drawn seed) ≡ true
unfolding step_drawn
drawn_writable seed = by_kind (λ s. is_writable s ≡ true) _ _ _ refl refl refl refl refl refl refl refl refl refl

-- it is no start
pub drawn_no_start : (seed : ℕ) → is_start (step_drawn seed) ≡ false
unfolding step_drawn is_start
drawn_no_start seed = by_kind (λ s. is_start s ≡ false) _ _ _ refl refl refl refl refl refl refl refl refl refl

-- its record has at most nine bytes
content_short : (seed : ℕ) → length (content_of (step_drawn seed)) ≤ 6
unfolding step_drawn two_bytes four_bytes
content_short seed =
    by_kind (λ s. length (content_of s) ≤ 6) _ _ _ (omega arith) (omega arith) (omega arith) (omega arith) (omega arith) (omega arith) (omega arith) (omega arith) (omega arith) (omega arith)

pub drawn_short : (seed : ℕ) → length (record_of (step_drawn seed)) ≤ 9
drawn_short seed = omega (arith, record_size_lem (step_drawn seed), content_short seed)

-- ---- so many steps

-- the first of them, and the others
pub steps_more : (k seed : ℕ) → 0 < k → records_of (steps_drawn k seed) ≡ record_of (step_drawn seed) ++ records_of (steps_drawn (k - 1) (seed_after seed))
unfolding steps_drawn records_of
steps_more zero seed h = absurd (omega arith)
steps_more (suc k) seed h =
    let same : k ≡ suc k - 1 = omega arith in ap (λ (j : ℕ). record_of (step_drawn seed) ++ records_of (steps_drawn j (seed_after seed))) same

pub steps_longer : (k seed : ℕ) → 0 < k
    → length (records_of (steps_drawn k seed)) ≡ length (record_of (step_drawn seed)) + length (records_of (steps_drawn (k - 1) (seed_after seed)))
steps_longer k seed h = ap length (steps_more k seed h) ∙ length-append (record_of (step_drawn seed)) _

pub steps_none : (k seed : ℕ) → k ≡ 0 → records_of (steps_drawn k seed) ≡ []
unfolding steps_drawn records_of
steps_none k seed e = rw e refl

pub steps_short : (k seed : ℕ) → length (records_of (steps_drawn k seed)) ≤ 9 * k
unfolding steps_drawn records_of
steps_short zero seed = omega arith
steps_short (suc k) seed = omega (arith, length-append (record_of (step_drawn seed)) (records_of (steps_drawn k (seed_after seed))), drawn_short seed, steps_short k (seed_after seed))

-- ---- the whole run

pub bytes_are : (seed n steps : ℕ) → bytes_drawn seed n steps ≡ record_of (Start (Chain n)) ++ records_of (steps_drawn steps seed)
unfolding bytes_drawn records_of
bytes_are seed n steps = refl

pub start_size : (n : ℕ) → length (record_of (Start (Chain n))) ≡ 4
start_size n = record_size_lem (Start (Chain n))

pub bytes_size : (seed n steps : ℕ) → length (bytes_drawn seed n steps) ≡ 4 + length (records_of (steps_drawn steps seed))
bytes_size seed n steps = ap length (bytes_are seed n steps) ∙ length-append (record_of (Start (Chain n))) _ ∙ ap (λ (k : ℕ). k + length (records_of (steps_drawn steps seed))) (start_size n)

-- 7,000 STEPS ALWAYS HAVE ROOM IN 65,536 BYTES
pub drawn_room : (seed n steps : ℕ) → steps ≤ most_steps → length (bytes_drawn seed n steps) ≤ 65536
drawn_room seed n steps h = omega (arith, bytes_size seed n steps, steps_short steps seed)

-- ---- written one after the other

-- nothing, written anywhere
pub pasted_none : (b : List ℕ) (at : ℕ) → pasted b at [] ≡ b
pasted_none b at = ap (λ (l : List ℕ). l ++ drop (at + 0) b) (append-nil (take at b)) ∙ ap (λ (i : ℕ). take at b ++ drop i b) (add-zero at) ∙ take-append-drop at b

-- a step's record, written where it has room
pub written_is : (b : List ℕ) (at : ℕ) (s : Step) → is_writable s ≡ true → at + length (record_of s) ≤ length b → buffer_after b at s ≡ pasted b at (record_of s)
unfolding buffer_after has_room
written_is b at s w h = rw (w, le-leb _ _ h) refl

-- the first of so many steps, written by itself
pub written_more : (b : List ℕ) (at k seed : ℕ) → 0 < k → at + length (records_of (steps_drawn k seed)) ≤ length b
    → pasted b at (records_of (steps_drawn k seed))
    ≡ pasted (buffer_after b at (step_drawn seed)) (at + length (record_of (step_drawn seed))) (records_of (steps_drawn (k - 1) (seed_after seed)))
written_more b at k seed some h =
    let first : at + length (record_of (step_drawn seed)) ≤ length b = omega (arith, steps_longer k seed some) in
    ap (pasted b at) (steps_more k seed some) ∙
    sym (pasted_twice b at (record_of (step_drawn seed)) first (records_of (steps_drawn (k - 1) (seed_after seed)))) ∙
    ap (λ (c : List ℕ). pasted c (at + length (record_of (step_drawn seed))) (records_of (steps_drawn (k - 1) (seed_after seed))))
    (sym (written_is b at (step_drawn seed) (drawn_writable seed) first))

pub length_written : (b : List ℕ) (at : ℕ) (s : Step) → is_writable s ≡ true → at + length (record_of s) ≤ length b → length (buffer_after b at s) ≡ length b
length_written b at s w h = ap length (written_is b at s w h) ∙ length_pasted b at (record_of s) h

-- one turn of the writer: what it has written, and what is left
module _ (b : List ℕ) (at k seed : ℕ) (some : 0 < k) (room : at + length (records_of (steps_drawn k seed)) ≤ length b) (b' : List ℕ) (size seed' : ℕ) (s : Step)
    (drew : s ≡ step_drawn seed) (after : seed' ≡ seed_after seed) (sized : size ≡ length (record_of s)) (wrote : b' ≡ buffer_after b at s) where
  first_size : size ≡ length (record_of (step_drawn seed))
  first_size = sized ∙ ap (λ (x : Step). length (record_of x)) drew

  first_wrote : b' ≡ buffer_after b at (step_drawn seed)
  first_wrote = wrote ∙ ap (buffer_after b at) drew

  pub turn_written : pasted b' (at + size) (records_of (steps_drawn (k - 1) seed')) ≡ pasted b at (records_of (steps_drawn k seed))
  turn_written =
      (λ j. pasted (first_wrote j) (at + first_size j) (records_of (steps_drawn (k - 1) (after j)))) ∙ sym (written_more b at k seed some room)

  pub turn_size : at + size + length (records_of (steps_drawn (k - 1) seed')) ≡ at + length (records_of (steps_drawn k seed))
  turn_size = omega (arith, first_size, steps_longer k seed some, ap (λ (x : ℕ). length (records_of (steps_drawn (k - 1) x))) after)

  pub turn_length : length b' ≡ length b
  turn_length =
      ap length first_wrote ∙ length_written b at (step_drawn seed) (drawn_writable seed) (omega (arith, room, steps_longer k seed some))

-- ---- the whole run, written

module _ (b : List ℕ) (seed n steps : ℕ) (room : length (bytes_drawn seed n steps) ≤ length b) (b₁ : List ℕ) (began : b₁ ≡ buffer_after b 0 (Start (Chain n))) where
  start_room : 0 + length (record_of (Start (Chain n))) ≤ length b
  start_room = omega (arith, room, bytes_size seed n steps, start_size n)

  -- the steps have room behind the start
  pub rest_room : 4 + length (records_of (steps_drawn steps seed)) ≤ length b₁
  rest_room = omega (arith, room, bytes_size seed n steps, ap length began, length_written b 0 (Start (Chain n)) refl start_room)

  pub run_written : pasted b₁ 4 (records_of (steps_drawn steps seed)) ≡ bytes_drawn seed n steps ++ drop (length (bytes_drawn seed n steps)) b
  run_written =
      let first = record_of (Start (Chain n)) in
      let rest = records_of (steps_drawn steps seed) in
      let place : 4 ≡ 0 + length first = omega (arith, start_size n) in
      let none : 0 + length (first ++ rest) ≡ length (first ++ rest) = omega arith in
      (λ j. pasted ((began ∙ written_is b 0 (Start (Chain n)) refl start_room) j) (place j) rest) ∙
      pasted_twice b 0 first start_room rest ∙
      ap (λ (i : ℕ). first ++ rest ++ drop i b) none ∙
      ap (λ (l : List ℕ). l ++ drop (length l) b) (sym (bytes_are seed n steps))
