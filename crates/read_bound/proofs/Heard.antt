-- Document 02, Req 06: 'after at most four of its deliveries the operation has finished', and 'None of these deliveries is refused'.
use mathlib.Core.Path.{◌≡◌, refl, sym, ap, ◌∙◌, subst}
use mathlib.Core.Bool.{Bool, true, false, cond}
use mathlib.Core.List.{List, [], ◌∷◌, ◌++◌}
use mathlib.Core.Logic.{◌⊎◌, inl, inr}
use Prim.Native.Nat.{ℕ, ◌+◌, ◌≤◌, ◌<◌}
use native.Mathlib.Decide.{ℕ_discrete, dec_lt}
use native.Mathlib.Omega.{arith}
use lib.Dec.{eqb, ltb}
use lib.ListN.{length}
use borrow.Author.Tests.{eq-eqb, ne_eqb, eqb-true, eqb-false, lt-ltb, ltb-false}
use Rattle.lists.proofs.Tests.{untrue, both}
use Rattle.limits.specs as limits
use Rattle.history.specs.History.{History, Finished}
use Rattle.history.proofs.Entries.{Entry}
use Rattle.waiting.specs.declared.Packet.{Packet}
use Rattle.waiting.specs.Waiting.{held, look_at, edited, none_wait}
use Rattle.waiting.proofs.Laws as waiting
use Rattle.protocol.specs.Answers.{is_accepted}
use Rattle.protocol.specs.declared.Setup.{Setup}
use Rattle.protocol.specs.Starts.{start_refused}
use Rattle.protocol.specs.declared.Answer.{Answer}
use Rattle.protocol.specs.declared.Answer.TheVariants.{Done, Finished as FinishedWith, FinishedContext, Refused}
use Rattle.protocol.specs.declared.Refusal.{Refusal}
use Rattle.protocol.specs.declared.Refusal.TheVariants.{Format, BufferTooShort}
use Rattle.protocol.specs.declared.Message.{Message}
use Rattle.protocol.specs.declared.Step.{Step}
use Rattle.protocol.specs.declared.Step.TheVariants.{Deliver}
use Rattle.protocol.specs.Messages.{message_of}
use Rattle.protocol.specs.Decisions.{Outcome, keeping, refusing}
use Rattle.protocol.specs.Steps.{Machine, given_by, outcome_of, decided, is_malformed, decided_in, position_of, answer_to, after, started}
use Rattle.protocol.proofs.Refusals.{refused_unchanged}
use Rattle.linearizability.specs.Run.{noted, history_from, history_of, open_noted, open_from, open_of}
use Rattle.linearizability.proofs.Invariant.{refused_same, Good, done, noted_refused, refused_stays}
use Rattle.linearizability.proofs.OneOrder.{good_start, good_after}
use Rattle.linearizability.proofs.Noted.{noted_as_lem}
use Rattle.linearizability.proofs.Limits.{reached, machine_of, good_reached, good_run}
use Rattle.linearizability.proofs.Opens.{Same, same_changed, same_reached, same_run, length_reached, change}
use Rattle.linearizability.proofs.Runs.{history_append}
use Rattle.linearizability.proofs.Edits.{takes_out, Edits, Known, edits_decided, known_after, known_start, known_reached}
use Rattle.read_bound.specs.Follow.{ReadStage, AtSwitch, AtReplica, AtReadReplica, Replied, NoRead, stage_of, asks_as, place_as, delivers_as, hinders_as, Place, at, gone, moved_up, place_next, followed, delivers, delivered_by, hinders, is_hindered, place_after, deliveries, Unhindered, most_deliveries, asks_for, ReadAtSwitch}
use Rattle.protocol.specs.Roles.{Role, Reads, Writes, Delivers, Loses, Repeats, GivesUp, Removes, Copies, Other, role_of, position_as}
use Rattle.protocol.proofs.Effects.{takes_as, delivery}
use Rattle.read_bound.proofs.Positions.{still_there}
use Rattle.read_bound.proofs.Members.{chain_kept}
use Rattle.read_bound.proofs.Stages.{StageAs, Stage, stage_most, stage_kept, Heeded, finished_noted, heeded_noted, Heard, heard_fewer}
use Rattle.read_bound.proofs.Own.{own_step}

-- ---- accepted or refused

accepted_case : (a : Answer) → (is_accepted a ≡ true) ⊎ ((r : Refusal) × (a ≡ Refused r))
accepted_case Done = inl refl
accepted_case (FinishedWith o v f) = inl refl
accepted_case (FinishedContext o v) = inl refl
accepted_case (Refused r) = inr (r, refl)

-- an accepted step is decided by its rule, with 64 places or more
decided_is : (m : Machine) (x : Step) → is_accepted (outcome_of m x).decision.answer ≡ true
    → waiting.Roomy m.waiting × (outcome_of m x ≡ decided (given_by m) (look_at m.waiting.packets (position_of x)) x)
unfolding decided_in refusing
decided_is m x = go (is_malformed x) (ltb (length m.waiting.packets) limits.waiting) refl
  where
    u : Outcome
    u = decided (given_by m) (look_at m.waiting.packets (position_of x)) x

    go : (b c : Bool) → ltb (length m.waiting.packets) limits.waiting ≡ c
        → is_accepted (cond b (keeping (given_by m) (refusing Format)) (cond c (keeping (given_by m) (refusing BufferTooShort)) (decided (given_by m) (look_at m.waiting.packets (position_of x)) x))).decision.answer ≡ true
        → waiting.Roomy m.waiting × (cond b (keeping (given_by m) (refusing Format)) (cond c (keeping (given_by m) (refusing BufferTooShort)) (decided (given_by m) (look_at m.waiting.packets (position_of x)) x)) ≡ decided (given_by m) (look_at m.waiting.packets (position_of x)) x)
    go true c t e = untrue e
    go false true t e = untrue e
    go false false t e = (ltb-false (length m.waiting.packets) limits.waiting t, refl)

-- ---- one accepted step

module _ {m : Machine} {h : History} {es : List Entry} (g : Good m h es) (known : Known m) {l : List ℕ} (opens : Same m.opens l) (o k i : ℕ)
    (wide : waiting.Roomy m.waiting) (inside : i < held m.waiting) (st : Stage m.store o k (message_of (look_at m.waiting.packets i))) (live : Heeded h l o) where
  abbrev outcome : Step → Outcome
  outcome x = decided (given_by m) (look_at m.waiting.packets (position_of x)) x

  -- what holds after an outcome of step x
  abbrev After : Step → Outcome → ℕ → Place → Type 0
  After x u k' w = Heard (done m u) (noted x u.decision.answer h) (open_noted x u.decision.answer h l) o k' w

  -- the packet is another than the one that the step takes out, if it takes one
  module _ (x : Step) (acc : is_accepted (outcome x).decision.answer ≡ true) (free : hinders m o x i ≡ false) where
    edits : Edits x (held m.waiting) (outcome x).decision
    edits = edits_decided g known x

    moves_on : ((outcome x).decision.edit.take ≡ true → (outcome x).decision.edit.at ≡ i → ⊥)
        → After x (outcome x) k (at (cond (outcome x).decision.edit.take (moved_up (outcome x).decision.edit.at i) i))
    moves_on n =
        let there = still_there m.waiting wide g.exact x (outcome x).decision edits i inside n in (
          there.0,
          subst (λ (p : Packet). Stage (outcome x).store o k (message_of p)) (sym there.1)
              (stage_kept (chain_kept g (look_at m.waiting.packets (position_of x)) o i x free) o k k (omega arith) (message_of (look_at m.waiting.packets i)) st),
          heeded_noted m i x (outcome x).decision.answer h l o free live,
        )

    -- a step that takes none out
    stays : takes_out x (outcome x).decision.answer ≡ false → After x (outcome x) (k + 0) (at i)
    stays none =
        let kept : (outcome x).decision.edit.take ≡ false = edits.takes ∙ none in
        heard_fewer (done m (outcome x)) (noted x (outcome x).decision.answer h) (open_noted x (outcome x).decision.answer h l) o k (k + 0) (at i) (omega arith)
        (subst (λ (b : Bool). After x (outcome x) k (at (cond b (moved_up (outcome x).decision.edit.at i) i))) kept (moves_on (λ t. untrue (sym kept ∙ t))))

    -- one that takes the packet at position p out
    moved : (p : ℕ) → position_of x ≡ p → takes_out x (outcome x).decision.answer ≡ true → (p ≡ i → ⊥) → After x (outcome x) (k + 0) (at (moved_up p i))
    moved p e takes n =
        let t : (outcome x).decision.edit.take ≡ true = edits.takes ∙ takes in
        let is : (outcome x).decision.edit.at ≡ p = edits.at_is t ∙ e in
        heard_fewer (done m (outcome x)) (noted x (outcome x).decision.answer h) (open_noted x (outcome x).decision.answer h l) o k (k + 0) (at (moved_up p i)) (omega arith)
        (subst (λ (q : ℕ). After x (outcome x) k (at (moved_up q i))) is
        (subst (λ (b : Bool). After x (outcome x) k (at (cond b (moved_up (outcome x).decision.edit.at i) i))) t (moves_on (λ a d. n (sym is ∙ d)))))

  abbrev Next : Step → Outcome → Type 0
  Next x u = After x u (k + cond (delivers x i) 1 0) (place_next x (held m.waiting) (held (edited m.waiting u.decision.edit)) i)

  -- every step but a delivery of the packet
  next : (x : Step) → is_accepted (outcome x).decision.answer ≡ true → hinders m o x i ≡ false → (role_of x ≡ Delivers i → ⊥) → Next x (outcome x)
  unfolding position_of
  next x acc free own = go (role_of x) refl
    where
      go : (r : Role) → role_of x ≡ r → After x (outcome x) (k + cond (delivers_as r i) 1 0) (place_as r (held m.waiting) (held (edited m.waiting (outcome x).decision.edit)) i)
      go (Reads xs) e = stays x acc free (rw e refl)
      go (Writes y v) e = stays x acc free (rw e refl)
      go (Delivers p) e =
          let other : p ≡ i → ⊥ = λ d. own (e ∙ ap Delivers d) in
          rw (ne_eqb p i other) (moved x acc free p (ap position_as e) (ap (λ (j : Role). takes_as j (outcome x).decision.answer) e ∙ acc) other)
      go (Loses p) e =
          let off : eqb p i ≡ false = sym (ap (λ (j : Role). hinders_as m o j i) e) ∙ free in
          rw off (moved x acc free p (ap position_as e) (ap (λ (j : Role). takes_as j (outcome x).decision.answer) e ∙ acc) (eqb-false p i off))
      go (Repeats p) e = stays x acc free (rw e refl)
      go (GivesUp p) e = stays x acc free (rw e refl)
      go (Removes r) e = stays x acc free (rw e refl)
      go Copies e = stays x acc free (rw e refl)
      go Other e = stays x acc free (rw e refl)

  -- a delivery of the packet
  next_own : (choice : ℕ) → Next (Deliver i choice) (outcome_of m (Deliver i choice))
  next_own choice = rw (eq-eqb i i refl) (own_step g wide opens i choice o k inside live (known i inside) st).1

-- the step is a delivery of the packet at position i, or it is none
own_case : (x : Step) (i : ℕ) → ((choice : ℕ) × (x ≡ Deliver i choice)) ⊎ (role_of x ≡ Delivers i → ⊥)
own_case x i = go (role_of x) refl
  where
    go : (r : Role) → role_of x ≡ r → ((choice : ℕ) × (x ≡ Deliver i choice)) ⊎ (role_of x ≡ Delivers i → ⊥)
    go (Reads xs) e = inr (λ d. let f : Reads xs ≡ Delivers i = sym e ∙ d in let z : ◌≡◌ {A = ℕ} 0 1 = cc in omega (arith, z))
    go (Writes y v) e = inr (λ d. let f : Writes y v ≡ Delivers i = sym e ∙ d in let z : ◌≡◌ {A = ℕ} 0 1 = cc in omega (arith, z))
    go (Delivers p) e = elim (ℕ_discrete p i) [
      | yes q ↦ inl (delivery x i (e ∙ ap Delivers q))
      | no n ↦ inr (λ d. n (let f : Delivers p ≡ Delivers i = sym e ∙ d in ap position_as f))
    ]
    go (Loses p) e = inr (λ d. let f : Loses p ≡ Delivers i = sym e ∙ d in let z : ◌≡◌ {A = ℕ} 0 1 = cc in omega (arith, z))
    go (Repeats p) e = inr (λ d. let f : Repeats p ≡ Delivers i = sym e ∙ d in let z : ◌≡◌ {A = ℕ} 0 1 = cc in omega (arith, z))
    go (GivesUp p) e = inr (λ d. let f : GivesUp p ≡ Delivers i = sym e ∙ d in let z : ◌≡◌ {A = ℕ} 0 1 = cc in omega (arith, z))
    go (Removes r) e = inr (λ d. let f : Removes r ≡ Delivers i = sym e ∙ d in let z : ◌≡◌ {A = ℕ} 0 1 = cc in omega (arith, z))
    go Copies e = inr (λ d. let f : Copies ≡ Delivers i = sym e ∙ d in let z : ◌≡◌ {A = ℕ} 0 1 = cc in omega (arith, z))
    go Other e = inr (λ d. let f : Other ≡ Delivers i = sym e ∙ d in let z : ◌≡◌ {A = ℕ} 0 1 = cc in omega (arith, z))

-- ---- one step

accepted_step : {m : Machine} {h : History} {es : List Entry} (g : Good m h es) → Known m → {l : List ℕ} → Same m.opens l → (o k i : ℕ) (x : Step) → is_accepted (answer_to m x) ≡ true
    → hinders m o x i ≡ false → Heard m h l o k (at i)
    → Heard (after m x) (noted x (answer_to m x) h) (open_noted x (answer_to m x) h l) o (k + cond (delivers x i) 1 0) (place_next x (held m.waiting) (held (after m x).waiting) i)
unfolding answer_to after
accepted_step {m} {h} g known {l} opens o k i x acc free f =
    let d = decided_is m x acc in
    elim (own_case x i) [
      | inl c ↦ subst (λ (y : Step). Next g known opens o k i d.0 f.0 f.1 f.2 y (outcome_of m y)) (sym c.1) (next_own g known opens o k i d.0 f.0 f.1 f.2 c.0)
      | inr own ↦
          subst (λ (u : Outcome). Next g known opens o k i d.0 f.0 f.1 f.2 x u) (sym d.1)
          (next g known opens o k i d.0 f.0 f.1 f.2 x (subst (λ (u : Outcome). is_accepted u.decision.answer ≡ true) d.1 acc) free own)
    ]

heard_step : {m : Machine} {h : History} {es : List Entry} (g : Good m h es) → Known m → {l : List ℕ} → Same m.opens l → (o k : ℕ) (w : Place) (x : Step) → is_hindered m o x w ≡ false
    → Heard m h l o k w → Heard (after m x) (noted x (answer_to m x) h) (open_noted x (answer_to m x) h l) o (k + delivered_by m x w) (followed m x w)
heard_step {m} {h} g known opens o k gone x free f = (omega (arith, f.0), finished_noted x (answer_to m x) h o f.1)
heard_step {m} {h} {es} g known {l} opens o k (at i) x free f = go (accepted_case (answer_to m x))
  where
    refused : (r : Refusal) → answer_to m x ≡ Refused r
        → Heard (after m x) (noted x (answer_to m x) h) (open_noted x (answer_to m x) h l) o (k + delivered_by m x (at i)) (followed m x (at i))
    refused r e =
        rw (e, refused_unchanged m x r e, noted_refused x r h, (noted_as_lem x (Refused r) h l).1, (refused_same (role_of x) r h l).1)
        (heard_fewer m h l o k (k + 0) (at i) (omega arith) f)

    accepted : is_accepted (answer_to m x) ≡ true
        → Heard (after m x) (noted x (answer_to m x) h) (open_noted x (answer_to m x) h l) o (k + delivered_by m x (at i)) (followed m x (at i))
    accepted acc = rw acc (accepted_step g known opens o k i x acc (rw acc at free) f)

    go : (is_accepted (answer_to m x) ≡ true) ⊎ ((r : Refusal) × (answer_to m x ≡ Refused r))
        → Heard (after m x) (noted x (answer_to m x) h) (open_noted x (answer_to m x) h l) o (k + delivered_by m x (at i)) (followed m x (at i))
    go (inl acc) = accepted acc
    go (inr r) = refused r.0 r.1

-- ---- several steps

heard_run : {m : Machine} {h : History} {es : List Entry} (g : Good m h es) → Known m → {l : List ℕ} → Same m.opens l → (o k : ℕ) (w : Place) (ys : List Step) → Unhindered m o w ys
    → Heard m h l o k w → Heard (reached m ys) (history_from m h ys) (open_from m h l ys) o (k + deliveries m w ys) (place_after m w ys)
heard_run {m} {h} g known {l} opens o k w [] free f = heard_fewer m h l o k (k + 0) w (omega arith) f
heard_run {m} {h} g known {l} opens o k w (x ∷ ys) free f =
    let d = delivered_by m x w in
    let rest = deliveries (after m x) (followed m x w) ys in
    heard_fewer (reached (after m x) ys) (history_from m h (x ∷ ys)) (open_from m h l (x ∷ ys)) o (k + d + rest) (k + (d + rest)) (place_after (after m x) (followed m x w) ys) (omega arith)
    (heard_run {m = after m x} (good_after g x) (known_after g known x) (same_changed g opens (change m h l x)) o (k + d) (followed m x w) ys free.1 (heard_step g known opens o k w x free.0 f))

-- a packet that asks the switch is at the first stage
asked : (s : List ℕ) (o : ℕ) (msg : Message) → asks_for o msg ≡ true → Stage s o 0 msg
asked s o msg = go (stage_of msg)
  where
    go : (q : ReadStage) → asks_as o q ≡ true → StageAs s o 0 q
    go (AtSwitch p) e = (eqb-true p o e, omega arith)
    go (AtReplica r p) e = untrue e
    go (AtReadReplica r p) e = untrue e
    go (Replied p) e = untrue e
    go NoRead e = untrue e

-- ---- with fewer than 64 places nothing ever waits

narrow : (m : Machine) (x : Step) → length m.waiting.packets < limits.waiting → after m x ≡ m
unfolding after decided_in
narrow m x short =
    rw (lt-ltb (length m.waiting.packets) limits.waiting short)
    (both (λ (u : Outcome). done m u ≡ m) (is_malformed x) (refused_stays m Format) (refused_stays m BufferTooShort))

narrow_run : (m : Machine) (xs : List Step) → length m.waiting.packets < limits.waiting → reached m xs ≡ m
narrow_run m [] short = refl
narrow_run m (x ∷ xs) short = ap (λ (k : Machine). reached k xs) (narrow m x short) ∙ narrow_run m xs short

waits_wide : (b : Setup) (row : List Packet) (xs : List Step) (i : ℕ) → i < held (machine_of b row xs).waiting → limits.waiting ≤ length row
unfolding started none_wait
waits_wide b row xs i h = elim (dec_lt (length row) limits.waiting) [
  | yes short ↦ absurd (omega (arith, subst (λ (m : Machine). i < held m.waiting) (narrow_run (started b row) xs short) h, waiting.held_none row))
  | no wide ↦ omega (arith, wide)
]

-- the place and the number of deliveries decide
concluded : (m : Machine) (h : History) (l : List ℕ) (o k : ℕ) (w : Place) → Heard m h l o k w → most_deliveries ≤ k → Finished h o
concluded m h l o k (at j) f four = absurd (omega (arith, four, stage_most m.store o k (message_of (look_at m.waiting.packets j)) f.1))
concluded m h l o k gone f four = f.1

counted : (m : Machine) (h : History) (l : List ℕ) (o k : ℕ) (w : Place) → Heard m h l o k w → k ≤ most_deliveries
counted m h l o k (at j) f = omega (arith, stage_most m.store o k (message_of (look_at m.waiting.packets j)) f.1)
counted m h l o k gone f = f.0

-- ---- every run

-- FOR EVERY NUMBER OF REPLICAS FROM 1 TO 8 AT THE START, EVERY LENT ROW OF PLACES, EVERY RUN AFTER WHICH A PACKET OF AN OPEN READ WAITS AT THE SWITCH, AND EVERY LIST OF STEPS THAT FOLLOW, refused ones
-- included, none of which hinders
module _ (b : Setup) (starts : start_refused b ≡ false) (row : List Packet) (xs : List Step) (i o : ℕ) (begins : ReadAtSwitch (machine_of b row xs) i o)
    (ys : List Step) (free : Unhindered (machine_of b row xs) o (at i) ys) where
  -- the machine in which the packet waits at the switch, and the one after the steps
  abbrev m : Machine
  m = machine_of b row xs

  abbrev then : Machine
  then = reached m ys

  -- what has happened by then, and the operations that are open
  abbrev h : History
  h = history_from m (history_of b row xs) ys

  abbrev l : List ℕ
  l = open_from m (history_of b row xs) (open_of b row xs) ys

  known : Known m
  known = known_reached (good_start b starts row) (known_start b row) xs

  heard : Heard then h l o (0 + deliveries m (at i) ys) (place_after m (at i) ys)
  heard =
      heard_run (good_run b starts row xs) known (same_run b starts row xs) o 0 (at i) ys free
      (begins.waits, asked m.store o (message_of (look_at m.waiting.packets i)) begins.asks, inl ((same_run b starts row xs).listed o begins.still_open))

  whole : history_of b row (xs ++ ys) ≡ h
  whole = history_append (started b row) [] xs ys

  -- AFTER FOUR OF ITS DELIVERIES THE OPERATION HAS FINISHED
  pub heard_within_four : most_deliveries ≤ deliveries m (at i) ys → Finished (history_of b row (xs ++ ys)) o
  heard_within_four four = rw whole (concluded then h l o (0 + deliveries m (at i) ys) (place_after m (at i) ys) heard (omega (arith, four)))

  -- there are no more than four
  pub delivered_at_most_four : deliveries m (at i) ys ≤ most_deliveries
  delivered_at_most_four = omega (arith, counted then h l o (0 + deliveries m (at i) ys) (place_after m (at i) ys) heard)

  -- when the packet is gone, after however few, it has finished as well
  pub gone_finished : place_after m (at i) ys ≡ gone → Finished (history_of b row (xs ++ ys)) o
  gone_finished e = rw whole (subst (λ (w : Place). Heard then h l o (0 + deliveries m (at i) ys) w) e heard).1

  same_length : length (started b row).waiting.packets ≡ length row
  unfolding started none_wait
  same_length = refl

  -- and while it waits, its delivery is not refused
  pub delivery_accepted : (j choice : ℕ) → place_after m (at i) ys ≡ at j → is_accepted (answer_to then (Deliver j choice)) ≡ true
  unfolding answer_to
  delivery_accepted j choice e =
      let g = good_run b starts row xs in
      let long : length then.waiting.packets ≡ length row = length_reached m ys ∙ length_reached (started b row) xs ∙ same_length in
      let f = subst (λ (w : Place). Heard then h l o (0 + deliveries m (at i) ys) w) e heard in
      (own_step (good_reached g ys) (rw long (waits_wide b row xs i begins.waits)) (same_reached g (same_run b starts row xs) ys) j choice o (0 + deliveries m (at i) ys) f.0 f.2
      (known_reached g known ys j f.0) f.1).0
