-- In every run each row in use is named by a waiting packet: so while fewer than 64 packets wait there is a free row, and no read of a whole context is turned down for want of
-- one.
use mathlib.Core.Path.{◌≡◌, refl, sym, ap, ◌∙◌, subst}
use mathlib.Core.Bool.{Bool, true, false}
use mathlib.Core.List.{List, [], ◌∷◌, ◌++◌, map}
use mathlib.Core.Logic.{◌⊎◌, inl, inr, ◌≢◌}
use Prim.Native.Nat.{ℕ, zero, suc, ◌+◌, ◌-◌, ◌%◌, ◌≤◌, ◌<◌}
use native.Mathlib.Decide.{ℕ_discrete, dec_lt}
use native.Mathlib.Omega.{arith}
use lib.Dec.{ltb}
use lib.ListN.{length, length-append}
use borrow.Author.Tests.{ltb-false}
use Rattle.lists.proofs.Tests.{untrue, by_test, both}
use Rattle.limits.specs as limits
use Rattle.history.specs.History.{◌∈◌, History}
use Rattle.history.proofs.Lists.{here, in_left, in_right, cases_insert, cut_at}
use Rattle.history.proofs.Entries.{Entry}
use Rattle.operations.specs.{last_given}
use Rattle.operations.proofs.Laws.{SizedOpens, sized_opening, sized_closing}
use Rattle.contexts.specs.declared.Context.{Context}
use Rattle.contexts.specs.{size_at, context_at, free_row, holding, freeing}
use Rattle.contexts.proofs.Rows.{Apart, size_is, context_opening, context_closing, context_apart, freed_apart, freed_size, size_none, free_none_left}
use Rattle.waiting.specs.declared.Packet.{Packet}
use Rattle.waiting.specs.declared.Edit.{Edit}
use Rattle.waiting.specs.Waiting.{WaitingList, held, none_wait, look_at, edited, added}
use Rattle.waiting.proofs.Laws as waiting
use Rattle.protocol.specs.declared.Setup.{Setup}
use Rattle.protocol.specs.Starts.{start_refused}
use Rattle.protocol.specs.declared.Decision.{Decision}
use Rattle.protocol.specs.declared.Refusal.{Refusal}
use Rattle.protocol.specs.declared.Refusal.TheVariants.{Format, BufferTooShort}
use Rattle.protocol.specs.declared.Message.{Message}
use Rattle.protocol.specs.declared.Step.{Step}
use Rattle.protocol.specs.Messages.{packet_of, message_of, is_of_context, in_row}
use Rattle.protocol.specs.Decisions.{Given, Outcome, keeping, take_out_add, add_one, refusing, overfull}
use Rattle.protocol.specs.Contexts.{released}
use Rattle.protocol.specs.Steps.{Machine, given_by, position_of, is_malformed, decided, decided_in, after, started}
use Rattle.protocol.specs.declared.Answer.{Answer}
use Rattle.protocol.specs.Roles.{Role}
use Rattle.protocol.proofs.Effects.{Names, one_row, OpensEffect, quiet, begins_read, begins_write, finishes, finishes_context, gives_up, RowEffect, rows_kept, row_passed, row_answered, row_freed, row_released, row_given, row_copied, step_effect}
use Rattle.linearizability.proofs.Waits.{messages, message_packet, front, back, at_position, length_messages, room, taking, keeping as staying}
use Rattle.linearizability.proofs.Copies.{packet_family, family_names}
use Rattle.linearizability.proofs.Invariant.{Good, done, refused_stays}
use Rattle.linearizability.proofs.Steps.{names_not}
use Rattle.linearizability.proofs.OneOrder.{good_start, good_after}
use Rattle.linearizability.proofs.Limits.{reached, machine_of}
use Rattle.linearizability.proofs.Opens.{length_reached}
use Rattle.linearizability.proofs.Edits.{Edits, Known, edits_decided, known_after, known_start}

-- row r is in use
abbrev Used : List ℕ → ℕ → Type 0
Used opens r = size_at opens r ≢ 0

-- the message names row r
abbrev NamesRow : Message → ℕ → Type 0
NamesRow q r = (s : ℕ) × Names q s × (s % limits.contexts ≡ r % limits.contexts)

-- a waiting message names it
abbrev NamedIn : List Message → ℕ → Type 0
NamedIn l r = (q : Message) × (q ∈ l) × NamesRow q r

-- ---- what an outcome does to the rows, where the message q stands at the position

-- the edit takes the message out
abbrev Takes : Edit → Message → ℕ → Type 0
Takes e q r = (e.take ≡ true) × NamesRow q r

-- it adds one message, which names row r, and there is room for it
pub record Adds (held : ℕ) (e : Edit) (r : ℕ) : Type 0 where
  pub one : e.add ≡ 1
  pub room : ((e.take ≡ true) × (e.at < held)) ⊎ ((e.take ≡ false) × (overfull held 0 1 ≡ false))
  pub names : NamesRow (message_of e.first) r

-- a row in use is named by what is added; or it was in use, and what is taken out does not name it
abbrev Rows : Given → Message → Outcome → Type 0
Rows g q u = (r : ℕ) → Used u.opens r → Adds g.held u.decision.edit r ⊎ (Used g.opens r × (Takes u.decision.edit q r → ⊥))

-- ---- leaves

-- the numbers of a row stay
used_apart : (l l' : List ℕ) (r : ℕ) → context_at l' r ≡ context_at l r → Used l' r → Used l r
used_apart l l' r same n e = n (sym (size_is l' r) ∙ ap (λ (v : Context). v.count) same ∙ size_is l r ∙ e)

-- only that row is named by what is taken out
takes_only : (q : Message) (row : ℕ) → Names q row → (e : Edit) (r : ℕ) → Apart row r → Takes e q r → ⊥
takes_only q row names e r n t = n (ap (λ (k : ℕ). k % limits.contexts) (one_row q row t.1.0 names t.1.1) ∙ t.1.2)

-- it is named by the message that comes of the one taken out, or by the one that is added
adds_passed : (held at row : ℕ) (q : Message) → at < held → Names q row → (e : Edit) → e ≡ take_out_add at (packet_of q) → (r : ℕ) → row % limits.contexts ≡ r % limits.contexts → Adds held e r
adds_passed held at row q inside names e is r k =
    subst (λ (d : Edit). Adds held d r) (sym is) (record { one = refl; room = inl (refl, inside); names = (row, subst (λ (p : Message). Names p row) (sym (message_packet q)) names, k) })

adds_given : (held row : ℕ) (f : Packet) → overfull held 0 1 ≡ false → Names (message_of f) row → (e : Edit) → e ≡ add_one f → (r : ℕ) → row % limits.contexts ≡ r % limits.contexts → Adds held e r
adds_given held row f roomy names e is r k = subst (λ (d : Edit). Adds held d r) (sym is) (record { one = refl; room = inr (refl, roomy); names = (row, names, k) })

-- ---- every step; q is the message of the packet at its position

module _ (p : Packet) (held : ℕ) (e : Edit) (l : List ℕ) (z : SizedOpens l) where
  abbrev After : List ℕ → Type 0
  After l' = (r : ℕ) → Used l' r → Adds held e r ⊎ (Used l r × (Takes e (message_of p) r → ⊥))

  -- one row takes a context, and a message that names it is added
  after_held : (row : ℕ) (v : Context) → ((r : ℕ) → row % limits.contexts ≡ r % limits.contexts → Adds held e r)
      → ((r : ℕ) → Apart row r → Takes e (message_of p) r → ⊥) → After (holding l row v)
  after_held row v adds others r n = elim (ℕ_discrete (row % limits.contexts) (r % limits.contexts)) [
    | yes k ↦ inl (adds r k)
    | no k ↦ inr (used_apart l (holding l row v) r (context_apart l row v r k) n, others r k)
  ]

  after_freed : (row : ℕ) → Names (message_of p) row → After (freeing l row)
  after_freed row names r n = elim (ℕ_discrete (row % limits.contexts) (r % limits.contexts)) [
    | yes k ↦ absurd (n (freed_size l row z r k))
    | no k ↦ inr (used_apart l (freeing l row) r (freed_apart l row r k) n, takes_only (message_of p) row names e r k)
  ]

  rows_of : {l' : List ℕ} → RowEffect p (message_of p) held e l l' → After l'
  unfolding released
  rows_of (rows_kept none) = λ r n. inr (n, λ t. none t.1.0 t.0 t.1.1)
  rows_of (row_passed at row q i names names' is) = λ r n. elim (ℕ_discrete (row % limits.contexts) (r % limits.contexts)) [
    | yes k ↦ inl (adds_passed held at row q i names' e is r k)
    | no k ↦ inr (n, takes_only (message_of p) row names e r k)
  ]
  rows_of (row_answered at row v q i names names' is) = after_held row v (adds_passed held at row q i names' e is) (takes_only (message_of p) row names e)
  rows_of (row_freed row names) = after_freed row names
  rows_of row_released =
      by_test After (is_of_context p)
      (λ c.
      let (q, family, holds) = packet_family p c in
      after_freed p.value (subst (λ (m : Message). Names m p.value) (sym (holds p.value)) (family_names family p.value)))
      (λ c r n. inr (n, λ k. names_not p c k.1.0 k.1.1))
  rows_of (row_given row v q roomy names is) =
      after_held row v (adds_given held row (packet_of q) roomy (subst (λ (m : Message). Names m row) (sym (message_packet q)) names) e is) (λ r k t. untrue (sym (ap (λ (d : Edit). d.take) is) ∙ t.0))
  rows_of (row_copied row v roomy c is) =
      let (q, family, holds) = packet_family p c in
      after_held row v (adds_given held row (in_row p row) roomy (subst (λ (m : Message). Names m row) (sym (holds row)) (family_names family row)) e is)
      (λ r k t. untrue (sym (ap (λ (d : Edit). d.take) is) ∙ t.0))

-- the rows stay where an operation begins, finishes or is given up
between_sized : {k : Role} {a : Answer} {l l' : List ℕ} → OpensEffect k l a l' → SizedOpens l → SizedOpens l'
between_sized (quiet q) z = z
between_sized {l = l} (begins_read xs e room) z = sized_opening l (last_given l + 1) z
between_sized {l = l} (begins_write x v e room) z = sized_opening l (last_given l + 1) z
between_sized {l = l} (finishes at o v f e still) z = sized_closing l o z
between_sized {l = l} (finishes_context at o v e still) z = sized_closing l o z
between_sized {l = l} (gives_up o e still) z = sized_closing l o z

between_same : {k : Role} {a : Answer} {l l' : List ℕ} → OpensEffect k l a l' → (r : ℕ) → context_at l' r ≡ context_at l r
between_same (quiet q) = λ r. refl
between_same {l = l} (begins_read xs e room) = context_opening l (last_given l + 1)
between_same {l = l} (begins_write x v e room) = context_opening l (last_given l + 1)
between_same {l = l} (finishes at o v f e still) = context_closing l o
between_same {l = l} (finishes_context at o v e still) = context_closing l o
between_same {l = l} (gives_up o e still) = context_closing l o

rows_decided : (g : Given) (z : SizedOpens g.opens) (p : Packet) (x : Step) → Rows g (message_of p) (decided g p x)
rows_decided g z p x r n =
    let f = step_effect g p x in
    elim (rows_of p g.held (decided g p x).decision.edit f.between (between_sized f.opens z) f.rows r n) [
      | inl a ↦ inl a
      | inr t ↦ inr (used_apart g.opens f.between r (between_same f.opens r) t.0, t.1)
    ]

-- ---- what an edit leaves in the list

added_one : (e : Edit) → e.add ≡ 1 → added e ≡ e.first ∷ []
unfolding added
added_one e one = rw one

module _ (w : WaitingList) (roomy : waiting.Roomy w) (exact : waiting.Exact w) (x : Step) (d : Decision) (f : Edits x (held w) d) where
  abbrev e : Edit
  e = d.edit

  abbrev at : ℕ
  at = position_of x

  -- an edit that does not fit changes nothing; one that does keeps every message but the one that it takes out
  still_waits : (q : Message) → q ∈ messages w → (e.take ≡ true → q ≡ message_of (look_at w.packets at) → ⊥) → q ∈ messages (edited w e)
  still_waits q i other = go e.take refl
    where
      stays_in : edited w e ≡ w → q ∈ messages (edited w e)
      stays_in same = subst (λ (k : WaitingList). q ∈ messages k) (sym same) i

      keeps : e.take ≡ false → Dec (64 < held w + e.add) → q ∈ messages (edited w e)
      keeps t (yes full) = stays_in (waiting.edited_over w e exact t full)
      keeps t (no fits) = subst (λ (l : List Message). q ∈ l) (sym (staying w e roomy exact t f.most (omega (arith, fits)))) (in_left (map message_of (added e)) i)

      takes : e.take ≡ true → e.at < held w → Dec (64 < held w - 1 + e.add) → q ∈ messages (edited w e)
      takes t inside (yes full) = stays_in (waiting.edited_over_taking w e t inside full)
      takes t inside (no fits) =
          let s = at_position w e.at roomy inside in
          elim (cases_insert (front e.at w) (message_of (look_at w.packets e.at)) (back e.at w) (subst (λ (l : List Message). q ∈ l) s.split i)) [
            | inl k ↦ absurd (other t (k ∙ ap (λ (j : ℕ). message_of (look_at w.packets j)) (f.at_is t)))
            | inr k ↦ subst (λ (l : List Message). q ∈ l) (sym (taking w e roomy t inside f.most (omega (arith, fits)))) (in_left (map message_of (added e)) k)
          ]

      go : (b : Bool) → e.take ≡ b → q ∈ messages (edited w e)
      go true t = takes t (omega (arith, f.at_is t, f.inside t)) (dec_lt 64 (held w - 1 + e.add))
      go false t = keeps t (dec_lt 64 (held w + e.add))

  -- one that is added waits
  added_waits : (r : ℕ) → Adds (held w) e r → NamedIn (messages (edited w e)) r
  added_waits r a = go a.room
    where
      first : added e ≡ e.first ∷ []
      first = added_one e a.one

      there' : (l : List Message) → message_of e.first ∈ l ++ map message_of (added e)
      there' l = subst (λ (k : List Packet). message_of e.first ∈ l ++ map message_of k) (sym first) (in_right l (here refl))

      go : ((e.take ≡ true) × (e.at < held w)) ⊎ ((e.take ≡ false) × (overfull (held w) 0 1 ≡ false)) → NamedIn (messages (edited w e)) r
      go (inl t) = (
        message_of e.first,
        subst (λ (l : List Message). message_of e.first ∈ l)
            (sym (taking w e roomy t.0 t.1 f.most (omega (arith, a.one, t.1, waiting.held_most w)))) (there' (front e.at w ++ back e.at w)),
        a.names,
      )
      go (inr t) = (
        message_of e.first,
        subst (λ (l : List Message). message_of e.first ∈ l)
            (sym (staying w e roomy exact t.0 f.most (omega (arith, a.one, room w 0 1 t.1)))) (there' (messages w)),
        a.names,
      )

-- ---- every run

-- each row in use is named by a waiting message
abbrev Covered : Machine → Type 0
Covered m = (r : ℕ) → Used m.opens r → NamedIn (messages m.waiting) r

covered_done : {m : Machine} {h : History} {es : List Entry} (g : Good m h es) → waiting.Roomy m.waiting → Known m → (x : Step) → Covered m
    → Covered (done m (decided (given_by m) (look_at m.waiting.packets (position_of x)) x))
covered_done {m} g wide k x c r n = elim (rows_decided (given_by m) g.books.open_numbers_lem.sized p x r n) [
  | inl a ↦ added_waits m.waiting wide g.exact x d f r a
  | inr t ↦
      let (q, i, names) = c r t.0 in
      (q, still_waits m.waiting wide g.exact x d f q i (λ taken is. t.1 (taken, subst (λ (z : Message). NamesRow z r) is names)), names)
]
  where
    p : Packet
    p = look_at m.waiting.packets (position_of x)

    d : Decision
    d = (decided (given_by m) p x).decision

    f : Edits x (held m.waiting) d
    f = edits_decided g k x

covered_after : {m : Machine} {h : History} {es : List Entry} (g : Good m h es) → Known m → (x : Step) → Covered m → Covered (after m x)
unfolding after decided_in
covered_after {m} g k x c =
    let P : Outcome → Type 0 = λ u. Covered (done m u) in
    let stays : (r : Refusal) → P (keeping (given_by m) (refusing r)) = λ r. subst Covered (sym (refused_stays m r)) c in
    both P (is_malformed x) (stays Format)
    (by_test P (ltb (length m.waiting.packets) limits.waiting) (λ short. stays BufferTooShort)
    (λ wide. covered_done g (ltb-false (length m.waiting.packets) limits.waiting wide) k x c))

covered_reached : {m : Machine} {h : History} {es : List Entry} → Good m h es → Known m → Covered m → (xs : List Step) → Covered (reached m xs)
covered_reached g k c [] = c
covered_reached {m} {h} {es} g k c (x ∷ xs) = covered_reached {m = after m x} (good_after g x) (known_after g k x) (covered_after g k x c) xs

-- ---- there is a free row

-- two numbers below 64 have different remainders
different : (n r : ℕ) → r < n → suc n ≤ 64 → n % limits.contexts ≡ r % limits.contexts → ⊥
different n r b h e = omega (arith, b, h, e)

-- where each of the first n rows is named, there are as many messages
covers : (n : ℕ) (l : List Message) → n ≤ 64 → ((r : ℕ) → r < n → NamedIn l r) → n ≤ length l
covers zero l h c = omega arith
covers (suc n) l h c =
    let (q, i, (s, names, same)) = c n (omega arith) in
    let t = cut_at l i in
    let rest : List Message = t.0 ++ t.1 in
    let others : (r : ℕ) → r < n → NamedIn rest r = λ r b.
    let (p, j, (k, named, is)) = c r (omega arith) in
    elim (cases_insert t.0 q t.1 (subst (λ (m : List Message). p ∈ m) t.2 j)) [
      | inl e ↦ absurd (different n r b h (sym same ∙ ap (λ (v : ℕ). v % limits.contexts) (one_row q s k names (subst (λ (m : Message). Names m k) e named)) ∙ is))
      | inr m ↦ (p, m, (k, named, is))
    ] in
    omega (arith, covers n rest (omega arith) others, ap length t.2, length-append t.0 (q ∷ t.1), length-append t.0 t.1)

-- FOR EVERY START THAT IS NOT REFUSED, EVERY LENT ROW OF PLACES AND EVERY LIST OF STEPS, refused ones included: while fewer than 64 packets wait there is a free row
pub row_free : (b : Setup) → start_refused b ≡ false → (row : List Packet) → limits.waiting ≤ length row → (xs : List Step)
    → held (machine_of b row xs).waiting < limits.waiting → free_row (machine_of b row xs).opens < limits.contexts
unfolding started none_wait
row_free b starts row wide xs few = go (dec_lt (free_row m.opens) 64)
  where
    m : Machine
    m = machine_of b row xs

    covered : Covered m
    covered = covered_reached (good_start b starts row) (known_start b row) (λ r u. absurd (u (size_none r))) xs

    go : Dec (free_row m.opens < 64) → free_row m.opens < 64
    go (yes free) = free
    go (no full) =
        absurd (omega (
          arith,
          few,
          length_messages m.waiting (rw (length_reached (started b row) xs) wide),
          covers 64 (messages m.waiting) (omega arith) (λ r b. covered r (free_none_left m.opens (omega (arith, full)) r b)),
        ))
