-- The packets of reads of whole contexts, by the row that they name: a copy of one names another row, and is fine where that row holds the same numbers.
use mathlib.Core.Path.{◌≡◌, refl, sym, ◌∙◌, subst}
use mathlib.Core.Bool.{Bool, true, false, cond}
use mathlib.Core.List.{List}
use Prim.Native.Nat.{ℕ, ◌+◌, ◌≤◌}
use native.Mathlib.Omega.{arith}
use lib.Dec.{eqb, leb, ltb}
use borrow.Author.Tests.{ne_eqb, ltb-false, leb-true, eqb-false}
use Rattle.history.specs.History.{◌∈◌, reads, History, begun}
use Rattle.history.proofs.Entries.{Entry}
use Rattle.store.specs.declared.Write.{Write}
use Rattle.waiting.specs.declared.Packet.{Packet}
use Rattle.protocol.specs.declared.Message.{Message}
use Rattle.protocol.specs.declared.Message.TheVariants.{ContextRead, DirectContext, NormalContext, ContextReply, Acknowledgement, Unknown}
use Rattle.protocol.specs.Messages.{context_message, message_of, is_of_context, in_row}
use Rattle.protocol.proofs.Effects.{Names}
use Rattle.linearizability.proofs.Packets.{AnsweredContext, row_numbers, Direct, Fine, Asks}
use Rattle.linearizability.proofs.Invariant.{Placed}

-- the messages that differ in the row alone
pub data Family : (ℕ → Message) → Type 0 where
  asked : (o : ℕ) → Family (λ r. ContextRead o r)
  direct : (q number t o : ℕ) → Family (λ r. DirectContext q number t o r)
  normal : (q o : ℕ) → Family (λ r. NormalContext q o r)
  replied : (o : ℕ) → Family (λ r. ContextReply o r)

pub family_names : {q : ℕ → Message} → Family q → (r : ℕ) → Names (q r) r
family_names (asked o) r = refl
family_names (direct q number t o) r = refl
family_names (normal q o) r = refl
family_names (replied o) r = refl

pub family_only : {q : ℕ → Message} → Family q → (r s : ℕ) → Names (q r) s → s ≡ r
family_only (asked o) r s e = sym e
family_only (direct q number t o) r s e = sym e
family_only (normal q o) r s e = sym e
family_only (replied o) r s e = sym e

pub family_asks : {q : ℕ → Message} → Family q → (r p : ℕ) → Asks (q r) p → ⊥
family_asks (asked o) r p a = a
family_asks (direct q number t o) r p a = a
family_asks (normal q o) r p a = a
family_asks (replied o) r p a = a

pub family_placed : {q : ℕ → Message} → Family q → (s : List ℕ) (r t : ℕ) → Placed s (q r) → Placed s (q t)
family_placed (asked o) s r t p = p
family_placed (direct q number c o) s r t p = p
family_placed (normal q o) s r t p = p
family_placed (replied o) s r t p = p

pub family_fine : {q : ℕ → Message} → Family q → (chain : ℕ → ℕ) (h : History) (es : List Entry) (issued : List Write) (shown : ℕ → List Write) (opens opens' : List ℕ) (r s : ℕ)
    → row_numbers opens' s ≡ row_numbers opens r → Fine chain h es issued shown opens (q r) → Fine chain h es issued shown opens' (q s)
family_fine (asked o) chain h es issued shown opens opens' r s e f = subst (λ (xs : List ℕ). begun o (reads xs) ∈ h) (sym e) f
family_fine (direct q number t o) chain h es issued shown opens opens' r s e f = (subst (λ (xs : List ℕ). begun o (reads xs) ∈ h) (sym e) f.0, subst (Direct chain h es shown t o) (sym e) f.1)
family_fine (normal q o) chain h es issued shown opens opens' r s e f = subst (λ (xs : List ℕ). begun o (reads xs) ∈ h) (sym e) f
family_fine (replied o) chain h es issued shown opens opens' r s e f = subst (AnsweredContext h es o) (sym e) f

-- there is no fifth kind
above : (j k : ℕ) → j ≤ k → (k ≡ j → ⊥) → j + 1 ≤ k
above j k h n = omega (arith, h, n)

none : (k : ℕ) → 8 ≤ k → k ≤ 11 → (k ≡ 8 → ⊥) → (k ≡ 9 → ⊥) → (k ≡ 10 → ⊥) → (k ≡ 11 → ⊥) → ⊥
none k low high a b c d = let past : 11 + 1 ≤ k = above 11 k (above 10 k (above 9 k (above 8 k low a) b) c) d in omega (arith, past, high)

-- a packet of a read of a whole context holds the message of its family that names its row
abbrev InFamily : Packet → Type 0
InFamily p = (q : ℕ → Message) × Family q × ((s : ℕ) → message_of (in_row p s) ≡ q s)

module _ (p : Packet) (low : 8 ≤ p.kind) where
  -- it holds none of the other messages
  context_message_lem : (s : ℕ) → message_of (in_row p s) ≡ context_message (in_row p s)
  unfolding message_of
  context_message_lem s =
      rw (
        ne_eqb p.kind 1 (λ e. omega (arith, e, low)),
        ne_eqb p.kind 2 (λ e. omega (arith, e, low)),
        ne_eqb p.kind 3 (λ e. omega (arith, e, low)),
        ne_eqb p.kind 4 (λ e. omega (arith, e, low)),
        ne_eqb p.kind 5 (λ e. omega (arith, e, low)),
        ne_eqb p.kind 6 (λ e. omega (arith, e, low)),
        ne_eqb p.kind 7 (λ e. omega (arith, e, low)),
      )

  in_family : p.kind ≤ 11 → (q : ℕ → Message) × Family q × ((s : ℕ) → context_message (in_row p s) ≡ q s)
  unfolding context_message
  in_family high = go (eqb p.kind 8) refl (eqb p.kind 9) refl (eqb p.kind 10) refl (eqb p.kind 11) refl
    where
      go : (a : Bool) → eqb p.kind 8 ≡ a → (b : Bool) → eqb p.kind 9 ≡ b → (c : Bool) → eqb p.kind 10 ≡ c → (d : Bool) → eqb p.kind 11 ≡ d
          → (q : ℕ → Message) × Family q × ((s : ℕ)
          → cond a (ContextRead p.operation s) (cond b (DirectContext p.replica p.number p.stamp p.operation s)
          (cond c (NormalContext p.replica p.operation s) (cond d (ContextReply p.operation s) (cond (eqb p.kind 12) (Acknowledgement p.replica s) Unknown)))) ≡ q s)
      go true e b f c k d l = (λ r. ContextRead p.operation r, asked p.operation, λ s. refl)
      go false e true f c k d l = (λ r. DirectContext p.replica p.number p.stamp p.operation r, direct p.replica p.number p.stamp p.operation, λ s. refl)
      go false e false f true k d l = (λ r. NormalContext p.replica p.operation r, normal p.replica p.operation, λ s. refl)
      go false e false f false k true l = (λ r. ContextReply p.operation r, replied p.operation, λ s. refl)
      go false e false f false k false l =
          absurd (none p.kind low high (eqb-false p.kind 8 e) (eqb-false p.kind 9 f) (eqb-false p.kind 10 k) (eqb-false p.kind 11 l))

pub packet_family : (p : Packet) → is_of_context p ≡ true → InFamily p
unfolding is_of_context
packet_family p e = go (ltb p.kind 8) refl e
  where
    go : (b : Bool) → ltb p.kind 8 ≡ b → cond b false (leb p.kind 11) ≡ true → InFamily p
    go true l f = absurd (let z : ◌≡◌ {A = ℕ} 0 1 = cc in omega arith)
    go false l f =
        let low = ltb-false p.kind 8 l in
        let t = in_family p low (leb-true p.kind 11 f) in
        (t.0, t.1, λ s. context_message_lem p low s ∙ t.2 s)
