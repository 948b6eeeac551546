-- Req 04: the newcomer becomes the tail. In a run its tables then are the old tail's, object by object: so the log is shown as before.
use mathlib.Core.Path.{◌≡◌, sym, ap, ◌∙◌, subst}
use mathlib.Core.List.{List}
use Prim.Native.Nat.{ℕ, ◌+◌, ◌-◌, ◌<◌}
use native.Mathlib.Decide.{dec_lt}
use native.Mathlib.Omega.{arith}
use Rattle.store.specs.declared.Write.{Write}
use Rattle.store.specs.{live_count, order_at, row_of, applied_by}
use Rattle.chain.specs.{chain_place, member_at, tail_of}
use Rattle.joins.specs.{newcomer, promoted}
use Rattle.chain.proofs.Members.{head_is, tail_is, member_order, in_live, live_in, member_in, place_at, place_below}
use Rattle.replicas.proofs.Cells.{SizedStore, row_apart}
use Rattle.replicas.proofs.Descending.{Descending}
use Rattle.write_log.proofs.Holds.{Holds}
use Rattle.write_log.proofs.Shows.{Shows, tail_live}
use Rattle.write_log.proofs.Places.{Places}
use Rattle.write_log.proofs.Copies.{Alike}
use Rattle.write_log.proofs.Promotion.{sized_promoted, count_promoted, order_promoted, member_promoted, member_promoted_last, value_promoted, stamp_promoted, entry_promoted, highest_promoted_own, applied_promoted_own, highest_promoted, applied_promoted}

module _ {s : List ℕ} {log : List Write} {n : ℕ} (k : Shows s log n) (g : Places s) (free : live_count s < 8)
    (alike : (o : ℕ) → o < 1024 → Alike s (newcomer s) (tail_of s) o) where
  abbrev t : List ℕ
  t = promoted s

  abbrev z : SizedStore s
  z = k.sized

  -- the member at a place
  at : (p : ℕ) → p < live_count t → (p < 8) × (member_at t p ≡ order_at s p)
  at p h =
      let few : p < 8 = omega (arith, count_promoted s z free) in
      (few, member_order t p h ∙ order_promoted s z free p few)

  -- a live one has another row than the newcomer
  apart : (p : ℕ) → p < live_count s → row_of (member_at s p) ≡ row_of (newcomer s) → ⊥
  unfolding newcomer
  apart p h =
      let e = member_order s p h in
      row_apart (member_at s p) (order_at s (live_count s)) (rw e (g.named p (omega arith))) (g.named (live_count s) free)
      (λ d. let same : p ≡ live_count s = g.apart p (live_count s) (omega arith) free (sym e ∙ d) in omega arith)

  applied_live : (p : ℕ) → p < live_count s → applied_by t (member_at t p) ≡ applied_by s (member_at s p)
  applied_live p h = ap (applied_by t) (member_promoted s z free p h) ∙ applied_promoted s z free (member_at s p) (apart p h)

  applied_new : applied_by t (member_at t (live_count s)) ≡ applied_by s (tail_of s)
  applied_new = ap (applied_by t) (member_promoted_last s z free) ∙ applied_promoted_own s z free

  tail_last : tail_of s ≡ member_at s (live_count s - 1)
  tail_last = tail_is s

  descending_promoted : Descending t
  descending_promoted = record {
    named = λ p h. let a = at p h in rw a.1 (g.named p a.0);
    distinct = λ p q h l e. let a = at p h in let b = at q l in g.apart p q a.0 b.0 (sym a.1 ∙ e ∙ b.1);
    falls = λ p h. elim (dec_lt (p + 1) (live_count s)) [
      | yes b ↦ omega (arith, applied_live p (omega arith), applied_live (p + 1) b, k.falls.falls p b)
      | no b ↦
          let last : p ≡ live_count s - 1 = omega (arith, b, h, count_promoted s z free, k.live) in
          let next : p + 1 ≡ live_count s = omega (arith, last, k.live) in
          let here : applied_by t (member_at t p) ≡ applied_by s (tail_of s) = applied_live p (omega (arith, next)) ∙ ap (λ (i : ℕ). applied_by s (member_at s i)) last ∙ ap (applied_by s) (sym tail_last) in
          let there : applied_by t (member_at t (p + 1)) ≡ applied_by s (tail_of s) = ap (λ (i : ℕ). applied_by t (member_at t i)) next ∙ applied_new in
          omega (arith, here, there)
    ];
    counted = λ p h. elim (dec_lt p (live_count s)) [
      | yes b ↦ omega (arith, applied_live p b, k.falls.counted p b)
      | no b ↦
          let here : p ≡ live_count s = omega (arith, b, h, count_promoted s z free) in
          let last = k.falls.counted (live_count s - 1) (omega (arith, k.live)) in
          omega (arith, last, ap (applied_by s) tail_last, ap (λ (i : ℕ). applied_by t (member_at t i)) here, applied_new)
    ];
  }

  -- what each member shows
  holds_live : (p : ℕ) → p < live_count s → Holds t log (member_at t p) (applied_by t (member_at t p))
  holds_live p h =
      let r = member_at s p in
      let was = k.holds r (member_in s p h) in
      rw (applied_live p h, member_promoted s z free p h)
      (record {
        values_are = λ x l. value_promoted s z free r x ∙ was.values_are x l;
        stamps_are = λ x l. stamp_promoted s z free r x ∙ was.stamps_are x l;
        highest_is = highest_promoted s z free r (apart p h) ∙ was.highest_is;
      })

  holds_new : Holds t log (member_at t (live_count s)) (applied_by t (member_at t (live_count s)))
  holds_new =
      let was = k.holds (tail_of s) (live_in s (tail_of s) (tail_live k)) in
      rw (applied_new, member_promoted_last s z free)
      (record {
        values_are = λ x l. value_promoted s z free (newcomer s) x ∙ (alike x l).0 ∙ was.values_are x l;
        stamps_are = λ x l. stamp_promoted s z free (newcomer s) x ∙ (alike x l).1 ∙ was.stamps_are x l;
        highest_is = highest_promoted_own s z free ∙ was.highest_is;
      })

  pub shows_promoted : Shows t log n
  shows_promoted = record {
    sized = sized_promoted s z free;
    falls = descending_promoted;
    live = omega (arith, count_promoted s z free);
    head_has = ap (applied_by t) (head_is t) ∙ applied_live 0 k.live ∙ ap (applied_by s) (sym (head_is s)) ∙ k.head_has;
    tail_has =
        ap (applied_by t) (tail_is t) ∙ ap (λ (i : ℕ). applied_by t (member_at t i)) (omega (arith, count_promoted s z free)) ∙ applied_new ∙ k.tail_has;
    holds = λ r m.
        let live = in_live t r m in
        let p = chain_place t r in
        let here : member_at t p ≡ r = place_at t r live in
        let low = place_below t r live in
        subst (λ (q : ℕ). Holds t log q (applied_by t q)) here
        (elim (dec_lt p (live_count s)) [
          | yes b ↦ holds_live p b
          | no b ↦ subst (λ (i : ℕ). Holds t log (member_at t i) (applied_by t (member_at t i))) (omega (arith, b, low, count_promoted s z free)) holds_new
        ]);
    entries_are = λ i a b. entry_promoted s z free i ∙ k.entries_are i a b;
    room = k.room;
  }
