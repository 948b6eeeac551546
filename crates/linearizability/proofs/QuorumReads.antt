-- Document 02, Req 11: a replica of a quorum store that answers a direct read, of one object or several, gives values that the read may give: its executed writes are a front part of the
-- visible ones that reaches the stamp that the read carries.
use mathlib.Core.Path.{◌≡◌, refl, sym, ap, ◌∙◌, subst}
use mathlib.Core.Bool.{Bool, true, false, cond, not}
use mathlib.Core.List.{List, [], ◌∷◌, ◌++◌, map}
use Prim.Native.Nat.{ℕ, ◌≤◌, ◌<◌}
use native.Mathlib.Omega.{arith}
use lib.Dec.{eqb}
use lib.ListN.{length, take}
use lib.Seq.{take-take, take-length, length-take-le}
use Rattle.history.specs.History.{◌∈◌, reads, History, begun}
use Rattle.history.proofs.Lists.{here}
use Rattle.history.proofs.Entries.{Entry}
use Rattle.history.proofs.Readable.{Readable}
use Rattle.stamp.specs.Stamps.{is_above}
use Rattle.stamp.proofs.Laws.{above_false}
use Rattle.store.specs.declared.Write.{Write}
use Rattle.store.specs.{members, highest_of, permitted_by, applied_by, value_at}
use Rattle.quorum.specs.{answers_behind}
use Rattle.protocol.specs.Answers.{no_freshness}
use Rattle.protocol.specs.declared.Message.{Message}
use Rattle.protocol.specs.declared.Message.TheVariants.{Reply}
use Rattle.write_log.proofs.Log.{values, top}
use Rattle.write_log.proofs.Quorum.{ShowsQuorum, executed_low, answers_value, answers_stamp}
use Rattle.linearizability.proofs.Packets.{AnsweredContext, Direct}
use Rattle.linearizability.proofs.Core.{map_same, core_behind}
use Rattle.linearizability.proofs.Invariant.{one_chain, only, ChainCore}

-- its executed stamp is not below the one carried
answers_reach : (s : List ℕ) (r number carried : ℕ) → answers_behind s r number carried ≡ true → carried ≤ highest_of s r
unfolding answers_behind
answers_reach s r number carried = go (eqb (permitted_by s r) number) (is_above carried (highest_of s r)) refl
  where
    go : (a b : Bool) → is_above carried (highest_of s r) ≡ b → cond a (not b) false ≡ true → carried ≤ highest_of s r
    go true true p e = absurd (let z : ◌≡◌ {A = ℕ} 0 1 = cc in omega arith)
    go true false p e = above_false carried (highest_of s r) p
    go false b p e = absurd (let z : ◌≡◌ {A = ℕ} 0 1 = cc in omega arith)

module _ {s : List ℕ} {lead : ℕ} {log : List Write} {n : ℕ} {items : List Bool} (k : ShowsQuorum s lead log n items) (fits : n ≤ length log)
    (r : ℕ) (i : r ∈ members s) (number t : ℕ) (answers : answers_behind s r number t ≡ true) where
  -- the front part
  part : take (applied_by s r) (take n log) ≡ take (applied_by s r) log
  part = take-take (applied_by s r) n log (executed_low k r i)

  within : applied_by s r ≤ length (take n log)
  within = omega (arith, length-take-le n log fits, executed_low k r i)

  reach : t ≤ top 0 (take (applied_by s r) (take n log))
  reach = rw part (omega (arith, answers_reach s r number t answers, answers_stamp k r i))

  -- of one object
  pub quorum_answers : {h : History} {es : List Entry} {issued : List Write} {ms : List Message} {c : ℕ} {opens : List ℕ} → ChainCore h es issued log n ms c opens → (o x : ℕ) → x < 1024
      → begun o (reads (x ∷ [])) ∈ h → Direct one_chain h es (only (take n log)) t o (x ∷ [])
      → ChainCore h es issued log n (ms ++ Reply o (value_at s r x) 0 no_freshness ∷ []) c opens
  quorum_answers core o x small b f = rw (answers_value k r i x small, ← part) (core_behind core o x t (applied_by s r) b f within reach)

  -- of several, if there are any
  some_answered : {h : History} {es : List Entry} (o : ℕ) (xs : List ℕ) → ((x : ℕ) → x ∈ xs → x < 1024) → (x : ℕ) → x ∈ xs
      → begun o (reads xs) ∈ h → Direct one_chain h es (only (take n log)) t o xs → AnsweredContext h es o (map (value_at s r) xs)
  some_answered {h} {es} o xs small y j b (d, in_one, low, behind) =
      let e : d ≡ 0 = sym (in_one y j) in (
        xs,
        b,
        [],
        rw (map_same (value_at s r) (values (take (applied_by s r) (take n log))) xs (λ x m. answers_value k r i x (small x m) ∙ ap (λ (l : List Write). values l x) (sym part)))
            (subst (λ (q : ℕ). Readable h es o xs (map (values (take (applied_by s r) (only (take n log) q))) xs) []) e
            (behind (applied_by s r) (subst (λ (q : ℕ). applied_by s r ≤ length (only (take n log) q)) (sym e) within)
            (subst (λ (q : ℕ). t ≤ top 0 (take (applied_by s r) (only (take n log) q))) (sym e) reach))),
      )

  pub quorum_answers_context : {h : History} {es : List Entry} (o : ℕ) (xs : List ℕ) → ((x : ℕ) → x ∈ xs → x < 1024) → begun o (reads xs) ∈ h → Direct one_chain h es (only (take n log)) t o xs
      → AnsweredContext h es o (map (value_at s r) xs)
  quorum_answers_context o [] small b (d, in_one, low, behind) =
      let ws = only (take n log) d in ([], b, [], behind (length ws) (omega arith) (rw (take-length ws) low))
  quorum_answers_context o (x ∷ xs) small b f = some_answered o (x ∷ xs) small x (here refl) b f
