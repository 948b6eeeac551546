-- The messages that wait, and what each edit of the waiting list does to them.
use mathlib.Core.Path.{◌≡◌, refl, sym, ap, ◌∙◌, subst}
use mathlib.Core.Bool.{true, false}
use mathlib.Core.List.{List, [], ◌∷◌, ◌++◌, map, append-nil}
use Prim.Native.Nat.{ℕ, zero, suc, ◌+◌, ◌-◌, ◌≤◌, ◌<◌}
use native.Mathlib.Omega.{arith}
use lib.ListN.{length, take, drop, length-map, get_or-map}
use lib.Seq.{split_at}
use borrow.Author.Tests.{ltb-false}
use Rattle.limits.specs as limits
use Rattle.lists.specs.{without}
use Rattle.history.specs.History.{◌∈◌}
use Rattle.history.proofs.Lists.{inserted}
use Rattle.waiting.specs.declared.Packet.{Packet}
use Rattle.waiting.specs.declared.Edit.{Edit}
use Rattle.waiting.specs.Waiting.{WaitingList, blank, waits, held, look_at, added, edited}
use Rattle.waiting.proofs.Laws.{Roomy, Exact, held_most, length_waits, look_is, edited_none, waits_edited_taking, waits_edited_keeping}
use Rattle.protocol.specs.declared.Message.{Message}
use Rattle.protocol.specs.declared.Message.TheVariants.{UnstampedWrite, SwitchRead, StampedWrite, DirectRead, NormalRead, Completion, Reply, ContextRead, DirectContext, NormalContext, ContextReply, Acknowledgement, Unknown}
use Rattle.protocol.specs.Messages.{packet_of, context_message, message_of}
use Rattle.protocol.specs.Decisions.{no_edit, take_out, take_out_add, take_out_add_two, add_one, add_two, overfull}

-- a packet holds the message that it was made of
pub message_packet : (m : Message) → message_of (packet_of m) ≡ m
unfolding message_of context_message packet_of
message_packet (UnstampedWrite o x v) = refl
message_packet (SwitchRead o x) = refl
message_packet (StampedWrite r w) = refl
message_packet (DirectRead r number t o x) = refl
message_packet (NormalRead r o x c) = refl
message_packet (Completion x t) = refl
message_packet (Reply o v c f) = refl
message_packet (ContextRead o r) = refl
message_packet (DirectContext q number t o r) = refl
message_packet (NormalContext q o r) = refl
message_packet (ContextReply o r) = refl
message_packet (Acknowledgement q k) = refl
message_packet Unknown = refl

abbrev pub messages : WaitingList → List Message
messages w = map message_of (waits w)

-- the messages before a position, and those behind it
abbrev pub front : ℕ → WaitingList → List Message
front at w = take at (messages w)

abbrev pub back : ℕ → WaitingList → List Message
back at w = drop (suc at) (messages w)

-- `map` and the parts of a list
module _ {A B : Type 0} (f : A → B) where
  map_append : (l r : List A) → map f (l ++ r) ≡ map f l ++ map f r
  map_append [] r = refl
  map_append (x ∷ l) r = ap (λ (t : List B). f x ∷ t) (map_append l r)

  map_take : (n : ℕ) (l : List A) → map f (take n l) ≡ take n (map f l)
  map_take zero l = refl
  map_take (suc n) [] = refl
  map_take (suc n) (x ∷ l) = ap (λ (t : List B). f x ∷ t) (map_take n l)

  map_drop : (n : ℕ) (l : List A) → map f (drop n l) ≡ drop n (map f l)
  map_drop zero l = refl
  map_drop (suc n) [] = refl
  map_drop (suc n) (x ∷ l) = map_drop n l

  map_without : (l : List A) (i : ℕ) → map f (without l i) ≡ take i (map f l) ++ drop (suc i) (map f l)
  unfolding without
  map_without l i = map_append (take i l) (drop (suc i) l) ∙ rw (map_take i l, map_drop (suc i) l)

pub length_messages : (w : WaitingList) → Roomy w → length (messages w) ≡ held w
length_messages w r = length-map (waits w) message_of ∙ length_waits w r

-- a message stands at a position of a list that has its 64 places
pub record Stands (w : WaitingList) (at : ℕ) (p : Message) : Type 0 where
  pub roomy : Roomy w
  pub inside : at < held w
  pub split : messages w ≡ front at w ++ p ∷ back at w

-- so it waits
pub stands_in_lem : {w : WaitingList} {at : ℕ} {p : Message} → Stands w at p → p ∈ messages w
stands_in_lem {w} {at} {p} i = subst (λ (l : List Message). p ∈ l) (sym i.split) (inserted (front at w) p (back at w))

-- the message at a position
pub at_position : (w : WaitingList) (at : ℕ) → Roomy w → at < held w → Stands w at (message_of (look_at w.packets at))
at_position w at r h = record {
  roomy = r;
  inside = h;
  split = split_at (messages w) at (message_of blank) (omega (arith, length_messages w r)) ∙
      ap (λ (m : Message). front at w ++ m ∷ back at w) (get_or-map message_of (waits w) at blank ∙ ap message_of (sym (look_is w at h)));
}

-- ---- edits

pub edited_nothing : (w : WaitingList) → edited w no_edit ≡ w
edited_nothing w = edited_none w no_edit refl refl

pub taking : (w : WaitingList) (e : Edit) → Roomy w → e.take ≡ true → e.at < held w → e.add ≤ 2 → held w - 1 + e.add ≤ limits.waiting
    → messages (edited w e) ≡ (front e.at w ++ back e.at w) ++ map message_of (added e)
taking w e r t h most k =
    ap (map message_of) (waits_edited_taking w e r t h most k)
    ∙ map_append message_of (without (waits w) e.at) (added e)
    ∙ ap (λ (l : List Message). l ++ map message_of (added e)) (map_without message_of (waits w) e.at)

pub keeping : (w : WaitingList) (e : Edit) → Roomy w → Exact w → e.take ≡ false → e.add ≤ 2 → held w + e.add ≤ limits.waiting
    → messages (edited w e) ≡ messages w ++ map message_of (added e)
keeping w e r x t most k = ap (map message_of) (waits_edited_keeping w e r x t most k) ∙ map_append message_of (waits w) (added e)

-- what the test of the list's limit leaves
pub room : (w : WaitingList) (out add : ℕ) → overfull (held w) out add ≡ false → held w - out + add ≤ limits.waiting
unfolding overfull
room w out add e = ltb-false limits.waiting (held w - out + add) e

module _ (w : WaitingList) {at : ℕ} {p : Message} (i : Stands w at p) where
  pub taken_out : messages (edited w (take_out at)) ≡ front at w ++ back at w
  unfolding added
  taken_out = taking w (take_out at) i.roomy refl i.inside (omega arith) (omega (arith, held_most w)) ∙ append-nil (front at w ++ back at w)

  pub taken_out_add : (m : Message) → messages (edited w (take_out_add at (packet_of m))) ≡ (front at w ++ back at w) ++ m ∷ []
  unfolding added
  taken_out_add m =
      taking w (take_out_add at (packet_of m)) i.roomy refl i.inside (omega arith) (omega (arith, held_most w, i.inside)) ∙
      ap (λ (q : Message). (front at w ++ back at w) ++ q ∷ []) (message_packet m)

  pub taken_out_add_two : (m q : Message) → overfull (held w) 1 2 ≡ false
      → messages (edited w (take_out_add_two at (packet_of m) (packet_of q))) ≡ (front at w ++ back at w) ++ m ∷ q ∷ []
  unfolding added
  taken_out_add_two m q e =
      taking w (take_out_add_two at (packet_of m) (packet_of q)) i.roomy refl i.inside (omega arith) (room w 1 2 e) ∙ rw (message_packet m, message_packet q)

module _ (w : WaitingList) (r : Roomy w) (x : Exact w) where
  -- any packet comes to the end
  pub added_packet : (p : Packet) → overfull (held w) 0 1 ≡ false → messages (edited w (add_one p)) ≡ messages w ++ message_of p ∷ []
  unfolding added
  added_packet p e = keeping w (add_one p) r x refl (omega arith) (omega (arith, room w 0 1 e))

  pub added_one : (m : Message) → overfull (held w) 0 1 ≡ false → messages (edited w (add_one (packet_of m))) ≡ messages w ++ m ∷ []
  added_one m e = added_packet (packet_of m) e ∙ ap (λ (q : Message). messages w ++ q ∷ []) (message_packet m)

  pub added_two : (m q : Message) → overfull (held w) 0 2 ≡ false → messages (edited w (add_two (packet_of m) (packet_of q))) ≡ messages w ++ m ∷ q ∷ []
  unfolding added
  added_two m q e = keeping w (add_two (packet_of m) (packet_of q)) r x refl (omega arith) (omega (arith, room w 0 2 e)) ∙ rw (message_packet m, message_packet q)
