-- What an edit does, place by place: what moves and where new packets go. The code follows a plan; proofs/Plans.antt says that it makes `edited`.
use Rattle.std.specs.Prelude.{cond, List, ℕ, ◌+◌, ◌-◌, set, leb}
use Rattle.lists.specs.{moves}
use Rattle.waiting.specs.declared.Packet.{Packet}
use Rattle.waiting.specs.declared.Edit.{Edit}
use Rattle.waiting.specs.declared.Plan.{Plan}
use Rattle.waiting.specs.Waiting.{blank, held_in, takes_out, fits}

-- nothing moves and nothing comes: at the row's end nothing is put
abbrev pub still : ℕ → ℕ → Plan
still length count = record { from = 0; last = 0; place = length; next = length; count = count }

-- the packets after `from` move, up to `last`, and `left` are left, to which `add` come
abbrev pub moving : ℕ → ℕ → ℕ → ℕ → ℕ → Plan
moving length from last left add =
    record { from = from; last = last; place = cond (leb 1 add) left length; next = cond (leb 2 add) (left + 1) length; count = left + add }

unfoldable pub planned : ℕ → ℕ → ℕ → ℕ → ℕ → ℕ → Plan
planned length count from last left add = cond (fits length left add) (moving length from last left add) (still length count)

unfoldable pub plan_of : ℕ → ℕ → Edit → Plan
plan_of length count e =
    cond (takes_out count e) (planned length count e.at (held_in count - 1) (held_in count - 1) e.add) (planned length count 0 0 count e.add)

-- the row that a plan leaves
abbrev pub carried : List Packet → Plan → Edit → List Packet
carried l p e = set (set (moves blank l p.from (p.last - p.from)) p.place e.first) p.next e.second
