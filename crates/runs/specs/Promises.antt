-- What the contracts of the pieces of the output cite.
use Rattle.std.specs.Prelude.{◌≡◌, List, ℕ, ◌≤◌, length, take}
use Rattle.waiting.specs.declared.Packet.{Packet}
use Rattle.turns.specs.declared.Run.{Run}
use Rattle.protocol.specs.Steps.{Machine}
use Rattle.lines.specs.Text.{put_in}
use Rattle.turns.specs.Turns.{first_printed}
use Rattle.turns.specs.Promises.{Turned, place_after, turned, stands_as}
use Rattle.runs.specs.Runs.{lines_from, joined}

-- ---- the output in pieces

-- the last place of a piece that has room for the longest line
abbrev pub last_line : ℕ
last_line = 65389

-- the first piece: the first record, and then turns until the run is over or the place is past `last_line`
unfoldable pub first_piece : Machine → List ℕ → List ℕ → Turned
first_piece m input out =
    turned (length input) last_line input (first_printed m input).then (put_in out 0 (first_printed m input).line) (place_after 0 (length (first_printed m input).line))

-- the next one: such turns from the front of the buffer on
unfoldable pub next_piece : Run → List ℕ → List ℕ → List ℕ → List Packet → List ℕ → List ℕ → Turned
next_piece r switch store opens row input out = turned r.left last_line input (stands_as r switch store opens row) out 0

-- the first n bytes of a buffer may be lent on: n counts them
abbrev pub InUse : ℕ → List ℕ → Type 0
InUse n out = (n ≤ length out) × (n ≡ length (take n out))

-- what a run has still to print
unfoldable pub to_print : List ℕ → Run → List ℕ → List ℕ → List ℕ → List Packet → List ℕ
to_print input r switch store opens row = joined (lines_from r.left input (stands_as r switch store opens row))
