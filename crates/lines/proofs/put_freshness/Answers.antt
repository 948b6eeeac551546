use native.Mathlib.Omega.{arith}
use Rattle.line_lengths.proofs.Laws.{old_word, new_word, no_word}
use Rattle.lines.proofs.put_freshness.Goals as goal

pub put_bytes-requires : goal.put_bytes-requires
put_bytes-requires c = rw (old_word _ c.in-1.is) at c.requires

pub returns-in-1 : goal.returns-in-1
returns-in-1 c = rw (old_word _ c.in-1.is) c.put_bytes.ensures

pub put_bytes-requires-in-2 : goal.put_bytes-requires-in-2
put_bytes-requires-in-2 c = rw (new_word _ c.in-2.is) at c.requires

pub returns-in-2 : goal.returns-in-2
returns-in-2 c = rw (new_word _ c.in-2.is) c.put_bytes-in-2.ensures

pub put_bytes-requires-in_default : goal.put_bytes-requires-in_default
put_bytes-requires-in_default c = rw (no_word c.args.freshness (λ e. omega arith) (λ e. omega arith)) at c.requires

pub returns-in_default : goal.returns-in_default
returns-in_default c = rw (no_word c.args.freshness (λ e. omega arith) (λ e. omega arith)) c.put_bytes-in_default.ensures
