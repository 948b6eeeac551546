use mathlib.Core.Path.{◌≡◌, ap}
use Prim.Native.Nat.{ℕ, ◌+◌}
use native.Mathlib.Omega.{arith}
use Rattle.records.specs.Records.{two_at}
use Rattle.shortening.specs.Shortening.{size_at}
use Rattle.shortening.proofs.size_at.Goals as goal

pub returns : goal.returns
unfolding size_at two_at
returns c =
    let at : ℕ = c.args.at in
    let low : at + 1 + 1 ≡ at + 2 = omega arith in
    (rw low (omega (arith, c.from.ensures, c.from_be_bytes.ensures)), omega (arith, c.from.ensures, c.from_be_bytes.type_inv))
