-- Bytes in a lent buffer.
use Rattle.std.specs.Prelude.{◌≡◌, cond, List, ◌++◌, ℕ, ◌+◌, ◌≤◌, leb, length, take, drop}

-- the bytes t from a place on, and every other byte as it was
abbrev pub pasted : List ℕ → ℕ → List ℕ → List ℕ
pasted b at t = take at b ++ t ++ drop (at + length t) b

-- the bytes t at a place of a buffer, which is unchanged where it is too short
unfoldable pub put_in : List ℕ → ℕ → List ℕ → List ℕ
put_in b at t = cond (leb (at + length t) (length b)) (pasted b at t) b

-- the bytes t were put at a place that has room for them; r is the place after them, and b' the buffer then
pub record Puts (b : List ℕ) (at : ℕ) (t : List ℕ) (r : ℕ) (b' : List ℕ) : Type 0 where
  pub room : at + length t ≤ length b
  pub after : r ≡ at + length t
  pub there : b' ≡ pasted b at t
  pub long : length b' ≡ length b
