-- What the writers put into the buffer, and how they leave it. Assumes nothing.
use Rattle.std.specs.Prelude.{ℕ, suc, ◌+◌, ◌≤◌, ◌≡◌, cond, ltb, List, [], ◌∷◌, length, slice_set}

-- the buffer's length, the code's `ROOM`
abbrev pub room : ℕ
room = 4096

-- behind the last place it is the first one's turn
unfoldable pub place_behind : ℕ → ℕ
place_behind at = cond (ltb (suc at) room) (suc at) 0

-- the buffer after bytes are put into it one behind the other, the first of them at the place `at`
unfoldable pub filled : ℕ → List ℕ → List ℕ → List ℕ
filled at [] buffer = buffer
filled at (b ∷ bs) buffer = filled (place_behind at) bs (slice_set buffer at b)

-- the place behind the last of them
unfoldable pub place_after : ℕ → List ℕ → ℕ
place_after at [] = at
place_after at (b ∷ bs) = place_after (place_behind at) bs

-- `most` bytes at most, put one behind the other from `at` on, made one buffer of another, and `next` is the place behind them
pub record Put (most at next : ℕ) (old new : List ℕ) : Type 0 where
  pub bytes : List ℕ
  pub few : length bytes ≤ most
  pub place : next ≡ place_after at bytes
  pub buffer : new ≡ filled at bytes old

-- what an error leaves: the buffer as bytes left it that filled it to its end, of which nobody knows how many are written
pub record Full (most at : ℕ) (old new : List ℕ) : Type 0 where
  pub put : Put most at 0 old new
  pub whole : room ≤ at + length put.bytes
