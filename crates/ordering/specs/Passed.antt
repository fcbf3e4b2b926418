-- A rule that the scan passed over waits for a mark, and stands in the range of rules that is noted for that mark. Assumes nothing.
use Rattle.std.specs.Prelude.{◌≡◌, Bool, true, false, List, ℕ, ◌≤◌, ◌<◌, length, get_or}
use Rattle.paper.specs.Limits.{max_marks}
use Rattle.book.specs.Firing.{refers}
use Rattle.book.specs.Image.{book_of}
use Rattle.book.specs.Marks.{has_mark}
use Rattle.unwritten.specs.Words.{flagged}
use Rattle.ordering.specs.Ready.{may_stand}

-- rule r refers to a mark that still waits, and stands in its range
pub record Blocked (s waits low high : List ℕ) (r : ℕ) : Type 0 where
  pub mark : ℕ
  pub small : mark < max_marks
  pub asks : refers (book_of s) r mark ≡ true
  pub waiting : has_mark waits mark ≡ true
  pub from : get_or low mark 0 ≤ r
  pub upto : r < get_or high mark 0

-- no range begins above where it did, and that of m at r or below
pub record Lowered (low : List ℕ) (m r : ℕ) (low' : List ℕ) : Type 0 where
  pub size : length low' ≡ length low
  pub each : (x : ℕ) → get_or low' x 0 ≤ get_or low x 0
  pub this : m < length low → get_or low' m 0 ≤ r

-- no range ends below where it did, and that of m above r
pub record Raised (high : List ℕ) (m r : ℕ) (high' : List ℕ) : Type 0 where
  pub size : length high' ≡ length high
  pub each : (x : ℕ) → get_or high x 0 ≤ get_or high' x 0
  pub this : m < length high → r < get_or high' m 0

-- rule r was looked at: an unwritten rule that may not stand next is in the range of a mark
pub record Looked (s waits written low high : List ℕ) (r : ℕ) (b : Bool) (low' high' : List ℕ) : Type 0 where
  pub tells : b ≡ may_stand (book_of s) (flagged written) waits r
  pub notes : b ≡ false → flagged written r ≡ false → length low ≡ max_marks → length high ≡ max_marks → Blocked s waits low' high' r
  pub lows : length low' ≡ length low
  pub highs : length high' ≡ length high
  pub wider : (p : ℕ) → Blocked s waits low high p → Blocked s waits low' high' p
