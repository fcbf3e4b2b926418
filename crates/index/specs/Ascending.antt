-- Whether no rule refers to its own target or to that of a later rule: for each mark how many rules there are up to the last that targets it, for each
-- condition the highest of these numbers among its marks, and a rule that lies above both of its own. Assumes nothing.
use Rattle.std.specs.Prelude.{◌≡◌, List, ℕ, ◌≤◌, ◌<◌, length, get_or}
use Rattle.paper.specs.Limits.{max_marks, max_conditions}
use Rattle.book.specs.Book.{rule_of, text_of}
use Rattle.book.specs.Image.{rule_place, book_of, kind_at, sense_at, number_at, condition_at}

-- each of the first k rules lies below its target's number
pub record Targeted (s : List ℕ) (k : ℕ) (last : List ℕ) : Type 0 where
  pub size : length last ≡ max_marks
  pub below : (p : ℕ) → p < k → p < get_or last (rule_of (book_of s) p).target 0

-- the number is at least that of each mark among the first k words
pub record Above (last ws : List ℕ) (k n : ℕ) : Type 0 where
  pub each : (i : ℕ) → i < k → get_or ws i 0 < max_marks → get_or last (get_or ws i 0) 0 ≤ n

-- so for each of the first k conditions
pub record Asking (s last : List ℕ) (k : ℕ) (asked : List ℕ) : Type 0 where
  pub size : length asked ≡ max_conditions
  pub above : (c : ℕ) → c < k → Above last (text_of (book_of s) c) (length (text_of (book_of s) c)) (get_or asked c 0)

-- the mark that rule r's trigger waits for is targeted by no rule from r on, and no mark of its condition's text is
abbrev pub Awaiting : List ℕ → List ℕ → ℕ → Type 0
Awaiting s last r = (m : ℕ) → 2 ≤ kind_at s (rule_place r) → m ≡ number_at s (rule_place r) → get_or last m 0 ≤ r

abbrev pub Reading : List ℕ → List ℕ → ℕ → Type 0
Reading s asked r = (c : ℕ) → 1 ≤ sense_at s (rule_place r) → c ≡ condition_at s (rule_place r) → get_or asked c 0 ≤ r
