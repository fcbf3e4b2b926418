-- Rules in groups by what they do to which mark and by when they may fire, and what is kept of each group. Assumes nothing.
use Rattle.std.specs.Prelude.{◌≡◌, Bool, true, false, ◌&&◌, ◌||◌, List, ℕ, ◌+◌, ◌*◌, ◌≤◌, ◌<◌, min, eqb, length, get_or, set}
use Rattle.general.specs.Below.{some}
use Rattle.sets.specs.Set.{has, union, inter}
use Rattle.wide.specs.Number.{row_of, rows_in}
use Rattle.book.specs.Book.{Book, rule_of}
use Rattle.book.specs.Image.{rules_in, book_of}
use Rattle.clashes.specs.Clash.{clash}
use Rattle.senses.specs.Senses.{side, does, turn, stages_at, slot, slots, twin, with_sense, Senses}

-- ---- the marks are taken in rounds; a round's words hold, of its mark i and of an effect, at d = side i effect: the stages, as row d, and behind
-- all rows the senses

-- the most marks of a round: its words fit those that the rules' flags take
abbrev pub clash_round : ℕ
clash_round = 192

-- the words of a round of n marks, two sets and two senses for each
abbrev pub round_words : ℕ → ℕ
round_words n = 10 * n

-- the words that the search for clashes takes in a book of so many marks
abbrev pub clash_work : ℕ → ℕ
clash_work marks = round_words (min marks clash_round)

-- where the senses at d stand
abbrev pub senses_at : ℕ → ℕ → ℕ
senses_at n d = 8 * n + d

-- what the words of the round of n marks from `from` on hold after k rules
pub record Summed (b : Book) (from n k : ℕ) (work : List ℕ) : Type 0 where
  pub wide : round_words n ≤ length work
  pub stages : (y d e : ℕ) → y < k → d < 2 * n → does b y ≡ 2 * from + d → has (stages_at (turn (rule_of b y).trigger)) e ≡ true → has (row_of work d) e ≡ true
  pub senses : (d : ℕ) → d < 2 * n → Senses b (λ q. eqb (does b q) (2 * from + d)) k (get_or work (senses_at n d) 0)

-- what they are where the groups at d take in a rule of these stages and this sense
pub record Added (n : ℕ) (work : List ℕ) (d stages sense : ℕ) (out : List ℕ) : Type 0 where
  pub long : length out ≡ length work
  pub rows : rows_in (2 * n) out ≡ set (rows_in (2 * n) work) d (union (row_of work d) stages)
  pub senses : get_or out (senses_at n d) 0 ≡ with_sense (get_or work (senses_at n d) 0) sense
  pub others : (f : ℕ) → (f ≡ d → ⊥) → get_or out (senses_at n f) 0 ≡ get_or work (senses_at n f) 0

-- the senses of the first k rules that clear mark m, and of those that set it
pub record Sides (b : Book) (m k clearing setting : ℕ) : Type 0 where
  pub clears : Senses b (λ q. eqb (does b q) (side m false)) k clearing
  pub sets : Senses b (λ q. eqb (does b q) (side m true)) k setting

-- the senses of the first k rules that target mark m, by stage and effect
pub record ByStage (b : Book) (m k : ℕ) (by : List ℕ) : Type 0 where
  pub wide : length by ≡ slots
  pub senses : (t : ℕ) → t < slots → Senses b (λ q. eqb (rule_of b q).target m && eqb (slot b q) t) k (get_or by t 0)

-- the same of all rules of an image
abbrev pub SidesIn : List ℕ → ℕ → ℕ → ℕ → Type 0
SidesIn s m clearing setting = Sides (book_of s) m (rules_in s) clearing setting

abbrev pub ByStageIn : List ℕ → ℕ → List ℕ → Type 0
ByStageIn s m by = ByStage (book_of s) m (rules_in s) by

-- the words of mark i of a round tell that no rules of it clash: no stage is shared, or the senses are two opposite ones
abbrev pub calm : ℕ → List ℕ → ℕ → Bool
calm n work i = eqb (inter (row_of work (2 * i)) (row_of work (2 * i + 1))) 0 || eqb (twin (get_or work (senses_at n (2 * i)) 0)) (get_or work (senses_at n (2 * i) + 1) 0)

-- ---- the lowest rule that clashes with any

-- rule p clashes with some rule
unfoldable pub clashes_any : Book → ℕ → Bool
clashes_any b p = some (length b.rules) (λ q. clash (rule_of b p) (rule_of b q))

-- of the rules with targets below m, none below low clashes; rule low does, or is the end
pub record Found (b : Book) (m low : ℕ) : Type 0 where
  pub fits : low ≤ length b.rules
  pub clashes : low < length b.rules → clashes_any b low ≡ true
  pub none : (p : ℕ) → p < low → (rule_of b p).target < m → clashes_any b p ≡ false
