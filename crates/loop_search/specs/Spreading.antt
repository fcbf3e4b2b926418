-- What 64 marks, the sources, lead to: a word for each mark and one for each condition, and what a rule and a pass over the rules do to them.
-- Digit i of a word stands for source base + i. Assumes nothing.
use Rattle.std.specs.Prelude.{◌≡◌, Bool, true, false, not, cond, ◌&&◌, ◌||◌, List, ℕ, ◌+◌, ◌*◌, ◌<◌, eqb, leb, ltb, length, get_or, set}
use Rattle.paper.specs.Limits.{max_marks, max_conditions}
use Rattle.general.specs.Below.{some, tally}
use Rattle.sets.specs.Set.{has, union, minus}
use Rattle.order_theory.specs.Order.{Net, Counted, OnLoop}
use Rattle.order_theory.specs.Spread.{Leads}
use Rattle.book.specs.Text.{elem}
use Rattle.book.specs.Book.{rule_of, text_of}
use Rattle.book.specs.Firing.{refers}
use Rattle.book.specs.Image.{rules_in, conditions_in, rule_place, book_of, kind_at, sense_at, number_at, condition_at}
use Rattle.book.specs.Marks.{word_bits, has_mark}
use Rattle.rule_order.specs.Nets.{rules_of}

-- whether x is reached from source i
abbrev pub reaches : List ℕ → ℕ → ℕ → Bool
reaches reached x i = has (get_or reached x 0) i

-- a word for each mark, and no source but 64
pub record Sources (reached : List ℕ) : Type 0 where
  pub room : length reached ≡ max_marks
  pub low : (x i : ℕ) → reaches reached x i ≡ true → i < word_bits

-- each source is reached from itself, and nothing else is
pub record Begun (base : ℕ) (reached : List ℕ) : Type 0 where
  pub room : length reached ≡ max_marks
  pub each : (x i : ℕ) → reaches reached x i ≡ (ltb i word_bits && eqb x (base + i))

-- the sources that reach some mark of the words
pub record Asked (words reached : List ℕ) (w : ℕ) : Type 0 where
  pub takes : (x i : ℕ) → elem x words ≡ true → reaches reached x i ≡ true → has w i ≡ true
  pub gives : (i : ℕ) → has w i ≡ true → (x : ℕ) × (elem x words ≡ true) × (reaches reached x i ≡ true)

-- of each condition's text
pub record AskedAll (s reached asked : List ℕ) : Type 0 where
  pub room : length asked ≡ max_conditions
  pub each : (c : ℕ) → c < conditions_in s → Asked (text_of (book_of s) c) reached (get_or asked c 0)

-- what rule r carries on to its target: what reaches the mark that it waits for, and what its condition was asked for
unfoldable pub from_trigger : List ℕ → List ℕ → ℕ → ℕ
from_trigger s reached r = cond (leb 2 (kind_at s (rule_place r))) (get_or reached (number_at s (rule_place r)) 0) 0

unfoldable pub from_condition : List ℕ → List ℕ → ℕ → ℕ
from_condition s asked r = cond (leb 1 (sense_at s (rule_place r))) (get_or asked (condition_at s (rule_place r)) 0) 0

abbrev pub carried : List ℕ → List ℕ → List ℕ → ℕ → ℕ
carried s reached asked r = union (from_trigger s reached r) (from_condition s asked r)

abbrev pub target_of : List ℕ → ℕ → ℕ
target_of s r = (rule_of (book_of s) r).target

-- what is new to the target is taken in
pub record Carried (s reached asked : List ℕ) (r : ℕ) (after : List ℕ) (more : Bool) : Type 0 where
  pub new : more ≡ true → minus (carried s reached asked r) (get_or reached (target_of s r) 0) ≡ 0 → ⊥
  pub taken : more ≡ true → after ≡ set reached (target_of s r) (union (get_or reached (target_of s r) 0) (carried s reached asked r))
  pub none : more ≡ false → minus (carried s reached asked r) (get_or reached (target_of s r) 0) ≡ 0
  pub left : more ≡ false → after ≡ reached

-- how many digits of the words are not set
unfoldable pub missing : List ℕ → ℕ
missing reached = tally (max_marks * word_bits) (λ p. not (has_mark reached p))

-- what was reached is, and all that is one gets to from what was
pub record Grown (N : Net) (start reached : List ℕ) : Type 0 where
  pub kept : (x i : ℕ) → reaches start x i ≡ true → reaches reached x i ≡ true
  pub sound : (x i : ℕ) → reaches reached x i ≡ true → (y : ℕ) × (reaches start y i ≡ true) × Leads N y x

-- a pass over the rules: something was new to some target, or nothing to any
pub record Passed (s : List ℕ) (stage : ℕ) (start asked reached : List ℕ) (more : Bool) : Type 0 where
  pub sources : Sources reached
  pub grown : Grown (rules_of s stage) start reached
  pub fewer : more ≡ true → missing reached < missing start
  pub left : more ≡ false → reached ≡ start
  pub none : more ≡ false → (r : ℕ) → Counted (rules_of s stage) r → minus (carried s start asked r) (get_or start (target_of s r) 0) ≡ 0

-- a pass over the rules that count adds nothing
pub record Settled (s : List ℕ) (stage : ℕ) (reached asked : List ℕ) : Type 0 where
  pub all : AskedAll s reached asked
  pub closed : (r x i : ℕ) → Counted (rules_of s stage) r → refers (book_of s) r x ≡ true → reaches reached x i ≡ true → reaches reached (target_of s r) i ≡ true

-- rule r carries source i on to itself
abbrev pub hit : List ℕ → ℕ → List ℕ → List ℕ → ℕ → ℕ → Bool
hit s base reached asked r i = ltb i word_bits && (eqb (target_of s r) (base + i) && has (carried s reached asked r) i)

-- a set with the target of rule r, if so
abbrev pub WithHit : List ℕ → ℕ → List ℕ → List ℕ → ℕ → ℕ → ℕ → Type 0
WithHit s base reached asked r hits after = (i : ℕ) → has after i ≡ (has hits i || hit s base reached asked r i)

-- the sources that some rule which counts carries on to themselves
abbrev pub Hits : List ℕ → ℕ → ℕ → List ℕ → List ℕ → ℕ → Type 0
Hits s stage base reached asked hits = (i : ℕ) → has hits i ≡ some (rules_in s) (λ r. (rules_of s stage).counts r && hit s base reached asked r i)

-- the lowest source that a rule on a loop targets, or 64
pub record LowestSource (N : Net) (base i : ℕ) : Type 0 where
  pub found : i < word_bits → OnLoop N (base + i)
  pub none : (j : ℕ) → j < i → j < word_bits → OnLoop N (base + j) → ⊥
