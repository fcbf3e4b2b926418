-- What rules are summed up by: what they do to which mark, when they may fire, and the senses of a group as one number. Assumes nothing.
use Rattle.std.specs.Prelude.{◌≡◌, Bool, not, cond, ◌&&◌, ℕ, ◌+◌, ◌-◌, ◌*◌, ◌%◌, eqb, ltb}
use Rattle.paper.specs.Limits.{max_events}
use Rattle.general.specs.Below.{some}
use Rattle.sets.specs.Set.{only, all_below}
use Rattle.book.specs.Book.{Book, rule_of}
use Rattle.book.specs.declared.Trigger.{Trigger}
use Rattle.book.specs.declared.Trigger.TheVariants.{None, Completed, BecomeYes, BecomeNo}
use Rattle.book.specs.declared.Sense.{Sense}
use Rattle.book.specs.declared.Sense.TheVariants.{NoCondition, AsWritten, Negated}

-- a number and whether the effect is to set, as one number
unfoldable pub side : ℕ → Bool → ℕ
side n set = 2 * n + cond set 1 0

-- what rule r does
abbrev pub does : Book → ℕ → ℕ
does b r = side (rule_of b r).target (rule_of b r).effect

-- the stage that a trigger completes, or the limit of stages where the trigger is another
unfoldable pub turn : Trigger → ℕ
turn None = max_events
turn (Completed c) = c
turn (BecomeYes m) = max_events
turn (BecomeNo m) = max_events

-- that stage as a set, or every stage: rules whose sets do not meet are apart
unfoldable pub stages_at : ℕ → ℕ
stages_at t = cond (ltb t max_events) (only t) (all_below max_events)

-- when rule r may fire, and whether it sets
abbrev pub slot : Book → ℕ → ℕ
slot b r = side (turn (rule_of b r).trigger) (rule_of b r).effect

-- every stage and no completion, by effect
abbrev pub slots : ℕ
slots = 2 * max_events + 2

-- ---- the senses of a group of rules: 0 for no rule, the number of the sense that all have, or 1 where they are mixed or a rule has no condition

abbrev pub mixed : ℕ
mixed = 1

unfoldable pub code : Sense → ℕ
code NoCondition = mixed
code (AsWritten c) = 2 * c + 2
code (Negated c) = 2 * c + 3

abbrev pub code_of : Book → ℕ → ℕ
code_of b r = code (rule_of b r).sense

-- the number of the opposite sense
unfoldable pub twin : ℕ → ℕ
twin n = cond (eqb (n % 2) 0) (n + 1) (n - 1)

-- the senses s with one more rule, of sense g
unfoldable pub with_sense : ℕ → ℕ → ℕ
with_sense s g = cond (eqb s 0) g (cond (eqb s g) s mixed)

-- some rule of a group of the senses s has another sense than v
unfoldable pub meets : ℕ → ℕ → Bool
meets s v = not (eqb s 0) && not (eqb s v)

-- s is the senses of the rules below k that f names
pub record Senses (b : Book) (f : ℕ → Bool) (k s : ℕ) : Type 0 where
  pub says : (v : ℕ) → (v ≡ mixed → ⊥) → meets s v ≡ some k (λ q. f q && not (eqb (code_of b q) v))
