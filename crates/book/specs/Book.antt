-- A rule book: its counts, rules, condition records and words. Assumes nothing.
use Rattle.std.specs.Prelude.{ℕ, false, List, get_or, take, drop}
use Rattle.book.specs.declared.Rule.{Rule}
use Rattle.book.specs.declared.Trigger.TheVariants.{None}
use Rattle.book.specs.declared.Sense.TheVariants.{NoCondition}

-- "A condition is start and count into the words."
pub record Condition : Type 0 where
  pub start : ℕ
  pub count : ℕ

pub record Book : Type 0 where
  pub stages : ℕ
  pub marks : ℕ
  pub rules : List Rule
  pub conditions : List Condition
  pub words : List ℕ

-- what stands past a list's end; no statement looks there
abbrev pub no_rule : Rule
no_rule = record { trigger = None; sense = NoCondition; effect = false; target = 0 }

abbrev pub no_condition : Condition
no_condition = record { start = 0; count = 0 }

abbrev pub rule_of : Book → ℕ → Rule
rule_of b r = get_or b.rules r no_rule

abbrev pub condition_of : Book → ℕ → Condition
condition_of b c = get_or b.conditions c no_condition

abbrev pub spanned : List ℕ → Condition → List ℕ
spanned words c = take c.count (drop c.start words)

-- the words of condition c
unfoldable pub text_of : Book → ℕ → List ℕ
text_of b c = spanned b.words (condition_of b c)
