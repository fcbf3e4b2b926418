-- The listing's rule lines, byte by byte. Assumes nothing.
use Rattle.std.specs.Prelude.{ℕ, Bool, cond, List, [], ◌++◌}
use Rattle.book.specs.declared.Rule.{Rule}
use Rattle.book.specs.declared.Trigger.{Trigger}
use Rattle.book.specs.declared.Trigger.TheVariants.{None, Completed, BecomeYes, BecomeNo}
use Rattle.book.specs.declared.Sense.{Sense}
use Rattle.book.specs.declared.Sense.TheVariants.{NoCondition, AsWritten, Negated}
use Rattle.writing.specs.Text.{ascii, decimal, named}

-- ---- "Rule lines: rule number, completed stage after `on` or condition after `if`/`unless`, effect, target."

-- no rule of a derived book waits for a mark
unfoldable pub trigger_text : Trigger → List ℕ
trigger_text None = []
trigger_text (Completed e) = named " on " e
trigger_text (BecomeYes m) = []
trigger_text (BecomeNo m) = []

unfoldable pub sense_text : Sense → List ℕ
sense_text NoCondition = []
sense_text (AsWritten c) = named " if " c
sense_text (Negated c) = named " unless " c

unfoldable pub effect_text : Bool → ℕ → List ℕ
effect_text effect target = named (cond effect " set " " clear ") target

unfoldable pub rule_line : ℕ → Rule → List ℕ
rule_line i r = decimal i ++ (trigger_text r.trigger ++ (sense_text r.sense ++ (effect_text r.effect r.target ++ ascii "\n")))
