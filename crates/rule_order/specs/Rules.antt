-- The rules of a book that count for a stage, for the theorems on orders. Assumes nothing.
use Rattle.std.specs.Prelude.{Bool, true, ℕ, eqb, length}
use Rattle.book.specs.Text.{Snap}
use Rattle.book.specs.Book.{Book, rule_of}
use Rattle.book.specs.Firing.{fires, refers, fires-local}
use Rattle.book.specs.declared.Trigger.{Trigger}
use Rattle.book.specs.declared.Trigger.TheVariants.{None, Completed, BecomeYes, BecomeNo}
use Rattle.order_theory.specs.Order.{Net}
use Rattle.order_theory.specs.Settle.{Acts}

-- Request (ii): "For a stage, count all rules but those triggered by another stage's completion."
unfoldable pub counted : ℕ → Trigger → Bool
counted stage None = true
counted stage (Completed c) = eqb c stage
counted stage (BecomeYes m) = true
counted stage (BecomeNo m) = true

-- what targets and references the rules of a book have, and which count for a stage
unfoldable pub net_of : Book → ℕ → Net
net_of b stage = record { count = length b.rules; counts = λ r. counted stage (rule_of b r).trigger; target = λ r. (rule_of b r).target; refers = refers b }

-- what they do while the stage is completed from a start
unfoldable pub acts_of : (b : Book) → Snap → (stage : ℕ) → Acts (net_of b stage)
unfolding net_of
acts_of b start stage =
    record {
      effect = λ r. (rule_of b r).effect;
      fires = fires b start stage;
      local = λ s u r h. fires-local b start stage s u r h;
    }
