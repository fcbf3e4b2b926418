-- A span that is given as one value. Assumes nothing.
use Rattle.std.specs.Prelude.{ℕ}
use Rattle.order_theory.specs.Order.{Net}
use Rattle.unwritten.specs.Counters as counters
use Rattle.unwritten.specs.declared.waiting.Span.{Span}

-- every rule that counts is in the span
abbrev pub Spanned : Net → ℕ → Span → Type 0
Spanned N rules span = counters.Span N rules span.from span.to span.again span.end
