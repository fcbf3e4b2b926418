-- The lowest source that a rule on a loop targets, or none. Assumes nothing.
use Rattle.std.specs.Prelude.{ℕ, ◌<◌, Option, Some, None}
use Rattle.book.specs.Marks.{word_bits}
use Rattle.order_theory.specs.Order.{Net}
use Rattle.loop_search.specs.Spreading.{LowestSource}

abbrev pub SourceFound : Net → ℕ → Option ℕ → Type 0
SourceFound N base None = LowestSource N base word_bits
SourceFound N base (Some i) = (i < word_bits) × LowestSource N base i
