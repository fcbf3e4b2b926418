-- What one rule, all rules and all texts of a book make of a chart that is gathered. Assumes nothing.
use Rattle.std.specs.Prelude.{ℕ, List, Bool, true, false, ◌*◌}
use Rattle.flat_chart.specs.Flat.{FlatChart}
use Rattle.book.specs.declared.Rule.{Rule}
use Rattle.gathering.specs.Gathering.{rows_below, gathered_includes, gathered_excludes, gathered_responses, gathered_conditions, gathered_milestones}
use Rattle.gathering.specs.Noting.{taking}

-- with one rule taken in, of a book of n stages
abbrev pub with_rule : ℕ → Rule → FlatChart → FlatChart
with_rule n r c =
    record c {
      includes = taking n (2 * n) true r c.includes;
      excludes = taking n (2 * n) false r c.excludes;
      responses = taking n (3 * n) false r c.responses;
    }

-- with what the rules say
abbrev pub with_rules : ℕ → List Rule → FlatChart → FlatChart
with_rules n rules c =
    record c {
      includes = rows_below n (gathered_includes n rules);
      excludes = rows_below n (gathered_excludes n rules);
      responses = rows_below n (gathered_responses n rules);
    }

-- with what the texts say: text e is stage e's
abbrev pub with_texts : ℕ → (ℕ → List ℕ) → FlatChart → FlatChart
with_texts n text c =
    record c {
      conditions = rows_below n (λ e. gathered_conditions n (text e));
      milestones = rows_below n (λ e. gathered_milestones n (text e));
    }
