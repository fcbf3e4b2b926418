-- What is compared: a chart that names no roles, its book's runs behind the header, and the room for the longest part. Assumes nothing.
use Rattle.std.specs.Prelude.{ℕ, ◌+◌, ◌*◌, ◌≤◌, ◌≡◌, List, ◌++◌, length, replicate}
use Rattle.paper.specs.Limits.{max_events, book_header, rule_size}
use Rattle.general.specs.Lists.{flat, packed}
use Rattle.general.specs.Writing.{Fits}
use Rattle.wire.specs.Wire.{bytes16}
use Rattle.flat_chart.specs.Chart.{chart_of}
use Rattle.flat_chart.specs.Flat.{FlatChart}
use Rattle.book.specs.ImageOf.{rule_bytes, condition_bytes}
use Rattle.derived.specs.Derived.{stage_rules}
use Rattle.derived.specs.Parts.{completion_at, CompletionsIn, text_at, condition_part, TextsIn}
use Rattle.derived.specs.Sizes.{completions_size}

-- two rules for each event and one more
abbrev pub part_room : ℕ
part_room = rule_size * (2 * max_events + 1)

abbrev pub roleless : ℕ → List ℕ → List ℕ → List ℕ → List ℕ → List ℕ → FlatChart
roleless count conditions responses milestones includes excludes = chart_of count conditions responses milestones includes excludes (replicate max_events 0)

module _ (n : ℕ) where
  -- for the tables of conditions, responses, milestones, includes and excludes
  unfoldable pub runs_behind : List ℕ → List ℕ → List ℕ → List ℕ → List ℕ → List ℕ
  runs_behind t r m i x =
      packed rule_bytes (flat n (completion_at n i x r))
      ++ (packed rule_bytes (flat n stage_rules) ++ (packed condition_bytes (flat n (condition_part n t m)) ++ packed bytes16 (flat n (text_at n t m))))

  pub record RunsReady (completions : ℕ) (t r m i x image part : List ℕ) : Type 0 where
    pub few : n ≤ max_events
    pub inclusions : CompletionsIn n i x r
    pub texts : TextsIn n t m
    pub sized : completions ≡ completions_size n i x r
    pub long : length part ≡ part_room
    pub fits : Fits image book_header (runs_behind t r m i x)

-- ---- the same of a chart

module _ (c : FlatChart) where
  abbrev pub without_roles : FlatChart
  without_roles = roleless c.count c.conditions c.responses c.milestones c.includes c.excludes

  abbrev pub chart_behind : List ℕ
  chart_behind = runs_behind c.count c.conditions c.responses c.milestones c.includes c.excludes

  abbrev pub ChartReady : ℕ → List ℕ → List ℕ → Type 0
  ChartReady completions image part = RunsReady c.count completions c.conditions c.responses c.milestones c.includes c.excludes image part
