-- The flat chart's five relations by kind, one event's row of them, and what fit means. Assumes nothing.
use Rattle.std.specs.Prelude.{ℕ, ◌≤◌, ◌<◌, ◌≡◌, true, List, get_or, replicate}
use Rattle.paper.specs.Limits.{max_events}
use Rattle.sets.specs.Set.{has}
use Rattle.flat_chart.specs.Flat.{FlatChart, Row}

pub data Kind : Type 0 where
  condition response milestone include exclude : Kind

abbrev pub table : FlatChart → Kind → List ℕ
table c condition = c.conditions
table c response = c.responses
table c milestone = c.milestones
table c include = c.includes
table c exclude = c.excludes

-- the set of event e
abbrev pub set_of : FlatChart → Kind → ℕ → ℕ
set_of c k e = get_or (table c k) e 0

-- f is a member of s
abbrev pub In : ℕ → ℕ → Type 0
In s f = has s f ≡ true

-- the roles that event e names
abbrev pub roles_of : FlatChart → ℕ → ℕ
roles_of c e = get_or c.roles e 0

-- the sets of event e, and the roles that it names
abbrev pub row_of : FlatChart → ℕ → Row
row_of c e =
    record {
      conditions = set_of c condition e;
      responses = set_of c response e;
      milestones = set_of c milestone e;
      includes = set_of c include e;
      excludes = set_of c exclude e;
      roles = roles_of c e;
    }

-- "A flat chart is fit if the count is 1 to 64, no bit stands outside it, every set past it is empty", and no more by request (xii): "A fit flat chart may have a pair
-- in both tables." Request (xiv): 1 to 256. Request (i): "The flat chart holds a role byte per event, 0 past the count."
pub record Fit (c : FlatChart) : Type 0 where
  pub some : 1 ≤ c.count
  pub few : c.count ≤ max_events
  pub inside : (k : Kind) (e f : ℕ) → e < c.count → In (set_of c k e) f → f < c.count
  pub past : (k : Kind) (e : ℕ) → c.count ≤ e → e < max_events → set_of c k e ≡ 0
  pub unnamed : (e : ℕ) → c.count ≤ e → e < max_events → roles_of c e ≡ 0

-- a chart in its parts, as the calls lend them
abbrev pub chart_of : ℕ → List ℕ → List ℕ → List ℕ → List ℕ → List ℕ → List ℕ → FlatChart
chart_of count conditions responses milestones includes excludes roles =
    record { count = count; conditions = conditions; responses = responses; milestones = milestones; includes = includes; excludes = excludes; roles = roles }

-- ---- what a refused reading gives

unfoldable pub empty_chart : FlatChart
empty_chart =
    record {
      count = 0;
      conditions = replicate max_events 0;
      responses = replicate max_events 0;
      milestones = replicate max_events 0;
      includes = replicate max_events 0;
      excludes = replicate max_events 0;
      roles = replicate max_events 0;
    }
