-- Demand 2: from a marking and its matching snapshot, chart and derived book grant exactly the same events, and they match again after every
-- step of every sequence; by request (i) "for steps by a permitted role", by request (ii) in the order that the check writes for each completed stage.
-- Stated of what the calls give: derive, check, matching, execute and complete. Assumes nothing.
use Rattle.std.specs.Prelude.{ℕ, ◌≤◌, ◌<◌, ◌≡◌, List, length}
use Rattle.std.proofs.Math.Path.{ap}
use Rattle.paper.specs.Answers.{granted}
use Rattle.paper.specs.declared.Answer.{Answer}
use Rattle.flat_chart.specs.Chart.{Fit}
use Rattle.flat_chart.specs.Flat.{FlatChart}
use Rattle.order_theory.specs.Order as order
use Rattle.order_theory.specs.Order.{counted_rules}
use Rattle.rule_order.specs.Nets.{rules_of}
use Rattle.judge.specs.Checking.{checking}
use Rattle.deriver.specs.Deriving.{derived_image}
use Rattle.runner.specs.Completion.{written-fit}
use Rattle.promises.specs.Demand2.{granted_bytes, derived-passes, stages-are, alike, ordered, Demand2}

-- given room for the book, and for the order of each stage
pub demand-2 : (c : FlatChart) → Fit c → (bytes room : List ℕ) → length (derived_image c) ≤ length bytes
    → ((e : ℕ) → e < c.count → counted_rules (rules_of (derived_image c) e) ≤ length room) → Demand2 c bytes room
demand-2 c t bytes room h k =
    let g = granted_bytes c t bytes h in
    let p : (e : ℕ) → e < c.count → checking (derived_image c) e (length room) ≡ granted = λ e i. derived-passes c t e (length room) (rw (stages-are c t) i) (k e i) in
    let f : (e : ℕ) → e < c.count → order.Fit (rules_of (derived_image c) e) (ordered (derived_image c) room e) =
    λ e i. written-fit (derived_image c) e room (ap (λ (a : Answer). a.code) (p e i)) in
    record {
      derives = g.0;
      writes = g.1;
      passes = rw g.1 p;
      agrees = λ m n steps. rw g.1 (alike c t (ordered (derived_image c) room) f m n steps);
    }
