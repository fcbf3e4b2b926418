-- Request (iv): a morning's completions in one call. The list is one call through the index after another, and for a book derived from a fit chart it goes with the
-- chart's steps by permitted roles, as far as both go. Assumes nothing.
use Rattle.std.specs.Prelude.{ℕ, suc, ◌+◌, ◌≤◌, ◌<◌, ◌≡◌, refl, ◌↔◌, length}
use Rattle.std.proofs.Common.{sym, ap, ◌∙◌}
use Rattle.std.proofs.Math.Path.{subst}
use mathlib.Core.List.{List, [], ◌∷◌}
use Rattle.paper.specs.Limits.{max_marks, max_list}
use Rattle.flat_chart.specs.Chart.{Fit, roles_of}
use Rattle.graph.specs.Fitness.{FitMarking}
use Rattle.flat_chart.specs.Roles.{Permits}
use Rattle.graph.specs.Steps.{executing}
use Rattle.graph.specs.Execution.{granted-enabled}
use Rattle.flat_chart.specs.Flat.{FlatChart}
use Rattle.graph.specs.Flat.{Marking}
use Rattle.order_theory.specs.Order as order
use Rattle.book.specs.Image.{book_of}
use Rattle.book.specs.declared.Snapshot.{Snapshot}
use Rattle.rule_order.specs.Nets.{rules_of}
use Rattle.judge.specs.Checking.{order-fit, acyclic-at}
use Rattle.deriver.specs.Deriving.{derived_image}
use Rattle.deriver.specs.Matching.{matching_of}
use Rattle.runner.specs.Completing.{completing}
use Rattle.runner.specs.declared.Completion.{Completion}
use Rattle.index.specs.Index.{order_of}
use Rattle.index_builder.specs.Building.{index_of}
use Rattle.indexed.specs.Indexed.{completing_indexed, completion_of}
use Rattle.indexed.specs.IndexedTable.{along-order, indexed-hands-back, indexed-known}
use Rattle.indexed_list.specs.InList.{completing_list, InTurn, ended, goes, stops}
use Rattle.indexed_list.specs.ListTable.{in-turn-one}
use Rattle.indexed_list.proofs.ListTable.{list-in-turn}
use Rattle.indexed.specs.declared.IndexedCompletion.{IndexedCompletion}
use Rattle.promises.specs.Demand2.{passes, stages-are, same-grants, match-again, fit-again, matching-whole}

-- the chart's steps one after another, each an event and a role, stopping at the first that is refused: how many are granted, and the marking reached
pub data StepsInTurn (c : FlatChart) : Marking → List (ℕ × ℕ) → ℕ → Marking → Type 0 where
  end : {m : Marking} → StepsInTurn c m [] 0 m
  step : {m y : Marking} {e r n : ℕ} {steps : List (ℕ × ℕ)} → (executing c m e r).answer.code ≡ 0 → StepsInTurn c (executing c m e r).marking steps n y → StepsInTurn c m ((e, r) ∷ steps) (suc n) y
  stop : {m : Marking} {e r : ℕ} {steps : List (ℕ × ℕ)} → ((executing c m e r).answer.code ≡ 0 → ⊥) → StepsInTurn c m ((e, r) ∷ steps) 0 m

-- the events of the steps
unfoldable pub events_of : List (ℕ × ℕ) → List ℕ
events_of [] = []
events_of (s ∷ steps) = s.0 ∷ events_of steps

-- every step is by a role that its event permits
abbrev pub Permitted : FlatChart → List (ℕ × ℕ) → Type 0
Permitted c [] = Unit {0}
Permitted c (s ∷ steps) = Permits (roles_of c s.0) s.1 × Permitted c steps

module _ (c : FlatChart) (fit : Fit c) where
  -- through the index of the derived book, from the snapshot that matches a marking
  abbrev pub completes_from : Marking → ℕ → IndexedCompletion
  completes_from m e = completing_indexed (derived_image c) (index_of (derived_image c)) (matching_of c m).snapshot e

  module _ (m : Marking) (marked : FitMarking c.count m) (e r : ℕ) (p : Permits (roles_of c e) r) where
    fits : e < c.count → order.Fit (rules_of (derived_image c) e) (order_of (book_of (derived_image c)) e)
    fits h = order-fit (derived_image c) (passes c fit).formed e (acyclic-at (derived_image c) e (passes c fit).acyclic (rw (stages-are c fit) h))

    along : e < c.count → completion_of (completes_from m e) ≡ completing (derived_image c) (order_of (book_of (derived_image c)) e) (matching_of c m).snapshot e
    along h = along-order (derived_image c) (index_of (derived_image c)) (passes c fit) refl (matching_of c m).snapshot e (rw (stages-are c fit) h)

    there : (executing c m e r).answer.code ≡ 0 → e < c.count
    there z = ((granted-enabled c m e r).0 z).0.stands.exists

    pub grants-alike : ((executing c m e r).answer.code ≡ 0) ↔ ((completes_from m e).answer.code ≡ 0)
    grants-alike =
        let g = same-grants c fit m marked e r (order_of (book_of (derived_image c)) e) fits p in (
          λ z. ap (λ (x : Completion). x.answer.code) (along (there z)) ∙ g.0 z,
          λ z. let h : e < c.count = rw (stages-are c fit) at (indexed-known (derived_image c) (index_of (derived_image c)) (matching_of c m).snapshot e z) in
              g.1 (sym (ap (λ (x : Completion). x.answer.code) (along h)) ∙ z),
        )

    pub matches-alike : (executing c m e r).answer.code ≡ 0 → (completes_from m e).snapshot ≡ (matching_of c (executing c m e r).marking).snapshot
    matches-alike z = ap (λ (x : Completion). x.snapshot) (along (there z)) ∙ match-again c fit m marked e r (order_of (book_of (derived_image c)) e) fits p

    pub stays_fit : FitMarking c.count (executing c m e r).marking
    stays_fit = fit-again c fit m marked e r (order_of (book_of (derived_image c)) e) fits

  -- along the steps the calls through the index are granted alike, and the snapshot reached matches the marking reached
  pub steps_alike : {m y : Marking} {n : ℕ} (steps : List (ℕ × ℕ)) → FitMarking c.count m → Permitted c steps → StepsInTurn c m steps n y
      → (k : ℕ) × InTurn (derived_image c) (index_of (derived_image c)) (matching_of c m).snapshot (events_of steps) n (matching_of c y).snapshot k
  unfolding events_of
  steps_alike {m} {y} {n} [] t p end = (0, ended)
  steps_alike {m} {y} {n} ((e, r) ∷ steps) t p (step {n = l} g w) =
      let (k, u) = steps_alike {m = (executing c m e r).marking} steps (stays_fit m t e r p.0) p.1 w in (
        (completes_from m e).evaluated + k,
        goes ((grants-alike m t e r p.0).0 g)
            (subst (λ (x : Snapshot). InTurn (derived_image c) (index_of (derived_image c)) x (events_of steps) l (matching_of c y).snapshot k) (sym (matches-alike m t e r p.0 g)) u),
      )
  steps_alike {m} {y} {n} ((e, r) ∷ steps) t p (stop z) =
      let u : (completes_from m e).answer.code ≡ 0 → ⊥ = λ x. z ((grants-alike m t e r p.0).1 x) in (
        0,
        subst (λ (x : Snapshot). InTurn (derived_image c) (index_of (derived_image c)) (matching_of c m).snapshot (e ∷ events_of steps) 0 x 0)
            (indexed-hands-back (derived_image c) (index_of (derived_image c)) (matching_of c m).snapshot e u) (stops u),
      )

pub record Lists : Type 0 where
  -- "The end snapshot and the number granted are the same as one call after another, stopping at the first that is refused.", and no other are; by request (vi) the
  -- rules evaluated are "the sum over the granted ones", of what those calls report
  pub in_turn : (book index : List ℕ) (s : Snapshot) (list : List ℕ) → length s.marks ≡ max_marks → length list ≤ max_list
      → InTurn book index s list (completing_list book index s list).granted (completing_list book index s list).snapshot (completing_list book index s list).evaluated
  pub only : (book index : List ℕ) (s y z : Snapshot) (list : List ℕ) (n m k l : ℕ) → InTurn book index s list n y k → InTurn book index s list m z l → (n ≡ m) × (y ≡ z) × (k ≡ l)
  -- for a derived book: along any list of events by permitted roles, as many are granted as the chart grants steps, and the snapshot reached matches the marking reached
  pub alike : (c : FlatChart) → Fit c → (m y : Marking) → FitMarking c.count m → (steps : List (ℕ × ℕ)) → Permitted c steps → length (events_of steps) ≤ max_list → (n : ℕ)
      → StepsInTurn c m steps n y
      → ((completing_list (derived_image c) (index_of (derived_image c)) (matching_of c m).snapshot (events_of steps)).granted ≡ n)
      × ((completing_list (derived_image c) (index_of (derived_image c)) (matching_of c m).snapshot (events_of steps)).snapshot ≡ (matching_of c y).snapshot)

pub lists-in-turn : Lists
lists-in-turn =
    record {
      in_turn = list-in-turn;
      only = λ book index s y z list n m k l g h. in-turn-one g h;
      alike = λ c f m y t steps p l n w.
          let a = list-in-turn (derived_image c) (index_of (derived_image c)) (matching_of c m).snapshot (events_of steps) (matching-whole c f m t) l in
          let (g, s, _) = in-turn-one a (steps_alike c f steps t p w).1 in
          (g, s);
    }
