-- What each rule and each word of a derived book says of its chart, and that each relation has its rule or its word: of the exclusions, those that no inclusion overrules.
-- Assumes nothing.
use Rattle.std.specs.Prelude.{ℕ, ◌*◌, ◌≤◌, ◌<◌, ◌≡◌}
use native.Mathlib.Omega.{arith}
use Rattle.paper.specs.Limits.{max_events}
use Rattle.general.specs.Cases.{cases}
use Rattle.general.specs.Lists.{flat, All, all_append, append-all, all-flat, flat-all}
use Rattle.sets.specs.Set.{has}
use Rattle.flat_chart.specs.Chart.{condition, milestone, set_of, In, Fit}
use Rattle.flat_chart.specs.Flat.{FlatChart}
use Rattle.derived.specs.Derived.{executed_mark, included_mark, answered_mark, listed, clause, text_for}
use Rattle.derived.specs.Derived.{derived_text}
use Rattle.derived.specs.Meaning.{Names}

module _ (c : FlatChart) where
  abbrev n : ℕ
  n = c.count

  module _ (fit : Fit c) (e : ℕ) (h : e < n) where
    few : n ≤ max_events
    few = fit.few

    -- what holds of every word holds of the one that a relation has
    module _ (P : ℕ → Type 0) (a : All P (derived_text c e)) (f : ℕ) where
      clauses : All P (flat n (listed (clause n (executed_mark n)) (set_of c condition e))) × All P (flat n (listed (clause n (answered_mark n)) (set_of c milestone e)))
      unfolding derived_text text_for
      clauses = append-all P (flat n (listed (clause n (executed_mark n)) (set_of c condition e))) _ a.1

      of-clause : (mark : ℕ → ℕ) (s : ℕ) → All P (flat n (listed (clause n mark) s)) → f < n → In s f → P (mark f)
      of-clause mark s b l m = (rw m at (flat-all P n (listed (clause n mark) s) b f l)).1.1.0

      pub of-condition : In (set_of c condition e) f → P (executed_mark n f)
      of-condition m = of-clause (executed_mark n) (set_of c condition e) clauses.0 (fit.inside condition e f h m) m

      pub of-milestone : In (set_of c milestone e) f → P (answered_mark n f)
      of-milestone m = of-clause (answered_mark n) (set_of c milestone e) clauses.1 (fit.inside milestone e f h m) m

    -- an included mark or an operator names neither
    other : (w : ℕ) → ((f : ℕ) → f < n → w ≡ executed_mark n f → ⊥) → ((f : ℕ) → f < n → w ≡ answered_mark n f → ⊥) → Names c e w
    other w x y = record { conditions = λ f l q. absurd (x f l q); milestones = λ f l q. absurd (y f l q) }

    included-names : (f : ℕ) → f < n → Names c e (included_mark n f)
    included-names f h = other _ (λ g l q. omega arith) (λ g l q. omega arith)

    operator-names : (w : ℕ) → 4 * max_events ≤ w → Names c e w
    operator-names w k = other w (λ g l q. let m = few in omega arith) (λ g l q. let m = few in omega arith)

    clause-names : (mark : ℕ → ℕ) (s : ℕ) → ((f : ℕ) → f < n → In s f → Names c e (mark f)) → All (Names c e) (flat n (listed (clause n mark) s))
    clause-names mark s k =
        all-flat (Names c e) n (listed (clause n mark) s) (λ f l.
        cases (has s f)
        (λ t. rw t (included-names f l, (operator-names _ (omega arith), (k f l t, (operator-names _ (omega arith), (operator-names _ (omega arith), tt))))))
        (λ t. rw t tt))

    pub text-names : All (Names c e) (derived_text c e)
    unfolding derived_text text_for
    text-names = (
      included-names e h,
      all_append (Names c e) (flat n (listed (clause n (executed_mark n)) (set_of c condition e))) _
          (clause-names (executed_mark n) (set_of c condition e) (λ f l m.
          record { conditions = λ g k q. let z : f ≡ g = omega arith in rw (← z) m; milestones = λ g k q. absurd (omega arith) }))
          (clause-names (answered_mark n) (set_of c milestone e) (λ f l m.
          record { conditions = λ g k q. absurd (omega arith); milestones = λ g k q. let z : f ≡ g = omega arith in rw (← z) m })),
    )
