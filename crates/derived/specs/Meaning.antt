-- What each rule and each word of a derived book says of its chart, and that each relation has its rule or its word: of the exclusions, those that no inclusion overrules.
-- Assumes nothing.
use Rattle.std.specs.Prelude.{ℕ, ◌<◌, ◌≡◌, refl, true, false}
use native.Mathlib.Omega.{arith}
use Rattle.general.specs.Cases.{contra, cases, not_so}
use Rattle.general.specs.Lists.{All}
use Rattle.sets.specs.Set.{has}
use Rattle.flat_chart.specs.Chart.{condition, response, milestone, include, exclude, set_of, In, Fit}
use Rattle.graph.specs.Overruled.{standing_at}
use Rattle.flat_chart.specs.Flat.{FlatChart}
use Rattle.book.specs.declared.Rule.{Rule}
use Rattle.book.specs.declared.Trigger.TheVariants.{None, Completed}
use Rattle.derived.specs.Derived.{executed_mark, included_mark, answered_mark, on, inclusion, responding, answering, setting_executed}
use Rattle.derived.specs.Derived.{derived_rules, join, parts}
use Rattle.derived.specs.Overruled.{stands-both}

module _ (c : FlatChart) where
  abbrev n : ℕ
  n = c.count

  -- ---- the rules

  -- on completion of e an included mark set or cleared, and an answered mark cleared
  pub record Says (r : Rule) : Type 0 where
    pub includes : (e f : ℕ) → f < n → r.trigger ≡ Completed e → r.effect ≡ true → r.target ≡ included_mark n f → In (set_of c include e) f
    pub excludes : (e f : ℕ) → f < n → r.trigger ≡ Completed e → r.effect ≡ false → r.target ≡ included_mark n f → In (standing_at c e) f
    pub responds : (e f : ℕ) → f < n → r.trigger ≡ Completed e → r.effect ≡ false → r.target ≡ answered_mark n f → In (set_of c response e) f

  -- a rule without trigger says nothing
  silent : {C : Type 0} {e : ℕ} → None ≡ Completed e → C
  silent p = absurd (let z : ◌≡◌ {A = ℕ} 0 1 = cc in omega arith)

  stage-of : {d e : ℕ} → Completed d ≡ Completed e → d ≡ e
  stage-of p = cc

  module _ (e f : ℕ) where
    include-says : In (set_of c include e) f → Says (on e true (included_mark n f))
    include-says m =
        record {
          includes = λ d g l t b q. let z : f ≡ g = omega arith in rw (← z, ← stage-of t) m;
          excludes = λ d g l t b q. contra refl b;
          responds = λ d g l t b q. contra refl b;
        }

    exclude-says : f < n → In (standing_at c e) f → Says (on e false (included_mark n f))
    exclude-says h m =
        record {
          includes = λ d g l t b q. contra b refl;
          excludes = λ d g l t b q. let z : f ≡ g = omega arith in rw (← z, ← stage-of t) m;
          responds = λ d g l t b q. absurd (omega arith);
        }

    respond-says : In (set_of c response e) f → Says (on e false (answered_mark n f))
    respond-says m =
        record {
          includes = λ d g l t b q. contra b refl;
          excludes = λ d g l t b q. absurd (omega arith);
          responds = λ d g l t b q. let z : f ≡ g = omega arith in rw (← z, ← stage-of t) m;
        }

  answer-says : (e : ℕ) → Says (on e true (answered_mark n e))
  answer-says e = record { includes = λ d g l t b q. absurd (omega arith); excludes = λ d g l t b q. contra refl b; responds = λ d g l t b q. contra refl b }

  executed-says : (e : ℕ) → e < n → Says (setting_executed n e)
  executed-says e h = record { includes = λ d g l t b q. absurd (omega arith); excludes = λ d g l t b q. contra refl b; responds = λ d g l t b q. contra refl b }

  pub rules-say : All Says (derived_rules c)
  unfolding inclusion responding answering
  rules-say =
      join c Says (record {
        inclusions = λ e h f l.
            cases (has (set_of c include e) f) (λ t. rw t (include-says e f t, tt))
            (λ t. cases (has (set_of c exclude e) f) (λ u. rw (t, u) (exclude-says e f l ((stands-both c e f).1 (u, λ i. contra i t)), tt)) (λ u. rw (t, u) tt));
        responses = λ e h f l. cases (has (set_of c response e) f) (λ t. rw t (respond-says e f t, tt)) (λ t. rw t tt);
        answers = λ e h. cases (has (set_of c response e) e) (λ t. rw t tt) (λ t. rw t (answer-says e, tt));
        executed = executed-says;
        opened = λ e h. record { includes = λ d g l t b q. silent t; excludes = λ d g l t b q. silent t; responds = λ d g l t b q. silent t };
        closed = λ e h. record { includes = λ d g l t b q. silent t; excludes = λ d g l t b q. silent t; responds = λ d g l t b q. silent t };
      })

  -- what holds of every rule holds of the one that a relation has
  module _ (fit : Fit c) (P : Rule → Type 0) (a : All P (derived_rules c)) (e f : ℕ) (h : e < n) where
    pub of-include : In (set_of c include e) f → P (on e true (included_mark n f))
    unfolding inclusion
    of-include m = (rw m at ((parts c P a).inclusions e h f (fit.inside include e f h m))).0

    pub of-exclude : In (standing_at c e) f → P (on e false (included_mark n f))
    unfolding inclusion
    of-exclude m =
        let (x, o) = (stands-both c e f).0 m in
        (rw (not_so o, x) at ((parts c P a).inclusions e h f (fit.inside exclude e f h x))).0

    pub of-response : In (set_of c response e) f → P (on e false (answered_mark n f))
    unfolding responding
    of-response m = (rw m at ((parts c P a).responses e h f (fit.inside response e f h m))).0

  -- ---- the words of the text of e

  pub record Names (e : ℕ) (w : ℕ) : Type 0 where
    pub conditions : (f : ℕ) → f < n → w ≡ executed_mark n f → In (set_of c condition e) f
    pub milestones : (f : ℕ) → f < n → w ≡ answered_mark n f → In (set_of c milestone e) f
