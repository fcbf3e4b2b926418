-- The chart that a derived book is gathered to: the fit chart that it was derived from, without its roles and, by request (xii), without the exclusions that an inclusion
-- overrules. Assumes nothing.
use Rattle.std.specs.Prelude.{ℕ, ◌≤◌, ◌<◌, ◌≡◌, Bool, not, ltb}
use Rattle.std.proofs.Math.Path.{refl}
use Rattle.std.proofs.Common.{sym, ap, ◌∙◌, arith, eqb-true, eq-eqb, ltb-true, ltb-false}
use Rattle.std.proofs.Math.Bool.{true, false, cond}
use Rattle.std.proofs.Math.Dec.{eqb}
use Rattle.std.proofs.lemmas.Bool.{not-true}
use Rattle.paper.specs.Limits.{max_events}
use Rattle.general.specs.Cases.{contra, cases, both, same_test}
use Rattle.general.specs.Tables.{tabulate, get_or-tabulate, tabulate-same, zeros-at}
use Rattle.general.specs.Lists.{All, all_map}
use Rattle.sets.specs.Set.{has}
use Rattle.sets.specs.Laws.{ext}
use Rattle.flat_chart.specs.Chart.{Kind, condition, response, milestone, include, exclude, set_of, In, Fit}
use Rattle.graph.specs.Overruled.{standing_at}
use Rattle.flat_chart.specs.Flat.{FlatChart}
use Rattle.book.specs.Book.{no_rule, text_of}
use Rattle.book.specs.declared.Rule.{Rule}
use Rattle.book.specs.declared.Trigger.{Trigger}
use Rattle.book.specs.declared.Trigger.TheVariants.{None, Completed, BecomeYes, BecomeNo}
use Rattle.derived.specs.Derived.{executed_mark, included_mark, answered_mark, on, derived_rules, derived_text, derived_book, derived-text}
use Rattle.derived.specs.Overruled.{standing_of, stands-both, stands-in, stands-past}
use Rattle.derived.specs.OneChart.{SameRelations}
use Rattle.derived.specs.Meaning.{Says, rules-say, of-include, of-exclude, of-response, Names}
use Rattle.derived.proofs.Meaning.{text-names, of-condition, of-milestone}
use Rattle.gathering.specs.Gathering.{completes, adds, gathered_by, named_in, rows_below, gathered}
use Rattle.gathering.specs.Behind.{bare, passing-is, derived-same, bare-count, bare-roles}

-- ---- the rules

completes-says : (e : ℕ) (t : Trigger) → completes e t ≡ true → t ≡ Completed e
unfolding completes
completes-says e None h = contra h refl
completes-says e (Completed s) h = rw (eqb-true e s h)
completes-says e (BecomeYes m) h = contra h refl
completes-says e (BecomeNo m) h = contra h refl

-- what a rule that adds is, and that the rule of a relation adds
adds-says : (e m : ℕ) (b : Bool) (r : Rule) → adds e b m r ≡ true → (r.trigger ≡ Completed e) × (r.effect ≡ b) × (r.target ≡ m)
unfolding adds
adds-says e m b r h =
    let t = both (completes e r.trigger) _ h in
    let u = both (cond b r.effect (not r.effect)) (eqb m r.target) t.1 in
    (completes-says e r.trigger t.0, effect b r.effect u.0, sym (eqb-true m r.target u.1))
  where
    effect : (b x : Bool) → cond b x (not x) ≡ true → x ≡ b
    effect true x h = h
    effect false x h = not-true x h

on-adds : (e m : ℕ) (b : Bool) → adds e b m (on e b m) ≡ true
unfolding adds completes
on-adds e m true = rw (eq-eqb e e refl, eq-eqb m m refl)
on-adds e m false = rw (eq-eqb e e refl, eq-eqb m m refl)

module _ (c : FlatChart) (fit : Fit c) where
  abbrev n : ℕ
  n = c.count

  module _ (e : ℕ) (h : e < n) where
    -- one law for the three kinds that rules tell of
    module _ (k : Kind) (mark : ℕ → ℕ → ℕ) (b : Bool)
        (sound : (r : Rule) → Says c r → (f : ℕ) → f < n → r.trigger ≡ Completed e → r.effect ≡ b → r.target ≡ mark n f → In (standing_of c k e) f)
        (whole : (P : Rule → Type 0) → All P (derived_rules c) → (f : ℕ) → In (standing_of c k e) f → P (on e b (mark n f))) where
      by-rules : gathered_by mark b n (derived_rules c) e ≡ standing_of c k e
      unfolding gathered_by
      by-rules =
          passing-is no_rule n (λ f. adds e b (mark n f)) (derived_rules c) (standing_of c k e)
          (λ f l. all_map (Says c) (λ r. adds e b (mark n f) r ≡ true → In (standing_of c k e) f)
          (λ r s a. let t = adds-says e (mark n f) b r a in sound r s f l t.0 t.1 t.2) (derived_rules c) (rules-say c))
          (λ f m. (fit.inside k e f h (stands-in c k e f m), λ never. contra (on-adds e (mark n f) b) (whole (λ r. adds e b (mark n f) r ≡ false) never f m)))

    -- and one for the two that a text names
    module _ (k : Kind) (mark : ℕ → ℕ → ℕ)
        (sound : (w : ℕ) → Names c e w → (f : ℕ) → f < n → w ≡ mark n f → In (standing_of c k e) f)
        (whole : (P : ℕ → Type 0) → All P (derived_text c e) → (f : ℕ) → In (standing_of c k e) f → P (mark n f)) where
      by-text : named_in mark n (text_of (derived_book c) e) ≡ standing_of c k e
      unfolding named_in
      by-text =
          rw (derived-text c e h) (passing-is 0 n (λ f. eqb (mark n f)) (derived_text c e) (standing_of c k e)
          (λ f l. all_map (Names c e) (λ w. eqb (mark n f) w ≡ true → In (standing_of c k e) f) (λ w s a. sound w s f l (sym (eqb-true (mark n f) w a)))
          (derived_text c e) (text-names c fit e h))
          (λ f m. (fit.inside k e f h (stands-in c k e f m), λ never. contra (eq-eqb (mark n f) (mark n f) refl) (whole (λ w. eqb (mark n f) w ≡ false) never f m))))

  -- the rows are the table's
  rows : (k : Kind) (row : ℕ → ℕ) → ((e : ℕ) → e < n → row e ≡ standing_of c k e) → rows_below n row ≡ tabulate max_events (standing_of c k)
  unfolding rows_below
  rows k row same =
      tabulate-same max_events (λ e. cond (ltb e n) (row e) 0) (standing_of c k) (λ e h.
      cases (ltb e n) (λ t. rw t (same e (ltb-true e n t))) (λ t. rw t (sym (stands-past c fit k e (ltb-false e n t) h))))

  pub gathered-derived : gathered (derived_book c) ≡ bare c
  unfolding gathered derived_book bare
  gathered-derived =
      rw (
        rows condition (λ e. named_in executed_mark n (text_of (derived_book c) e)) (λ e h.
            by-text e h condition executed_mark (λ w s. s.conditions) (λ P a f. of-condition c fit e h P a f)),
        rows response (gathered_by answered_mark false n (derived_rules c)) (λ e h.
            by-rules e h response answered_mark false (λ r s f. s.responds e f) (λ P a f. of-response c fit P a e f h)),
        rows milestone (λ e. named_in answered_mark n (text_of (derived_book c) e)) (λ e h.
            by-text e h milestone answered_mark (λ w s. s.milestones) (λ P a f. of-milestone c fit e h P a f)),
        rows include (gathered_by included_mark true n (derived_rules c)) (λ e h.
            by-rules e h include included_mark true (λ r s f. s.includes e f) (λ P a f. of-include c fit P a e f h)),
        rows exclude (gathered_by included_mark false n (derived_rules c)) (λ e h.
            by-rules e h exclude included_mark false (λ r s f. s.excludes e f) (λ P a f. of-exclude c fit P a e f h)),
      )

module _ (c : FlatChart) where
  pub bare_set : (k : Kind) (e : ℕ) → e < max_events → set_of (bare c) k e ≡ standing_of c k e
  unfolding bare
  bare_set condition e h = get_or-tabulate max_events (set_of c condition) e 0 h
  bare_set response e h = get_or-tabulate max_events (set_of c response) e 0 h
  bare_set milestone e h = get_or-tabulate max_events (set_of c milestone) e 0 h
  bare_set include e h = get_or-tabulate max_events (set_of c include) e 0 h
  bare_set exclude e h = get_or-tabulate max_events (standing_at c) e 0 h

  -- no exclusion of it is overruled
  pub bare-standing : (k : Kind) (e : ℕ) → e < max_events → standing_of (bare c) k e ≡ standing_of c k e
  bare-standing condition e h = bare_set condition e h
  bare-standing response e h = bare_set response e h
  bare-standing milestone e h = bare_set milestone e h
  bare-standing include e h = bare_set include e h
  bare-standing exclude e h =
      ext (standing_at (bare c) e) (standing_at c e) (λ f.
      same_test (has (standing_at (bare c) e) f) (has (standing_at c e) f)
      (λ i. rw (bare_set exclude e h) at ((stands-both (bare c) e f).0 i).0)
      (λ i. (stands-both (bare c) e f).1 (rw (bare_set exclude e h) i, rw (bare_set include e h) ((stands-both c e f).0 i).1)))

  pub bare-same : SameRelations (bare c) c
  bare-same = record { count = bare-count c; relations = bare-standing }

  module _ (fit : Fit c) where
    pub fit-bare : Fit (bare c)
    fit-bare =
        let l : c.count ≤ max_events = fit.few in
        record {
          some = rw (bare-count c) fit.some;
          few = rw (bare-count c) fit.few;
          inside = λ k e f h m. let i : e < c.count = rw (bare-count c) at h in rw (bare-count c) (fit.inside k e f i (stands-in c k e f (rw (bare_set k e (omega arith)) at m)));
          past = λ k e h i. bare_set k e i ∙ stands-past c fit k e (rw (bare-count c) at h) i;
          unnamed = λ e h i. rw (bare-roles c) (zeros-at max_events e);
        }

    pub derived-bare : derived_book (bare c) ≡ derived_book c
    derived-bare = derived-same (bare c) c (rw (bare-count c) fit.few) bare-same

-- "No two charts behind one book", the short way: both are what is gathered from it
pub no-two-charts-short : (c d : FlatChart) → Fit c → Fit d → derived_book c ≡ derived_book d → bare c ≡ bare d
no-two-charts-short c d x y q = sym (gathered-derived c x) ∙ ap gathered q ∙ gathered-derived d y
