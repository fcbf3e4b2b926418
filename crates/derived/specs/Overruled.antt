-- Request (xii): "The deriver writes the clearing rule only where there is no include." A pair in both tables has one rule, which sets, and the book does not tell an
-- overruled exclusion from none. Assumes nothing.
use Rattle.std.specs.Prelude.{ℕ, ◌+◌, ◌*◌, ◌≤◌, ◌<◌, ◌≡◌, not, ◌↔◌, [], ◌∷◌}
use Rattle.std.proofs.Math.Path.{refl, ap}
use Rattle.std.proofs.Common.{sym, ◌∙◌}
use Rattle.std.proofs.Math.Bool.{true, false, and-true}
use native.Mathlib.Omega.{arith}
use Rattle.std.proofs.lemmas.Bool.{not-true}
use Rattle.paper.specs.Limits.{max_events}
use Rattle.general.specs.Cases.{contra, cases, both, not_so}
use Rattle.general.specs.Lists.{flat-same, All}
use Rattle.sets.specs.Set.{has, minus}
use Rattle.sets.specs.Laws.{has-minus, has-empty, none-zero}
use Rattle.flat_chart.specs.Chart.{Kind, condition, response, milestone, include, exclude, set_of, In, Fit}
use Rattle.graph.specs.Overruled.{standing_at, standing, standing-set, standing-steps}
use Rattle.graph.specs.Steps.{after}
use Rattle.flat_chart.specs.Flat.{FlatChart}
use Rattle.graph.specs.Flat.{Marking}
use Rattle.book.specs.declared.Rule.{Rule}
use Rattle.book.specs.declared.Trigger.{Trigger}
use Rattle.book.specs.declared.Trigger.TheVariants.{None, Completed, BecomeYes, BecomeNo}
use Rattle.derived.specs.Derived.{on, included_mark, inclusion, responding, answering, completion, event_rules, derived_rules, derived_text, derived_condition, derived_book, join, parts}

-- ---- one rule for a pair in both tables

module _ (n e i x f : ℕ) where
  pub one-rule : has i f ≡ true → inclusion n e i x f ≡ on e true (included_mark n f) ∷ []
  unfolding inclusion
  one-rule t = rw t

  -- without the overruled exclusions it is the same
  pub same-rule : inclusion n e i (minus x i) f ≡ inclusion n e i x f
  unfolding inclusion
  same-rule = cases (has i f) (λ t. rw t) (λ t. rw (has-minus x i f, t, and-true (has x f)))

-- ---- no rule of the book clears what the completed event includes

abbrev stage_of : Trigger → ℕ
stage_of (Completed d) = d
stage_of None = 0
stage_of (BecomeYes _) = 0
stage_of (BecomeNo _) = 0

module _ (c : FlatChart) (e f : ℕ) where
  -- the rule that clears included f on completion of e
  abbrev pub Clears : Rule → Type 0
  Clears r = r ≡ on e false (included_mark c.count f)

  set-not-clear : {A : Type 0} (d k : ℕ) → Clears (on d true k) → A
  set-not-clear d k q = contra refl (ap (λ (r : Rule). r.effect) q)

  never-clears : f < c.count → (In (set_of c exclude e) f → In (set_of c include e) f) → All (λ r. Clears r → ⊥) (derived_rules c)
  unfolding inclusion responding answering
  never-clears h g =
      join c (λ r. Clears r → ⊥) (record {
        inclusions = λ d i k l. cases (has (set_of c include d) k) (λ t. rw t (set-not-clear d _, tt))
            (λ t. cases (has (set_of c exclude d) k) (λ u. rw (t, u) (λ q. cleared d k t u q, tt)) (λ u. rw (t, u) tt));
        responses = λ d i k l. cases (has (set_of c response d) k) (λ t. rw t (λ q. let o = ap (λ (r : Rule). r.target) q in omega arith, tt)) (λ t. rw t tt);
        answers = λ d i. cases (has (set_of c response d) d) (λ t. rw t tt) (λ t. rw t (set-not-clear d _, tt));
        executed = λ d i. set-not-clear d _;
        opened = λ d i q. contra refl (ap (λ (r : Rule). r.effect) q);
        closed = λ d i q. let o = ap (λ (r : Rule). r.target) q in omega arith;
      })
    where
      cleared : (d k : ℕ) → has (set_of c include d) k ≡ false → has (set_of c exclude d) k ≡ true → Clears (on d false (included_mark c.count k)) → ⊥
      cleared d k t u q =
          let o : 2 * c.count + k ≡ 2 * c.count + f = ap (λ (r : Rule). r.target) q in
          let y : k ≡ f = omega arith in
          let z : d ≡ e = ap (λ (r : Rule). stage_of r.trigger) q in
          contra (g (rw (z, y) at u)) (rw (z, y) at t)

  clears-there : e < c.count → f < c.count → All (λ r. Clears r → ⊥) (derived_rules c) → In (set_of c exclude e) f → In (set_of c include e) f
  unfolding inclusion
  clears-there l h a x = cases (has (set_of c include e) f) (λ t. t) (λ t. absurd ((rw (t, x) at ((parts c (λ r. Clears r → ⊥) a).inclusions e l f h)).0 refl))

  -- the book has it not exactly if every exclusion of this pair is overruled
  pub clears-only : e < c.count → f < c.count → All (λ r. Clears r → ⊥) (derived_rules c) ↔ (In (set_of c exclude e) f → In (set_of c include e) f)
  clears-only l h = (clears-there l h, never-clears h)

-- ---- the book of the chart without overruled exclusions is the chart's

module _ (c : FlatChart) (few : c.count ≤ max_events) where
  pub same-rules : (e : ℕ) → e < c.count → event_rules (standing c) e ≡ event_rules c e
  unfolding event_rules completion standing standing_at
  same-rules e h =
      rw (
        standing-set c e (omega arith),
        flat-same c.count _ (inclusion c.count e (set_of c include e) (set_of c exclude e))
            (λ f l. same-rule c.count e (set_of c include e) (set_of c exclude e) f),
      )

  pub standing-book : derived_book (standing c) ≡ derived_book c
  unfolding derived_book derived_rules derived_text derived_condition standing
  standing-book = rw (flat-same c.count (event_rules (standing c)) (event_rules c) same-rules)

-- ---- what a book tells of an event's sets: of its exclusions those that no inclusion overrules

abbrev pub standing_of : FlatChart → Kind → ℕ → ℕ
standing_of c condition e = set_of c condition e
standing_of c response e = set_of c response e
standing_of c milestone e = set_of c milestone e
standing_of c include e = set_of c include e
standing_of c exclude e = standing_at c e

module _ (c : FlatChart) where
  pub stands-both : (e f : ℕ) → In (standing_at c e) f ↔ (In (set_of c exclude e) f × (In (set_of c include e) f → ⊥))
  unfolding standing_at
  stands-both e f = (
    λ i. let t = both (has (set_of c exclude e) f) (not (has (set_of c include e) f)) (sym (has-minus (set_of c exclude e) (set_of c include e) f) ∙ i) in
        (t.0, λ k. contra k (not-true _ t.1)),
    λ t. has-minus (set_of c exclude e) (set_of c include e) f ∙ rw (t.0, not_so t.1),
  )

  pub stands-in : (k : Kind) (e f : ℕ) → In (standing_of c k e) f → In (set_of c k e) f
  stands-in condition e f i = i
  stands-in response e f i = i
  stands-in milestone e f i = i
  stands-in include e f i = i
  stands-in exclude e f i = ((stands-both e f).0 i).0

  pub stands-past : Fit c → (k : Kind) (e : ℕ) → c.count ≤ e → e < max_events → standing_of c k e ≡ 0
  stands-past t k e h l = none-zero (standing_of c k e) (λ f. not_so (λ i. contra (stands-in k e f i) (ap (λ (s : ℕ). has s f) (t.past k e h l) ∙ has-empty f)))

  -- these are the sets of the chart without overruled exclusions
  pub standing-sets : (k : Kind) (e : ℕ) → e < max_events → set_of (standing c) k e ≡ standing_of c k e
  unfolding standing
  standing-sets condition e h = refl
  standing-sets response e h = refl
  standing-sets milestone e h = refl
  standing-sets include e h = refl
  standing-sets exclude e h = standing-set c e h

-- charts of which they are the same step alike
pub same_after : (c d : FlatChart) (m : Marking) (e : ℕ) → e < max_events → ((k : Kind) → standing_of c k e ≡ standing_of d k e) → after c m e ≡ after d m e
same_after c d m e h s =
    let at : (k : Kind) → set_of (standing c) k e ≡ set_of (standing d) k e = λ k. standing-sets c k e h ∙ s k ∙ sym (standing-sets d k e h) in
    let q : after (standing c) m e ≡ after (standing d) m e = rw (at response, at include, at exclude) in
    sym (standing-steps c m e h) ∙ q ∙ standing-steps d m e h
