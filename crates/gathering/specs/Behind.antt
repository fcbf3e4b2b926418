-- The chart that a derived book is gathered to: the fit chart that it was derived from, without its roles and, by request (xii), without the exclusions that an inclusion
-- overrules. Assumes nothing.
use Rattle.std.specs.Prelude.{ℕ, ◌≤◌, ◌<◌, ◌≡◌, Bool, ltb, replicate}
use Rattle.std.proofs.Math.Path.{refl}
use Rattle.std.proofs.Common.{sym, ◌∙◌, arith, ltb-true, lt-ltb}
use Rattle.std.proofs.Math.Bool.{true, false}
use mathlib.Core.List.{List, [], ◌∷◌}
use Rattle.std.proofs.Math.ListN.{length, get_or}
use Rattle.paper.specs.Limits.{max_events}
use Rattle.general.specs.Cases.{contra, cases, both, same_test, not_so}
use Rattle.general.specs.Below.{some, some_of, some_at}
use Rattle.general.specs.Tables.{tabulate, tabulate-same}
use Rattle.general.specs.Lists.{flat, flat-same, All, all-at, at_all, tabulated}
use Rattle.sets.specs.Set.{has}
use Rattle.sets.specs.Laws.{ext, has-collect}
use Rattle.flat_chart.specs.Chart.{Kind, condition, response, milestone, include, exclude, table, set_of, In, Fit}
use Rattle.graph.specs.Overruled.{standing_at, standing}
use Rattle.flat_chart.specs.Flat.{FlatChart}
use Rattle.derived.specs.Derived.{event_rules, derived_rules, derived_text, derived_condition, derived_book}
use Rattle.derived.specs.Overruled.{same-rules, standing-sets}
use Rattle.derived.specs.OneChart.{SameRelations}
use Rattle.gathering.specs.Gathering.{passing}

-- "that chart without marking or roles": its count and its five relations, a set for each of 256 events, of exclusions those that no inclusion overrules
unfoldable pub bare : FlatChart → FlatChart
bare c =
    record {
      count = c.count;
      conditions = tabulate max_events (set_of c condition);
      responses = tabulate max_events (set_of c response);
      milestones = tabulate max_events (set_of c milestone);
      includes = tabulate max_events (set_of c include);
      excludes = tabulate max_events (standing_at c);
      roles = replicate max_events 0;
    }

-- the tables have a set for each of 256 events, as the calls' arrays do
abbrev pub Sized : FlatChart → Type 0
Sized c = (k : Kind) → length (table c k) ≡ max_events

-- ---- a set by what is told of it: whatever passes tells of a member, and each member is told of

module _ {A : Type 0} (d : A) (n : ℕ) (t : ℕ → A → Bool) (l : List A) (s : ℕ) where
  pub passing-is : ((f : ℕ) → f < n → All (λ x. t f x ≡ true → In s f) l) → ((f : ℕ) → In s f → (f < n) × (All (λ x. t f x ≡ false) l → ⊥)) → passing d n t l ≡ s
  unfolding passing
  passing-is sound whole =
      ext (passing d n t l) s (λ f. has-collect n (λ f. some (length l) (λ i. t f (get_or l i d))) f
      ∙ same_test _ (has s f)
      (λ e. let u = both (ltb f n) (some (length l) (λ i. t f (get_or l i d))) e in
      let (i, h, q) = some_at (length l) (λ i. t f (get_or l i d)) u.1 in
      all-at (λ x. t f x ≡ true → In s f) d l (sound f (ltb-true f n u.0)) i h q)
      (λ m. let (h, never) = whole f m in
      rw (lt-ltb f n h) (cases (some (length l) (λ i. t f (get_or l i d))) (λ e. e)
      (λ e. absurd (never (at_all (λ x. t f x ≡ false) d l (λ i k. not_so (λ q. contra (some_of (length l) (λ i. t f (get_or l i d)) i k q) e))))))))

module _ (c : FlatChart) (fit : Fit c) where
  abbrev n : ℕ
  n = c.count

-- ---- a book looks at no more of a chart than its count and relations

rules-same : (c d : FlatChart) → c.count ≤ max_events → SameRelations c d → (e : ℕ) → e < c.count → event_rules c e ≡ event_rules d e
unfolding event_rules standing
rules-same c d few s e h =
    let i : e < max_events = omega arith in
    let at : (k : Kind) → set_of (standing c) k e ≡ set_of (standing d) k e = λ k. standing-sets c k e i ∙ s.relations k e i ∙ sym (standing-sets d k e i) in
    let q : event_rules (standing c) e ≡ event_rules (standing d) e = rw (at include, at exclude, at response, s.count) in
    sym (same-rules c few e h) ∙ q ∙ same-rules d (rw s.count at few) e (rw s.count at h)

pub derived-same : (c d : FlatChart) → c.count ≤ max_events → SameRelations c d → derived_book c ≡ derived_book d
unfolding derived_book derived_rules derived_text derived_condition
derived-same c d few s =
    let r : flat c.count (event_rules c) ≡ flat c.count (event_rules d) = flat-same c.count (event_rules c) (event_rules d) (rules-same c d few s) in
    let t : (k : ℕ) → k ≤ c.count → flat k (derived_text c) ≡ flat k (derived_text d) =
    λ k l. flat-same k (derived_text c) (derived_text d) (λ e h. text e (omega arith)) in
    let q = flat-same c.count (λ e. derived_condition c e ∷ []) (λ e. derived_condition d e ∷ []) (λ e h. rw (t e (omega arith), text e h)) in
    rw (r, t c.count (omega arith), q, s.count)
  where
    text : (e : ℕ) → e < c.count → derived_text c e ≡ derived_text d e
    text e h = rw (s.relations condition e (omega arith), s.relations milestone e (omega arith), s.count)

module _ (c : FlatChart) where
  pub bare-count : (bare c).count ≡ c.count
  unfolding bare
  bare-count = refl

  pub bare-roles : (bare c).roles ≡ replicate max_events 0
  unfolding bare
  bare-roles = refl

  -- of a chart as the calls have it: its own tables, without the overruled exclusions
  pub bare-table : Sized c → (k : Kind) → table (bare c) k ≡ table (standing c) k
  unfolding bare standing
  bare-table s k = kept k
    where
      whole : (l : List ℕ) → length l ≡ max_events → tabulate max_events (λ e. get_or l e 0) ≡ l
      whole l q = rw (← q) (tabulated 0 l (λ e. get_or l e 0) (λ i h. refl))

      kept : (k : Kind) → table (bare c) k ≡ table (standing c) k
      kept condition = whole c.conditions (s condition)
      kept response = whole c.responses (s response)
      kept milestone = whole c.milestones (s milestone)
      kept include = whole c.includes (s include)
      kept exclude = refl

-- charts with the same relations are one without their roles and overruled exclusions
pub bare-one : (c d : FlatChart) → SameRelations c d → bare c ≡ bare d
unfolding bare
bare-one c d s =
    rw (
      tabulate-same max_events (set_of c condition) (set_of d condition) (s.relations condition),
      tabulate-same max_events (set_of c response) (set_of d response) (s.relations response),
      tabulate-same max_events (set_of c milestone) (set_of d milestone) (s.relations milestone),
      tabulate-same max_events (set_of c include) (set_of d include) (s.relations include),
      tabulate-same max_events (standing_at c) (standing_at d) (s.relations exclude),
      s.count,
    )
