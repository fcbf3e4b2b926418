-- Request (xii): "an event may exclude a group and include one member of it, and inclusion wins". What a step leaves of a pair in both tables, and the chart without the
-- exclusions that an inclusion overrules, which steps alike. Assumes nothing.
use Rattle.std.specs.Prelude.{ℕ, ◌≤◌, ◌<◌, ◌≡◌, Bool, ◌&&◌, ◌||◌, ◌↔◌}
use Rattle.std.proofs.Math.Path.{sym}
use Rattle.std.proofs.Common.{ap, ◌∙◌, inr, ⊎_elim, arith}
use Rattle.std.proofs.Math.Bool.{true, false, not, and-true, or-true}
use Rattle.std.proofs.lemmas.Bool.{not-true}
use Rattle.paper.specs.Limits.{max_events}
use Rattle.general.specs.Cases.{contra, both, not_so}
use Rattle.general.specs.Tables.{tabulate, get_or-tabulate}
use Rattle.sets.specs.Set.{has, union, minus}
use Rattle.sets.specs.Laws.{ext, has-union, has-minus, has-empty, none-zero}
use Rattle.flat_chart.specs.Chart.{Kind, condition, response, milestone, include, exclude, set_of, In, Fit}
use Rattle.graph.specs.Before.{Apart}
use Rattle.graph.specs.Steps.{after_with, after}
use Rattle.graph.specs.Execution.{Executed}
use Rattle.flat_chart.specs.Flat.{FlatChart}
use Rattle.graph.specs.Flat.{Marking}

-- ---- Definition 3, of a pair in both tables: In' = (In \ (e →%)) ∪ (e →+)

module _ {c : FlatChart} {m n : Marking} {e : ℕ} (x : Executed c m e n) where
  -- what e includes is included, whatever e excludes
  pub inclusion-wins : (f : ℕ) → In (set_of c include e) f → In n.included f
  inclusion-wins f i = (x.included f).1 (inr i)

  -- what e excludes is not, where no inclusion overrules it
  pub exclusion-stands : (f : ℕ) → In (set_of c exclude e) f → (In (set_of c include e) f → ⊥) → In n.included f → ⊥
  exclusion-stands f o only h = ⊎_elim (λ k. k.1 o) only ((x.included f).0 h)

-- ---- "the exclusions that no inclusion overrules"

unfoldable pub standing_at : FlatChart → ℕ → ℕ
standing_at c e = minus (set_of c exclude e) (set_of c include e)

-- the chart that has no others
unfoldable pub standing : FlatChart → FlatChart
standing c =
    record {
      count = c.count;
      conditions = c.conditions;
      responses = c.responses;
      milestones = c.milestones;
      includes = c.includes;
      excludes = tabulate max_events (standing_at c);
      roles = c.roles;
    }

module _ (c : FlatChart) where
  pub standing-set : (e : ℕ) → e < max_events → set_of (standing c) exclude e ≡ standing_at c e
  unfolding standing
  standing-set e h = get_or-tabulate max_events (standing_at c) e 0 h

  pub stands-so : (e f : ℕ) → e < max_events → In (set_of (standing c) exclude e) f ↔ (In (set_of c exclude e) f × (In (set_of c include e) f → ⊥))
  unfolding standing_at
  stands-so e f h =
      rw (standing-set e h) (
        λ i. let t = both (has (set_of c exclude e) f) (not (has (set_of c include e) f)) (sym (has-minus (set_of c exclude e) (set_of c include e) f) ∙ i) in
            (t.0, λ k. contra k (not-true _ t.1)),
        λ t. has-minus (set_of c exclude e) (set_of c include e) f ∙ rw (t.0, not_so t.1),
      )

  -- no pair of it has both
  pub standing_apart : Apart (standing c)
  unfolding standing
  standing_apart e f h i x = ((stands-so e f h).0 x).1 i

  pub standing-fit : Fit c → Fit (standing c)
  unfolding standing
  standing-fit t =
      record {
        some = t.some;
        few = t.few;
        inside = λ k e f l. let m = t.few in within k e f l (omega arith);
        past = λ k e l m. past k e l m;
        unnamed = t.unnamed;
      }
    where
      within : (k : Kind) (e f : ℕ) → e < c.count → e < max_events → In (set_of (standing c) k e) f → f < c.count
      within condition e f l h i = t.inside condition e f l i
      within response e f l h i = t.inside response e f l i
      within milestone e f l h i = t.inside milestone e f l i
      within include e f l h i = t.inside include e f l i
      within exclude e f l h i = t.inside exclude e f l ((stands-so e f h).0 i).0

      past : (k : Kind) (e : ℕ) → c.count ≤ e → e < max_events → set_of (standing c) k e ≡ 0
      past condition e l m = t.past condition e l m
      past response e l m = t.past response e l m
      past milestone e l m = t.past milestone e l m
      past include e l m = t.past include e l m
      past exclude e l m =
          none-zero (set_of (standing c) exclude e)
          (λ f. not_so (λ i. contra ((stands-so e f m).0 i).0 (ap (λ (s : ℕ). has s f) (t.past exclude e l m) ∙ has-empty f)))

  -- every step of it is the chart's own
  pub standing-steps : (m : Marking) (e : ℕ) → e < max_events → after (standing c) m e ≡ after c m e
  unfolding standing after_with standing_at
  standing-steps m e h = rw (standing-set e h, same)
    where
      overruled : (a x i : Bool) → ((a && not (x && not i)) || i) ≡ ((a && not x) || i)
      overruled a x true = or-true (a && not (x && false)) ∙ sym (or-true (a && not x))
      overruled a x false = rw (and-true x)

      same : union (minus m.included (minus (set_of c exclude e) (set_of c include e))) (set_of c include e) ≡ union (minus m.included (set_of c exclude e)) (set_of c include e)
      same = ext _ _ (λ f. simp (has-union, has-minus) (overruled (has m.included f) (has (set_of c exclude e) f) (has (set_of c include e) f)))
