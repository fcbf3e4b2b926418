-- The largest derived book: the chart of as many events as there may be, each of them in every set, reaches each limit exactly. Assumes nothing.
use Rattle.std.specs.Prelude.{ℕ, ◌≤◌, ◌<◌, ◌≡◌, List, length, get_or, replicate}
use Rattle.std.proofs.Math.Path.{sym}
use Rattle.std.proofs.Common.{ap, ◌∙◌, ltb-true}
use native.Mathlib.Omega.{arith}
use Rattle.std.proofs.lemmas.List.{get_or-replicate}
use Rattle.paper.specs.Limits.{max_events}
use Rattle.sets.specs.Set.{has, all_below}
use Rattle.sets.specs.Laws.{has_all}
use Rattle.flat_chart.specs.Chart.{Kind, condition, response, milestone, include, exclude, set_of, Fit}
use Rattle.flat_chart.specs.Flat.{FlatChart}
use Rattle.book.specs.ImageOf.{image_of}
use Rattle.derived.specs.Derived.{derived_book}

-- ---- the chart

abbrev full_table : List ℕ
full_table = replicate max_events (all_below max_events)

unfoldable pub largest_chart : FlatChart
largest_chart =
    record {
      count = max_events;
      conditions = full_table;
      responses = full_table;
      milestones = full_table;
      includes = full_table;
      excludes = full_table;
      roles = replicate max_events 0;
    }

pub full-set : (e : ℕ) → e < max_events → get_or full_table e 0 ≡ all_below max_events
full-set e h = get_or-replicate max_events e (all_below max_events) 0 h

full-sets : (k : Kind) (e : ℕ) → e < max_events → set_of largest_chart k e ≡ all_below max_events
unfolding largest_chart
full-sets condition e h = full-set e h
full-sets response e h = full-set e h
full-sets milestone e h = full-set e h
full-sets include e h = full-set e h
full-sets exclude e h = full-set e h

pub largest-fit : Fit largest_chart
unfolding largest_chart
largest-fit =
    record {
      some = omega arith;
      few = omega arith;
      inside = λ k e f h m. ltb-true f max_events (sym (has_all max_events f) ∙ sym (ap (λ (s : ℕ). has s f) (full-sets k e h)) ∙ m);
      past = λ k e h l. absurd (omega arith);
      unnamed = λ e h l. absurd (omega arith);
    }

pub record Largest : Type 0 where
  pub fits : Fit largest_chart
  pub rules : length (derived_book largest_chart).rules ≡ 131840
  pub words : length (derived_book largest_chart).words ≡ 655616
  pub bytes : length (image_of (derived_book largest_chart)) ≡ 2631712
  pub most-rules : (c : FlatChart) → Fit c → length (derived_book c).rules ≤ 131840
  pub most-words : (c : FlatChart) → Fit c → length (derived_book c).words ≤ 655616
  pub most_bytes : (c : FlatChart) → Fit c → length (image_of (derived_book c)) ≤ 2631712
