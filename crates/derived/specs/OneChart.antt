-- "No two charts behind one book": two fit charts with one derived book have one event count, the same four relations and, by request (xii), "the exclusions that no inclusion
-- overrules". Assumes nothing.
use Rattle.std.specs.Prelude.{ℕ, ◌<◌, ◌≡◌}
use Rattle.std.proofs.Common.{sym, ap, ◌∙◌}
use Rattle.paper.specs.Limits.{max_events}
use Rattle.flat_chart.specs.Chart.{Kind}
use Rattle.flat_chart.specs.Flat.{FlatChart}
use Rattle.book.specs.Book.{Book, text_of}
use Rattle.derived.specs.Derived.{derived_rules, derived_text, derived_book, derived-text}
use Rattle.derived.specs.Overruled.{standing_of}

-- "the same event count and the same five relations", of exclusions those that no inclusion overrules; roles are left out
pub record SameRelations (c d : FlatChart) : Type 0 where
  pub count : c.count ≡ d.count
  pub relations : (k : Kind) (e : ℕ) → e < max_events → standing_of c k e ≡ standing_of d k e

-- one book
pub record OneBook (c d : FlatChart) : Type 0 where
  pub count : c.count ≡ d.count
  pub rules : derived_rules c ≡ derived_rules d
  pub texts : (e : ℕ) → e < c.count → derived_text c e ≡ derived_text d e

pub one-book : (c d : FlatChart) → derived_book c ≡ derived_book d → OneBook c d
unfolding derived_book
one-book c d q =
    record {
      count = same;
      rules = ap (λ (b : Book). b.rules) q;
      texts = λ e h. sym (derived-text c e h) ∙ ap (λ (b : Book). text_of b e) q ∙ derived-text d e (rw same at h);
    }
  where
    same : c.count ≡ d.count
    same = ap (λ (b : Book). b.stages) q
