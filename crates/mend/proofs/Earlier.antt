-- Laws of earlier proofs, which stood in specs/: nothing cites them now, and they stand. Assumes nothing.
use Rattle.std.specs.Prelude.{ℕ, ◌+◌, ◌*◌, ◌≤◌, ◌≡◌, Bool, false, ◌||◌, List, ltb, length}
use Rattle.std.proofs.Math.Path.{sym}
use Rattle.std.proofs.Common.{◌∙◌}
use borrow.Author.Tests.{ltb-false}
use Rattle.paper.specs.Limits.{max_nodes, max_relations, chart_header, change_size}
use Rattle.general.specs.Cases.{neither}
use Rattle.general.specs.Writing.{Fits}
use Rattle.records.specs.Image.{nodes, relations, out_of_range, misplaced, Whole}
use Rattle.mending.specs.OfImage.{relations_left, mended_runs, entries}
use Rattle.mend_writer.specs.Steps.{list_runs}
use Rattle.chart.specs.Conditions.{range-right, laid-right}
use Rattle.chart.specs.Outcome.{HeaderRight}
use Rattle.mend.specs.Calling.{mended_image, list_bytes}
use Rattle.mend.specs.Table.{Mendable}
use Rattle.mend.specs.Returns as returns

module _ (image : List ℕ) (l : chart_header ≤ length image) {range : Bool} (o : range ≡ out_of_range image) (t : range ≡ false) where
  pub counts-in : (n k : ℕ) → n ≡ nodes image → k ≡ relations image → (n ≤ max_nodes) × (k ≤ max_relations)
  counts-in n k p q = let i = (range-right image).0 (sym o ∙ t) in (rw p i.few, rw q i.few_relations)

  pub header-right : {wrong : Bool} → wrong ≡ misplaced image → wrong ≡ false → HeaderRight image
  header-right m u = record { long = l; range = (range-right image).0 (sym o ∙ t); laid = (laid-right image).0 (sym m ∙ u) }

pub whole_is : {image : List ℕ} {n k : ℕ} → n ≡ nodes image → k ≡ relations image → HeaderRight image → Whole image n k
whole_is p q h =
    record { nodes = p; relations = q; some = rw p h.range.some; few = rw p h.range.few; few_relations = rw q h.range.few_relations; whole = rw (p, q) h.laid.exact }

-- ---- what is granted, by one test of both rooms

module _ (image : List ℕ) (n k l m : ℕ) (w : Whole image n k) (e : l ≡ relations_left image) (f : m ≡ length (entries image)) (chart list : List ℕ) (ok : Mendable image)
    (t : (ltb (length chart) (chart_header + 4 * n + 6 * l) || ltb (length list) (change_size * m)) ≡ false) where
  chart_wide : chart_header + 4 * n + 6 * l ≤ length chart
  chart_wide = ltb-false (length chart) (chart_header + 4 * n + 6 * l) (neither (ltb (length chart) (chart_header + 4 * n + 6 * l)) (ltb (length list) (change_size * m)) t).0

  list_wide : change_size * m ≤ length list
  list_wide = ltb-false (length list) (change_size * m) (neither (ltb (length chart) (chart_header + 4 * n + 6 * l)) (ltb (length list) (change_size * m)) t).1

  pub chart-long : length (mended_image image) ≤ length chart
  chart-long = returns.chart-long image n k l m w e f chart list ok chart_wide list_wide

  pub list-long : length (list_bytes image) ≤ length list
  list-long = returns.list-long image n k l m w e f chart list ok chart_wide list_wide

  pub chart-fits : Fits chart 0 (mended_runs image)
  chart-fits = returns.chart-fits image n k l m w e f chart list ok chart_wide list_wide

  pub list-fits : Fits list 0 (list_runs image n k)
  list-fits = returns.list-fits image n k l m w e f chart list ok chart_wide list_wide
