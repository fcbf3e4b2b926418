-- The law for each return of the call: what is at hand is what the definition of mending gives. Assumes nothing.
use Rattle.std.specs.Prelude.{ℕ, ◌+◌, ◌*◌, ◌≤◌, ◌≡◌, Bool, not, List, length, Result, Ok, Err}
use Rattle.std.proofs.Math.Path.{sym}
use Rattle.std.proofs.Common.{ap, ◌∙◌, arith}
use Rattle.paper.specs.Answers.{granted}
use Rattle.paper.specs.Refusals.{answer_of}
use Rattle.paper.specs.declared.Refusal.{Refusal}
use Rattle.paper.specs.Limits.{max_nodes, max_events, chart_header, change_size}
use Rattle.general.specs.Below.{tally, tally-same, tally-le}
use Rattle.general.specs.Lists.{length-packed}
use Rattle.general.specs.Writing.{Fits}
use Rattle.records.specs.Image.{Whole}
use Rattle.nesting.specs.Nesting.{event_count}
use Rattle.nesting.specs.Tables.{is_event_in}
use Rattle.mending.specs.Mending.{change_bytes}
use Rattle.mending.specs.OfImage.{group_left, relations_left, mended_runs, entries}
use Rattle.mending.specs.StepByStep.{events-left, length-change}
use Rattle.mending.proofs.StepByStep.{mended-runs, length_runs, entries-so}
use Rattle.mend_writer.specs.Groups.{GroupsLeft}
use Rattle.mend_writer.specs.Steps.{list_runs, list-so}
use Rattle.chart.specs.Outcome.{HeaderRight}
use Rattle.mend.specs.declared.Mended.{Mended}
use Rattle.mend.specs.Calling.{mended_image, changes_of, list_bytes, mending, mended_room, changes_room}
use Rattle.mend.specs.Table.{Mendable, refused_by}

-- what the call gives and leaves
abbrev pub Gives : List ℕ → List ℕ → List ℕ → Mended → List ℕ → List ℕ → Type 0
Gives image chart list r c l = (r ≡ mending image (length chart) (length list)) × (c ≡ mended_room image chart list) × (l ≡ changes_room image chart list)

-- what is told: how many entries are written, or the refusal
abbrev pub mended_of : Result ℕ Refusal → Mended
mended_of (Ok n) = record { answer = granted; entries = n }
mended_of (Err r) = refused_by (answer_of r)

-- ---- 7

module _ {image : List ℕ} {n k e : ℕ} {groups : List Bool} (w : Whole image n k) (g : GroupsLeft image n groups) (q : e ≡ tally n (is_event_in groups)) where
  pub events-are : e ≡ event_count (mended_image image)
  events-are = q ∙ tally-same n (is_event_in groups) (λ i. not (group_left image i)) (λ i h. rw (g.each i h)) ∙ ap (λ (m : ℕ). tally m (λ i. not (group_left image i))) w.nodes ∙ sym (events-left image w)

  pub events-few : e ≤ max_nodes
  events-few = let f = w.few in omega (arith, tally-le n (is_event_in groups))

  pub mendable : HeaderRight image → e ≤ max_events → Mendable image
  mendable h m = record { header = h; few = rw (← events-are) m }

-- ---- 37, and what is granted

module _ (image : List ℕ) (n k l m : ℕ) (w : Whole image n k) (e : l ≡ relations_left image) (f : m ≡ length (entries image)) where
  abbrev chart_need : ℕ
  chart_need = chart_header + 4 * n + 6 * l

  abbrev list_need : ℕ
  list_need = change_size * m

  pub chart-bytes : length (mended_image image) ≡ chart_need
  chart-bytes = ap length (mended-runs image w) ∙ length_runs image w ∙ rw (← w.nodes, ← e)

  pub list-bytes : length (list_bytes image) ≡ list_need
  list-bytes = length-packed change_bytes change_size length-change (changes_of image) ∙ rw (entries-so image w, ← f)

  pub list-runs : list_bytes image ≡ list_runs image n k
  list-runs = rw (entries-so image w) (list-so image n k w)

  module _ (chart list : List ℕ) (ok : Mendable image) where
    module _ (a : chart_need ≤ length chart) (b : list_need ≤ length list) where
      pub chart-long : length (mended_image image) ≤ length chart
      chart-long = rw chart-bytes a

      pub list-long : length (list_bytes image) ≤ length list
      list-long = rw list-bytes b

      pub chart-fits : Fits chart 0 (mended_runs image)
      chart-fits = rw (← mended-runs image w) (let h = chart-long in omega arith)

      pub list-fits : Fits list 0 (list_runs image n k)
      list-fits = rw (← list-runs) (let h = list-long in omega arith)
