-- The reader accepts exactly the images of sound records, within its limits: so it accepts what mending writes, and mending leaves what it accepts. Assumes nothing.
use Rattle.std.specs.Prelude.{ℕ, ◌≤◌, ◌≡◌, List, [], ◌++◌, drop}
use Rattle.std.proofs.Math.Path.{sym, ap}
use Rattle.std.proofs.Common.{◌∙◌}
use native.Mathlib.Omega.{arith}
use Rattle.std.proofs.Math.ListN.{length}
use Rattle.paper.specs.Limits.{max_nodes}
use Rattle.paper.specs.Answers.{granted}
use Rattle.paper.specs.declared.Answer.{Answer}
use Rattle.general.specs.Lists.{All, packed}
use Rattle.records.specs.Image.{nodes}
use Rattle.chart.specs.Reading.{reading}
use Rattle.chart.specs.ReadingGives.{granted-right}
use Rattle.chart.specs.Outcome.{NodesRight, AllRight}
use Rattle.mending.specs.Records.{Records, chart_image}
use Rattle.mending.specs.Mending.{change_bytes}
use Rattle.mending.specs.Images.{Byte}
use Rattle.mend.specs.Calling.{mended_image, changes_of, list_bytes, mend_answer, mending, mended_room, changes_room}
use Rattle.mend.specs.Table.{Mendable, is_mended, mend-written}
use Rattle.mend.proofs.Table.{mends-only}
use Rattle.mend.specs.Accepted.{mended-right, accepted-kept, accepted-unlisted, twice-kept, twice-unlisted}

module _ (r : Records) where
  abbrev image : List ℕ
  image = chart_image r

  -- ---- and an accepted image is one of sound records

  module _ (a : AllRight image) where
    abbrev n : NodesRight image
    n = a.nodes_right

-- ---- the call on an accepted chart, and on what it wrote

accepted-mendable : (s : List ℕ) → All Byte s → (reading s).answer.code ≡ 0 → Mendable s
accepted-mendable s b a =
    let n = (granted-right s a).0.nodes_right in
    record { header = n.header; few = rw (accepted-kept s b a) n.few }

-- what is sound needs no room for a list
no-list : (s : List ℕ) → changes_of s ≡ [] → list_bytes s ≡ []
unfolding packed
no-list s e = ap (packed change_bytes) e

module _ (s chart list : List ℕ) where
  -- a chart that mending leaves as it is, and a room as long
  kept-call : Mendable s → mended_image s ≡ s → changes_of s ≡ [] → length s ≤ length chart
      → (mending s (length chart) (length list) ≡ record { answer = granted; entries = 0 })
      × (mended_room s chart list ≡ s ++ drop (length s) chart) × (changes_room s chart list ≡ list)
  unfolding mending
  kept-call m e n h =
      let z : mend_answer s (length chart) (length list) ≡ granted =
      sym (mends-only s (length chart) (length list) (is_mended m (rw e h) (rw (no-list s n) (omega arith)))) in
      let w = mend-written s chart list (ap (λ (a : Answer). a.code) z) in
      (rw (z, n), w.chart_room ∙ rw e, w.list_room ∙ rw (no-list s n))

  -- "An accepted chart comes out with the same bytes and an empty list"
  pub accepted-call : All Byte s → (reading s).answer.code ≡ 0 → length s ≤ length chart
      → (mending s (length chart) (length list) ≡ record { answer = granted; entries = 0 })
      × (mended_room s chart list ≡ s ++ drop (length s) chart) × (changes_room s chart list ≡ list)
  accepted-call b a = kept-call (accepted-mendable s b a) (accepted-kept s b a) (accepted-unlisted s b a)

-- "mending the result changes nothing"
pub again-call : (s chart list : List ℕ) → Mendable s → length (mended_image s) ≤ length chart
    → (mending (mended_image s) (length chart) (length list) ≡ record { answer = granted; entries = 0 })
    × (mended_room (mended_image s) chart list ≡ mended_image s ++ drop (length (mended_image s)) chart) × (changes_room (mended_image s) chart list ≡ list)
again-call s chart list m h =
    let f : nodes s ≤ max_nodes = m.header.range.few in
    kept-call (mended_image s) chart list (record { header = (mended-right s m).nodes_right.header; few = rw (twice-kept s f) m.few })
    (twice-kept s f) (twice-unlisted s f) h
