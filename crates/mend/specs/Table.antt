-- What request (xiii) has the call answer, row by row, that it answers this and nothing else, and what it leaves in the two rooms. Assumes nothing.
use Prim.Native.Nat.{ℕ, ◌≤◌, ◌<◌}
use Rattle.std.specs.Prelude.{◌≡◌, ◌⊎◌, List, ◌++◌, drop}
use Rattle.std.proofs.Math.ListN.{length}
use borrow.Author.Tests.{eq-eqb, ne_eqb}
use Rattle.paper.specs.Limits.{max_events, chart_header, chart_short, chart_count, chart_length, many_events, mend_room}
use Rattle.paper.specs.Answers.{answer, granted, refusal}
use Rattle.paper.specs.declared.Answer.{Answer}
use Rattle.general.specs.Cases.{coincide}
use Rattle.nesting.specs.Nesting.{event_count}
use Rattle.chart.specs.Conditions.{InRange, Laid}
use Rattle.chart.specs.Outcome.{HeaderRight}
use Rattle.mend.specs.Calling.{mended_image, changes_of, list_bytes, mend_answer, mending, mended_room, changes_room}
use Rattle.mend.specs.declared.Mended.{Mended}

-- "a chart whose header passes", with at most 256 events after mending
pub record Mendable (image : List ℕ) : Type 0 where
  pub header : HeaderRight image
  pub few : event_count (mended_image image) ≤ max_events

-- the rows, for rooms of so many bytes
pub data Mends (image : List ℕ) (chart list : ℕ) : Answer → Type 0 where
  is_short : length image < chart_header → Mends image chart list (refusal chart_short)
  is_out_of_range : chart_header ≤ length image → (InRange image → ⊥) → Mends image chart list (refusal chart_count)
  is_misplaced : chart_header ≤ length image → InRange image → (Laid image → ⊥) → Mends image chart list (refusal chart_length)
  is_many : HeaderRight image → max_events < event_count (mended_image image) → Mends image chart list (answer many_events (event_count (mended_image image)) 0)
  is_narrow : Mendable image → (chart < length (mended_image image)) ⊎ (list < length (list_bytes image))
      → Mends image chart list (answer mend_room (length (mended_image image)) (length (list_bytes image)))
  is_mended : Mendable image → length (mended_image image) ≤ chart → length (list_bytes image) ≤ list → Mends image chart list granted

-- ---- what a call gives and leaves

-- "the number of entries, 0 if refused"
abbrev pub refused_by : Answer → Mended
refused_by a = record { answer = a; entries = 0 }

-- "write one that is accepted and a list of the changes"; "the call gives the number of entries"
pub record Written (image chart list : List ℕ) : Type 0 where
  pub entries : (mending image (length chart) (length list)).entries ≡ length (changes_of image)
  pub chart_room : mended_room image chart list ≡ mended_image image ++ drop (length (mended_image image)) chart
  pub list_room : changes_room image chart list ≡ list_bytes image ++ drop (length (list_bytes image)) list

-- "0 if refused"; "A refusal writes no byte of lent room."
pub record Kept (image chart list : List ℕ) : Type 0 where
  pub entries : (mending image (length chart) (length list)).entries ≡ 0
  pub chart_room : mended_room image chart list ≡ chart
  pub list_room : changes_room image chart list ≡ list

module _ (image chart list : List ℕ) where
  abbrev code : ℕ
  code = (mend_answer image (length chart) (length list)).code

  pub mend-written : code ≡ 0 → Written image chart list
  unfolding mending mended_room changes_room
  mend-written e = let t = eq-eqb code 0 e in record { entries = rw t; chart_room = rw t; list_room = rw t }

  pub mend-kept : (code ≡ 0 → ⊥) → Kept image chart list
  unfolding mending mended_room changes_room
  mend-kept n = let t = ne_eqb code 0 n in record { entries = rw t; chart_room = rw t; list_room = rw t }

  -- two results that meet the contract coincide
  pub mend-determined : (r s : Mended) (c d k l : List ℕ) → r ≡ mending image (length chart) (length list) → s ≡ mending image (length chart) (length list)
      → c ≡ mended_room image chart list → d ≡ mended_room image chart list → k ≡ changes_room image chart list → l ≡ changes_room image chart list → (r ≡ s) × (c ≡ d) × (k ≡ l)
  mend-determined r s c d k l a b e f g h = (coincide a b, coincide e f, coincide g h)
