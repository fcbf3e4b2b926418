-- Request (xiii): what the call answers, with the refusals in its order, and what then stands in the two rooms. Assumes nothing.
use Rattle.std.specs.Prelude.{ℕ, cond, ◌||◌, List, ◌++◌, length, drop, eqb, ltb}
use Rattle.paper.specs.Limits.{max_events, chart_header, chart_short, chart_count, chart_length, many_events, mend_room}
use Rattle.paper.specs.Answers.{answer, granted, refusal}
use Rattle.paper.specs.declared.Answer.{Answer}
use Rattle.general.specs.Lists.{packed}
use Rattle.records.specs.Image.{out_of_range, misplaced}
use Rattle.nesting.specs.Nesting.{event_count}
use Rattle.mending.specs.Records.{records_of, chart_image}
use Rattle.mending.specs.Mending.{Change, change_bytes, mended, changes}
use Rattle.mend.specs.declared.Mended.{Mended}

module _ (image : List ℕ) where
  -- "write one that is accepted"
  abbrev pub mended_image : List ℕ
  mended_image = chart_image (mended (records_of image))

  -- "and a list of the changes"
  abbrev pub changes_of : List Change
  changes_of = changes (records_of image)

  abbrev pub list_bytes : List ℕ
  list_bytes = packed change_bytes changes_of

  -- 37: "chart or list room too short, place the bytes for the chart, other those for the list"
  unfoldable pub room_answer : ℕ → ℕ → Answer
  room_answer chart list = cond (ltb chart (length mended_image) || ltb list (length list_bytes)) (answer mend_room (length mended_image) (length list_bytes)) granted

  -- "1, 2, 3 as before; 7 if over 64 events remain after mending", over 256 by request (xiv), for rooms of so many bytes
  unfoldable pub mend_answer : ℕ → ℕ → Answer
  mend_answer chart list =
      cond (ltb (length image) chart_header) (refusal chart_short)
      (cond (out_of_range image) (refusal chart_count)
      (cond (misplaced image) (refusal chart_length)
      (cond (ltb max_events (event_count mended_image)) (answer many_events (event_count mended_image) 0)
      (room_answer chart list))))

  -- "the call gives the number of entries, 0 if refused"
  unfoldable pub mending : ℕ → ℕ → Mended
  mending chart list = record { answer = mend_answer chart list; entries = cond (eqb (mend_answer chart list).code 0) (length changes_of) 0 }

  -- "A refusal writes no byte of lent room." "Room past what is written stays as it was."
  unfoldable pub mended_room : List ℕ → List ℕ → List ℕ
  mended_room chart list = cond (eqb (mend_answer (length chart) (length list)).code 0) (mended_image ++ drop (length mended_image) chart) chart

  unfoldable pub changes_room : List ℕ → List ℕ → List ℕ
  changes_room chart list = cond (eqb (mend_answer (length chart) (length list)).code 0) (list_bytes ++ drop (length list_bytes) list) list
