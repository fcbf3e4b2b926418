-- What the judges of an image hand back: the image, where its header is right or all of it, or the refusal that comes first. Assumes nothing.
use Rattle.std.specs.Prelude.{ℕ, ◌≤◌, ◌<◌, ◌≡◌, true, false, List, length, Result, Ok, Err}
use Rattle.paper.specs.Limits.{chart_header, chart_short, chart_count, chart_length}
use Rattle.paper.specs.Answers.{granted, refusal}
use Rattle.paper.specs.Refusals.{answer_of}
use Rattle.paper.specs.declared.Answer.{Answer}
use Rattle.paper.specs.declared.Refusal.{Refusal}
use Rattle.records.specs.declared.ChartImage.{ChartImage}
use Rattle.records.specs.Image.{out_of_range, misplaced}
use Rattle.chart.specs.Reading.{reading}
use Rattle.chart.specs.Outcome.{HeaderRight}

-- 1 to 3: which of them the header gets
pub data HeaderWrong (image : List ℕ) : Answer → Type 0 where
  short : length image < chart_header → HeaderWrong image (refusal chart_short)
  counted : chart_header ≤ length image → out_of_range image ≡ true → HeaderWrong image (refusal chart_count)
  laid : chart_header ≤ length image → out_of_range image ≡ false → misplaced image ≡ true → HeaderWrong image (refusal chart_length)

-- these bytes, and their header is right; or what it gets
abbrev pub Headed : List ℕ → Result ChartImage Refusal → Type 0
Headed image (Ok h) = (h.bytes.now ≡ image) × HeaderRight image
Headed image (Err r) = HeaderWrong image (answer_of r)

-- these bytes, and they are accepted; or what reading answers
abbrev pub Judged : List ℕ → Result ChartImage Refusal → Type 0
Judged image (Ok h) = (h.bytes.now ≡ image) × (granted ≡ (reading image).answer)
Judged image (Err r) = answer_of r ≡ (reading image).answer
