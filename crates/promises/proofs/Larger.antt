-- Request (xiv), over the bytes: "each one accepted before is accepted with the same meaning". Charts and books as they were judged with the limits of then, and that the
-- larger limits leave what they gave. What the flat sets, the derived book, firing, loops and clashes are names no limit. The fit test, the lowest event of a set, the matching
-- snapshot and 28 name one: LargerCharts says that stepping, counting, replaying, matching and deriving give what they gave, LargerSnapshots that completing does. Assumes nothing.
use Rattle.std.specs.Prelude.{ℕ, zero, suc, ◌+◌, ◌*◌, ◌^◌, ◌≤◌, ◌<◌, ◌≡◌, List, get_or}
use Rattle.std.proofs.Common.{sym, subst, arith}
use Rattle.paper.specs.Limits.{max_events}
use Rattle.wide.specs.Number.{set_words, number, row_of, row_at}
use Rattle.wide.specs.declared.Set.{Set}
use Rattle.flat_chart.specs.Chart.{Kind, condition, response, milestone, include, exclude, set_of}
use Rattle.flat_chart.specs.Numbers.{flat_of}
use Rattle.flat_chart.specs.declared.FlatChart as code-chart
use Rattle.chart.specs.Larger.{events_then, accepted-still, Low, small_low, upper-empty, row-empty}
use Rattle.chart.specs.Flat.{Reading}
use Rattle.chart.specs.Numbers.{reading_of}
use Rattle.chart.specs.Reading.{reading}
use Rattle.chart.specs.declared.Reading as code-reading
use Rattle.derived.proofs.Largest.{largest}
use Rattle.judge.specs.Checking.{checking}
use Rattle.indexed.specs.Stored.{stored_other, stored-unfit, stored-fit}
use Rattle.promises.specs.Coincide.{marking-same, step_same}
use Rattle.promises.specs.Larger.{checking_then, image-still, book-still, word_table, UpperEmpty, LowWords, Larger}

row-upper : (t : List ℕ) (e i : ℕ) → row_of t e < 2 ^ 64 → 1 ≤ i → i < set_words → get_or t (e * set_words + i) 0 ≡ 0
row-upper t e zero h l k = absurd (omega arith)
row-upper t e (suc zero) h l k = (row-empty t e h).0
row-upper t e (suc (suc zero)) h l k = (row-empty t e h).1
row-upper t e (suc (suc (suc zero))) h l k = (row-empty t e h).2
row-upper t e (suc (suc (suc (suc i)))) h l k = absurd (omega arith)

set-upper : (s : Set) → number s < 2 ^ 64 → UpperEmpty s
set-upper s h = let u = upper-empty s h in record { second = u.0; third = u.1; fourth = u.2 }

row_number : (c : code-chart.FlatChart) (κ : Kind) (e : ℕ) → e < max_events → set_of (flat_of c) κ e ≡ row_of (word_table c κ) e
row_number c condition e h = row_at max_events c.conditions e h
row_number c response e h = row_at max_events c.responses e h
row_number c milestone e h = row_at max_events c.milestones e h
row_number c include e h = row_at max_events c.includes e h
row_number c exclude e h = row_at max_events c.excludes e h

low-words : (image : List ℕ) (r : code-reading.Reading) → reading_of r ≡ reading image → r.answer.code ≡ 0 → r.chart.count ≤ events_then → LowWords r
low-words image r e z few =
    let a : (reading image).answer.code ≡ 0 = subst (λ (x : Reading). x.answer.code ≡ 0) e z in
    let n : (reading image).chart.count ≤ events_then = subst (λ (x : Reading). x.chart.count ≤ events_then) e few in
    let low : Low (reading_of r) = subst Low (sym e) (small_low image a n) in
    record {
      rows = λ κ f i h. row-upper (word_table r.chart κ) f i (rw (row_number r.chart κ f h) at (low.sets κ f h));
      executed = set-upper r.marking.executed low.executed;
      pending = set-upper r.marking.pending low.pending;
      included = set-upper r.marking.included low.included;
    }

pub larger-limits : Larger
unfolding checking_then checking
larger-limits =
    record {
      charts = accepted-still;
      low = small_low;
      low_words = low-words;
      books = image-still;
      rules = book-still;
      checks = λ s stage room n. rw (book-still s n);
      stored_other = stored_other;
      stored = stored-unfit;
      stored_empty = stored-fit;
      markings = marking-same;
      steps = step_same;
      most = largest;
    }
