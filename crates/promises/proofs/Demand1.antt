-- Demand 1: every call answers every input with the refusal that the paper names, in the paper's order; a refused call returns the marking
-- or snapshot it was given and leaves lent room as it was. Assumes nothing.
use Rattle.std.specs.Prelude.{◌≡◌, refl}
use Rattle.std.proofs.Common.{sym, ap, ◌∙◌}
use Rattle.graph.specs.Execution.{executes, executes-only, refused-kept, counts, count-refused, finish-refused}
use Rattle.graph.specs.Opening.{opens, opens-only, others-empty}
use Rattle.flat_chart.specs.Flat.{FlatChart}
use Rattle.graph.specs.Flat.{Marking}
use Rattle.graph.specs.declared.steps.OpenCount.{OpenCount}
use Rattle.graph.specs.declared.steps.Finished.{Finished}
use Rattle.chart.specs.Outcome.{outcome, judged}
use Rattle.chart.specs.ReadingGives.{refused-empty, never-nine}
use Rattle.judge.specs.Checking.{refused-room}
use Rattle.judge.proofs.Checking.{checked, checked-is, granted-room}
use Rattle.deriver.specs.declared.Matched.{Matched}
use Rattle.runner.specs.Table.{answered, answered-is}
use Rattle.runner.specs.Completing.{completing}
use Rattle.runner.specs.Completion.{refusal-hands-back}
use Rattle.index_builder.specs.Building.{builds, builds-is, granted-index, refused-index}
use Rattle.indexed.specs.Indexed.{completing_indexed}
use Rattle.indexed.specs.IndexedTable.{indexed, indexed-is, indexed-hands-back, indexed-none}
use Rattle.indexed_list.specs.ListTable.{lists, lists-is, list-answer, before-hands-back}
use Rattle.indexed_list.proofs.ListTable.{within-hands-back}
use Rattle.replay.specs.Table.{replays, replays-only, replay-kept, strikes, strikes-only, strike-kept}
use Rattle.read_back.specs.Table.{reads-back, reads-back-is, refused-back}
use Rattle.mend.specs.Calling.{mending}
use Rattle.mend.specs.Table.{mend-written, mend-kept}
use Rattle.mend.proofs.Table.{mends, mends-only}
use Rattle.promises.specs.Tables as table
use Rattle.promises.specs.Tables.{Unfit, CountsOpen, counts-open, counts-only, Finishes, finishes, finishes-only, Derives, derives, DerivesSmaller, derives-smaller, derives-smaller-only}
use Rattle.promises.proofs.Tables.{derives-only}
use Rattle.promises.specs.Matching as matching
use Rattle.promises.specs.Matching.{Matches, matches, matches-only, matched, matching-refused}
use Rattle.promises.specs.Demand1.{finish-granted, derive-refused, derive-granted, smaller-refused, smaller-granted, Demand1}

-- ---- what a refused call gives

module _ (c : FlatChart) (m : Marking) where
  refused-unfit : {r : OpenCount} → CountsOpen c m r → (r.answer.code ≡ 0 → ⊥) → Unfit c m
  refused-unfit (table.CountsOpen.is_unfit n) z = n
  refused-unfit (table.CountsOpen.is_none f t n) z = absurd (z refl)
  refused-unfit (table.CountsOpen.is_some f t n l) z = absurd (z refl)

  finish-unfit : {r : Finished} → Finishes c m r → (r.answer.code ≡ 0 → ⊥) → Unfit c m
  finish-unfit (table.Finishes.is_unfit n) z = n
  finish-unfit (table.Finishes.is_finished f t n) z = absurd (z refl)
  finish-unfit (table.Finishes.is_waiting e f t i p) z = absurd (z refl)

  match-unfit : {r : Matched} → Matches c m r → (r.answer.code ≡ 0 → ⊥) → Unfit c m
  match-unfit (matching.Matches.is_unfit n) z = n
  match-unfit (matching.Matches.is_matched f t x) z = absurd (z refl)

pub demand-1 : Demand1
unfolding completing completing_indexed mending
demand-1 =
    record {
      read = outcome;
      read_only = λ image a o. sym ((judged image a).0 o);
      read_refused = refused-empty;
      read_never = never-nine;
      open_test = opens;
      open_test_only = λ c m e t x. opens-only c m e x;
      open_test_others = others-empty;
      execute = executes;
      execute_only = λ c m e r s x. executes-only c m e x;
      execute_refused = refused-kept;
      count = counts-open;
      count_only = λ c m r x. counts-only c m x;
      count_granted = λ c m f t. (counts c m f t).granting;
      count_refused = λ c m z. count-refused c m (refused-unfit c m (counts-open c m) z);
      finished = finishes;
      finished_only = λ c m r x. finishes-only c m x;
      finished_granted = finish-granted;
      finished_refused = λ c m z. finish-refused c m (finish-unfit c m (finishes c m) z);
      matching = matches;
      matching_only = λ c m r x. matches-only c m x;
      matching_granted = λ c m f t. ap (λ (r : Matched). r.answer) (matched c m f t);
      matching_refused = λ c m z. matching-refused c m (match-unfit c m (matches c m) z);
      derive = derives;
      derive_only = λ c room a x. derives-only c room x;
      derive_granted = derive-granted;
      derive_refused = derive-refused;
      smaller = derives-smaller;
      smaller_only = λ c m room r x. derives-smaller-only c m room x;
      smaller_granted = smaller-granted;
      smaller_refused = smaller-refused;
      check = checked;
      check_only = checked-is;
      check_granted = λ book stage room e. (granted-room book stage room e).0;
      check_refused = refused-room;
      complete = λ book order s stage. answered book order stage s.marks;
      complete_only = λ book order s stage. answered-is book order stage s.marks;
      complete_refused = refusal-hands-back;
      build = builds;
      build_only = builds-is;
      build_granted = granted-index;
      build_refused = refused-index;
      indexed = λ book index s stage. indexed book index s.marks stage;
      indexed_only = λ book index s stage. indexed-is book index s.marks stage;
      indexed_refused = indexed-hands-back;
      indexed_none = indexed-none;
      list = λ book index s list. rw (list-answer book index s list) (lists book index s.marks list);
      list_only = λ book index s list a x. lists-is book index s.marks list a x ∙ sym (list-answer book index s list);
      list_before = before-hands-back;
      list_within = within-hands-back;
      replay = replays;
      replay_only = λ c m numbers r x. replays-only c m numbers x;
      replay_refused = replay-kept;
      strike = strikes;
      strike_only = λ c m numbers p s x. strikes-only c m numbers p x;
      strike_refused = strike-kept;
      read_back = reads-back;
      read_back_only = reads-back-is;
      read_back_refused = refused-back;
      mend = mends;
      mend_only = λ image chart list a x. mends-only image chart list x;
      mend_granted = mend-written;
      mend_refused = mend-kept;
    }
