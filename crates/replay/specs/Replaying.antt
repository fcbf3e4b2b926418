-- What replay and strike give, in the order of their refusals. Assumes nothing.
use Rattle.std.specs.Prelude.{ℕ, suc, ◌+◌, false, not, cond, List, ◌++◌, length, take, drop, eqb, leb, ltb}
use Rattle.std.proofs.Math.Seq.{slice}
use Rattle.paper.specs.Limits.{unfit, no_such_position}
use Rattle.paper.specs.Answers.{answer, granted, refusal, place_of}
use Rattle.graph.specs.Fitness.{fit}
use Rattle.graph.specs.Steps.{finishing}
use Rattle.flat_chart.specs.Flat.{FlatChart}
use Rattle.graph.specs.Flat.{Marking, Step}
use Rattle.replay.specs.Recorded.{Entry, record_of, Reached, reaching}
use Rattle.replay.specs.Flat.{Replayed, Struck, Walked}

-- ---- replay

-- "how far the record is allowed, the marking there, the first step that isn't allowed with its code (the record's length and 0 if all are), and whether the purchase
-- was finished at that point"; request (viii), "The replay carries the sets too": those of the step that stopped it, empty where none did
abbrev pub told : FlatChart → Reached → Replayed
told c r =
    record {
      answer = granted;
      code = r.stop.answer.code;
      steps = r.steps;
      marking = r.stop.marking;
      finished = (finishing c r.stop.marking).yes;
      conditions = r.stop.conditions;
      milestones = r.stop.milestones;
    }

-- with 14: the marking as given, 0 steps, code 0, not finished
abbrev pub untold : Marking → Replayed
untold m = record { answer = refusal unfit; code = 0; steps = 0; marking = m; finished = false; conditions = 0; milestones = 0 }

unfoldable pub replaying : FlatChart → Marking → List ℕ → Replayed
replaying c m numbers = cond (not (fit c m)) (untold m) (told c (reaching c m (record_of numbers)))

-- ---- strike: "given one position, replay the record without that step"

unfoldable pub without : ℕ → List Entry → List Entry
without p l = take p l ++ drop (suc p) l

-- where step k of the record without p stands in the old one
unfoldable pub old_position : ℕ → ℕ → ℕ
old_position p k = cond (ltb k p) k (suc k)

-- a strike that is not granted hands back the marking that it was given
abbrev pub not_struck : ℕ → ℕ → Marking → Struck
not_struck code place m = record { answer = answer code place 0; marking = m; conditions = 0; milestones = 0 }

abbrev pub struck : Marking → Struck
struck m = record { answer = granted; marking = m; conditions = 0; milestones = 0 }

-- the step that fails, at this place of the old record, beside the start marking, with the sets that it carries
abbrev pub stopped_by : Step → ℕ → Marking → Struck
stopped_by s place m = record { answer = answer s.answer.code place 0; marking = m; conditions = s.conditions; milestones = s.milestones }

-- "granted exactly if all remaining steps are allowed in their order, and then the marking is the one the shortened record gives; else the first step that fails is
-- named by its code and old position and the start marking comes back"
unfoldable pub struck_by : Marking → ℕ → Reached → Struck
struck_by m p r =
    cond (eqb r.stop.answer.code 0) (struck r.stop.marking) (stopped_by r.stop (place_of (old_position p r.steps)) m)

-- "Refusals: 14, then 36, position outside the record, both before any step."
unfoldable pub striking : FlatChart → Marking → List ℕ → ℕ → Struck
striking c m numbers p =
    cond (not (fit c m)) (not_struck unfit 0 m)
    (cond (leb (length (record_of numbers)) p) (not_struck no_such_position 0 m)
    (struck_by m p (reaching c m (without p (record_of numbers)))))

-- ---- the walk that both make: the steps of a record from one position to another, and those of a record without p, by their old positions

unfoldable pub walking : FlatChart → Marking → List Entry → ℕ → ℕ → Walked
walking c m l from end = let r = reaching c m (slice from end l) in record { at = from + r.steps; stop = r.stop }

unfoldable pub walking_without : FlatChart → Marking → List Entry → ℕ → Walked
walking_without c m l p = let r = reaching c m (without p l) in record { at = old_position p r.steps; stop = r.stop }
