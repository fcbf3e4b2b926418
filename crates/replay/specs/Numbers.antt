-- What the code's replays, strikes and walks are, each set as one number. Assumes nothing.
use Rattle.wide.specs.Number.{number}
use Rattle.graph.specs.Numbers.{marks_of, step_of}
use Rattle.replay.specs.Flat.{Replayed, Struck, Walked}
use Rattle.replay.specs.declared.Replayed as code-replayed
use Rattle.replay.specs.declared.Struck as code-struck
use Rattle.replay.specs.declared.Walked as code-walked

abbrev pub replayed_of : code-replayed.Replayed → Replayed
replayed_of r =
    record {
      answer = r.answer;
      code = r.code;
      steps = r.steps;
      marking = marks_of r.marking;
      finished = r.finished;
      conditions = number r.conditions;
      milestones = number r.milestones;
    }

abbrev pub struck_of : code-struck.Struck → Struck
struck_of s = record { answer = s.answer; marking = marks_of s.marking; conditions = number s.conditions; milestones = number s.milestones }

abbrev pub walked_of : code-walked.Walked → Walked
walked_of w = record { at = w.at; stop = step_of w.stop }
