use Rattle.std.proofs.Common.{◌≡◌, length}
use Rattle.paper.specs.Limits.{max_conditions}
use Rattle.loop_search.proofs.Carrying.{Beginning}
use Rattle.loop_search.proofs.spread.Reach.begin.Given as goal

abbrev pub invariant-loop-i : goal.invariant-loop-i
invariant-loop-i l =
    record {
      beginning : Beginning l.base l.self.reached l.i;
      long : length l.self.asked ≡ max_conditions;
    }
