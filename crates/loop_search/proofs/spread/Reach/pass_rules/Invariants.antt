use Rattle.std.proofs.Common.{◌≡◌}
use Rattle.loop_search.proofs.Passing.{Passing}
use Rattle.loop_search.proofs.spread.Reach.pass_rules.Given as goal

abbrev pub invariant-loop-r : goal.invariant-loop-r
invariant-loop-r l =
    record {
      passing : Passing l.image l.rules l.stage l.fn.self.asked l.fn.self.reached l.self.reached l.more l.r;
      kept : l.self.asked ≡ l.fn.self.asked;
    }
