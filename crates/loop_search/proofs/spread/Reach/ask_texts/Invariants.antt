use Rattle.std.proofs.Common.{◌≡◌}
use Rattle.loop_search.proofs.Words.{AskedUpto}
use Rattle.loop_search.proofs.spread.Reach.ask_texts.Given as goal

abbrev pub invariant-loop-c : goal.invariant-loop-c
invariant-loop-c l =
    record {
      asked : AskedUpto l.image l.self.reached l.self.asked l.c;
      kept : l.self.reached ≡ l.fn.self.reached;
    }
