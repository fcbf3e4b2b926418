use Rattle.rule_order.specs.Freed.{Freed}
use Rattle.ordering.proofs.Fitting.{Fitting}
use Rattle.ordering.proofs.fit.order_fits.Given as goal

abbrev pub invariant-loop-j : goal.invariant-loop-j
invariant-loop-j l =
    record {
      fitting : Fitting l.image l.stage l.order l.scratch.written l.scratch.targeted l.scratch.waits l.j;
      freed : Freed l.image l.scratch.waits l.scratch.free;
    }
