use Rattle.flattening.specs.Order.{Appended}
use Rattle.flattening.proofs.order.append.Given as goal

abbrev pub invariant-loop-j : goal.invariant-loop-j
invariant-loop-j l = Appended l.fn.order l.path l.m l.count l.j l.order
