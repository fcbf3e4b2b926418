-- `clash_search::lowest_of_all` meets its contract: before the first round nothing is found, and each round begins with words that are 0.
use Rattle.std.proofs.Common.{rules, arith}
use Rattle.clashes.proofs.Rules.{rounds-start, round-start}
use Rattle.clash_search.proofs.lowest_of_all.Goals as goal

pub loop-from-init : goal.loop-from-init
loop-from-init c = search rounds-start

pub sum_up-requires : goal.sum_up-requires
sum_up-requires c = (search rules, search rules, omega arith, round-start _ _ _ _ _ (omega arith) c.clear.ensures)
