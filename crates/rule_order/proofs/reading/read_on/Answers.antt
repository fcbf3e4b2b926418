use Rattle.std.proofs.Common.{◌≡◌, arith}
use Rattle.rule_order.proofs.Passing.{clear_first, clear-stops, clear-more, clear-ends}
use Rattle.rule_order.proofs.reading.read_on.Goals as goal

pub loop-i-init : goal.loop-i-init
loop-i-init c = search clear_first

pub loop-i-preserved : goal.loop-i-preserved
loop-i-preserved c = search clear-more

pub returns-then-mark_in : goal.returns-then-mark_in
returns-then-mark_in c = search clear-stops

pub returns : goal.returns
returns c =
    let f = c.loop-i.invariant in
    let h = f.high in
    let e : c.loop-i.i ≡ c.args.count = omega arith in
    clear-ends _ _ _ _ _ _ (rw e at f) (omega arith)
