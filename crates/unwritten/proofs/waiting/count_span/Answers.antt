use Rattle.std.proofs.Common.{◌<◌, refl, arith}
use Rattle.rule_order.specs.Nets.{rules_of, target-in, below-count, few-count}
use Rattle.unwritten.specs.Counters.{counting-fits, counting-few, counting-on, counting-skip, counting-there}
use Rattle.unwritten.proofs.waiting.count_span.Goals as goal
use Rattle.unwritten.proofs.waiting.count_span.Goals.{then-is_counted, else-is_counted}

pub overflow_add-counted : goal.overflow_add-counted
overflow_add-counted c = record { fits = omega (arith, counting-few _ _ _ _ _ _ c.loop-r.invariant.counting) }

pub overflow_add-scratch : goal.overflow_add-scratch
overflow_add-scratch c =
    record { fits = omega (arith, counting-fits _ _ _ _ _ _ _ c.loop-r.invariant.counting c.target_of-t.ensures.1 (few-count _ _ c.requires.0)) }

pub loop-r-preserved : goal.loop-r-preserved
loop-r-preserved c =
    let i = c.loop-r.invariant in
    let r_in : c.loop-r.r < (rules_of c.args.image.now c.args.stage).count = below-count _ _ _ _ refl (omega arith) in
    elim c.if-is_counted.branch [
      | then-is_counted w ↦ rw (w.scratch-is, w.counted-is) (record {
        counting = counting-on _ _ _ _ _ _ _ _ _ _ _ _ _ _ i.counting r_in (few-count _ _ c.requires.0) c.is_counted.ensures w.if-is_counted.true (target-in _ _ _ _ w.target_of-t.ensures.0)
            w.target_of-t.ensures.1 w.one.ensures w.join.ensures refl refl w.mark_unwritten.ensures refl;
        kept = i.kept;
      })
      | else-is_counted w ↦ rw (w.scratch-is, w.counted-is) (record {
        counting = counting-skip _ _ _ _ _ _ _ _ _ _ _ i.counting r_in c.is_counted.ensures w.if-is_counted.false refl refl refl refl;
        kept = i.kept;
      })
    ]

pub returns-clause-value : goal.returns-clause-value
returns-clause-value c = counting-there _ _ _ _ _ _ _ c.loop-r.invariant.counting (omega arith) (omega arith)
