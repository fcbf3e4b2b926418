use Rattle.std.proofs.Common.{◌∙◌, arith}
use Rattle.ordering.proofs.Fitting.{fitting-first, fitting-short, fitting-past, fitting-unready, fitting-last, fitting-more}
use Rattle.ordering.proofs.Stepping.{freed-struck}
use Rattle.ordering.proofs.fit.order_fits.Goals as goal

pub count_targets-counted-requires : goal.count_targets-counted-requires
count_targets-counted-requires c = (c.requires.0, c.requires.1, c.all.ensures _)

pub returns-then-order-counted : goal.returns-then-order-counted
returns-then-order-counted c = fitting-short _ _ _ _ c.count_targets-counted.ensures.value.0 (λ e. omega arith)

pub loop-j-init : goal.loop-j-init
loop-j-init c =
    let a = c.count_targets-counted.ensures in
    record { fitting = fitting-first _ _ _ _ _ _ a.value.1; freed = a.freed }

pub returns-then-rules-r : goal.returns-then-rules-r
returns-then-rules-r c = fitting-past _ _ _ _ _ _ _ c.loop-j.invariant.fitting _ _ (omega arith) c.requires.1 c.entry_of-r.ensures c.if-rules-r.true

pub returns-then-not-is_ready : goal.returns-then-not-is_ready
returns-then-not-is_ready c =
    fitting-unready _ _ _ _ _ _ _ c.loop-j.invariant.fitting _ _ (omega arith) c.requires.0 c.entry_of-r.ensures c.is_ready.ensures.value c.if-not-is_ready.true

pub loop-j-preserved : goal.loop-j-preserved
loop-j-preserved c =
    let a = c.strike.ensures in
    record {
      fitting = fitting-more _ _ _ _ _ _ _ c.loop-j.invariant.fitting c.requires.0 _ _ _ c.requires.1 c.if-rules-r.false c.is_ready.ensures.value c.if-not-is_ready.false _ c.target_of.ensures.0
          c.target_of.ensures.1 _ _ _ _ (omega arith) c.entry_of-r.ensures (a.kept.0 ∙ c.mark_written.ensures) a.struck;
      freed = rw a.kept.1 (freed-struck _ _ _ _ _ _ _ _ a.struck c.is_ready.ensures.freed);
    }

pub returns : goal.returns
returns c = fitting-last _ _ _ _ _ _ _ c.loop-j.invariant.fitting _ c.count_targets-counted.ensures.value.0 (omega arith) (omega arith)
