-- `texts::text_fits` meets its contract: a word that may not follow ends it, and each other is noted.
use Rattle.texts.proofs.Depths.{deep-starts, deep_more, deep-refused, deep-ends}
use Rattle.texts.proofs.Naming.{noting-starts, noting-more, noting-ends}
use Rattle.texts.proofs.text_fits.Goals as goal

pub loop-i-init : goal.loop-i-init
loop-i-init c = record { deep = deep-starts _ _ _ _; noting = noting-starts _ _ _ _ }

pub returns-then-depth-gt-MAX_STACK-clause-value : goal.returns-then-depth-gt-MAX_STACK-clause-value
returns-then-depth-gt-MAX_STACK-clause-value c =
    deep-refused _ _ _ _ _ _ _ _ c.loop-i.invariant.deep c.loop-i-test.true c.u16_at-word.ensures c.next_depth-depth.ensures c.if-depth-gt-MAX_STACK.true

pub loop-i-preserved : goal.loop-i-preserved
loop-i-preserved c = record {
  deep = deep_more _ _ _ _ _ _ _ _ c.loop-i.invariant.deep c.loop-i-test.true c.u16_at-word.ensures c.next_depth-depth.ensures c.if-depth-gt-MAX_STACK.false;
  noting = noting-more _ _ _ _ _ _ c.loop-i.invariant.noting _ _ c.loop-i-test.true c.u16_at-word.ensures c.note.ensures;
}

pub returns-clause-value : goal.returns-clause-value
returns-clause-value c = deep-ends _ _ _ _ _ _ c.loop-i.invariant.deep c.loop-i-test.false

pub returns-clause-added : goal.returns-clause-added
returns-clause-added c = λ e. noting-ends _ _ _ _ _ _ c.loop-i.invariant.noting c.loop-i-test.false
