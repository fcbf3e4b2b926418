use Rattle.std.proofs.Common.{not, arith}
use Rattle.general.specs.Numbering.{tally-none, byte_le}
use Rattle.general.specs.Below.{tally-le}
use Rattle.records.specs.Image.{bad_relation_at}
use Rattle.mend_writer.specs.Bytes.{left-more, left-all}
use Rattle.mend_writer.proofs.relations_left.Goals as goal

pub loop-k-init : goal.loop-k-init
loop-k-init c = tally-none _

pub overflow_add-left : goal.overflow_add-left
overflow_add-left c = record {
  fits = let e = tally-le c.loop-k.k (λ j. not (bad_relation_at c.args.image.bytes.now j)) in let b = byte_le (not c.bad_relation_at.result) in omega arith;
}

pub loop-k-preserved : goal.loop-k-preserved
loop-k-preserved c = left-more _ _ _ _ c.loop-k.invariant c.bad_relation_at.ensures

pub returns : goal.returns
returns c = left-all c.args.image.whole (omega arith) c.loop-k-test.false c.loop-k.invariant
