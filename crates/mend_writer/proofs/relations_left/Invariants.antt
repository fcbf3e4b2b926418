use Rattle.std.proofs.Common.{◌≡◌, not}
use Rattle.general.specs.Below.{tally}
use Rattle.records.specs.Image.{bad_relation_at}
use Rattle.mend_writer.proofs.relations_left.Given as goal

abbrev pub invariant-loop-k : goal.invariant-loop-k
invariant-loop-k l = l.left ≡ tally l.k (λ j. not (bad_relation_at l.image.bytes.now j))
