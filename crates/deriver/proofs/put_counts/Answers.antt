use Rattle.deriver.specs.Deriving.{header-wrote}
use Rattle.deriver.proofs.put_counts.Goals as goal

pub returns : goal.returns
returns c =
    header-wrote _ _ _ _ _ c.put32.ensures c.put32-2.ensures c.put32-3.ensures c.put32-4.ensures c.put32-5.ensures c.put32-6.ensures c.put32-7.ensures c.put32-8.ensures
