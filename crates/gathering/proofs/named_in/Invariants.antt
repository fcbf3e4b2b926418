use Rattle.wide.specs.Number.{number}
use Rattle.gathering.specs.Noting.{TextRead}
use Rattle.gathering.proofs.named_in.Given as goal

-- both sets have what the words passed name
abbrev pub invariant-loop-i : goal.invariant-loop-i
invariant-loop-i l = TextRead l.image l.at l.count l.n l.i (number l.conditions) (number l.milestones)
