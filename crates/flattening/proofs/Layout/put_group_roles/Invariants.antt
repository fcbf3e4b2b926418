use Rattle.std.proofs.Common.{◌≡◌, length}
use Rattle.paper.specs.Limits.{max_nodes}
use Rattle.flattening.specs.Rows.{names_role, Handed}
use Rattle.flattening.proofs.Layout.put_group_roles.Given as goal

abbrev pub invariant-loop-j : goal.invariant-loop-j
invariant-loop-j l = (length l.all ≡ max_nodes) × Handed l.self.image.bytes.now l.self.order.now (names_role l.self.image.bytes.now) l.j l.all
