use Rattle.std.proofs.Common.{get_or}
use Rattle.records.specs.Image.{parent_of}
use Rattle.flattening.specs.Rows.{names_role, with_parent, Flat}
use Rattle.flattening.proofs.Layout.put_roles.Given as goal

abbrev pub invariant-loop-e : goal.invariant-loop-e
invariant-loop-e l =
    Flat (λ x f. with_parent l.self.image.bytes.now l.self.image.nodes (names_role l.self.image.bytes.now f (get_or l.self.nodes.now x 0)) l.all (parent_of l.self.image.bytes.now (get_or l.self.nodes.now x 0)) f) l.e l.roles
