use Rattle.flattening.specs.Rows.{flat-none, flat-end}
use Rattle.flattening.specs.Meaning.{roles-of}
use Rattle.flattening.proofs.Layout.put_roles.Goals as goal

pub loop-e-init : goal.loop-e-init
loop-e-init c = flat-none c.requires

pub returns : goal.returns
returns c = roles-of c.args.self.known c.args.self.ordered c.put_group_roles.ensures (flat-end c.loop-e.auto.e-end c.loop-e-test.false c.loop-e.invariant)
