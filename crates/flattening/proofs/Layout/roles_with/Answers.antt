use Rattle.flattening.specs.Rows.{roles-some, roles-none}
use Rattle.flattening.proofs.Layout.roles_with.Goals as goal

pub returns-then-p-self : goal.returns-then-p-self
returns-then-p-self c = roles-some _ c.args.all.now _ c.parent_of-p.ensures c.roles_of-own.ensures c.if-p-self.true c.add_roles.ensures

pub returns : goal.returns
returns c = roles-none _ c.args.all.now _ c.parent_of-p.ensures c.roles_of-own.ensures c.if-p-self.false
