use Rattle.flattening.specs.Rows.{rise-none, rise-back, rise-end}
use Rattle.flattening.proofs.Layout.rise.Goals as goal

pub loop-j-init : goal.loop-j-init
loop-j-init c = rise-none c.args.self.image.whole c.args.self.ordered (λ e h. (c.args.self.known.placed e h).1) c.requires

pub loop-j-preserved : goal.loop-j-preserved
loop-j-preserved c = rise-back _ c.args.self.image.whole c.args.self.ordered c.loop-j-test.true c.loop-j.auto.j c.loop-j.invariant c.parent_of-parent.ensures c.row_in-own.ensures c.hand.ensures

pub returns : goal.returns
returns c = rise-end c.loop-j-test.false c.loop-j.invariant
