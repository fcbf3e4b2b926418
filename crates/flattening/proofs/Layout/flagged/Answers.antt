use Rattle.flattening.proofs.Earlier.{flags-in}
use Rattle.flattening.proofs.Layout.flagged.Goals as goal

pub flagged-requires : goal.flagged-requires
flagged-requires c = (c.args.self.known.few, flags-in c.args.self.known)
