-- `index::write::put_stage`.
use Rattle.index.proofs.write.put_stage.Goals as goal

pub put_rising-requires : goal.put_rising-requires
put_rising-requires c = (c.requires.0, rw c.requires.1 at c.requires.2, c.requires.4 c.if-rising.true, c.requires.5)
