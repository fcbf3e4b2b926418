use Rattle.smaller_texts.proofs.Texts.{guarded-put}
use Rattle.smaller_texts.proofs.put_guarded.Goals as goal

pub returns : goal.returns
returns c = guarded-put _ _ _ c.put16.ensures c.put16-2.ensures c.put16-3.ensures c.put16-4.ensures
