use Rattle.smaller_texts.proofs.Texts.{word-put}
use Rattle.smaller_texts.proofs.put_word.Goals as goal

pub returns : goal.returns
returns c = search word-put
