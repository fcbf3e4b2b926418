use Rattle.smaller_texts.proofs.Texts.{clause-fits, and-fits, clause-later}
use Rattle.smaller_texts.proofs.put_clause.Goals as goal

pub put_test-next-requires : goal.put_test-next-requires
put_test-next-requires c = search clause-fits

pub put_word-requires : goal.put_word-requires
put_word-requires c = search and-fits

pub returns : goal.returns
returns c = search clause-later
