use Rattle.smaller_texts.proofs.Texts.{guarded-fits, alone-fits, alone-wrote}
use Rattle.smaller_texts.proofs.put_test.Goals as goal

pub put_guarded-requires : goal.put_guarded-requires
put_guarded-requires c = search guarded-fits

pub put_word-requires : goal.put_word-requires
put_word-requires c = search alone-fits

pub returns-else-kept : goal.returns-else-kept
returns-else-kept c = search alone-wrote
