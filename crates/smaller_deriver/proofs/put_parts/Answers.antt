use Rattle.smaller_deriver.specs.Book.{under-1, under-2, under-3, under-4, parts-ran}
use Rattle.smaller_deriver.proofs.put_parts.Goals as goal

pub put_completions-a-requires : goal.put_completions-a-requires
put_completions-a-requires c = (c.requires.few, c.requires.completions, under-1 c.requires c.args.room.now)

pub put_stages-rules-requires : goal.put_stages-rules-requires
put_stages-rules-requires c = (c.requires.few, under-2 c.requires _ c.put_completions-a.ensures)

pub put_conditions-records-requires : goal.put_conditions-records-requires
put_conditions-records-requires c = (c.requires.few, c.requires.words, under-3 c.requires _ c.put_completions-a.ensures c.put_stages-rules.ensures)

pub put_texts-end-requires : goal.put_texts-end-requires
put_texts-end-requires c =
    (c.requires.few, c.requires.texts, under-4 c.requires _ c.put_completions-a.ensures c.put_stages-rules.ensures c.put_conditions-records.ensures)

pub returns : goal.returns
returns c =
    parts-ran c.requires _ c.put_completions-a.ensures c.put_stages-rules.ensures c.put_conditions-records.ensures c.put_texts-end.ensures
