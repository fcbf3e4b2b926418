use Rattle.std.proofs.Common.{arith}
use Rattle.smaller_texts.proofs.Texts.{text-under-1, text-under-2, text-under-3, text-ran, part-within, own-within}
use Rattle.smaller_texts.proofs.put_text.Goals as goal

pub put_clauses-a-requires : goal.put_clauses-a-requires
put_clauses-a-requires c = (
  c.requires.0,
  omega arith,
  omega arith,
  own-within _ _ _ c.one.ensures c.meet-own.ensures c.requires.1,
  text-under-1 _ _ _ _ _ _ _ c.one.ensures c.meet-own.ensures c.meet-asked.ensures c.empty-none.ensures c.args.room.now _ c.requires.4,
)

pub put_clauses-b-requires : goal.put_clauses-b-requires
put_clauses-b-requires c = (
  c.requires.0,
  omega arith,
  omega arith,
  c.requires.2,
  text-under-2 _ _ _ _ _ _ _ c.one.ensures c.meet-own.ensures c.meet-asked.ensures c.empty-none.ensures _ _ c.requires.4 c.put_clauses-a.ensures,
)

pub put_clauses-requires : goal.put_clauses-requires
put_clauses-requires c = (
  c.requires.0,
  omega arith,
  omega arith,
  part-within _ _ _ c.meet-asked.ensures c.requires.3,
  text-under-3 _ _ _ _ _ _ _ c.one.ensures c.meet-own.ensures c.meet-asked.ensures c.empty-none.ensures _ _ c.requires.4 c.put_clauses-a.ensures
      c.put_clauses-b.ensures,
)

pub returns : goal.returns
returns c =
    text-ran _ _ _ _ _ _ _ c.one.ensures c.meet-own.ensures c.meet-asked.ensures c.empty-none.ensures _ _ c.requires.4 c.put_clauses-a.ensures
    c.put_clauses-b.ensures c.put_clauses.ensures
