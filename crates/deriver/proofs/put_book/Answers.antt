use Rattle.deriver.specs.Deriving.{book-fits-1, book-fits-2, book-fits-3, book-fits-4, book-fits-5, book-wrote}
use Rattle.deriver.proofs.put_book.Goals as goal

pub put_header-a-requires : goal.put_header-a-requires
put_header-a-requires c = let p = c.requires in (p.few, p.rules, book-fits-1 _ _ _ _ _ _ _ _ _ p)

pub put_completions-b-requires : goal.put_completions-b-requires
put_completions-b-requires c = let p = c.requires in (p.few, p.completions, book-fits-2 _ _ _ _ _ _ _ _ _ p _ _ c.put_header-a.ensures)

pub put_stages-c-requires : goal.put_stages-c-requires
put_stages-c-requires c = let p = c.requires in (p.few, book-fits-3 _ _ _ _ _ _ _ _ _ p _ _ c.put_header-a.ensures _ _ c.put_completions-b.ensures)

pub put_conditions-d-requires : goal.put_conditions-d-requires
put_conditions-d-requires c =
    let p = c.requires in
    (p.few, p.texts, book-fits-4 _ _ _ _ _ _ _ _ _ p _ _ c.put_header-a.ensures _ _ c.put_completions-b.ensures _ _ c.put_stages-c.ensures)

pub put_texts-requires : goal.put_texts-requires
put_texts-requires c =
    let p = c.requires in (
      p.few,
      p.texts,
      book-fits-5 _ _ _ _ _ _ _ _ _ p _ _ c.put_header-a.ensures _ _ c.put_completions-b.ensures _ _ c.put_stages-c.ensures _ _ c.put_conditions-d.ensures,
    )

pub returns : goal.returns
returns c =
    book-wrote _ _ _ _ _ _ _ _ _ c.requires _ _ c.put_header-a.ensures _ _ c.put_completions-b.ensures _ _ c.put_stages-c.ensures _ _ c.put_conditions-d.ensures _ _
    c.put_texts.ensures
