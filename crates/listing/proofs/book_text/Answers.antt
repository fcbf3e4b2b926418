-- `listing::book_text` meets its contract: the first line, the rules and the conditions stand one behind another.
use Rattle.listing.proofs.Lines.{book-fits-1, book-fits-2, book-fits-3, book-wrote}
use Rattle.listing.proofs.book_text.Goals as goal

pub counts_line-a-requires : goal.counts_line-a-requires
counts_line-a-requires c = book-fits-1 _ c.requires.0 _ _ c.counts_at-h.ensures c.requires.1

pub rule_lines-b-requires : goal.rule_lines-b-requires
rule_lines-b-requires c = book-fits-2 _ c.requires.0 _ _ c.counts_at-h.ensures c.requires.1 _ _ c.counts_line-a.ensures

pub condition_lines-requires : goal.condition_lines-requires
condition_lines-requires c = book-fits-3 _ c.requires.0 _ _ c.counts_at-h.ensures c.requires.1 _ _ c.counts_line-a.ensures _ _ c.rule_lines-b.ensures

pub returns : goal.returns
returns c = book-wrote _ c.requires.0 _ _ c.counts_at-h.ensures c.requires.1 _ _ c.counts_line-a.ensures _ _ c.rule_lines-b.ensures _ _ c.condition_lines.ensures
