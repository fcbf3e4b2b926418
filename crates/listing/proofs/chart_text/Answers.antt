-- `listing::chart_text` meets its contract: a refusal is one line, else the derived book's text.
use Rattle.listing.specs.Listing.{blank, derive-fits, derive-wrote, end_fits, end-size, book-ready, chart-wrote}
use Rattle.listing.proofs.chart_text.Goals as goal

pub refusal_line-requires : goal.refusal_line-requires
refusal_line-requires c =
    derive-fits _ c.args.room.now _ _ c.requires blank _ c.derive-answer.ensures.0 c.derive-answer.ensures.1 c.if-answer-ne0.true

pub returns-then-answer-ne0 : goal.returns-then-answer-ne0
returns-then-answer-ne0 c =
    derive-wrote _ c.args.room.now _ _ c.requires blank _ c.derive-answer.ensures.0 c.derive-answer.ensures.1 c.if-answer-ne0.true _ _ c.refusal_line.ensures

pub slice_bounds-bytes-end : goal.slice_bounds-bytes-end
slice_bounds-bytes-end c =
    end_fits _ c.args.room.now _ _ c.requires blank _ c.derive-answer.ensures.0 c.derive-answer.ensures.1 c.if-answer-ne0.false _
    c.counts_at-h.ensures _ c.words_from-words.ensures

pub slice_bounds-book_text-end : goal.slice_bounds-book_text-end
slice_bounds-book_text-end c =
    end-size _ c.args.room.now _ _ c.requires blank _ c.derive-answer.ensures.0 c.derive-answer.ensures.1 c.if-answer-ne0.false _
    c.counts_at-h.ensures _ c.words_from-words.ensures

pub book_text-requires : goal.book_text-requires
book_text-requires c =
    book-ready _ c.args.room.now _ _ c.requires blank _ c.derive-answer.ensures.0 c.derive-answer.ensures.1 c.if-answer-ne0.false _
    c.counts_at-h.ensures _ c.words_from-words.ensures

pub returns : goal.returns
returns c =
    chart-wrote _ c.args.room.now _ _ c.requires blank _ c.derive-answer.ensures.0 c.derive-answer.ensures.1 c.if-answer-ne0.false _
    c.counts_at-h.ensures _ c.words_from-words.ensures _ _ c.book_text.ensures
