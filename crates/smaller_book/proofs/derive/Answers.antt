-- The bytes counted are the smaller book, which is at the front of the room. Assumes nothing.
use Rattle.smaller_book.proofs.Front.{book-whole}
use Rattle.smaller_book.proofs.derive.Goals as goal

pub returns-clause-room_after : goal.returns-clause-room_after
returns-clause-room_after c =
    (book-whole _ _ _ _ _ c.derive_smaller-smaller.ensures.0 c.if-answer-ne0.false c.derive_smaller-smaller.ensures.1 _ c.book_length-bytes.ensures).1.0

pub returns-clause-bytes_in_bounds : goal.returns-clause-bytes_in_bounds
returns-clause-bytes_in_bounds c =
    (book-whole _ _ _ _ _ c.derive_smaller-smaller.ensures.0 c.if-answer-ne0.false c.derive_smaller-smaller.ensures.1 _ c.book_length-bytes.ensures).1.1
