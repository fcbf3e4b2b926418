-- `derived_book::book_length` meets its contract. Assumes nothing.
use borrow.Author.Rules.{rules}
use Rattle.derived_book.proofs.Front.{book-ends}
use Rattle.derived_book.proofs.book_length.Statement.{statement}
use Rattle.derived_book.proofs.book_length.Tie as tie

pub book_length_spec : {M : Type 1} → statement M
book_length_spec =
    tie.close
    (tie.spec
    (λ c κs. search rules) (λ c κs. search rules) (λ c. search rules) (λ c. search rules) (λ c. search rules)
    (λ c. search book-ends))
