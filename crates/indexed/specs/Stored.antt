-- An index stored before request (xiv), with 16 bits a rule, beside a book that passes: "a stored index that lists any rule gets 34", whosever index it was, and one of the book
-- that lists none is still fit. Assumes nothing.
use Rattle.std.specs.Prelude.{◌≡◌, List, [], ℕ, ◌<◌}
use Rattle.paper.specs.Limits.{index_unfit}
use Rattle.paper.specs.Answers.{granted, refusal}
use Rattle.book.specs.Book.{Book}
use Rattle.book.specs.Image.{stages_in, book_of}
use Rattle.judge.specs.Checking.{stages-many}
use Rattle.runner.specs.Table.{Passes}
use Rattle.index.specs.Index.{order_of}
use Rattle.index_fit.specs.Stored.{index_image_then, stored-lists-none, stored_same}
use Rattle.indexed.specs.Indexed.{index_answer}
use Rattle.indexed.specs.IndexedTable.{index-granted, index-unfit}

module _ (s : List ℕ) (p : Passes s) where
  -- the index of any book
  pub stored_other : (b : Book) (t : ℕ) → t < b.stages → (order_of b t ≡ [] → ⊥) → index_answer s (index_image_then b) ≡ refusal index_unfit
  stored_other b t h n = index-unfit s (index_image_then b) p (λ e. n (stored-lists-none b (book_of s) e t h))

  -- and its own
  pub stored-unfit : (t : ℕ) → t < stages_in s → (order_of (book_of s) t ≡ [] → ⊥) → index_answer s (index_image_then (book_of s)) ≡ refusal index_unfit
  stored-unfit t h = stored_other (book_of s) t (rw (stages-many s) h)

  pub stored-fit : ((t : ℕ) → t < stages_in s → order_of (book_of s) t ≡ []) → index_answer s (index_image_then (book_of s)) ≡ granted
  stored-fit none = index-granted s (index_image_then (book_of s)) p ((stored_same (book_of s)).1 (λ t h. none t (rw (stages-many s) at h)))
