-- What the reader is, and what its methods hand back. Assumes nothing.
use Rattle.std.specs.Prelude.{ℕ, List}
use Rattle.std.specs.Borrow.{Bor}
use Rattle.book.specs.Image.{start_at, count_at}
use Rattle.book.specs.declared.Counts.{Counts}
use Rattle.book.specs.declared.Span.{Span}
use Rattle.book.specs.declared.reader.BookReader.{BookReader}

-- "a reader that keeps the borrowed image beside its header counts"
abbrev pub reader_of : Bor (List ℕ) → Counts → BookReader
reader_of image counts = record { image = image; counts = counts }

-- a condition's start and count, as they stand at the byte `at`
abbrev pub span_from : List ℕ → ℕ → Span
span_from s at = record { start = start_at s at; count = count_at s at }
