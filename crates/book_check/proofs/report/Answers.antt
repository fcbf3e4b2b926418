-- What is printed of a book that passes is asked of a book that passed. Assumes nothing.
use Rattle.std.proofs.Common.{rules}
use Rattle.book_check.proofs.Passing.{passes}
use Rattle.book_check.proofs.report.Goals as goal

pub passed_lines-requires : goal.passed_lines-requires
passed_lines-requires g c = (search rules, search passes)
