-- The senses of the rules passed, by stage and effect.
use Rattle.book.specs.Image.{book_of}
use Rattle.clashes.specs.Groups.{ByStage}
use Rattle.clashes.proofs.by_stage.Given as goal

abbrev pub invariant-loop-r : goal.invariant-loop-r
invariant-loop-r l = ByStage (book_of l.image) l.m l.r l.by
