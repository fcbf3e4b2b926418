-- The room that passes over rules work in, before the first of them. Assumes nothing.
use Rattle.std.specs.Prelude.{replicate}
use Rattle.paper.specs.Limits.{max_marks, max_conditions}
use Rattle.book.specs.Marks.{mark_words}
use Rattle.unwritten.specs.Words.{rule_words}
use Rattle.unwritten.specs.declared.Scratch.{Scratch}

abbrev pub empty_scratch : Scratch
empty_scratch =
    record {
      targeted = replicate max_marks 0;
      waits = replicate mark_words 0;
      written = replicate rule_words 0;
      free = replicate max_conditions 0;
    }
