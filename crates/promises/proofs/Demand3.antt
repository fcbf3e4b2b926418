-- Demand 3, by request (ii) with the rules counted for a stage: what a completion of a book that the check passes does, which books the check refuses for
-- a loop or a clash, and that a book derived from an accepted chart passes. (That a completion ends is also part of the proof of its code.) Assumes nothing.
use Rattle.chart.specs.Reading.{reading}
use Rattle.chart.specs.ReadingGives.{reading-fit}
use Rattle.book.specs.Text.{snap_of}
use Rattle.book.specs.Image.{book_of}
use Rattle.judge.proofs.Checking.{loop-exactly, loop-named, clash-exactly, clash-named}
use Rattle.runner.specs.Walks.{goes_one}
use Rattle.runner.specs.Completion.{once, completes, orders-end-alike, written-fit}
use Rattle.promises.specs.Demand2.{derived-passes}
use Rattle.promises.specs.Demand3.{Demand3, ready-passes}

pub demand-3 : Demand3
demand-3 =
    record {
      completes = λ book order s stage y f. completes book (ready-passes y) s stage y.opens order f;
      fires = λ book order s stage y f end walk. goes_one (book_of book) (snap_of s.marks) stage walk (completes book (ready-passes y) s stage y.opens order f).fires;
      alike = λ book k l s stage y. orders-end-alike book (ready-passes y) s stage y.opens k l;
      once = λ book order s stage y f. once book (ready-passes y) s stage y.opens order f;
      written = written-fit;
      loop = loop-exactly;
      loop_named = loop-named;
      clashes = clash-exactly;
      clash_named = clash-named;
      derived = λ image g. derived-passes (reading image).chart (reading-fit image g).0;
    }
