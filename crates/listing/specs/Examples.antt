-- The paper's chart, whole: its 34 bytes give exactly the paper's text. Assumes nothing.
use Rattle.std.specs.Prelude.{◌≡◌, refl, List, ◌++◌, ℕ, length}
use Rattle.std.proofs.Common.{ap, ◌∙◌}
use Rattle.paper.specs.Answers.{granted}
use Rattle.paper.specs.declared.Answer.{Answer}
use Rattle.sets.specs.Set.{has}
use Rattle.flat_chart.specs.Tests.{row_spill, spill_at, spill_of, roles_from, fit_tables, fit_chart}
use Rattle.chart.specs.Flat.{Reading}
use Rattle.chart.specs.Examples.{whole_chart}
use Rattle.chart.specs.Examples as chart
use Rattle.book.specs.Book.{Book, text_of}
use Rattle.general.specs.Lists.{flat, packed}
use Rattle.book.specs.ImageOf.{image_of, image-length}
use Rattle.derived.specs.Derived.{derived_book}
use Rattle.deriver.specs.Deriving.{derived_image, deriving_answer}
use Rattle.deriver.specs.Examples.{paper_chart, paper_book}
use Rattle.deriver.specs.Examples as deriver
use Rattle.writing.specs.Text.{ascii, decimal_in, decimal}
use Rattle.single_lines.specs.Text.{counts_line}
use Rattle.rule_lines.specs.Text.{trigger_text, sense_text, effect_text, rule_line}
use Rattle.condition_lines.specs.Text.{word_text, condition_line}
use Rattle.listing.specs.Limits.{listing_book}
use Rattle.listing.specs.Text.{book_text, unless_refused, chart_text, image_text, listing_text}

-- the paper's text, line by line
abbrev pub paper_text : List ℕ
paper_text =
    ascii "stages 2 marks 8 rules 10 conditions 2 words 7\n"
    ++ (ascii "0 on 0 clear 7\n"
    ++ (ascii "1 on 0 set 6\n"
    ++ (ascii "2 on 0 set 2\n"
    ++ (ascii "3 on 1 clear 4\n"
    ++ (ascii "4 on 1 set 7\n"
    ++ (ascii "5 on 1 set 3\n"
    ++ (ascii "6 if 0 set 0\n"
    ++ (ascii "7 unless 0 clear 0\n"
    ++ (ascii "8 if 1 set 1\n"
    ++ (ascii "9 unless 1 clear 1\n"
    ++ (ascii "cond 0: 4\n"
    ++ (ascii "cond 1: 5 4 not 2 or and\n"))))))))))))

book-text : book_text paper_book ≡ paper_text
unfolding book_text condition_line word_text rule_line effect_text sense_text trigger_text counts_line decimal decimal_in text_of flat packed
book-text = refl

image-size : length (derived_image paper_chart) ≡ 162
image-size = ap (λ (b : Book). length (image_of b)) (deriver.examples).book ∙ image-length paper_book

derived : deriving_answer paper_chart listing_book ≡ granted
unfolding deriving_answer fit_chart fit_tables roles_from spill_of spill_at row_spill has
derived = rw image-size

pub paper-listing : listing_text whole_chart ≡ paper_text
unfolding image_text chart_text
paper-listing =
    ap (λ (r : Reading). unless_refused r.answer (chart_text r.chart)) (chart.examples).whole
    ∙ ap (λ (a : Answer). unless_refused a (book_text (derived_book paper_chart))) derived
    ∙ ap book_text (deriver.examples).book
    ∙ book-text
