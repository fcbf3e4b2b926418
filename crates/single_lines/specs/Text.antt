-- The listing's first line, and the line of a refusal, byte by byte. Assumes nothing.
use Rattle.std.specs.Prelude.{ℕ, List, ◌++◌}
use Rattle.paper.specs.declared.Answer.{Answer}
use Rattle.writing.specs.Text.{ascii, named}

-- "The first line gives the header's five counts."
unfoldable pub counts_line : ℕ → ℕ → ℕ → ℕ → ℕ → List ℕ
counts_line S M R Q W = named "stages " S ++ (named " marks " M ++ (named " rules " R ++ (named " conditions " Q ++ (named " words " W ++ ascii "\n"))))

-- "A refusal of the reader or the deriver prints one line only: `refused`, code, place, other, with single spaces."
unfoldable pub refusal_line : Answer → List ℕ
refusal_line a = named "refused " a.code ++ (named " " a.place ++ (named " " a.other ++ ascii "\n"))
