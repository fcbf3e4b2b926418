-- The listing's condition lines, byte by byte. Assumes nothing.
use Rattle.std.specs.Prelude.{ℕ, cond, List, ◌++◌, eqb}
use Rattle.paper.specs.Limits.{and_word, or_word, not_word}
use Rattle.general.specs.Lists.{packed}
use Rattle.writing.specs.Text.{ascii, named}

-- ---- "Condition lines, after all rules: `cond`, condition number and colon, then its words in order, the three operators by name."

unfoldable pub word_text : ℕ → List ℕ
word_text w = cond (eqb w and_word) (ascii " and") (cond (eqb w or_word) (ascii " or") (cond (eqb w not_word) (ascii " not") (named " " w)))

unfoldable pub condition_line : ℕ → List ℕ → List ℕ
condition_line c text = named "cond " c ++ (ascii ":" ++ (packed word_text text ++ ascii "\n"))
