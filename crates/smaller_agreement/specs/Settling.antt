-- Request (xi): the full book's next snapshot through the table settles the smaller book, so every fit order of it ends there. Assumes nothing.
use Prim.Native.Nat.{◌<◌}
use Rattle.std.specs.Prelude.{◌≡◌, Bool, ◌&&◌, ◌||◌}
use Rattle.std.proofs.Math.Path.{ap}
use Rattle.std.proofs.Common.{◌∙◌}
use Rattle.std.proofs.Math.Bool.{true, false, not, and-true, and_assoc}
use mathlib.Core.List.{List, [], ◌∷◌}
use Rattle.paper.specs.Limits.{and_word}
use Rattle.general.specs.Lists.{All}
use Rattle.book.specs.Text.{Snap, eval, top, holds}
use Rattle.agreement.specs.Texts.{eval-append, push-mark, push-not, push-or, push-and}
use Rattle.smaller.specs.Clauses.{Clause, alone, guarded, words_of, spoken_from, spoken}

-- ---- what clauses say

unfoldable pub said : Snap → Clause → Bool
said s (alone k) = s k
said s (guarded i k) = not (s i) || s k

unfoldable pub all_said : Snap → List Clause → Bool
all_said s [] = true
all_said s (x ∷ l) = said s x && all_said s l

-- the marks of a clause are no words for and, or, not
abbrev pub Low : Clause → Type 0
Low (alone k) = k < and_word
Low (guarded i k) = (i < and_word) × (k < and_word)

eval-words : (s : Snap) (x : Clause) → Low x → (st : List Bool) → eval s (words_of x) st ≡ said s x ∷ st
unfolding eval words_of said
eval-words s (alone k) h st = push-mark (s k) k st h
eval-words s (guarded i k) h st = rw (push-mark (s i) i st h.0, push-not, push-mark (s k) k (not (s i) ∷ st) h.1, push-or)

eval-later : (s : Snap) (l : List Clause) → All Low l → (b : Bool) → eval s (spoken_from false l) (b ∷ []) ≡ (b && all_said s l) ∷ []
unfolding eval spoken_from all_said
eval-later s [] h b = rw (and-true b)
eval-later s (x ∷ l) h b =
    eval-append s (words_of x) (and_word ∷ spoken_from false l) (b ∷ [])
    ∙ ap (eval s (and_word ∷ spoken_from false l)) (eval-words s x h.0 (b ∷ []))
    ∙ ap (eval s (spoken_from false l)) (push-and (s and_word) (said s x) b [])
    ∙ eval-later s l h.1 (b && said s x)
    ∙ rw (and_assoc b (said s x) (all_said s l))

-- "A text is its clauses joined by "and"": one of at least one clause holds exactly if all its clauses do
pub spoken-holds : (s : Snap) (x : Clause) (l : List Clause) → All Low (x ∷ l) → holds s (spoken (x ∷ l)) ≡ all_said s (x ∷ l)
unfolding holds eval spoken_from all_said top
spoken-holds s x l h =
    ap top (eval-append s (words_of x) (spoken_from false l) [] ∙ ap (eval s (spoken_from false l)) (eval-words s x h.0 []) ∙ eval-later s l h.1 (said s x))
