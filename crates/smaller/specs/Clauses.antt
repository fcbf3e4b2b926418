-- Request (xi): a derived text as clauses joined by "and", and what becomes of a clause where marks go. Assumes nothing.
use Rattle.std.specs.Prelude.{ℕ, zero, suc, ◌≡◌, refl, Bool, true, false, cond, List, [], ◌∷◌, ◌++◌}
use Rattle.std.proofs.Common.{ap, ◌∙◌, append_assoc}
use Rattle.paper.specs.Limits.{and_word, or_word, not_word}
use Rattle.general.specs.Cases.{cases}
use Rattle.general.specs.Lists.{flat}
use Rattle.sets.specs.Set.{has}
use Rattle.derived.specs.Derived.{executed_mark, included_mark, answered_mark, listed, clause, text_for}

-- a mark alone; or a mark that is asked for only where the first one, an included mark, is yes
pub data Clause : Type 0 where
  alone : ℕ → Clause
  guarded : ℕ → ℕ → Clause

unfoldable pub words_of : Clause → List ℕ
words_of (alone k) = k ∷ []
words_of (guarded i k) = i ∷ (not_word ∷ (k ∷ (or_word ∷ [])))

-- "What comes first in a text stands without its "and"."
abbrev pub joiner : Bool → List ℕ
joiner true = []
joiner false = and_word ∷ []

-- clauses one behind the other, where the first of them is the first of the text or not
unfoldable pub spoken_from : Bool → List Clause → List ℕ
spoken_from first [] = []
spoken_from first (x ∷ l) = words_of x ++ (joiner first ++ spoken_from false l)

abbrev pub spoken : List Clause → List ℕ
spoken l = spoken_from true l

-- ---- the full book's text

unfoldable pub clauses_for : ℕ → ℕ → ℕ → ℕ → List Clause
clauses_for n e c m =
    alone (included_mark n e)
    ∷ (flat n (listed (λ f. guarded (included_mark n f) (executed_mark n f) ∷ []) c) ++ flat n (listed (λ f. guarded (included_mark n f) (answered_mark n f) ∷ []) m))

spoken-later : (k l : List Clause) → spoken_from false (k ++ l) ≡ spoken_from false k ++ spoken_from false l
unfolding spoken_from
spoken-later [] l = refl
spoken-later (x ∷ k) l = rw (spoken-later k l) (simp append_assoc)

spoken-flat : (n k : ℕ) (mark : ℕ → ℕ) (s : ℕ) → spoken_from false (flat k (listed (λ f. guarded (included_mark n f) (mark f) ∷ []) s)) ≡ flat k (listed (clause n mark) s)
unfolding spoken_from words_of flat
spoken-flat n zero mark s = refl
spoken-flat n (suc k) mark s =
    spoken-later (flat k (listed (λ f. guarded (included_mark n f) (mark f) ∷ []) s)) (listed (λ f. guarded (included_mark n f) (mark f) ∷ []) s k)
    ∙ rw (spoken-flat n k mark s) (cases (has s k) (λ t. rw t) (λ t. rw t))

-- "A text is its clauses joined by "and" behind each but the first": the derived text is what its clauses say
pub text-spoken : (n e c m : ℕ) → spoken (clauses_for n e c m) ≡ text_for n e c m
unfolding clauses_for spoken_from words_of text_for
text-spoken n e c m =
    ap (λ (l : List ℕ). included_mark n e ∷ l)
    (spoken-later (flat n (listed (λ f. guarded (included_mark n f) (executed_mark n f) ∷ []) c)) (flat n (listed (λ f. guarded (included_mark n f) (answered_mark n f) ∷ []) m))
    ∙ rw (spoken-flat n n (executed_mark n) c, spoken-flat n n (answered_mark n) m))

-- ---- where marks go

module _ (stays : ℕ → Bool) (new : ℕ → ℕ) where
  -- "clauses that became yes go, and a clause on a dropped included mark keeps only its second half"
  unfoldable pub lessened : Clause → List Clause
  lessened (alone k) = cond (stays k) (alone (new k) ∷ []) []
  lessened (guarded i k) = cond (stays k) (cond (stays i) (guarded (new i) (new k)) (alone (new k)) ∷ []) []
