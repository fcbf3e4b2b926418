-- The smaller book's parts as the code runs them: by the table of new mark numbers, the sets of events whose marks stay, and the texts' sizes. Assumes nothing.
use Rattle.std.specs.Prelude.{ℕ, ◌+◌, ◌*◌, ◌≤◌, Bool, true, false, not, cond, List, [], ◌∷◌, ◌++◌, length, get_or, eqb}
use Rattle.paper.specs.Limits.{max_events, max_rules, max_words, book_header, rule_size, condition_size, word_size}
use Rattle.general.specs.Below.{tally}
use Rattle.general.specs.Lists.{flat, total}
use Rattle.sets.specs.Set.{has, union, inter, minus, only}
use Rattle.book.specs.Book.{Condition}
use Rattle.book.specs.declared.Rule.{Rule}
use Rattle.book.specs.declared.Trigger.TheVariants.{None}
use Rattle.book.specs.declared.Sense.TheVariants.{NoCondition, AsWritten, Negated}
use Rattle.derived.specs.Derived.{on, listed}
use Rattle.derived.specs.Parts.{condition_made}
use Rattle.smaller.specs.Clauses.{Clause, alone, guarded, spoken}

-- the most bytes that a derived book has
abbrev pub max_book : ℕ
max_book = book_header + rule_size * max_rules + condition_size * max_events + word_size * max_words

-- a run behind the place at stays below that
abbrev pub Under : ℕ → List ℕ → Type 0
Under at bytes = at + length bytes ≤ max_book

-- ---- rules, where t is the table of new mark numbers

-- on completion of e, the mark with the old number base + f: set where f is in raise, and else cleared
unfoldable pub effect_by : List ℕ → ℕ → ℕ → ℕ → ℕ → List Rule
effect_by t e raise base f = on e (has raise f) (get_or t (base + f) 0) ∷ []

-- for each f of among, rising
unfoldable pub effects_by : List ℕ → ℕ → ℕ → ℕ → ℕ → ℕ → List Rule
effects_by t n e raise among base = flat n (listed (effect_by t e raise base) among)

-- everything on e's completion, where e includes i, excludes x and has the responses r, and the executed, included and answered marks of E, I and A stay
unfoldable pub completion_by : List ℕ → ℕ → ℕ → ℕ → ℕ → ℕ → ℕ → ℕ → ℕ → List Rule
completion_by t n E I A e i x r =
    effects_by t n e i (inter (union i x) I) (2 * n)
    ++ (effects_by t n e 0 r (3 * n)
    ++ (effects_by t n e (only e) (inter (minus (only e) r) A) (3 * n) ++ effects_by t n e (only e) (inter (only e) E) n))

-- by the tables of includes, excludes and responses
unfoldable pub completions_by : List ℕ → ℕ → ℕ → ℕ → ℕ → List ℕ → List ℕ → List ℕ → ℕ → List Rule
completions_by t n E I A i x r e = completion_by t n E I A e (get_or i e 0) (get_or x e 0) (get_or r e 0)

-- ---- stages, where z has the texts' sizes

abbrev pub text_left : List ℕ → ℕ → Bool
text_left z e = not (eqb (get_or z e 0) 0)

-- how many texts before e's are left: its condition's number
abbrev pub condition_by : List ℕ → ℕ → ℕ
condition_by z e = tally e (text_left z)

unfoldable pub stage_by : List ℕ → ℕ → List Rule
stage_by z e =
    cond (text_left z e)
    (record { trigger = None; sense = AsWritten (condition_by z e); effect = true; target = e } ∷ (record { trigger = None; sense = Negated (condition_by z e); effect = false; target = e } ∷ []))
    (record { trigger = None; sense = NoCondition; effect = true; target = e } ∷ [])

unfoldable pub record_by : List ℕ → ℕ → List Condition
record_by z e = cond (text_left z e) (condition_made (total e (λ k. get_or z k 0)) (get_or z e 0) ∷ []) []

-- ---- texts

-- the clause on the mark with the old number base + f, guarded where f is in guards
unfoldable pub clause_by : List ℕ → ℕ → ℕ → ℕ → ℕ → List Clause
clause_by t n guards base f = cond (has guards f) (guarded (get_or t (2 * n + f) 0) (get_or t (base + f) 0)) (alone (get_or t (base + f) 0)) ∷ []

unfoldable pub clauses_by : List ℕ → ℕ → ℕ → ℕ → ℕ → List Clause
clauses_by t n guards base among = flat n (listed (clause_by t n guards base) among)

-- the text of e, with the conditions c and the milestones m, where the included marks of I and the answered marks of A stay
unfoldable pub text_by : List ℕ → ℕ → ℕ → ℕ → ℕ → ℕ → ℕ → List ℕ
text_by t n I A e c m = spoken (clauses_by t n 0 (2 * n) (inter (only e) I) ++ (clauses_by t n I n c ++ clauses_by t n I (3 * n) (inter m A)))

-- by the tables of conditions and milestones
unfoldable pub texts_by : List ℕ → ℕ → ℕ → ℕ → List ℕ → List ℕ → ℕ → List ℕ
texts_by t n I A c m e = text_by t n I A e (get_or c e 0) (get_or m e 0)
