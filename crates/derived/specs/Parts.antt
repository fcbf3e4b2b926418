-- The derived book's parts by the chart's tables, as the code is lent them, and what it needs of their sets. Assumes nothing.
use Rattle.std.specs.Prelude.{ℕ, ◌+◌, ◌<◌, ◌≡◌, true, List, [], ◌∷◌, length, get_or}
use Rattle.paper.specs.Limits.{not_word, or_word, and_word}
use Rattle.sets.specs.Set.{union, within}
use Rattle.flat_chart.specs.Chart.{condition, response, milestone, include, exclude, set_of, Fit}
use Rattle.flat_chart.specs.Flat.{FlatChart}
use Rattle.book.specs.Book.{Condition}
use Rattle.book.specs.ImageOf.{rule_bytes, condition_bytes}
use Rattle.general.specs.Lists.{flat, packed}
use Rattle.wire.specs.Wire.{bytes16}
use Rattle.book.specs.declared.Rule.{Rule}
use Rattle.derived.specs.Derived.{completion, text_for}
use Rattle.derived.specs.Sizes.{set-within, both-within}

-- what e's completion does, where i, x and r are the tables of includes, excludes and responses
unfoldable pub completion_at : ℕ → List ℕ → List ℕ → List ℕ → ℕ → List Rule
completion_at n i x r e = completion n e (get_or i e 0) (get_or x e 0) (get_or r e 0)

-- every set of these tables keeps to the n events
pub record CompletionsIn (n : ℕ) (i x r : List ℕ) : Type 0 where
  pub inclusions : (e : ℕ) → e < n → within n (union (get_or i e 0) (get_or x e 0)) ≡ true
  pub responses : (e : ℕ) → e < n → within n (get_or r e 0) ≡ true

-- where t and m are the tables of conditions and milestones
unfoldable pub text_at : ℕ → List ℕ → List ℕ → ℕ → List ℕ
text_at n t m e = text_for n e (get_or t e 0) (get_or m e 0)

pub record TextsIn (n : ℕ) (t m : List ℕ) : Type 0 where
  pub conditions : (e : ℕ) → e < n → within n (get_or t e 0) ≡ true
  pub milestones : (e : ℕ) → e < n → within n (get_or m e 0) ≡ true

abbrev pub condition_made : ℕ → ℕ → Condition
condition_made start count = record { start = start; count = count }

unfoldable pub condition_part : ℕ → List ℕ → List ℕ → ℕ → List Condition
condition_part n t m e = condition_made (length (flat e (text_at n t m))) (length (text_at n t m e)) ∷ []

-- a clause whose marks are included + f and base + f
unfoldable pub clause_from : ℕ → ℕ → ℕ → List ℕ
clause_from included base f = (included + f) ∷ (not_word ∷ ((base + f) ∷ (or_word ∷ (and_word ∷ []))))

-- ---- a chart's own tables

module _ (c : FlatChart) where
  abbrev pub CompletionsKept : Type 0
  CompletionsKept = CompletionsIn c.count c.includes c.excludes c.responses

  abbrev pub TextsKept : Type 0
  TextsKept = TextsIn c.count c.conditions c.milestones

  -- of event e alone: what its completion names, and what its text asks about, are events of the chart
  abbrev pub CompletionKept : ℕ → Type 0
  CompletionKept e = (within c.count (union (set_of c include e) (set_of c exclude e)) ≡ true) × (within c.count (set_of c response e) ≡ true)

  abbrev pub TextKept : ℕ → Type 0
  TextKept e = (within c.count (set_of c condition e) ≡ true) × (within c.count (set_of c milestone e) ≡ true)

  module _ (e : ℕ) (h : e < c.count) where
    pub completion-kept : CompletionsKept → CompletionKept e
    completion-kept ok = (ok.inclusions e h, ok.responses e h)

    pub text-kept : TextsKept → TextKept e
    text-kept ok = (ok.conditions e h, ok.milestones e h)

  -- the bytes of what e's completion does, and of what all do
  abbrev pub completion_of : ℕ → List ℕ
  completion_of e = packed rule_bytes (completion_at c.count c.includes c.excludes c.responses e)

  abbrev pub completions_of : List ℕ
  completions_of = packed rule_bytes (flat c.count (completion_at c.count c.includes c.excludes c.responses))

  -- the bytes of the condition records
  abbrev pub records_of : List ℕ
  records_of = packed condition_bytes (flat c.count (condition_part c.count c.conditions c.milestones))

  -- the bytes of e's text, and of all texts
  abbrev pub text_of : ℕ → List ℕ
  text_of e = packed bytes16 (text_at c.count c.conditions c.milestones e)

  abbrev pub texts_of : List ℕ
  texts_of = packed bytes16 (flat c.count (text_at c.count c.conditions c.milestones))

  module _ (fit : Fit c) where
    pub completions-in : CompletionsIn c.count c.includes c.excludes c.responses
    completions-in = record { inclusions = both-within c fit; responses = set-within c fit response }

    pub texts-in : TextsIn c.count c.conditions c.milestones
    texts-in = record { conditions = set-within c fit condition; milestones = set-within c fit milestone }
