-- The smaller book's parts are the runs that the code makes: by the table of new mark numbers, the kept sets and the texts' sizes. Assumes nothing.
use Prim.Native.Nat.{ℕ, ◌+◌, ◌-◌, ◌*◌, ◌<◌}
use Rattle.std.specs.Prelude.{◌≡◌, refl, Bool, cond, length, get_or, replicate}
use Rattle.std.proofs.Math.Path.{sym}
use Rattle.std.proofs.Common.{ap₂, ◌∙◌, arith}
use Rattle.std.proofs.Math.Bool.{true, false}
use mathlib.Core.List.{List, [], ◌∷◌, ◌++◌, append_assoc}
use Rattle.std.proofs.Math.ListN.{get_or-append}
use borrow.Author.Tests.{eq-eqb, ne_eqb}
use Rattle.paper.specs.Limits.{max_events}
use Rattle.general.specs.Cases.{cases, or_left}
use Rattle.general.specs.Below.{some_of, tally-same}
use Rattle.general.specs.Lists.{total, total-same, flat, flat-same, length-flat, each, length-each, get_or-each, packed, packed-append, packed-one}
use Rattle.general.specs.Packing.{packed-flat-parts}
use Rattle.sets.specs.Set.{has, union, inter, minus, only}
use Rattle.sets.specs.Laws.{has-union, has-inter, has-minus, has-empty, has-only}
use Rattle.wire.specs.Wire.{bytes16}
use Rattle.flat_chart.specs.Chart.{Fit, condition, response, milestone, include, exclude, set_of, In}
use Rattle.flat_chart.specs.Flat.{FlatChart}
use Rattle.graph.specs.Flat.{Marking}
use Rattle.book.specs.ImageOf.{image_of, header_bytes, rule_bytes, condition_bytes}
use Rattle.book.specs.declared.Rule.{Rule}
use Rattle.derived.specs.Derived.{executed_mark, included_mark, answered_mark, on, listed, inclusion, responding, answering, setting_executed, completion, stage_rules, event_rules, derived_rules}
use Rattle.smaller.specs.Staying.{named, executed_stays, answered_stays, stays, new_mark, smaller_marks, mark_table}
use Rattle.smaller.specs.Clauses.{alone, guarded, clauses_for, lessened}
use Rattle.smaller.specs.Smaller.{smaller_clauses, smaller_text, has_text, new_condition, restated, reduced, smaller_rules, smaller_condition, smaller_book}
use Rattle.smaller.specs.Runs.{effect_by, effects_by, completion_by, completions_by, text_left, condition_by, stage_by, record_by, clause_by, clauses_by, text_by, texts_by}
use Rattle.smaller.specs.Numbering.{stays-stage, stays-executed, stays-included, stays-answered, new-stage, table_stays}
use Rattle.smaller.specs.Kept.{executed_kept, included_kept, answered_kept, has-answered}
use Rattle.smaller.proofs.Staying.{has-executed, has-included}
use Rattle.smaller.specs.Written.{listed-one, listed-own, completions_of, texts_of, sizes_of}

-- ---- one part alone

module _ {A : Type 0} where
  -- e alone, if s has it and r does not
  listed-less : (g : ℕ → List A) (n e r s : ℕ) → e < n → flat n (listed g (inter (minus (only e) r) s)) ≡ cond (has r e) [] (listed g s e)
  listed-less g n e r s h =
      listed-one g n e (inter (minus (only e) r) s) h
      (λ f a. has-inter (minus (only e) r) s f ∙ rw (has-minus (only e) r f, has-only e f, ne_eqb e f (λ p. a (sym p))))
      ∙ rw (has-inter (minus (only e) r) s e, has-minus (only e) r e, has-only e e, eq-eqb e e refl) (cases (has r e) (λ t. rw t) (λ t. rw t))

module _ (c : FlatChart) (m : Marking) where
  abbrev n : ℕ
  n = c.count

  abbrev t : List ℕ
  t = mark_table c m

  module _ (fit : Fit c) where
    -- ---- one rule, one clause

    rule-kept : (e k : ℕ) (b s : Bool) → stays c m k ≡ s → packed (reduced c m) (on e b k ∷ []) ≡ cond s (on e b (get_or t k 0) ∷ []) []
    unfolding reduced restated
    rule-kept e k b s q =
        packed-one (reduced c m) (on e b k)
        ∙ rw q (cases s (λ u. rw (u, table_stays c m fit.few k 0 (q ∙ u))) (λ u. rw u))

    module _ (f : ℕ) (h : f < n) where
      executed-kept : stays c m (executed_mark n f) ≡ has (executed_kept c m) f
      executed-kept = stays-executed c m f h ∙ sym (has-executed c m f)

      included-kept : stays c m (included_mark n f) ≡ has (included_kept c m) f
      included-kept = stays-included c m f h ∙ sym (has-included c m f h)

      answered-kept : stays c m (answered_mark n f) ≡ has (answered_kept c m) f
      answered-kept = stays-answered c m f h ∙ sym (has-answered c m f)

    -- ---- the rules on a completion

    module _ (e : ℕ) (h : e < n) where
      abbrev i : ℕ
      i = set_of c include e

      abbrev x : ℕ
      x = set_of c exclude e

      abbrev r : ℕ
      r = set_of c response e

      -- whose response it is, its answered mark stays
      response-stays : (f : ℕ) → f < n → In r f → stays c m (answered_mark n f) ≡ true
      unfolding answered_stays named
      response-stays f l u = stays-answered c m f l ∙ or_left _ (has m.pending f) (some_of n (λ g. has (set_of c response g) f) e h u)

      inclusion-run : packed (reduced c m) (flat n (inclusion n e i x)) ≡ effects_by t n e i (inter (union i x) (included_kept c m)) (2 * n)
      unfolding inclusion effects_by effect_by packed
      inclusion-run =
          packed-flat-parts (reduced c m) n (inclusion n e i x)
          ∙ flat-same n (λ f. packed (reduced c m) (inclusion n e i x f)) (listed (effect_by t e i (2 * n)) (inter (union i x) (included_kept c m)))
          (λ f l. rw (has-inter (union i x) (included_kept c m) f, has-union i x f)
          (cases (has i f) (λ u. rw u (rule-kept e (included_mark n f) true (has (included_kept c m) f) (included-kept f l)))
          (λ u. rw u (cases (has x f) (λ v. rw v (rule-kept e (included_mark n f) false (has (included_kept c m) f) (included-kept f l))) (λ v. rw v)))))

      responding-run : packed (reduced c m) (flat n (responding n e r)) ≡ effects_by t n e 0 r (3 * n)
      unfolding responding effects_by effect_by packed
      responding-run =
          packed-flat-parts (reduced c m) n (responding n e r)
          ∙ flat-same n (λ f. packed (reduced c m) (responding n e r f)) (listed (effect_by t e 0 (3 * n)) r)
          (λ f l. cases (has r f) (λ u. rw (u, has-empty f) (rule-kept e (answered_mark n f) false true (response-stays f l u))) (λ u. rw u))

      answering-run : packed (reduced c m) (answering n e r) ≡ effects_by t n e (only e) (inter (minus (only e) r) (answered_kept c m)) (3 * n)
      unfolding answering effects_by effect_by packed
      answering-run =
          sym (listed-less (effect_by t e (only e) (3 * n)) n e r (answered_kept c m) h
          ∙ cases (has r e) (λ u. rw u)
          (λ u. rw (u, has-only e e, eq-eqb e e refl) (sym (rule-kept e (answered_mark n e) true (has (answered_kept c m) e) (answered-kept e h)))))

      executed-run : packed (reduced c m) (setting_executed n e ∷ []) ≡ effects_by t n e (only e) (inter (only e) (executed_kept c m)) n
      unfolding effects_by effect_by
      executed-run =
          rule-kept e (executed_mark n e) true (has (executed_kept c m) e) (executed-kept e h)
          ∙ sym (listed-own (effect_by t e (only e) n) n e (executed_kept c m) h ∙ rw (has-only e e, eq-eqb e e refl))

      pub completion-runs : packed (reduced c m) (event_rules c e) ≡ completions_of c m e
      unfolding event_rules completion completions_by completion_by
      completion-runs =
          rw (
            packed-append (reduced c m) (flat n (inclusion n e i x)),
            packed-append (reduced c m) (flat n (responding n e r)),
            packed-append (reduced c m) (answering n e r),
            inclusion-run,
            responding-run,
            answering-run,
            executed-run,
          )

    -- ---- a text

    clause-kept : (base f : ℕ) (s : Bool) → f < n → stays c m (base + f) ≡ s
        → packed (lessened (stays c m) (new_mark c m)) (guarded (included_mark n f) (base + f) ∷ []) ≡ cond s (clause_by t n (included_kept c m) base f) []
    unfolding lessened clause_by
    clause-kept base f s l q =
        packed-one (lessened (stays c m) (new_mark c m)) (guarded (included_mark n f) (base + f))
        ∙ rw (q, included-kept f l)
        (cases s
        (λ u. rw (u, table_stays c m fit.few (base + f) 0 (q ∙ u))
        (cases (has (included_kept c m) f) (λ v. rw (v, table_stays c m fit.few (included_mark n f) 0 (included-kept f l ∙ v))) (λ v. rw v)))
        (λ u. rw u))

    module _ (e : ℕ) (h : e < n) where
      abbrev held : ℕ
      held = set_of c condition e

      abbrev asked : ℕ
      asked = set_of c milestone e

      -- what is a condition, its executed mark stays
      condition-stays : (f : ℕ) → f < n → In held f → stays c m (executed_mark n f) ≡ true
      unfolding executed_stays named
      condition-stays f l u = stays-executed c m f l ∙ some_of n (λ g. has (set_of c condition g) f) e h u

      own-clause : lessened (stays c m) (new_mark c m) (alone (included_mark n e)) ≡ clauses_by t n 0 (2 * n) (inter (only e) (included_kept c m))
      unfolding lessened clauses_by clause_by
      own-clause =
          sym (listed-own (clause_by t n 0 (2 * n)) n e (included_kept c m) h
          ∙ rw (included-kept e h, has-empty e)
          (cases (has (included_kept c m) e) (λ u. rw (u, table_stays c m fit.few (included_mark n e) 0 (included-kept e h ∙ u))) (λ u. rw u)))

      condition-clauses : packed (lessened (stays c m) (new_mark c m)) (flat n (listed (λ f. guarded (included_mark n f) (executed_mark n f) ∷ []) held))
          ≡ clauses_by t n (included_kept c m) n held
      unfolding clauses_by packed
      condition-clauses =
          packed-flat-parts (lessened (stays c m) (new_mark c m)) n (listed (λ f. guarded (included_mark n f) (executed_mark n f) ∷ []) held)
          ∙ flat-same n _ (listed (clause_by t n (included_kept c m) n) held)
          (λ f l. cases (has held f) (λ u. rw u (clause-kept n f true l (condition-stays f l u))) (λ u. rw u))

      milestone-clauses : packed (lessened (stays c m) (new_mark c m)) (flat n (listed (λ f. guarded (included_mark n f) (answered_mark n f) ∷ []) asked))
          ≡ clauses_by t n (included_kept c m) (3 * n) (inter asked (answered_kept c m))
      unfolding clauses_by packed
      milestone-clauses =
          packed-flat-parts (lessened (stays c m) (new_mark c m)) n (listed (λ f. guarded (included_mark n f) (answered_mark n f) ∷ []) asked)
          ∙ flat-same n _ (listed (clause_by t n (included_kept c m) (3 * n)) (inter asked (answered_kept c m)))
          (λ f l. rw (has-inter asked (answered_kept c m) f)
          (cases (has asked f) (λ u. rw u (clause-kept (3 * n) f (has (answered_kept c m) f) l (answered-kept f l))) (λ u. rw u)))

      pub text-runs : smaller_text c m e ≡ texts_of c m e
      unfolding smaller_text smaller_clauses clauses_for packed texts_by text_by
      text-runs =
          rw (
            own-clause,
            packed-append (lessened (stays c m) (new_mark c m)) (flat n (listed (λ f. guarded (included_mark n f) (executed_mark n f) ∷ []) held)),
            condition-clauses,
            milestone-clauses,
          )

      -- ---- sizes

      pub size-at : get_or (sizes_of c m) e 0 ≡ length (smaller_text c m e)
      size-at =
          let l : length (each n (λ k. length (texts_of c m k))) ≡ n = length-each n (λ k. length (texts_of c m k)) in
          get_or-append (each n (λ k. length (texts_of c m k))) (replicate (max_events - n) 0) 0 e (omega arith)
          ∙ get_or-each n (λ k. length (texts_of c m k)) e 0 h
          ∙ rw text-runs

      pub text-left : text_left (sizes_of c m) e ≡ has_text c m e
      unfolding has_text
      text-left = rw size-at

    module _ (e : ℕ) (h : e < n) where
      pub condition-runs : condition_by (sizes_of c m) e ≡ new_condition c m e
      unfolding new_condition
      condition-runs = tally-same e (text_left (sizes_of c m)) (has_text c m) (λ k l. text-left k (omega arith))

      pub stage-runs : packed (reduced c m) (stage_rules e) ≡ stage_by (sizes_of c m) e
      unfolding packed reduced restated stage_by
      stage-runs =
          rw (stays-stage c m e h, new-stage c m e h, text-left e h, condition-runs)
          (cases (has_text c m e) (λ u. rw u) (λ u. rw u))

      words-before : length (flat e (smaller_text c m)) ≡ total e (λ k. get_or (sizes_of c m) k 0)
      words-before =
          length-flat e (smaller_text c m)
          ∙ total-same e (λ k. length (smaller_text c m k)) (λ k. get_or (sizes_of c m) k 0) (λ k l. sym (size-at k (omega arith)))

      pub record-runs : smaller_condition c m e ≡ record_by (sizes_of c m) e
      unfolding smaller_condition record_by
      record-runs = rw (text-left e h, size-at e h, words-before)

    -- ---- the book

    pub rules-runs : smaller_rules c m ≡ flat n (completions_of c m) ++ flat n (stage_by (sizes_of c m))
    unfolding smaller_rules derived_rules
    rules-runs =
        packed-append (reduced c m) (flat n (event_rules c)) (flat n stage_rules)
        ∙ rw (packed-flat-parts (reduced c m) n (event_rules c), packed-flat-parts (reduced c m) n stage_rules)
        (ap₂ (λ (k l : List Rule). k ++ l)
        (flat-same n (λ e. packed (reduced c m) (event_rules c e)) (completions_of c m) completion-runs)
        (flat-same n (λ e. packed (reduced c m) (stage_rules e)) (stage_by (sizes_of c m)) stage-runs))

    pub records-runs : flat n (smaller_condition c m) ≡ flat n (record_by (sizes_of c m))
    records-runs = flat-same n (smaller_condition c m) (record_by (sizes_of c m)) record-runs

    pub words_runs : flat n (smaller_text c m) ≡ flat n (texts_of c m)
    words_runs = flat-same n (smaller_text c m) (texts_of c m) text-runs

    pub image-runs : image_of (smaller_book c m)
        ≡ header_bytes n (smaller_marks c m) (length (smaller_rules c m)) (length (flat n (smaller_condition c m))) (length (flat n (smaller_text c m)))
        ++ (packed rule_bytes (flat n (completions_of c m))
        ++ (packed rule_bytes (flat n (stage_by (sizes_of c m))) ++ (packed condition_bytes (flat n (record_by (sizes_of c m))) ++ packed bytes16 (flat n (texts_of c m)))))
    unfolding image_of smaller_book
    image-runs =
        rw (
          ← append_assoc (packed rule_bytes (flat n (completions_of c m))) (packed rule_bytes (flat n (stage_by (sizes_of c m)))),
          ← packed-append rule_bytes (flat n (completions_of c m)) (flat n (stage_by (sizes_of c m))),
          ← rules-runs,
          ← records-runs,
          ← words_runs,
        )
