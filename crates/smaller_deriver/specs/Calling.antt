-- What deriving a smaller book gives back, and what it leaves in the room. Assumes nothing.
use Rattle.std.specs.Prelude.{ℕ, ◌*◌, ◌≤◌, ◌≡◌, Bool, true, cond, List, ◌++◌, leb, get_or, drop, replicate}
use Rattle.std.proofs.Math.Path.{sym, ap}
use Rattle.std.proofs.Common.{◌∙◌, arith}
use Rattle.std.proofs.Math.Bool.{false}
use Rattle.std.proofs.Math.ListN.{length, length-append}
use Rattle.paper.specs.Limits.{max_marks, max_rules, max_conditions, max_words, no_mark, unfit, book_room}
use Rattle.paper.specs.Answers.{answer, granted, refusal}
use Rattle.paper.specs.declared.Answer.{Answer}
use Rattle.flat_chart.specs.Chart.{Fit}
use Rattle.graph.specs.Fitness.{fit}
use Rattle.graph.specs.Fitness.{fit-both}
use Rattle.flat_chart.specs.Flat.{FlatChart}
use Rattle.graph.specs.Flat.{Marking}
use Rattle.book.specs.ImageOf.{image_of}
use Rattle.smaller.specs.Staying.{mark_table, smaller_marks}
use Rattle.smaller.specs.Kept.{executed_kept, included_kept, answered_kept}
use Rattle.smaller.specs.Written.{completions_of, sizes_of}
use Rattle.smaller.specs.Keeping.{Keeping}
use Rattle.smaller.proofs.Written.{image-runs, rules-runs, records-runs, words_runs, size-at}
use Rattle.smaller.specs.Runs.{stage_by}
use Rattle.smaller.specs.Numbering.{marks-fewer}
use Rattle.smaller.proofs.Formed.{smaller-formed, image-most}
use Rattle.derived.specs.Parts.{completions-in, texts-in}
use Rattle.general.specs.Lists.{flat, total, total-same, length-flat}
use Rattle.general.specs.Cases.{cases}
use Rattle.smaller.specs.Smaller.{smaller_text, smaller_rules, smaller_condition, smaller_book}
use Rattle.smaller_deriver.specs.declared.Smaller.{Smaller}
use Rattle.smaller_deriver.specs.Marks.{marks_by, table_by, marks-are, table_is}
use Rattle.smaller_deriver.specs.Book.{Whole, whole_runs, whole_answer, whole_room, rules_run, records_run, words_run, book_runs}

abbrev pub no_table : List ℕ
no_table = replicate max_marks no_mark

-- "65,535 .. throughout on a refusal"
abbrev pub refusing_smaller : Answer → Smaller
refusing_smaller a = record { answer = a; table = no_table }

module _ (c : FlatChart) (m : Marking) where
  abbrev pub smaller_image : List ℕ
  smaller_image = image_of (smaller_book c m)

  -- "Refusals: 14 and 15 as for the deriver": 14 for an unfit chart or marking, 15 with the bytes needed
  unfoldable pub deriving_smaller : ℕ → Smaller
  deriving_smaller room =
      cond (fit c m)
      (cond (leb (length smaller_image) room)
      (record { answer = granted; table = mark_table c m })
      (refusing_smaller (answer book_room (length smaller_image) 0)))
      (refusing_smaller (refusal unfit))

  -- "A refusal writes no byte of lent room." "Room past what is written stays as it was."
  unfoldable pub smaller_room : List ℕ → List ℕ
  smaller_room room = cond (fit c m) (cond (leb (length smaller_image) (length room)) (smaller_image ++ drop (length smaller_image) room) room) room

-- ---- each return, as the code meets it

-- what is to be kept
abbrev keeping_for : FlatChart → Marking → Keeping
keeping_for c m = record { n = c.count; executed = executed_kept c m; included = included_kept c m; answered = answered_kept c m; table = mark_table c m }

module _ (c : FlatChart) (m : Marking) (room : List ℕ) (b : Bool) (p : b ≡ fit c m) where
  pub smaller-unfit : b ≡ false → {a : Answer} {r : Smaller} → a ≡ refusal unfit → r ≡ refusing_smaller a → (r ≡ deriving_smaller c m (length room)) × (room ≡ smaller_room c m room)
  unfolding deriving_smaller smaller_room
  smaller-unfit t q s = let z : fit c m ≡ false = sym p ∙ t in (s ∙ rw (q, z), rw z)

  module _ (t : b ≡ true) where
    ok : fit c m ≡ true
    ok = sym p ∙ t

    pub chart-fit : Fit c
    chart-fit = (fit-both c m ok).0

    abbrev kept : Keeping
    kept = keeping_for c m

    rules-so : rules_run kept (sizes_of c m) c ≡ length (smaller_rules c m)
    unfolding rules_run
    rules-so = sym (ap length (rules-runs c m chart-fit) ∙ length-append (flat c.count (completions_of c m)) (flat c.count (stage_by (sizes_of c m))))

    records-so : records_run kept (sizes_of c m) c ≡ length (flat c.count (smaller_condition c m))
    unfolding records_run
    records-so = sym (ap length (records-runs c m chart-fit))

    words-so : words_run kept (sizes_of c m) c ≡ length (flat c.count (smaller_text c m))
    unfolding words_run
    words-so = sym (ap length (words_runs c m chart-fit))

    within : (length (smaller_rules c m) ≤ max_rules) × (length (flat c.count (smaller_condition c m)) ≤ max_conditions) × (length (flat c.count (smaller_text c m)) ≤ max_words)
    unfolding smaller_book
    within = let f = smaller-formed c m chart-fit in (f.rules, f.conditions, f.words)

    sized : total c.count (λ e. get_or (sizes_of c m) e 0) ≡ length (flat c.count (smaller_text c m))
    sized = total-same c.count (λ e. get_or (sizes_of c m) e 0) (λ e. length (smaller_text c m e)) (size-at c m chart-fit) ∙ sym (length-flat c.count (smaller_text c m))

    -- what the code keeps, and how many marks
    module _ {E I A M : ℕ} {T : List ℕ} (p_e : E ≡ executed_kept c m) (p_i : I ≡ included_kept c m) (p_a : A ≡ answered_kept c m) (p_t : (T ≡ table_by c.count E I A) × (M ≡ marks_by
        c.count E I A)) where
      abbrev made : Keeping
      made = record { n = c.count; executed = E; included = I; answered = A; table = T }

      tabled : T ≡ mark_table c m
      tabled = p_t.0 ∙ rw (p_e, p_i, p_a) (table_is c m chart-fit.few)

      marked : M ≡ smaller_marks c m
      marked = p_t.1 ∙ rw (p_e, p_i, p_a) (marks-are c m chart-fit.few)

      pub image-is : whole_runs made M c ≡ smaller_image c m
      unfolding whole_runs book_runs
      image-is = rw (tabled, marked, p_e, p_i, p_a, rules-so, records-so, words-so) (sym (image-runs c m chart-fit))

      pub whole : Whole made M c
      whole =
          record {
            few = chart-fit.few;
            marks = let a : smaller_marks c m ≤ 4 * c.count = marks-fewer c m in let f = chart-fit.few in rw marked (omega arith);
            rules = rw (tabled, p_e, p_i, p_a, rules-so) within.0;
            records = rw (tabled, p_e, p_i, p_a, records-so) within.1;
            completions = completions-in c chart-fit;
            texts = texts-in c chart-fit;
            words = rw (tabled, p_i, p_a, sized) within.2;
            most = rw image-is (image-most c m chart-fit);
          }

      module _ {a : Answer} {after : List ℕ} (w : (a ≡ whole_answer made M c (length room)) × (after ≡ whole_room made M c room)) where
        abbrev fits : Bool
        fits = leb (length (smaller_image c m)) (length room)

        answered : a ≡ cond fits granted (answer book_room (length (smaller_image c m)) 0)
        answered = w.0 ∙ rw image-is

        left : after ≡ smaller_room c m room
        unfolding smaller_room
        left = w.1 ∙ rw (image-is, ok)

        pub smaller-narrow : (a.code ≡ 0 → ⊥) → {r : Smaller} → r ≡ refusing_smaller a → (r ≡ deriving_smaller c m (length room)) × (after ≡ smaller_room c m room)
        unfolding deriving_smaller
        smaller-narrow n q = (
          q ∙ cases fits (λ f. absurd (n (ap (λ (x : Answer). x.code) answered ∙ rw f))) (λ f. rw (answered, ok, f)),
          left,
        )

        pub smaller-granted : a.code ≡ 0 → {r : Smaller} → r ≡ record { answer = a; table = T } → (r ≡ deriving_smaller c m (length room)) × (after ≡ smaller_room c m room)
        unfolding deriving_smaller
        smaller-granted z q = (
          q ∙ cases fits (λ f. rw (answered, ok, f, tabled)) (λ f. let y : a.code ≡ book_room = ap (λ (x : Answer). x.code) answered ∙ rw f in absurd (omega arith)),
          left,
        )
