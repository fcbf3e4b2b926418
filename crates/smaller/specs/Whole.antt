-- Request (xi): a chart where nothing is dropped gives the full book's bytes. Assumes nothing.
use Rattle.std.specs.Prelude.{ℕ, zero, suc, ◌+◌, ◌*◌, ◌≤◌, ◌<◌, ◌≡◌, refl, Bool, List, [], ◌∷◌, length}
use Rattle.std.proofs.Math.Path.{sym, ap}
use Rattle.std.proofs.Common.{◌∙◌, arith}
use Rattle.std.proofs.Math.Bool.{true, false}
use borrow.Author.Tests.{ne_eqb}
use Rattle.general.specs.Cases.{cases, lt-suc}
use Rattle.general.specs.Below.{tally, tally-le, tally-all}
use Rattle.general.specs.Lists.{flat, flat-same, All, all_append, all-flat, packed}
use Rattle.sets.specs.Set.{has}
use Rattle.flat_chart.specs.Chart.{condition, response, milestone, include, exclude, set_of}
use Rattle.flat_chart.specs.Flat.{FlatChart}
use Rattle.graph.specs.Flat.{Marking}
use Rattle.book.specs.Book.{Book}
use Rattle.book.specs.Image.{book_of}
use Rattle.book.specs.ImageOf.{image_of, book-of-image}
use Rattle.derived.specs.Derived.{executed_mark, included_mark, answered_mark, on, opens, closes, listed, inclusion, responding, answering, text_for, derived_rules}
use Rattle.derived.specs.Derived.{derived_text, derived_condition, derived_book, Parts, join}
use Rattle.smaller.specs.Staying.{stays, new_mark, smaller_marks}
use Rattle.smaller.specs.Clauses.{alone, guarded, clauses_for, lessened, spoken, text-spoken}
use Rattle.smaller.specs.Smaller.{smaller_clauses, smaller_text, has_text, new_condition, restated, reduced, smaller_rules, smaller_condition, smaller_book}

-- where each element's part is itself alone
packed-self : {A : Type 0} (f : A → List A) (l : List A) → All (λ x. f x ≡ x ∷ []) l → packed f l ≡ l
unfolding packed
packed-self f [] a = refl
packed-self f (x ∷ l) a = rw (a.0, packed-self f l a.1)

-- where all are counted, each passes
tally-full : (k : ℕ) (f : ℕ → Bool) → tally k f ≡ k → (p : ℕ) → p < k → f p ≡ true
unfolding tally
tally-full zero f q p h = absurd (omega arith)
tally-full (suc k) f q p h =
    let l : tally k f ≤ k = tally-le k f in
    cases (f k)
    (λ t. let z : 1 + tally k f ≡ suc k = rw t at q in lt-suc h (λ s. rw s t) (tally-full k f (omega arith) p))
    (λ t. let z : 0 + tally k f ≡ suc k = rw t at q in absurd (omega arith))

module _ (c : FlatChart) (m : Marking) where
  abbrev n : ℕ
  n = c.count

  abbrev pub NothingDropped : Type 0
  NothingDropped = (k : ℕ) → k < 4 * n → stays c m k ≡ true

  module _ (all : NothingDropped) where
    new-same : (k : ℕ) → k < 4 * n → new_mark c m k ≡ k
    unfolding new_mark
    new-same k h = tally-all k (stays c m) (λ p l. all p (omega arith))

    marks-same : smaller_marks c m ≡ 4 * n
    unfolding smaller_marks
    marks-same = tally-all (4 * n) (stays c m) all

    -- ---- the texts

    alone-same : (k : ℕ) → k < 4 * n → lessened (stays c m) (new_mark c m) (alone k) ≡ alone k ∷ []
    unfolding lessened
    alone-same k h = rw (all k h, new-same k h)

    guarded-same : (i k : ℕ) → i < 4 * n → k < 4 * n → lessened (stays c m) (new_mark c m) (guarded i k) ≡ guarded i k ∷ []
    unfolding lessened
    guarded-same i k g h = rw (all k h, all i g, new-same k h, new-same i g)

    module _ (e : ℕ) (h : e < n) where
      run-same : (mark : ℕ → ℕ) (s : ℕ) → ((f : ℕ) → f < n → mark f < 4 * n)
          → All (λ x. lessened (stays c m) (new_mark c m) x ≡ x ∷ []) (flat n (listed (λ f. guarded (included_mark n f) (mark f) ∷ []) s))
      run-same mark s b =
          all-flat (λ x. lessened (stays c m) (new_mark c m) x ≡ x ∷ []) n (listed (λ f. guarded (included_mark n f) (mark f) ∷ []) s)
          (λ f l. cases (has s f) (λ t. rw t (guarded-same (included_mark n f) (mark f) (omega arith) (b f l), tt)) (λ t. rw t tt))

      clauses-same : smaller_clauses c m e ≡ clauses_for n e (set_of c condition e) (set_of c milestone e)
      unfolding smaller_clauses clauses_for
      clauses-same =
          packed-self (lessened (stays c m) (new_mark c m)) _ (
            alone-same (included_mark n e) (omega arith),
            all_append _ (flat n (listed (λ f. guarded (included_mark n f) (executed_mark n f) ∷ []) (set_of c condition e))) _
                (run-same (executed_mark n) (set_of c condition e) (λ f l. omega arith)) (run-same (answered_mark n) (set_of c milestone e) (λ f l. omega arith)),
          )

      text_same : smaller_text c m e ≡ derived_text c e
      unfolding smaller_text derived_text
      text_same = ap spoken clauses-same ∙ text-spoken n e (set_of c condition e) (set_of c milestone e)

      text-kept : has_text c m e ≡ true
      unfolding has_text derived_text text_for
      text-kept = rw (text_same, ne_eqb (length (derived_text c e)) 0 (λ q. omega arith))

    module _ (e : ℕ) (h : e < n) where
      condition-kept : new_condition c m e ≡ e
      unfolding new_condition
      condition-kept = tally-all e (has_text c m) (λ p l. text-kept p (omega arith))

      condition-same : smaller_condition c m e ≡ derived_condition c e ∷ []
      unfolding smaller_condition derived_condition
      condition-same = rw (text-kept e h, text_same e h, flat-same e (smaller_text c m) (derived_text c) (λ k l. text_same k (omega arith)))

      -- ---- the rules

      on_same : (b : Bool) (k : ℕ) → k < 4 * n → reduced c m (on e b k) ≡ on e b k ∷ []
      unfolding reduced restated
      on_same b k l = rw (all k l, new-same k l)

      opens-same : reduced c m (opens e) ≡ opens e ∷ []
      unfolding reduced restated
      opens-same = rw (all e (omega arith), new-same e (omega arith), text-kept e h, condition-kept)

      closes-same : reduced c m (closes e) ≡ closes e ∷ []
      unfolding reduced restated
      closes-same = rw (all e (omega arith), new-same e (omega arith), text-kept e h, condition-kept)

    same_parts : Parts c (λ r. reduced c m r ≡ r ∷ [])
    unfolding inclusion responding answering
    same_parts =
        record {
          inclusions = λ e h f l. cases (has (set_of c include e) f) (λ t. rw t (on_same e h true (included_mark n f) (omega arith), tt))
              (λ t. rw t (cases (has (set_of c exclude e) f) (λ u. rw u (on_same e h false (included_mark n f) (omega arith), tt)) (λ u. rw u tt)));
          responses = λ e h f l. cases (has (set_of c response e) f) (λ t. rw t (on_same e h false (answered_mark n f) (omega arith), tt)) (λ t. rw t tt);
          answers = λ e h. cases (has (set_of c response e) e) (λ t. rw t tt) (λ t. rw t (on_same e h true (answered_mark n e) (omega arith), tt));
          executed = λ e h. on_same e h true (executed_mark n e) (omega arith);
          opened = opens-same;
          closed = closes-same;
        }

    rules-same : smaller_rules c m ≡ derived_rules c
    unfolding smaller_rules
    rules-same = packed-self (reduced c m) (derived_rules c) (join c (λ r. reduced c m r ≡ r ∷ []) same_parts)

    pub nothing-dropped : smaller_book c m ≡ derived_book c
    unfolding smaller_book derived_book
    nothing-dropped =
        rw (
          marks-same,
          rules-same,
          flat-same n (smaller_condition c m) (λ e. derived_condition c e ∷ []) condition-same,
          flat-same n (smaller_text c m) (derived_text c) text_same,
        )

    pub same_bytes : image_of (smaller_book c m) ≡ image_of (derived_book c)
    same_bytes = ap image_of nothing-dropped

  -- and only there
  pub all_stay : image_of (smaller_book c m) ≡ image_of (derived_book c) → NothingDropped
  unfolding smaller_book derived_book smaller_marks
  all_stay q =
      let b : smaller_book c m ≡ derived_book c = sym (book-of-image (smaller_book c m)) ∙ ap book_of q ∙ book-of-image (derived_book c) in
      tally-full (4 * n) (stays c m) (ap (λ (x : Book). x.marks) b)
