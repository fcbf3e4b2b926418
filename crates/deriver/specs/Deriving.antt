-- What deriving gives back, and what it leaves in the room. Assumes nothing.
use Rattle.std.specs.Prelude.{ℕ, ◌+◌, ◌*◌, ◌≤◌, ◌<◌, ◌≡◌, Bool, not, cond, List, ◌++◌, length, drop}
use Rattle.std.proofs.Math.Path.{sym}
use Rattle.std.proofs.Common.{◌∙◌, append_assoc, append-nil}
use Rattle.std.proofs.Math.Bool.{true, false}
use native.Mathlib.Omega.{arith}
use Rattle.std.proofs.Math.Dec.{leb}
use borrow.Author.Tests.{le-leb, lt-leb, not-true, not-false}
use Rattle.paper.specs.Limits.{max_events, max_rules, unfit, book_room}
use Rattle.paper.specs.Answers.{answer, granted, refusal}
use Rattle.paper.specs.declared.Answer.{Answer}
use Rattle.wire.specs.Wire.{bytes16, bytes32, put32}
use Rattle.flat_chart.specs.Flat.{FlatChart}
use Rattle.flat_chart.specs.Chart.{Fit}
use Rattle.flat_chart.specs.Tests.{fit_chart}
use Rattle.flat_chart.specs.Fitness.{tested-fit}
use Rattle.general.specs.Lists.{flat, packed, packed-append}
use Rattle.book.specs.Image.{condition_place, word_place}
use Rattle.book.specs.ImageOf.{image_of, image-length, header_bytes, rule_bytes, condition_bytes}
use Rattle.derived.specs.Derived.{stage_rules, event_rules, derived_rules, derived_text, derived_condition, derived_book}
use Rattle.derived.specs.Sizes.{completions_size, texts_size, rules_needed, words_needed, rules-length, conditions-length, rules-most}
use Rattle.derived.proofs.Sizes.{words-length}
use Rattle.derived.specs.Parts.{completion_at, CompletionsIn, completions-in, text_at, TextsIn, texts-in, condition_part}
use Rattle.general.specs.Writing.{Fits, Wrote, then, fits-first, fits-then, wrote-whole}
use Rattle.derived.specs.RuleBytes.{number-wrote}

abbrev pub derived_image : FlatChart → List ℕ
derived_image c = image_of (derived_book c)

-- "14: unfit flat chart"; "15: room for the book too short, bytes needed"
unfoldable pub deriving_answer : FlatChart → ℕ → Answer
deriving_answer c room = cond (fit_chart c) (cond (leb (length (derived_image c)) room) granted (answer book_room (length (derived_image c)) 0)) (refusal unfit)

-- "A refusal writes no byte of lent room." "Room past what is written stays as it was."
unfoldable pub derived_room : FlatChart → List ℕ → List ℕ
derived_room c room = cond (fit_chart c) (cond (leb (length (derived_image c)) (length room)) (derived_image c ++ drop (length (derived_image c)) room) room) room

-- ---- the image as the runs that the code writes

module _ (n R W : ℕ) (t r m i x : List ℕ) where
  abbrev head : List ℕ
  head = header_bytes n (4 * n) R n W

  abbrev completion_run : List ℕ
  completion_run = packed rule_bytes (flat n (completion_at n i x r))

  abbrev stage_run : List ℕ
  stage_run = packed rule_bytes (flat n stage_rules)

  abbrev condition_run : List ℕ
  condition_run = packed condition_bytes (flat n (condition_part n t m))

  abbrev word_run : List ℕ
  word_run = packed bytes16 (flat n (text_at n t m))

  -- for n events, R rules and W words, and the tables of conditions, responses, milestones, includes and excludes
  unfoldable pub book_runs : List ℕ
  book_runs = head ++ (completion_run ++ (stage_run ++ (condition_run ++ word_run)))

  module _ (room : List ℕ) where
    pub record BookReady : Type 0 where
      pub few : n ≤ max_events
      pub rules : R ≤ max_rules
      pub completions : CompletionsIn n i x r
      pub texts : TextsIn n t m
      pub fits : Fits room 0 book_runs

    module _ (ok : BookReady) where
      whole : Fits room 0 (head ++ (completion_run ++ (stage_run ++ (condition_run ++ word_run))))
      unfolding book_runs
      whole = ok.fits

      pub book-fits-1 : 32 ≤ length room
      unfolding header_bytes packed bytes32 bytes16
      book-fits-1 = let h : Fits room 0 head = fits-first room 0 head (completion_run ++ (stage_run ++ (condition_run ++ word_run))) whole in omega arith

      module _ (p₁ : ℕ) (r₁ : List ℕ) (w₁ : Wrote room 0 head p₁ r₁) where
        pub book-fits-2 : Fits r₁ p₁ completion_run
        book-fits-2 = fits-first r₁ p₁ completion_run _ (fits-then w₁ _ whole)

        module _ (p₂ : ℕ) (r₂ : List ℕ) (w₂ : Wrote r₁ p₁ completion_run p₂ r₂) where
          pub book-fits-3 : Fits r₂ p₂ stage_run
          book-fits-3 = fits-first r₂ p₂ stage_run _ (fits-then w₂ _ (fits-then w₁ _ whole))

          module _ (p₃ : ℕ) (r₃ : List ℕ) (w₃ : Wrote r₂ p₂ stage_run p₃ r₃) where
            pub book-fits-4 : Fits r₃ p₃ condition_run
            book-fits-4 = fits-first r₃ p₃ condition_run _ (fits-then w₃ _ (fits-then w₂ _ (fits-then w₁ _ whole)))

            module _ (p₄ : ℕ) (r₄ : List ℕ) (w₄ : Wrote r₃ p₃ condition_run p₄ r₄) where
              pub book-fits-5 : Fits r₄ p₄ word_run
              book-fits-5 = fits-then w₄ _ (fits-then w₃ _ (fits-then w₂ _ (fits-then w₁ _ whole)))

              pub book-wrote : (p₅ : ℕ) (r₅ : List ℕ) → Wrote r₄ p₄ word_run p₅ r₅ → Wrote room 0 book_runs p₅ r₅
              unfolding book_runs
              book-wrote p₅ r₅ w₅ = then w₁ (then w₂ (then w₃ (then w₄ w₅)))

-- the same of a chart's tables
abbrev pub chart_runs : FlatChart → ℕ → ℕ → List ℕ
chart_runs c R W = book_runs c.count R W c.conditions c.responses c.milestones c.includes c.excludes

abbrev pub ChartReady : FlatChart → ℕ → ℕ → List ℕ → Type 0
ChartReady c R W room = BookReady c.count R W c.conditions c.responses c.milestones c.includes c.excludes room

-- "Header, eight 32-bit numbers"
pub header-wrote : {room r₁ r₂ r₃ r₄ r₅ r₆ r₇ r₈ : List ℕ} (S M R Q W : ℕ)
    → r₁ ≡ put32 room 0 S → r₂ ≡ put32 r₁ 4 M → r₃ ≡ put32 r₂ 8 R → r₄ ≡ put32 r₃ 12 Q → r₅ ≡ put32 r₄ 16 W
    → r₆ ≡ put32 r₅ 20 32 → r₇ ≡ put32 r₆ 24 (32 + 10 * R) → r₈ ≡ put32 r₇ 28 (32 + 10 * R + 8 * Q)
    → Wrote room 0 (header_bytes S M R Q W) 32 r₈
unfolding header_bytes packed
header-wrote S M R Q W a b c d e f g h =
    let x : condition_place R 0 ≡ 32 + 10 * R = omega arith in
    let y : word_place R Q 0 ≡ 32 + 10 * R + 8 * Q = omega arith in
    rw (x, y, append-nil) (
    then (number-wrote 0 4 S (omega arith) a)
    (then (number-wrote 4 8 M (omega arith) b)
    (then (number-wrote 8 12 R (omega arith) c)
    (then (number-wrote 12 16 Q (omega arith) d)
    (then (number-wrote 16 20 W (omega arith) e)
    (then (number-wrote 20 24 32 (omega arith) f)
    (then (number-wrote 24 28 (32 + 10 * R) (omega arith) g) (number-wrote 28 32 (32 + 10 * R + 8 * Q) (omega arith) h))))))))

-- ---- each return, as the code meets it

-- the runs of a chart are its image
runs : (c : FlatChart) (R W : ℕ) → header_bytes (derived_book c).stages (derived_book c).marks R c.count W
    ++ (packed rule_bytes (derived_book c).rules ++ (packed condition_bytes (derived_book c).conditions ++ packed bytes16 (derived_book c).words))
    ≡ book_runs c.count R W c.conditions c.responses c.milestones c.includes c.excludes
unfolding book_runs derived_book derived_rules completion_at event_rules text_at derived_text condition_part derived_condition
runs c R W = rw (packed-append rule_bytes (flat c.count (event_rules c)), append_assoc (packed rule_bytes (flat c.count (event_rules c))) (packed rule_bytes (flat c.count stage_rules)))

pub found-fit : (c : FlatChart) (b : Bool) → b ≡ fit_chart c → not b ≡ false → Fit c
found-fit c b p t = tested-fit c (sym p ∙ not-false b t)

-- a fit chart's image, by the sizes that the code computes
module _ (c : FlatChart) (fit : Fit c) (s w : ℕ) (ps : s ≡ completions_size c.count c.includes c.excludes c.responses) (pw : w ≡ texts_size c.count c.conditions c.milestones) where
  pub rules-are : length (derived_book c).rules ≡ s + 2 * c.count
  unfolding rules_needed
  rules-are = rules-length c fit ∙ rw ps

  words_are : length (derived_book c).words ≡ w
  unfolding words_needed
  words_are = words-length c fit ∙ rw pw

  pub bytes-are : length (derived_image c) ≡ 32 + 10 * (s + 2 * c.count) + 8 * c.count + 2 * w
  bytes-are = image-length (derived_book c) ∙ rw (rules-are, words_are, conditions-length c fit)

  pub image-runs : derived_image c ≡ book_runs c.count (s + 2 * c.count) w c.conditions c.responses c.milestones c.includes c.excludes
  unfolding image_of
  image-runs = rw (rules-are, words_are, conditions-length c fit) (runs c (s + 2 * c.count) w)

module _ (c : FlatChart) (room : List ℕ) (b : Bool) (p : b ≡ fit_chart c) where
  pub derive-unfit : not b ≡ true → (a : Answer) → a ≡ refusal unfit → (a ≡ deriving_answer c (length room)) × (room ≡ derived_room c room)
  unfolding deriving_answer derived_room
  derive-unfit t a g = let z : fit_chart c ≡ false = sym p ∙ not-true b t in (rw (g, z), rw z)

  module _ (t : not b ≡ false) (s w : ℕ) (ps : s ≡ completions_size c.count c.includes c.excludes c.responses) (pw : w ≡ texts_size c.count c.conditions c.milestones) where
    fits : fit_chart c ≡ true
    fits = sym p ∙ not-false b t

    abbrev fit : Fit c
    fit = found-fit c b p t

    abbrev need : ℕ
    need = 32 + 10 * (s + 2 * c.count) + 8 * c.count + 2 * w

    abbrev book : List ℕ
    book = book_runs c.count (s + 2 * c.count) w c.conditions c.responses c.milestones c.includes c.excludes

    abbrev bytes : length (derived_image c) ≡ need
    bytes = bytes-are c fit s w ps pw

    pub derive-short : length room < need → (a : Answer) → a ≡ answer book_room need 0 → (a ≡ deriving_answer c (length room)) × (room ≡ derived_room c room)
    unfolding deriving_answer derived_room
    derive-short h a g =
        let z : leb (length (derived_image c)) (length room) ≡ false = rw bytes (lt-leb need (length room) h) in (rw (g, fits, z, bytes), rw (fits, z))

    module _ (l : need ≤ length room) where
      image-fits : Fits room 0 (derived_image c)
      image-fits = rw bytes (omega arith)

      pub derive-ready : BookReady c.count (s + 2 * c.count) w c.conditions c.responses c.milestones c.includes c.excludes room
      derive-ready =
          record {
            few = fit.few;
            rules = rw (rules-are c fit s w ps pw) at (rules-most c fit);
            completions = completions-in c fit;
            texts = texts-in c fit;
            fits = rw (image-runs c fit s w ps pw) at image-fits;
          }

      pub derive-done : (next : ℕ) (after : List ℕ) → Wrote room 0 book next after → (a : Answer) → a ≡ granted → (a ≡ deriving_answer c (length room)) × (after ≡ derived_room c room)
      unfolding deriving_answer derived_room
      derive-done next after v a g =
          let z : leb (length (derived_image c)) (length room) ≡ true = rw bytes (le-leb need (length room) l) in
          let u : Wrote room 0 (derived_image c) next after = rw (image-runs c fit s w ps pw) v in
          (rw (g, fits, z), rw (fits, z) (wrote-whole u image-fits))
