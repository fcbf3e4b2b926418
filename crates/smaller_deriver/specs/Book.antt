-- The smaller book as the runs that the code makes, counted or written, and each return as the code meets it. Assumes nothing.
use Rattle.std.specs.Prelude.{ℕ, ◌+◌, ◌-◌, ◌*◌, ◌/◌, ◌≤◌, ◌<◌, ◌≡◌, false, cond, List, ◌++◌, get_or, drop, replicate}
use Rattle.std.proofs.Math.Path.{refl}
use Rattle.std.proofs.Common.{◌∙◌}
use Rattle.std.proofs.Math.Bool.{true}
use native.Mathlib.Omega.{arith}
use Rattle.std.proofs.Math.Dec.{leb}
use Rattle.std.proofs.Math.ListN.{length, length-append}
use borrow.Author.Tests.{le-leb, lt-leb}
use Rattle.paper.specs.Limits.{max_events, max_marks, max_rules, max_conditions, max_words, rule_size, condition_size, word_size, book_room}
use Rattle.paper.specs.Answers.{answer, granted}
use Rattle.paper.specs.declared.Answer.{Answer}
use Rattle.wire.specs.Wire.{bytes16, bytes32}
use Rattle.wire.specs.Laws.{length-bytes16}
use Rattle.general.specs.Lists.{flat, each, total, packed, length-packed}
use Rattle.general.specs.Writing.{Wrote, then, wrote-length, wrote-whole, Ran, ran_then, ran-holds}
use Rattle.book.specs.ImageOf.{header_bytes, rule_bytes, length-rule, condition_bytes, length-condition}
use Rattle.derived.specs.Parts.{CompletionsIn, TextsIn}
use Rattle.flat_chart.specs.Flat.{FlatChart}
use Rattle.smaller.specs.Runs.{max_book, Under, stage_by, record_by}
use Rattle.smaller.specs.Keeping.{Keeping, completions_kept, texts_kept}

-- by what is kept, the texts' sizes z, and the chart
module _ (k : Keeping) (z : List ℕ) (c : FlatChart) where
  abbrev completion_run : List ℕ
  completion_run = packed rule_bytes (flat k.n (completions_kept k c))

  abbrev stage_run : List ℕ
  stage_run = packed rule_bytes (flat k.n (stage_by z))

  abbrev record_run : List ℕ
  record_run = packed condition_bytes (flat k.n (record_by z))

  abbrev text_run : List ℕ
  text_run = packed bytes16 (flat k.n (texts_kept k c))

  -- what stands behind the header
  unfoldable pub book_runs : List ℕ
  book_runs = completion_run ++ (stage_run ++ (record_run ++ text_run))

  -- how many rules, condition records and words
  unfoldable pub rules_run : ℕ
  rules_run = length (flat k.n (completions_kept k c)) + length (flat k.n (stage_by z))

  unfoldable pub records_run : ℕ
  records_run = length (flat k.n (record_by z))

  unfoldable pub words_run : ℕ
  words_run = length (flat k.n (texts_kept k c))

  pub record Ready (at : ℕ) : Type 0 where
    pub few : k.n ≤ max_events
    pub completions : CompletionsIn k.n c.includes c.excludes c.responses
    pub texts : TextsIn k.n c.conditions c.milestones
    pub words : total k.n (λ e. get_or z e 0) ≤ max_words
    pub under : Under at book_runs

  -- where the rules, the records and the words end
  pub record Laid (at rules records end : ℕ) : Type 0 where
    pub first : rules ≡ at + rule_size * rules_run
    pub second : records ≡ rules + condition_size * records_run
    pub third : end ≡ records + word_size * words_run

-- ---- run behind run

module _ {k : Keeping} {z : List ℕ} {c : FlatChart} {at : ℕ} (ok : Ready k z c at) (room : List ℕ) where
  abbrev completion_part : List ℕ
  completion_part = completion_run k z c

  abbrev stage_part : List ℕ
  stage_part = stage_run k z c

  abbrev record_part : List ℕ
  record_part = record_run k z c

  abbrev text_part : List ℕ
  text_part = text_run k z c

  whole : at + (length completion_part + (length stage_part + (length record_part + length text_part))) ≤ max_book
  unfolding book_runs
  whole =
      let a : length (completion_part ++ (stage_part ++ (record_part ++ text_part))) ≡ length completion_part + length (stage_part ++ (record_part ++ text_part)) = length-append
      completion_part _ in
      let b : length (stage_part ++ (record_part ++ text_part)) ≡ length stage_part + length (record_part ++ text_part) = length-append stage_part _ in
      let d : length (record_part ++ text_part) ≡ length record_part + length text_part = length-append record_part text_part in
      let u = ok.under in
      omega arith

  pub under-1 : Under at completion_part
  under-1 = let w = whole in omega arith

  module _ {p₁ : ℕ} {r₁ : List ℕ} (w₁ : Ran room at completion_part p₁ r₁) where
    pub under-2 : Under p₁ stage_part
    under-2 = let w = whole in let q = w₁.place in omega arith

    module _ {p₂ : ℕ} {r₂ : List ℕ} (w₂ : Ran r₁ p₁ stage_part p₂ r₂) where
      pub under-3 : Under p₂ record_part
      under-3 = let w = whole in let q = w₁.place in let u = w₂.place in omega arith

      module _ {p₃ : ℕ} {r₃ : List ℕ} (w₃ : Ran r₂ p₂ record_part p₃ r₃) where
        pub under-4 : Under p₃ text_part
        under-4 = let w = whole in let q = w₁.place in let u = w₂.place in let v = w₃.place in omega arith

        module _ {p₄ : ℕ} {r₄ : List ℕ} (w₄ : Ran r₃ p₃ text_part p₄ r₄) where
          pub parts-ran : Laid k z c at p₂ p₃ p₄ × Ran room at (book_runs k z c) p₄ r₄
          unfolding book_runs rules_run records_run words_run
          parts-ran =
              let a : length completion_part ≡ rule_size * length (flat k.n (completions_kept k c)) = length-packed rule_bytes rule_size length-rule _ in
              let b : length stage_part ≡ rule_size * length (flat k.n (stage_by z)) = length-packed rule_bytes rule_size length-rule _ in
              let d : length record_part ≡ condition_size * length (flat k.n (record_by z)) = length-packed condition_bytes condition_size length-condition _ in
              let e : length text_part ≡ word_size * length (flat k.n (texts_kept k c)) = length-packed bytes16 word_size length-bytes16 _ in
              let q = w₁.place in let u = w₂.place in let v = w₃.place in let x = w₄.place in
              (record { first = omega arith; second = omega arith; third = omega arith }, ran_then w₁ (ran_then w₂ (ran_then w₃ w₄)))

-- ---- the whole book, by the sizes that the texts have

abbrev pub sizes_by : Keeping → FlatChart → List ℕ
sizes_by k c = each k.n (λ e. length (texts_kept k c e)) ++ replicate (max_events - k.n) 0

module _ (k : Keeping) (M : ℕ) (c : FlatChart) where
  abbrev z : List ℕ
  z = sizes_by k c

  abbrev R : ℕ
  R = rules_run k z c

  abbrev Q : ℕ
  Q = records_run k z c

  abbrev W : ℕ
  W = words_run k z c

  abbrev behind : List ℕ
  behind = book_runs k z c

  abbrev header : List ℕ
  header = header_bytes k.n M R Q W

  unfoldable pub whole_runs : List ℕ
  whole_runs = header ++ behind

  pub record Whole : Type 0 where
    pub few : k.n ≤ max_events
    pub marks : M ≤ max_marks
    pub rules : R ≤ max_rules
    pub records : Q ≤ max_conditions
    pub completions : CompletionsIn k.n c.includes c.excludes c.responses
    pub texts : TextsIn k.n c.conditions c.milestones
    pub words : total k.n (λ e. get_or z e 0) ≤ max_words
    pub most : length whole_runs ≤ max_book

  header-long : length header ≡ 32
  unfolding header_bytes packed bytes32 bytes16
  header-long = refl

  abbrev pub whole_answer : ℕ → Answer
  whole_answer room = cond (leb (length whole_runs) room) granted (answer book_room (length whole_runs) 0)

  abbrev pub whole_room : List ℕ → List ℕ
  whole_room room = cond (leb (length whole_runs) (length room)) (whole_runs ++ drop (length whole_runs) room) room

  module _ (ok : Whole) where
    long : length whole_runs ≡ 32 + length behind
    unfolding whole_runs
    long = length-append header behind ∙ rw header-long

    pub sizes-under : Under 0 (packed bytes16 (flat k.n (texts_kept k c)))
    unfolding book_runs
    sizes-under =
        let l = long in
        let m = ok.most in
        let a = length-append (completion_run k z c) (stage_run k z c ++ (record_run k z c ++ text_run k z c)) in
        let b = length-append (stage_run k z c) (record_run k z c ++ text_run k z c) in
        let d = length-append (record_run k z c) (text_run k z c) in
        omega arith

    module _ (s : List ℕ) (p : s ≡ z) where
      pub ready : Ready k s c 32
      ready =
          let l = long in
          let m = ok.most in
          rw p (record { few = ok.few; completions = ok.completions; texts = ok.texts; words = ok.words; under = omega arith })

      module _ {a b d : ℕ} (laid : Laid k s c 32 a b d) {none after : List ℕ} (ran : Ran none 32 (book_runs k s c) d after) where
        laid_so : Laid k z c 32 a b d
        laid_so = rw p at laid

        end-so : d ≡ length whole_runs
        end-so = let l = long in let q : d ≡ 32 + length behind = (rw p at ran).place in omega arith

        pub places-rise : (32 ≤ a) × (a ≤ b) × (b ≤ d) × (d ≤ max_book)
        places-rise = let l = laid_so in let e = end-so in let m = ok.most in (omega arith, omega arith, omega arith, omega arith)

        pub rules-so : (a - 32) / 10 ≡ R
        rules-so = let l = laid_so.first in omega arith

        pub records-so : (b - a) / 8 ≡ Q
        records-so = let l = laid_so.second in omega arith

        pub words-so : (d - b) / 2 ≡ W
        words-so = let l = laid_so.third in omega arith

        module _ (room : List ℕ) where
          pub smaller-short : length room < d → {r : Answer} → r ≡ answer book_room d 0 → (r ≡ whole_answer (length room)) × (room ≡ whole_room room)
          smaller-short h {r} q =
              let e = end-so in
              let y : leb (length whole_runs) (length room) ≡ false = lt-leb (length whole_runs) (length room) (omega arith) in
              (q ∙ rw (y, e), rw y)

          module _ (h : d ≤ length room) where
            pub smaller-done : {h₁ d₂ : ℕ} {r₁ r₂ : List ℕ} → Wrote room 0 (header_bytes k.n M ((a - 32) / 10) ((b - a) / 8) ((d - b) / 2)) h₁ r₁
                → Ran r₁ 32 (book_runs k s c) d₂ r₂ → {r : Answer} → r ≡ granted → (r ≡ whole_answer (length room)) × (r₂ ≡ whole_room room)
            unfolding whole_runs
            smaller-done {h₁} {d₂} {r₁} {r₂} w v {r} q =
                let e = end-so in
                let l = long in
                let w' : Wrote room 0 header h₁ r₁ = rw (rules-so, records-so, words-so) at w in
                let f : h₁ ≡ 32 = w'.place ∙ rw header-long in
                let i : length r₁ ≡ length room = wrote-length w' in
                let v' : Wrote r₁ h₁ behind d₂ r₂ = rw f (ran-holds (rw p at v) (omega arith)) in
                let y : leb (length whole_runs) (length room) ≡ true = le-leb (length whole_runs) (length room) (omega arith) in
                (q ∙ rw y, rw y (wrote-whole (then w' v') (omega arith)))
