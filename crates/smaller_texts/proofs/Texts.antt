-- What each function here counts or writes, in the form in which the code meets it. Assumes nothing.
use Prim.Native.Nat.{ℕ, zero, suc, ◌+◌, ◌-◌, ◌*◌, ◌/◌, ◌≤◌, ◌<◌}
use mathlib.Core.Path.{◌≡◌, refl, sym, ap, ◌∙◌}
use mathlib.Core.Bool.{Bool, true, false, not, cond}
use mathlib.Core.List.{List, [], ◌∷◌, ◌++◌, append_assoc, append-nil}
use native.Mathlib.Nat.{add-zero}
use native.Mathlib.Omega.{arith}
use lib.ListN.{length, get_or, set, replicate, length-append}
use lib.Seq.{set_at}
use lib.Dec.{eqb}
use borrow.Author.Tests.{eqb-true, eq-eqb, ne_eqb}
use Rattle.paper.specs.Limits.{max_events, max_words, condition_size, word_size, not_word, or_word, and_word}
use Rattle.general.specs.Cases.{cases, both, lt-suc}
use Rattle.general.specs.Below.{tally}
use Rattle.general.specs.Lists.{total, total-step, flat, flat_step, each, length-each, packed, packed-append, packed-one, length-packed}
use Rattle.general.specs.Writing.{Fits, Wrote, then, fits-first, fits-then, Left, left-whole, left-fits, left_less, left-none, Ran, ran-none, ran-wrote, ran-short, ran_then}
use Rattle.sets.specs.Set.{has, inter, minus, only, size, lowest, within}
use Rattle.sets.specs.Laws.{has-inter, has-only, within-lt, lt-within}
use Rattle.wire.specs.Wire.{put16, bytes16}
use Rattle.wire.specs.Laws.{length-bytes16}
use Rattle.book.specs.Book.{Condition}
use Rattle.book.specs.ImageOf.{condition_bytes, length-condition}
use Rattle.derived.specs.Derived.{listed}
use Rattle.derived.specs.Parts.{TextsIn, condition_made}
use Rattle.derived.specs.Members.{size-within, listed-none, low-lt, low-within, low-falls, low_first}
use Rattle.derived.specs.RuleBytes.{word-wrote}
use Rattle.derived.specs.WritingLoops.{packed-part}
use Rattle.smaller.specs.Clauses.{Clause, alone, guarded, words_of, joiner, spoken_from}
use Rattle.flat_chart.specs.Flat.{FlatChart, Row}
use Rattle.flat_chart.specs.Chart.{row_of}
use Rattle.smaller.specs.Runs.{max_book, Under, clause_by, clauses_by, text_by, texts_by, record_by}
use Rattle.smaller.specs.Keeping.{Keeping, text_kept, texts_kept}

-- ---- a run that stays below the most bytes of a book, and its parts

under_first : (at : ℕ) (a b : List ℕ) → Under at (a ++ b) → Under at a
under_first at a b u = let n : length (a ++ b) ≡ length a + length b = length-append a b in omega arith

under-then : {room a after : List ℕ} {at next : ℕ} → Ran room at a next after → (b : List ℕ) → Under at (a ++ b) → Under next b
under-then {room} {a} {after} {at} {next} w b u =
    let n : length (a ++ b) ≡ length a + length b = length-append a b in
    let p : next ≡ at + length a = w.place in
    omega arith

-- ---- a word, and the four of a guarded mark

pub word-put : {room after : List ℕ} (at w : ℕ) → after ≡ put16 room at w → Wrote room at (bytes16 w) (at + 2) after
word-put at w p = word-wrote at (at + 2) w refl p

pub guarded-put : {room r₁ r₂ r₃ r₄ : List ℕ} (at g m : ℕ) → r₁ ≡ put16 room at g → r₂ ≡ put16 r₁ (at + 2) not_word
    → r₃ ≡ put16 r₂ (at + 4) m → r₄ ≡ put16 r₃ (at + 6) or_word → Wrote room at (packed bytes16 (words_of (guarded g m))) (at + 8) r₄
unfolding words_of packed
guarded-put at g m p q r s =
    then (word-wrote at (at + 2) g refl p)
    (then (word-wrote (at + 2) (at + 4) not_word (omega arith) q)
    (then (word-wrote (at + 4) (at + 6) m (omega arith) r) (rw append-nil (word-wrote (at + 6) (at + 8) or_word (omega arith) s))))

-- ---- the words of a clause without its "and"

abbrev clause_of : Bool → ℕ → ℕ → Clause
clause_of kept guard mark = cond kept (guarded guard mark) (alone mark)

two_bytes : (l : List ℕ) → length (packed bytes16 l) ≡ 2 * length l
two_bytes l = length-packed bytes16 word_size length-bytes16 l

module _ (room : List ℕ) (at : ℕ) (kept : Bool) (guard mark : ℕ) where
  abbrev whole : List ℕ
  whole = packed bytes16 (words_of (clause_of kept guard mark))

  module _ (k : kept ≡ true) where
    pub guarded-fits : Fits room at whole → at + 4 * word_size ≤ length room
    unfolding words_of
    guarded-fits h =
        let f : Fits room at (packed bytes16 (words_of (guarded guard mark))) = rw k at h in
        let l : length (packed bytes16 (words_of (guarded guard mark))) ≡ 2 * 4 = two_bytes (words_of (guarded guard mark)) in
        omega arith

  module _ (k : kept ≡ false) where
    one_word : whole ≡ bytes16 mark
    unfolding words_of
    one_word = rw k (packed-one bytes16 mark)

    pub alone-fits : Fits room at whole → at + word_size ≤ length room
    alone-fits h =
        let f : Fits room at (bytes16 mark) = rw one_word at h in
        let l : length (bytes16 mark) ≡ 2 = length-bytes16 mark in
        omega arith

    pub alone-wrote : {next : ℕ} {after : List ℕ} → Wrote room at (bytes16 mark) next after → Wrote room at whole next after
    alone-wrote w = rw one_word w

-- ---- a clause, with "and" behind it if it is not the first of its text

module _ (room : List ℕ) (start at : ℕ) (words : List ℕ) where
  abbrev joined : List ℕ
  joined = packed bytes16 (words ++ joiner (eqb at start))

  pub clause-fits : Fits room at joined → Fits room at (packed bytes16 words)
  clause-fits h = fits-first room at (packed bytes16 words) _ (rw (packed-append bytes16 words (joiner (eqb at start))) at h)

  module _ (next : ℕ) (after : List ℕ) (w : Wrote room at (packed bytes16 words) next after) where
    module _ (no : at ≡ start → ⊥) where
      later : joined ≡ packed bytes16 words ++ bytes16 and_word
      later = rw (ne_eqb at start no) (packed-append bytes16 words (and_word ∷ []) ∙ rw (packed-one bytes16 and_word))

      pub and-fits : Fits room at joined → next + word_size ≤ length after
      and-fits h =
          let f : Fits after next (bytes16 and_word) = fits-then w _ (rw later at h) in
          let l : length (bytes16 and_word) ≡ 2 = length-bytes16 and_word in
          omega arith

      pub clause-later : {last : ℕ} {end : List ℕ} → Wrote after next (bytes16 and_word) last end → Wrote room at joined last end
      clause-later v = rw later (then w v)

-- every clause has a word
words-some : (x : Clause) (l : List ℕ) → 1 ≤ length (words_of x ++ l)
unfolding words_of
words-some (alone k) l = omega arith
words-some (guarded i k) l = omega arith

some_bytes : (x : Clause) (l : List ℕ) → 2 ≤ length (packed bytes16 (words_of x ++ l))
some_bytes x l =
    let a : length (packed bytes16 (words_of x ++ l)) ≡ 2 * length (words_of x ++ l) = two_bytes (words_of x ++ l) in
    let b : 1 ≤ length (words_of x ++ l) = words-some x l in
    omega arith

-- ---- sets within n

inter-within : (n a b : ℕ) → within n a ≡ true → within n (inter a b) ≡ true
inter-within n a b h = lt-within n (inter a b) (λ f i. within-lt n a f h (both (has a f) (has b f) (sym (has-inter a b f) ∙ i)).0)

pub own-within : (n e i : ℕ) {o s : ℕ} → o ≡ only e → s ≡ inter o i → e < n → within n s ≡ true
own-within n e i {o} p q h =
    rw q (inter-within n o i (rw p (lt-within n (only e) (λ f m. let q : e ≡ f = eqb-true e f (sym (has-only e f) ∙ m) in omega arith))))

pub part-within : (n a b : ℕ) {s : ℕ} → s ≡ inter a b → within n a ≡ true → within n s ≡ true
part-within n a b q h = rw q (inter-within n a b h)

-- ---- how many words a run of clauses has

spoken-later : (k l : List Clause) → spoken_from false (k ++ l) ≡ spoken_from false k ++ spoken_from false l
unfolding spoken_from
spoken-later [] l = refl
spoken-later (x ∷ k) l = rw (spoken-later k l) (simp append_assoc)

-- the first clause of a text has a word less
less-first : (b : Bool) (l : List Clause) → length (spoken_from b l) ≡ length (spoken_from false l) - cond b 1 0
unfolding spoken_from
less-first b [] = cases b (λ t. rw t) (λ t. rw t)
less-first b (x ∷ l) =
    let a : length (words_of x ++ (and_word ∷ spoken_from false l)) ≡ length (words_of x) + suc (length (spoken_from false l)) = length-append (words_of x)
    (and_word ∷ spoken_from false l) in
    let d : length (words_of x ++ spoken_from false l) ≡ length (words_of x) + length (spoken_from false l) = length-append (words_of x) (spoken_from false l) in
    cases b (λ t. rw t (omega arith)) (λ t. rw t (omega arith))

module _ (t : List ℕ) (n guards base among : ℕ) where
  -- the clause of the number k, with its "and"
  one-length : (k : ℕ) → length (spoken_from false (listed (clause_by t n guards base) among k)) ≡ 2 * cond (has among k) 1 0 + 3 * cond (has (inter among guards) k) 1 0
  unfolding spoken_from clause_by words_of
  one-length k =
      rw (has-inter among guards k) (cases (has among k) (λ a. cases (has guards k) (λ g. rw (a, g)) (λ g. rw (a, g))) (λ a. rw a))

  clauses-length : (k : ℕ) → length (spoken_from false (flat k (listed (clause_by t n guards base) among))) ≡ 2 * tally k (has among) + 3 * tally k (has (inter among guards))
  unfolding flat tally spoken_from
  clauses-length zero = refl
  clauses-length (suc k) =
      let i : length (spoken_from false (flat k (listed (clause_by t n guards base) among))) ≡ 2 * tally k (has among) + 3 * tally k (has
      (inter among guards)) = clauses-length k in
      let o : length (spoken_from false (listed (clause_by t n guards base) among k)) ≡ 2 * cond (has among k) 1 0 + 3 * cond (has (inter among guards) k) 1 0 = one-length k in
      rw (spoken-later (flat k (listed (clause_by t n guards base) among)) (listed (clause_by t n guards base) among k))
      (length-append (spoken_from false (flat k (listed (clause_by t n guards base) among))) _ ∙ omega arith)

  module _ (in-n : within n among ≡ true) (start at r : ℕ) (e : r ≡ 2 * size among + 3 * size (inter among guards) - cond (eqb at start) 1 0) where
    run-bytes : length (packed bytes16 (spoken_from (eqb at start) (clauses_by t n guards base among))) ≡ 2 * r
    unfolding clauses_by
    run-bytes =
        two_bytes (spoken_from (eqb at start) (clauses_by t n guards base among))
        ∙ ap (λ (v : ℕ). 2 * v) (less-first (eqb at start) (clauses_by t n guards base among)
        ∙ rw (e, size-within n among in-n, size-within n (inter among guards) (inter-within n among guards in-n), clauses-length n))

    pub run_end : Under at (packed bytes16 (spoken_from (eqb at start) (clauses_by t n guards base among))) → at + 2 * r ≤ max_book
    run_end u = let l : length (packed bytes16 (spoken_from (eqb at start) (clauses_by t n guards base among))) ≡ 2 * r = run-bytes in omega arith

    pub run_short : (room : List ℕ) (end : ℕ) → end ≡ at + 2 * r → length room < end
        → Ran room at (packed bytes16 (spoken_from (eqb at start) (clauses_by t n guards base among))) end room
    run_short room end p h = ran-short (p ∙ rw (← run-bytes)) h

    pub run_fits : (room : List ℕ) (end : ℕ) → end ≡ at + 2 * r → end ≤ length room
        → Fits room at (packed bytes16 (spoken_from (eqb at start) (clauses_by t n guards base among)))
    run_fits room end p h = let l : length (packed bytes16 (spoken_from (eqb at start) (clauses_by t n guards base among))) ≡ 2 * r = run-bytes in omega arith

-- ---- the loop over the members of a set: what is left to write are the clauses of the rest

singles : {A : Type 0} (l : List A) → packed (λ (x : A). x ∷ []) l ≡ l
unfolding packed
singles [] = refl
singles {A} (x ∷ l) = ap (λ (r : List A). x ∷ r) (singles l)

abbrev said : List ℕ → ℕ → ℕ → ℕ → ℕ → ℕ → ℕ → List ℕ
said t n guards base start next s = packed bytes16 (spoken_from (eqb next start) (clauses_by t n guards base s))

pub record Turn (t : List ℕ) (n guards base among start : ℕ) (room₀ : List ℕ) (at s next : ℕ) (room : List ℕ) : Type 0 where
  pub few : n ≤ max_events
  pub inside : within n s ≡ true
  pub behind : start ≤ next
  pub fits : Fits room₀ at (said t n guards base start at among)
  pub left : Left room₀ at (said t n guards base start at among) room next (said t n guards base start next s)

module _ {t : List ℕ} {n guards base among start : ℕ} {room₀ : List ℕ} {at : ℕ} where
  pub turn-start : n ≤ max_events → within n among ≡ true → start ≤ at → Fits room₀ at (said t n guards base start at among) → Turn t n guards base among start room₀ at among at room₀
  turn-start l h b f = record { few = l; inside = h; behind = b; fits = f; left = left-whole room₀ at (said t n guards base start at among) }

  module _ {s next : ℕ} {room : List ℕ} (inv : Turn t n guards base among start room₀ at s next room) where
    pub turn-done : s ≡ 0 → Ran room₀ at (said t n guards base start at among) next room
    unfolding packed clauses_by spoken_from
    turn-done z = ran-wrote (left-none inv.left (rw (z, listed-none (clause_by t n guards base) n)))

    module _ {m : ℕ} (some : s ≡ 0 → ⊥) (low : m ≡ lowest max_events s) where
      pub turn-lt : m < n
      turn-lt = low-lt n s m inv.few inv.inside some low

      pub turn-falls : {o s' : ℕ} → o ≡ only m → s' ≡ minus s o → s' < s
      turn-falls q r = rw (r, q) (low-falls n s m inv.few inv.inside some low)

      module _ (kept : Bool) (guard mark : ℕ) (k : kept ≡ has guards m) (g : guard ≡ get_or t (2 * n + m) 0) (b : mark ≡ get_or t (base + m) 0) where
        abbrev x : Clause
        x = clause_of kept guard mark

        abbrev words : List ℕ
        words = packed bytes16 (words_of x ++ joiner (eqb next start))

        lowest-clause : clauses_by t n guards base s ≡ x ∷ clauses_by t n guards base (minus s (only m))
        unfolding clauses_by clause_by packed
        lowest-clause =
            sym (singles (flat n (listed (clause_by t n guards base) s)))
            ∙ low_first n s m inv.few inv.inside some low (λ (y : Clause). y ∷ []) (clause_by t n guards base)
            ∙ rw (singles (flat n (listed (clause_by t n guards base) (minus s (only m)))), k, g, b)

        split : said t n guards base start next s ≡ words ++ packed bytes16 (spoken_from false (clauses_by t n guards base (minus s (only m))))
        unfolding spoken_from
        split =
            rw lowest-clause
            (ap (packed bytes16) (sym (append_assoc (words_of x) (joiner (eqb next start)) (spoken_from false (clauses_by t n guards base (minus s (only m))))))
            ∙ packed-append bytes16 (words_of x ++ joiner (eqb next start)) (spoken_from false (clauses_by t n guards base (minus s (only m)))))

        pub turn-fits : Fits room next words
        turn-fits = left-fits inv.left words _ split inv.fits

        pub turn_more : {o s' next' : ℕ} {room' : List ℕ} → o ≡ only m → s' ≡ minus s o → Wrote room next words next' room'
            → Turn t n guards base among start room₀ at s' next' room'
        turn_more {o} {s'} {next'} {room'} q r w =
            let p : next' ≡ next + length words = w.place in
            let a : 2 ≤ length words = some_bytes x (joiner (eqb next start)) in
            let d : start ≤ next = inv.behind in
            let far : start < next' = omega arith in
            rw (r, q) (record {
              few = inv.few;
              inside = low-within n s m inv.few inv.inside some low;
              behind = omega arith;
              fits = inv.fits;
              left = rw (ne_eqb next' start (λ e. omega arith)) (left_less inv.left split w);
            })

-- ---- a text: three runs of clauses, where the first clause of all stands without its "and"

abbrev said_from : ℕ → ℕ → List Clause → List ℕ
said_from start at l = packed bytes16 (spoken_from (eqb at start) l)

-- a run of clauses, and the run behind it
seam : (start at next : ℕ) (k l : List Clause) → start ≤ at → next ≡ at + length (said_from start at k)
    → said_from start at (k ++ l) ≡ said_from start at k ++ said_from start next l
unfolding spoken_from packed
seam start at next [] l b p = let q : next ≡ at = p ∙ rw add-zero in rw q
seam start at next (x ∷ k) l b p =
    let q : 2 ≤ length (said_from start at (x ∷ k)) = some_bytes x (joiner (eqb at start) ++ spoken_from false k) in
    let f : eqb next start ≡ false = ne_eqb next start (λ e. omega arith) in
    let g : words_of x ++ (joiner (eqb at start) ++ (spoken_from false k ++ spoken_from false l)) ≡ (words_of x ++ (joiner
    (eqb at start) ++ spoken_from false k)) ++ spoken_from false l =
    simp append_assoc in
    rw (f, spoken-later k l, g) (packed-append bytes16 (words_of x ++ (joiner (eqb at start) ++ spoken_from false k)) (spoken_from false l))

-- e itself, the milestones whose answered marks stay, and the empty set, as the code makes them
module _ (t : List ℕ) (n I A e c m : ℕ) {o s a z : ℕ} (q : o ≡ only e) (p : s ≡ inter o I) (k : a ≡ inter m A) (none : z ≡ 0) (room : List ℕ) (at : ℕ) where
  abbrev own : List Clause
  own = clauses_by t n z (2 * n) s

  abbrev held : List Clause
  held = clauses_by t n I n c

  abbrev answers : List Clause
  answers = clauses_by t n I (3 * n) a

  text-said : packed bytes16 (text_by t n I A e c m) ≡ said_from at at (own ++ (held ++ answers))
  unfolding text_by
  text-said = rw (p, q, k, none, eq-eqb at at refl)

  module _ (u : Under at (packed bytes16 (text_by t n I A e c m))) where
    text-under : Under at (said_from at at (own ++ (held ++ answers)))
    text-under = rw text-said at u

    pub text-under-1 : Under at (said_from at at own)
    text-under-1 = under_first at (said_from at at own) _ (rw (seam at at _ own (held ++ answers) (omega arith) refl) at text-under)

    module _ {p₁ : ℕ} {r₁ : List ℕ} (w₁ : Ran room at (said_from at at own) p₁ r₁) where
      text-behind-2 : at ≤ p₁
      text-behind-2 = let p : p₁ ≡ at + length (said_from at at own) = w₁.place in omega arith

      own-then : said_from at at (own ++ (held ++ answers)) ≡ said_from at at own ++ said_from at p₁ (held ++ answers)
      own-then = seam at at p₁ own (held ++ answers) (omega arith) w₁.place

      rest_under : Under p₁ (said_from at p₁ (held ++ answers))
      rest_under = under-then w₁ _ (rw own-then at text-under)

      pub text-under-2 : Under p₁ (said_from at p₁ held)
      text-under-2 = under_first p₁ (said_from at p₁ held) _ (rw (seam at p₁ _ held answers text-behind-2 refl) at rest_under)

      module _ {p₂ : ℕ} {r₂ : List ℕ} (w₂ : Ran r₁ p₁ (said_from at p₁ held) p₂ r₂) where
        text-behind-3 : at ≤ p₂
        text-behind-3 = let p : p₂ ≡ p₁ + length (said_from at p₁ held) = w₂.place in let b : at ≤ p₁ = text-behind-2 in omega arith

        held_then : said_from at p₁ (held ++ answers) ≡ said_from at p₁ held ++ said_from at p₂ answers
        held_then = seam at p₁ p₂ held answers text-behind-2 w₂.place

        pub text-under-3 : Under p₂ (said_from at p₂ answers)
        text-under-3 = under-then w₂ _ (rw held_then at rest_under)

        pub text-ran : {p₃ : ℕ} {r₃ : List ℕ} → Ran r₂ p₂ (said_from at p₂ answers) p₃ r₃ → Ran room at (packed bytes16 (text_by t n I A e c m)) p₃ r₃
        text-ran w₃ = rw (text-said, own-then, held_then) (ran_then w₁ (ran_then w₂ w₃))

-- by the row of e in a chart

module _ (c : FlatChart) (e : ℕ) {r : Row} (p : r ≡ row_of c e) where
  pub row-within : {n : ℕ} → TextsIn n c.conditions c.milestones → e < n → (within n r.conditions ≡ true) × (within n r.milestones ≡ true)
  row-within k h = rw p (k.conditions e h, k.milestones e h)

  module _ (k : Keeping) where
    row_same : texts_kept k c e ≡ text_kept k e r
    unfolding texts_by
    row_same = rw p

    pub row-under : (at : ℕ) → Under at (packed bytes16 (texts_kept k c e)) → Under at (packed bytes16 (text_kept k e r))
    row-under at u = rw row_same at u

    pub row-ran : {room after : List ℕ} {at next : ℕ} → Ran room at (packed bytes16 (text_kept k e r)) next after
        → Ran room at (packed bytes16 (texts_kept k c e)) next after
    row-ran w = rw row_same w

-- ---- the sizes of the texts

-- a run from the start of a room counts two bytes for a word
pub words-counted : {room after : List ℕ} {next : ℕ} (l : List ℕ) → Ran room 0 (packed bytes16 l) next after → next / word_size ≡ length l
words-counted {next} l w =
    let a : length (packed bytes16 l) ≡ 2 * length l = two_bytes l in
    let p : next ≡ 0 + length (packed bytes16 l) = w.place in
    omega arith

pub part-under : (g : ℕ → List ℕ) (n k : ℕ) → k < n → Under 0 (packed bytes16 (flat n g)) → Under 0 (packed bytes16 (g k))
part-under g n k h u =
    let d : length (packed bytes16 (flat k g)) + length (packed bytes16 (g k)) ≤ length (packed bytes16 (flat n g)) = packed-part bytes16 g n k h in
    omega arith

module _ (g : ℕ → ℕ) where
  -- the sizes of those before k, and zeros
  abbrev pub sizes_to : ℕ → List ℕ
  sizes_to k = each k g ++ replicate (max_events - k) 0

  pub sizes-start : replicate max_events 0 ≡ sizes_to 0
  unfolding flat
  sizes-start = refl

  pub sizes-more : (k v : ℕ) (l : List ℕ) → k < max_events → l ≡ sizes_to k → v ≡ g k → set l k v ≡ sizes_to (k + 1)
  sizes-more k v l h p q =
      let r : max_events - k ≡ suc (max_events - (k + 1)) = omega arith in
      rw (p, q, r)
      (set_at (each k g) 0 (replicate (max_events - (k + 1)) 0) (g k) k (length-each k g)
      ∙ rw (flat_step k (λ e. g e ∷ [])) (sym (append_assoc (each k g) (g k ∷ []) (replicate (max_events - (k + 1)) 0))))

-- ---- condition records

abbrev record_of : ℕ → ℕ → List Condition
record_of start count = cond (not (eqb count 0)) (condition_made start count ∷ []) []

module _ (room : List ℕ) (at start count : ℕ) where
  pub record-none : count ≡ 0 → Ran room at (packed condition_bytes (record_of start count)) at room
  unfolding packed
  record-none z = rw (eq-eqb count 0 z) (ran-none room at)

  module _ (some : count ≡ 0 → ⊥) where
    one-record : record_of start count ≡ condition_made start count ∷ []
    one-record = rw (ne_eqb count 0 some)

    record-long : length (packed condition_bytes (condition_made start count ∷ [])) ≡ condition_size
    record-long = length-packed condition_bytes condition_size length-condition (condition_made start count ∷ [])

    pub record-ran : {next : ℕ} {after : List ℕ} → Wrote room at (packed condition_bytes (condition_made start count ∷ [])) next after
        → Ran room at (packed condition_bytes (record_of start count)) (at + condition_size) after
    record-ran w = rw one-record (ran-wrote (record { place = rw record-long; holds = w.holds }))

    pub record-short : length room < at + condition_size → Ran room at (packed condition_bytes (record_of start count)) (at + condition_size) room
    record-short h = rw one-record (ran-short (rw record-long) h)

-- what stands before e, and e's own, lie in the whole
total-part : (n e : ℕ) (g : ℕ → ℕ) → e < n → total e g + g e ≤ total n g
unfolding total
total-part zero e g h = absurd (omega arith)
total-part (suc n) e g h = lt-suc h (λ q. rw q (omega arith)) (λ l. let i : total e g + g e ≤ total n g = total-part n e g l in omega arith)

module _ (z : List ℕ) (n e start : ℕ) (h : e < n) (q : start ≡ total e (λ k. get_or z k 0)) where
  pub starts-small : total n (λ k. get_or z k 0) ≤ max_words → start + get_or z e 0 ≤ max_words
  starts-small l = let i : total e (λ k. get_or z k 0) + get_or z e 0 ≤ total n (λ k. get_or z k 0) = total-part n e (λ k. get_or z k 0) h in omega arith

  pub starts_more : start + get_or z e 0 ≡ total (e + 1) (λ k. get_or z k 0)
  starts_more = rw q (sym (total-step e (λ k. get_or z k 0)))

  record-by : record_by z e ≡ record_of start (get_or z e 0)
  unfolding record_by
  record-by = rw q

  pub record-under : (at : ℕ) → Under at (packed condition_bytes (record_by z e)) → Under at (packed condition_bytes (record_of start (get_or z e 0)))
  record-under at u = rw record-by at u

  pub record-by-ran : {room after : List ℕ} {at next : ℕ} → Ran room at (packed condition_bytes (record_of start (get_or z e 0))) next after
      → Ran room at (packed condition_bytes (record_by z e)) next after
  record-by-ran w = rw record-by w
