-- Whether a rule refers to a mark of a set, by its trigger and by the text of its condition. Assumes nothing.
use Rattle.std.specs.Prelude.{◌≡◌, refl, Bool, true, false, ◌&&◌, ◌||◌, List, ℕ, ◌≤◌, ◌<◌, eqb, ltb, leb, Option, Some, None}
use Rattle.std.proofs.Common.{sym, ◌∙◌, arith}
use borrow.Author.Tests.{eqb-true, eqb-false, eq-eqb, ltb-true, ltb-false, le-leb, lt-leb}
use Rattle.paper.specs.Limits.{max_marks}
use Rattle.general.specs.Cases.{cases, contra, either, or_right}
use Rattle.general.specs.Below.{some, some_of, some-none}
use Rattle.book.specs.Text.{elem}
use Rattle.book.specs.Book.{Book, rule_of, text_of}
use Rattle.book.specs.Image.{rules_in, conditions_in, rule_place, trigger_from, sense_from, rule_from, book_of, kind_at, sense_at, number_at, condition_at}
use Rattle.book.specs.Read.{rule-read}
use Rattle.book.specs.WellFormed.{WellFormed}
use Rattle.book.specs.Marks.{has_mark}
use Rattle.book.specs.Firing.{awaits, reads, refers}

-- ---- whether a rule refers to a mark of a set, which is a row of words

unfoldable pub touches : Book → ℕ → List ℕ → Bool
touches b r marks = some max_marks (λ m. refers b r m && has_mark marks m)

-- whether a text names a mark
unfoldable pub names : List ℕ → ℕ → Bool
names words m = elem m words

-- m is a mark of the set and one of those asked for, or no mark where the set has none of them
pub record Witness (asked : ℕ → Bool) (marks : List ℕ) (m : ℕ) : Type 0 where
  pub one : m < max_marks → (asked m ≡ true) × (has_mark marks m ≡ true)
  pub none : max_marks ≤ m → (x : ℕ) → x < max_marks → asked x ≡ true → has_mark marks x ≡ false

-- the same of an option: a mark of the set, or none
abbrev pub Witnessed : (ℕ → Bool) → List ℕ → Option ℕ → Type 0
Witnessed asked marks None = Witness asked marks max_marks
Witnessed asked marks (Some m) = (m < max_marks) × Witness asked marks m

-- where none is asked for
witness-none : (asked : ℕ → Bool) (marks : List ℕ) → ((x : ℕ) → asked x ≡ false) → Witness asked marks max_marks
witness-none asked marks f = record { one = λ l. absurd (omega arith); none = λ l x k e. contra e (f x) }

-- where those asked for are asked for in other words
witness-same : (asked other : ℕ → Bool) (marks : List ℕ) (m : ℕ) → ((x : ℕ) → other x ≡ asked x) → Witness asked marks m → Witness other marks m
witness-same asked other marks m f w =
    record { one = λ l. let (a, b) = w.one l in (f m ∙ a, b); none = λ l x k e. w.none l x k (sym (f x) ∙ e) }

module _ (b : Book) (r : ℕ) (marks : List ℕ) where
  pub witness-touches : (m : ℕ) → Witness (refers b r) marks m → touches b r marks ≡ ltb m max_marks
  unfolding touches
  witness-touches m w =
      cases (ltb m max_marks)
      (λ x. let (e, k) = w.one (ltb-true m max_marks x) in rw x (some_of max_marks (λ m. refers b r m && has_mark marks m) m (ltb-true m max_marks x) (rw (e, k))))
      (λ x. rw x (some-none max_marks (λ m. refers b r m && has_mark marks m)
      (λ y k. cases (refers b r y) (λ e. rw (e, w.none (ltb-false m max_marks x) y k e)) (λ e. rw e))))

  -- the trigger's mark, else one that the condition names
  pub refers-first : (m : ℕ) → Witness (awaits (rule_of b r).trigger) marks m → m < max_marks → Witness (refers b r) marks m
  unfolding refers
  refers-first m w l =
      record { one = λ k. let (e, i) = w.one k in (rw e, i); none = λ k. absurd (omega arith) }

  pub refers-then : (m n : ℕ) → Witness (awaits (rule_of b r).trigger) marks m → max_marks ≤ m → Witness (reads (text_of b) (rule_of b r).sense) marks n → Witness (refers b r) marks n
  unfolding refers
  refers-then m n w l v =
      record {
        one = λ k. let (e, i) = v.one k in (or_right (awaits (rule_of b r).trigger n) (reads (text_of b) (rule_of b r).sense n) e, i);
        none = λ k x j e. either (awaits (rule_of b r).trigger x) (reads (text_of b) (rule_of b r).sense x) e (λ i. w.none l x j i) (λ i. v.none k x j i);
      }

  -- the same of options
  pub referred-first : (m : ℕ) → Witnessed (awaits (rule_of b r).trigger) marks (Some m) → Witnessed (refers b r) marks (Some m)
  referred-first m w = (w.0, refers-first m w.1 w.0)

  pub referred-then : (o : Option ℕ) → Witnessed (awaits (rule_of b r).trigger) marks None → Witnessed (reads (text_of b) (rule_of b r).sense) marks o → Witnessed (refers b r) marks o
  referred-then None w v = refers-then max_marks max_marks w (omega arith) v
  referred-then (Some n) w v = (v.0, refers-then max_marks n w (omega arith) v.1)

-- ---- by the bytes of the rule's record

module _ (s : List ℕ) (r : ℕ) (g : WellFormed s) (h : r < rules_in s) where
  -- trigger kinds 2 and 3 name a mark, and senses 1 and 2 a condition
  pub awaited-in : (m : ℕ) → 2 ≤ kind_at s (rule_place r) → m ≡ number_at s (rule_place r) → m < max_marks
  awaited-in m l e = let i = (g.rules r h).become l in let j = g.headed.counted.marks in omega arith

  pub asked_in : (c : ℕ) → 1 ≤ sense_at s (rule_place r) → c ≡ condition_at s (rule_place r) → c < conditions_in s
  asked_in c l e = rw e ((g.rules r h).condition l)

-- ---- each mark that a rule refers to, by the bytes and the texts

module _ (s : List ℕ) (r m : ℕ) (h : r < rules_in s) where
  awaits-byte : awaits (rule_of (book_of s) r).trigger m ≡ (leb 2 (kind_at s (rule_place r)) && eqb m (number_at s (rule_place r)))
  unfolding rule_from trigger_from awaits
  awaits-byte =
      rw (rule-read s r h)
      (cases (eqb (kind_at s (rule_place r)) 0) (λ x. rw (x, lt-leb 2 (kind_at s (rule_place r)) (omega (arith, eqb-true (kind_at s (rule_place r)) 0 x))))
      (λ x. cases (eqb (kind_at s (rule_place r)) 1) (λ y. rw (x, y, lt-leb 2 (kind_at s (rule_place r)) (omega (arith, eqb-true (kind_at s (rule_place r)) 1 y))))
      (λ y. rw (x, y, le-leb 2 (kind_at s (rule_place r)) (omega (arith, eqb-false (kind_at s (rule_place r)) 0 x, eqb-false (kind_at s (rule_place r)) 1 y)))
      (cases (eqb (kind_at s (rule_place r)) 2) (λ z. rw z) (λ z. rw z)))))

  reads_byte : reads (text_of (book_of s)) (rule_of (book_of s) r).sense m ≡ (leb 1 (sense_at s (rule_place r)) && elem m (text_of (book_of s) (condition_at s (rule_place r))))
  unfolding rule_from sense_from reads
  reads_byte =
      rw (rule-read s r h)
      (cases (eqb (sense_at s (rule_place r)) 0) (λ x. rw (x, lt-leb 1 (sense_at s (rule_place r)) (omega (arith, eqb-true (sense_at s (rule_place r)) 0 x))))
      (λ x. rw (x, le-leb 1 (sense_at s (rule_place r)) (omega (arith, eqb-false (sense_at s (rule_place r)) 0 x)))
      (cases (eqb (sense_at s (rule_place r)) 1) (λ z. rw z) (λ z. rw z))))

  -- the trigger's mark, if kind 2 or 3, and the marks of the condition's text, if sense 1 or 2
  pub refers-bytes : refers (book_of s) r m
      ≡ ((leb 2 (kind_at s (rule_place r)) && eqb m (number_at s (rule_place r))) || (leb 1 (sense_at s (rule_place r)) && elem m (text_of (book_of s) (condition_at s (rule_place r)))))
  unfolding refers
  refers-bytes = rw (awaits-byte, reads_byte)

-- ---- a mark that a rule refers to, by the same bytes

module _ (s marks : List ℕ) (r : ℕ) (g : WellFormed s) (h : r < rules_in s) where
  -- trigger kinds 0 and 1 wait for no mark
  pub awaits-none : kind_at s (rule_place r) < 2 → Witness (awaits (rule_of (book_of s) r).trigger) marks max_marks
  awaits-none l = witness-none (awaits (rule_of (book_of s) r).trigger) marks (λ x. rw (awaits-byte s r x h, lt-leb 2 (kind_at s (rule_place r)) l))

  module _ (m : ℕ) (b : Bool) (l : 2 ≤ kind_at s (rule_place r)) (e : m ≡ number_at s (rule_place r)) (q : b ≡ has_mark marks m) where
    named : (x : ℕ) → awaits (rule_of (book_of s) r).trigger x ≡ eqb x m
    named x = rw (awaits-byte s r x h, le-leb 2 (kind_at s (rule_place r)) l, e)

    -- kinds 2 and 3 wait for the mark that they name
    pub awaits-mark : b ≡ true → Witness (awaits (rule_of (book_of s) r).trigger) marks m
    awaits-mark t =
        record { one = λ k. (named m ∙ eq-eqb m m refl, sym q ∙ t); none = λ k. absurd (omega (arith, awaited-in s r g h m l e)) }

    pub awaits-other : b ≡ false → Witness (awaits (rule_of (book_of s) r).trigger) marks max_marks
    awaits-other t =
        record { one = λ k. absurd (omega arith); none = λ k x j i. rw (eqb-true x m (sym (named x) ∙ i)) (sym q ∙ t) }

  -- sense 0 asks no condition
  pub reads_none : sense_at s (rule_place r) < 1 → Witness (reads (text_of (book_of s)) (rule_of (book_of s) r).sense) marks max_marks
  reads_none l = witness-none (reads (text_of (book_of s)) (rule_of (book_of s) r).sense) marks (λ x. rw (reads_byte s r x h, lt-leb 1 (sense_at s (rule_place r)) l))

  -- senses 1 and 2 ask the condition that they name
  pub reads-text : (c m : ℕ) → 1 ≤ sense_at s (rule_place r) → c ≡ condition_at s (rule_place r) → Witness (names (text_of (book_of s) c)) marks m
      → Witness (reads (text_of (book_of s)) (rule_of (book_of s) r).sense) marks m
  unfolding names
  reads-text c m l e w =
      witness-same (names (text_of (book_of s) c)) (reads (text_of (book_of s)) (rule_of (book_of s) r).sense) marks m
      (λ x. rw (reads_byte s r x h, le-leb 1 (sense_at s (rule_place r)) l, e)) w

  pub text-read : (c : ℕ) (o : Option ℕ) → 1 ≤ sense_at s (rule_place r) → c ≡ condition_at s (rule_place r) → Witnessed (names (text_of (book_of s) c)) marks o
      → Witnessed (reads (text_of (book_of s)) (rule_of (book_of s) r).sense) marks o
  text-read c None l e w = reads-text c max_marks l e w
  text-read c (Some m) l e w = (w.0, reads-text c m l e w.1)
