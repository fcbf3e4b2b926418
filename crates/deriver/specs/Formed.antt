-- A fit chart's derived image is well-formed, so 20 to 24 are never given for it, and its texts hold at most three values. Assumes nothing.
use Prim.Native.Nat.{ℕ, zero, suc, ◌+◌, ◌*◌, ◌≤◌, ◌<◌}
use Rattle.std.specs.Prelude.{◌≡◌, Bool, ◌&&◌, eqb, leb, take}
use Rattle.std.proofs.Math.Path.{refl}
use Rattle.std.proofs.Common.{sym}
use Rattle.std.proofs.Math.Bool.{true, false}
use mathlib.Core.List.{List, [], ◌∷◌, ◌++◌, append_assoc, append-nil}
use native.Mathlib.Omega.{arith}
use Rattle.std.proofs.Math.ListN.{length}
use borrow.Author.Tests.{ne_eqb, lt-ltb, leb-true, ltb-true}
use Rattle.paper.specs.Limits.{max_events, max_marks, and_word, or_word, not_word, max_words}
use Rattle.paper.specs.Answers.{granted}
use Rattle.general.specs.Cases.{cases, both}
use Rattle.sets.specs.Set.{has}
use Rattle.flat_chart.specs.Chart.{condition, response, milestone, include, exclude, set_of, Fit}
use Rattle.flat_chart.specs.Flat.{FlatChart}
use Rattle.book.specs.Text.{Snap, push, eval}
use Rattle.book.specs.GoodTexts.{GoodText, depth_after, follows, good_from, good, good-text, length_push}
use Rattle.book.specs.Book.{condition_of, no_condition, text_of}
use Rattle.general.specs.Lists.{flat, length-each, get_or-each, flat-part, All, all_append, all-flat, all_map}
use Rattle.book.specs.ImageOf.{trigger_number, condition_number, SmallRule, SmallCondition, WithinLimits, Byte, image-bytes}
use Rattle.book.specs.declared.Rule.{Rule}
use Rattle.book.specs.declared.Trigger.{Trigger}
use Rattle.book.specs.declared.Trigger.TheVariants.{None, Completed, BecomeYes, BecomeNo}
use Rattle.book.specs.declared.Sense.{Sense}
use Rattle.book.specs.declared.Sense.TheVariants.{NoCondition, AsWritten, Negated}
use Rattle.book.specs.Judging.{image_answer}
use Rattle.book.specs.WellFormed.{WellFormed, well-granted}
use Rattle.book.specs.WellRead.{trigger_exists, sense_exists, RuleFormed}
use Rattle.book.specs.Formed.{FormedBook, formed-image}
use Rattle.derived.specs.Derived.{included_mark, executed_mark, answered_mark, listed, clause, on, inclusion, responding, answering, text_for, derived_rules, derived_text, derived_condition}
use Rattle.derived.specs.Derived.{derived_book, derived-text, join}
use Rattle.derived.specs.Sizes.{conditions-length, rules-most}
use Rattle.derived.proofs.Sizes.{words-most}
use Rattle.deriver.specs.Deriving.{derived_image}

-- ---- how deep the stack gets

-- whether the stack, of depth d before the text, never holds more than b values
unfoldable pub deepest : ℕ → List ℕ → ℕ → Bool
deepest b [] d = leb d b
deepest b (w ∷ ws) d = leb d b && deepest b ws (depth_after w d)

pub depth-says : (b : ℕ) (s : Snap) (ws : List ℕ) (st : List Bool) → deepest b ws (length st) ≡ true → (k : ℕ) → length (eval s (take k ws) st) ≤ b
unfolding deepest eval
depth-says b s [] st h zero = leb-true (length st) b h
depth-says b s [] st h (suc k) = leb-true (length st) b h
depth-says b s (w ∷ ws) st h zero = leb-true (length st) b (both (leb (length st) b) _ h).0
depth-says b s (w ∷ ws) st h (suc k) =
    depth-says b s ws (push (s w) w st) (rw (length_push (s w) w st) (both (leb (length st) b) (deepest b ws (depth_after w (length st))) h).1) k

-- ---- a derived text, clause by clause: a stack of one value stays one

module _ (M : ℕ) where
  -- good and within depth 3, from the depth d on
  abbrev fine : List ℕ → ℕ → Bool
  fine ws d = good_from M ws d && deepest 3 ws d

  module _ (few : M ≤ max_marks) where
    plain : (m : ℕ) → m < M → (eqb m and_word ≡ false) × (eqb m or_word ≡ false) × (eqb m not_word ≡ false)
    plain m h = (ne_eqb m and_word (λ e. omega arith), ne_eqb m or_word (λ e. omega arith), ne_eqb m not_word (λ e. omega arith))

    one-clause : (a b : ℕ) (t : List ℕ) → a < M → b < M → fine t 1 ≡ true → fine (a ∷ (not_word ∷ (b ∷ (or_word ∷ (and_word ∷ t))))) 1 ≡ true
    unfolding good_from deepest follows depth_after
    one-clause a b t h k f =
        let p = plain a h in
        let q = plain b k in
        let u = both (good_from M t 1) (deepest 3 t 1) f in
        rw (p.0, p.1, p.2, q.0, q.1, q.2, lt-ltb a M h, lt-ltb b M k, u.0, u.1)

    clauses : (n : ℕ) (mark : ℕ → ℕ) (s k : ℕ) (t : List ℕ) → ((f : ℕ) → f < k → (included_mark n f < M) × (mark f < M)) → fine t 1 ≡ true
        → fine (flat k (listed (clause n mark) s) ++ t) 1 ≡ true
    unfolding flat
    clauses n mark s zero t h f = f
    clauses n mark s (suc k) t h f =
        rw (append_assoc (flat k (listed (clause n mark) s)) (listed (clause n mark) s k) t)
        (clauses n mark s k (listed (clause n mark) s k ++ t) (λ g l. h g (omega arith))
        (cases (has s k) (λ b. let z = h k (omega arith) in rw b (one-clause (included_mark n k) (mark k) t z.0 z.1 f)) (λ b. rw b f)))

-- ---- the book

module _ (c : FlatChart) (fit : Fit c) where
  abbrev n : ℕ
  n = c.count

  few : n ≤ max_events
  few = fit.few

  text-fine : (e : ℕ) → e < n → fine (4 * n) (derived_text c e) 0 ≡ true
  unfolding derived_text text_for good_from deepest follows depth_after
  text-fine e h =
      let m : n ≤ max_events = few in
      let l : 4 * n ≤ max_marks = omega arith in
      let t : included_mark n e < 4 * n = omega arith in
      let p = plain (4 * n) l (included_mark n e) t in
      let y : List ℕ = flat n (listed (clause n (answered_mark n)) (set_of c milestone e)) in
      let x : List ℕ = flat n (listed (clause n (executed_mark n)) (set_of c condition e)) ++ y in
      let a : fine (4 * n) (y ++ []) 1 ≡ true = clauses (4 * n) l n (answered_mark n) (set_of c milestone e) n [] (λ f i. (omega arith, omega arith)) refl in
      let b : fine (4 * n) x 1 ≡ true = clauses (4 * n) l n (executed_mark n) (set_of c condition e) n y (λ f i. (omega arith, omega arith)) (rw append-nil at a) in
      let u = both (good_from (4 * n) x 1) (deepest 3 x 1) b in
      rw (p.0, p.1, p.2, lt-ltb (included_mark n e) (4 * n) t, u.0, u.1)

  -- "texts within depth 3"
  pub text-depth : (e : ℕ) → e < c.count → (s : Snap) (k : ℕ) → length (eval s (take k (derived_text c e)) []) ≤ 3
  text-depth e h s = depth-says 3 s (derived_text c e) [] (both (good_from (4 * n) (derived_text c e) 0) (deepest 3 (derived_text c e) 0) (text-fine e h)).1

  rules-formed : All (RuleFormed n (4 * n) n) (derived_rules c)
  unfolding inclusion responding answering trigger_exists sense_exists
  rules-formed =
      join c (RuleFormed n (4 * n) n)
      (record {
        inclusions = λ e h f i.
            let t : RuleFormed n (4 * n) n (on e true (included_mark n f)) = record { trigger = lt-ltb e n h; sense = refl; target = omega arith } in
            let u : RuleFormed n (4 * n) n (on e false (included_mark n f)) = record { trigger = lt-ltb e n h; sense = refl; target = omega arith } in
            cases (has (set_of c include e) f) (λ x. rw x (t, tt)) (λ x. cases (has (set_of c exclude e) f) (λ y. rw (x, y) (u, tt)) (λ y. rw (x, y) tt));
        responses = λ e h f i.
            let u : RuleFormed n (4 * n) n (on e false (answered_mark n f)) = record { trigger = lt-ltb e n h; sense = refl; target = omega arith } in
            cases (has (set_of c response e) f) (λ x. rw x (u, tt)) (λ x. rw x tt);
        answers = λ e h.
            let t : RuleFormed n (4 * n) n (on e true (answered_mark n e)) = record { trigger = lt-ltb e n h; sense = refl; target = omega arith } in
            cases (has (set_of c response e) e) (λ x. rw x tt) (λ x. rw x (t, tt));
        executed = λ e h. record { trigger = lt-ltb e n h; sense = refl; target = omega arith };
        opened = λ e h. record { trigger = refl; sense = lt-ltb e n h; target = omega arith };
        closed = λ e h. record { trigger = refl; sense = lt-ltb e n h; target = omega arith };
      })

  condition-is : (e : ℕ) → e < n → condition_of (derived_book c) e ≡ derived_condition c e
  unfolding derived_book
  condition-is e h = get_or-each n (derived_condition c) e no_condition h

  module _ (e : ℕ) (h : e < n) where
    text-some : 1 ≤ (condition_of (derived_book c) e).count
    unfolding derived_condition derived_text text_for
    text-some = rw (condition-is e h) (omega arith)

    text-inside : (condition_of (derived_book c) e).start + (condition_of (derived_book c) e).count ≤ length (derived_book c).words
    unfolding derived_condition derived_book
    text-inside = rw (condition-is e h) (flat-part n e (derived_text c) h)

    text-good : GoodText (derived_book c).marks (text_of (derived_book c) e)
    unfolding good derived_book
    text-good = rw (derived-text c e h) (good-text (4 * n) (derived_text c e) (both (good_from (4 * n) (derived_text c e) 0) (deepest 3 (derived_text c e) 0) (text-fine e h)).0)

  marks-are : (derived_book c).marks ≡ 4 * n
  unfolding derived_book
  marks-are = refl

  stages-are : (derived_book c).stages ≡ n
  unfolding derived_book
  stages-are = refl

  rules-are : (derived_book c).rules ≡ derived_rules c
  unfolding derived_book
  rules-are = refl

  pub derived-formed : FormedBook (derived_book c)
  derived-formed =
      let m : n ≤ max_events = few in
      let q : length (derived_book c).conditions ≡ n = conditions-length c fit in
      record {
        stages = rw stages-are m;
        least = rw (stages-are, marks-are) (omega arith);
        marks = rw marks-are (omega arith);
        rules = rules-most c fit;
        conditions = rw q (omega arith);
        words = words-most c fit;
        each_rule = rw (q, stages-are, marks-are, rules-are) rules-formed;
        some = λ e h. text-some e (rw q at h);
        inside = λ e h. text-inside e (rw q at h);
        texts = λ e h. text-good e (rw q at h);
      }

  -- the derived image is well-formed
  pub derived-well : WellFormed (derived_image c)
  derived-well = formed-image (derived_book c) derived-formed

  -- so none of 20 to 24 is given for it
  pub derived-granted : image_answer (derived_image c) ≡ granted
  derived-granted = sym (well-granted (derived_image c) derived-well)

  -- ---- and it is made of bytes

  clause-words : (mark : ℕ → ℕ) (s : ℕ) → ((f : ℕ) → f < n → mark f < 65536) → All (λ w. w < 65536) (flat n (listed (clause n mark) s))
  clause-words mark s h =
      let m : n ≤ max_events = few in
      all-flat _ n (listed (clause n mark) s) (λ f i.
      let z : mark f < 65536 = h f i in
      cases (has s f) (λ b. rw b (omega arith, (omega arith, (z, (omega arith, (omega arith, tt)))))) (λ b. rw b tt))

  text-words : All (λ w. w < 65536) (flat n (derived_text c))
  unfolding derived_text text_for
  text-words =
      let m : n ≤ max_events = few in
      all-flat _ n (derived_text c) (λ e h. (
        omega arith,
        all_append _ (flat n (listed (clause n (executed_mark n)) (set_of c condition e))) (flat n (listed (clause n (answered_mark n)) (set_of c milestone e)))
            (clause-words (executed_mark n) (set_of c condition e) (λ f i. omega arith)) (clause-words (answered_mark n) (set_of c milestone e) (λ f i. omega arith)),
      ))

  pub derived-limits : WithinLimits (derived_book c)
  unfolding derived_book derived_condition trigger_exists sense_exists
  derived-limits =
      let m : n ≤ max_events = few in
      let q : length (derived_book c).words ≤ max_words = words-most c fit in
      record {
        stages = m;
        marks = omega arith;
        rules = rules-most c fit;
        conditions = rw (length-each n (derived_condition c)) (omega arith);
        words = q;
        each_rule = all_map (RuleFormed n (4 * n) n) SmallRule small-rule (derived_rules c) rules-formed;
        each_condition = all-flat SmallCondition n _ (λ e h. (small-condition e h, tt));
        each_word = text-words;
      }
    where
      small-rule : (r : Rule) → RuleFormed n (4 * n) n r → SmallRule r
      small-rule r h = let m : n ≤ max_events = few in
          record { number = small-trigger r.trigger h.trigger; condition = small-sense r.sense h.sense; target = let t = h.target in omega arith }
        where
          small-trigger : (t : Trigger) → trigger_exists n (4 * n) t ≡ true → trigger_number t < 65536
          small-trigger None h = omega arith
          small-trigger (Completed k) h = let m : n ≤ max_events = few in omega (arith, ltb-true k n h)
          small-trigger (BecomeYes k) h = let m : n ≤ max_events = few in omega (arith, ltb-true k (4 * n) h)
          small-trigger (BecomeNo k) h = let m : n ≤ max_events = few in omega (arith, ltb-true k (4 * n) h)

          small-sense : (s : Sense) → sense_exists n s ≡ true → condition_number s < 65536
          small-sense NoCondition h = omega arith
          small-sense (AsWritten k) h = let m : n ≤ max_events = few in omega (arith, ltb-true k n h)
          small-sense (Negated k) h = let m : n ≤ max_events = few in omega (arith, ltb-true k n h)

      small-condition : (e : ℕ) → e < n → SmallCondition (derived_condition c e)
      small-condition e h =
          let a : length (flat e (derived_text c)) + length (derived_text c e) ≤ length (flat n (derived_text c)) = flat-part n e (derived_text c) h in
          let w : length (flat n (derived_text c)) ≤ max_words = words-most c fit in
          record { start = omega arith; count = omega arith }

  pub derived-bytes : All Byte (derived_image c)
  derived-bytes = image-bytes (derived_book c) derived-limits
