-- What a well-formed book is, sentence by sentence, and that 20 to 24 are given exactly as the paper's table says. Assumes nothing.
use Rattle.std.specs.Prelude.{◌≡◌, refl, Bool, true, false, not, ◌&&◌, List, ℕ, ◌+◌, ◌≤◌, ◌<◌, length, ltb}
use Rattle.std.proofs.Math.Path.{sym}
use Rattle.std.proofs.Common.{ap, subst, ◌∙◌, arith}
use Rattle.std.proofs.Math.Dec.{eqb, leb}
use borrow.Author.Tests.{eqb-true, eqb-false, eq-eqb, ltb-true, ltb-false, lt-ltb, le-ltb, leb-true, le-leb, not-true, not-false}
use Rattle.paper.specs.Limits.{max_events, max_marks, max_rules, max_conditions, max_words, book_header, book_short, book_count, book_length, bad_rule, bad_condition}
use Rattle.paper.specs.Answers.{answer, granted, refusal}
use Rattle.paper.specs.declared.Answer.{Answer}
use Rattle.general.specs.Cases.{contra, cases, both, all3, not_so}
use Rattle.general.specs.Below.{first, first-is, first_found, first-none}
use Rattle.book.specs.GoodTexts.{GoodText, good, good-text, text-good}
use Rattle.book.specs.Book.{Condition}
use Rattle.book.specs.Image.{stages_in, marks_in, rules_in, conditions_in, words_in, rule_place, condition_place, word_place, condition_from, rules_offset, conditions_offset, words_offset}
use Rattle.book.specs.Image.{kind_at, sense_at, effect_at, spare_at, number_at, condition_at, target_at, start_at, count_at}
use Rattle.book.specs.Read.{text_from}
use Rattle.book.specs.Judging.{counts_of, counts_fit, layout_fits, trigger_fits, sense_fits, rule_fits, condition_fits, first_bad_rule, first_bad_condition, body_answer, image_answer}
use Rattle.book.specs.declared.Counts.{Counts}

-- ---- the header

-- "stages S (0 to 256), marks M (S to 1,024), rules R (0 to 131,840), conditions Q (0 to 1,024), words W (0 to 655,616)"
pub record Counted (h : Counts) : Type 0 where
  pub stages : h.stages ≤ max_events
  pub least : h.stages ≤ h.marks
  pub marks : h.marks ≤ max_marks
  pub rules : h.rules ≤ max_rules
  pub conditions : h.conditions ≤ max_conditions
  pub words : h.words ≤ max_words

-- "offsets of rules (32), conditions (32 + 10R), words (32 + 10R + 8Q). Length is exactly 32 + 10R + 8Q + 2W."
pub record LaidOut (s : List ℕ) (h : Counts) : Type 0 where
  pub rules : rules_offset s ≡ book_header
  pub conditions : conditions_offset s ≡ rule_place h.rules
  pub words : words_offset s ≡ condition_place h.rules h.conditions
  pub whole : length s ≡ word_place h.rules h.conditions h.words

-- ---- a rule record of ten bytes from `at`: kind, sense and effect in a byte each, a zero byte, then trigger, condition and target

pub record GoodRule (S M Q : ℕ) (s : List ℕ) (at : ℕ) : Type 0 where
  pub kind : kind_at s at ≤ 3
  pub no_trigger : kind_at s at ≡ 0 → number_at s at ≡ 0
  pub completed : kind_at s at ≡ 1 → number_at s at < S
  pub become : 2 ≤ kind_at s at → number_at s at < M
  pub sense : sense_at s at ≤ 2
  pub no_condition : sense_at s at ≡ 0 → condition_at s at ≡ 0
  pub condition : 1 ≤ sense_at s at → condition_at s at < Q
  pub effect : effect_at s at ≤ 1
  pub spare : spare_at s at ≡ 0
  pub target : target_at s at < M

-- ---- "A condition is start and count into the words; count at least 1, inside W, overlaps allowed."

pub record GoodCondition (M W : ℕ) (s : List ℕ) (c : Condition) : Type 0 where
  pub least : 1 ≤ c.count
  pub inside : c.start + c.count ≤ W
  pub text : GoodText M (text_from s c)

abbrev pub RuleIn : List ℕ → ℕ → Type 0
RuleIn s r = GoodRule (stages_in s) (marks_in s) (conditions_in s) s (rule_place r)

abbrev pub ConditionIn : List ℕ → ℕ → Type 0
ConditionIn s c = GoodCondition (marks_in s) (words_in s) s (condition_from s (condition_place (rules_in s) c))

-- ---- the whole

pub record Headed (s : List ℕ) : Type 0 where
  pub long : book_header ≤ length s
  pub counted : Counted (counts_of s)
  pub laid_out : LaidOut s (counts_of s)

pub record WellFormed (s : List ℕ) : Type 0 where
  pub headed : Headed s
  pub rules : (r : ℕ) → r < rules_in s → RuleIn s r
  pub conditions : (c : ℕ) → c < conditions_in s → ConditionIn s c

-- the rows of the paper's table, lower codes first, and within a code the lowest place
pub data Judged (s : List ℕ) : Answer → Type 0 where
  short : length s < book_header → Judged s (refusal book_short)
  count : book_header ≤ length s → (Counted (counts_of s) → ⊥) → Judged s (refusal book_count)
  layout : book_header ≤ length s → Counted (counts_of s) → (LaidOut s (counts_of s) → ⊥) → Judged s (refusal book_length)
  rule : Headed s → (r : ℕ) → r < rules_in s → (RuleIn s r → ⊥) → ((p : ℕ) → p < r → RuleIn s p) → Judged s (answer bad_rule r 0)
  condition : Headed s → ((r : ℕ) → r < rules_in s → RuleIn s r) → (c : ℕ) → c < conditions_in s → (ConditionIn s c → ⊥)
      → ((p : ℕ) → p < c → ConditionIn s p) → Judged s (answer bad_condition c 0)
  accepted : WellFormed s → Judged s granted

-- ---- each test says what its record says

all4 : (a b c d : Bool) → (a && b && c && d) ≡ true → (a ≡ true) × (b ≡ true) × (c ≡ true) × (d ≡ true)
all4 a b c d e =
    let t = both (a && b && c) d e in
    let u = all3 a b c t.0 in
    (u.0, u.1, u.2, t.1)

pub counts-says : (h : Counts) → counts_fit h ≡ true → Counted h
unfolding counts_fit
counts-says h e =
    let w = both _ (leb h.words max_words) e in
    let q = both (leb h.stages max_events && leb h.stages h.marks && leb h.marks max_marks && leb h.rules max_rules) (leb h.conditions max_conditions) w.0 in
    let t = all4 (leb h.stages max_events) (leb h.stages h.marks) (leb h.marks max_marks) (leb h.rules max_rules) q.0 in
    record {
      stages = leb-true _ _ t.0;
      least = leb-true _ _ t.1;
      marks = leb-true _ _ t.2;
      rules = leb-true _ _ t.3;
      conditions = leb-true _ _ q.1;
      words = leb-true _ _ w.1;
    }

pub says-counts : (h : Counts) → Counted h → counts_fit h ≡ true
unfolding counts_fit
says-counts h c =
    rw (le-leb _ _ c.stages, le-leb _ _ c.least, le-leb _ _ c.marks, le-leb _ _ c.rules, le-leb _ _ c.conditions, le-leb _ _ c.words)

pub layout-says : (s : List ℕ) (h : Counts) → layout_fits s h ≡ true → LaidOut s h
unfolding layout_fits
layout-says s h e =
    let t = all4 (eqb (rules_offset s) book_header) (eqb (conditions_offset s) (rule_place h.rules)) (eqb (words_offset s) (condition_place h.rules h.conditions))
    (eqb (length s) (word_place h.rules h.conditions h.words)) e in
    record { rules = eqb-true _ _ t.0; conditions = eqb-true _ _ t.1; words = eqb-true _ _ t.2; whole = eqb-true _ _ t.3 }

pub says-layout : (s : List ℕ) (h : Counts) → LaidOut s h → layout_fits s h ≡ true
unfolding layout_fits
says-layout s h l = rw (eq-eqb _ _ l.rules, eq-eqb _ _ l.conditions, eq-eqb _ _ l.words, eq-eqb _ _ l.whole)

-- the cases of a byte that is 0 to 3
on_kind : {C : Type 0} (k : ℕ) → (k ≡ 0 → C) → (k ≡ 1 → C) → (k ≡ 2 → C) → (k ≡ 3 → C)
    → (eqb k 0 ≡ false → eqb k 1 ≡ false → eqb k 2 ≡ false → eqb k 3 ≡ false → C) → C
on_kind k f g h i m =
    cases (eqb k 0) (λ a. f (eqb-true k 0 a))
    (λ a. cases (eqb k 1) (λ b. g (eqb-true k 1 b))
    (λ b. cases (eqb k 2) (λ c. h (eqb-true k 2 c)) (λ c. cases (eqb k 3) (λ d. i (eqb-true k 3 d)) (λ d. m a b c d))))

module _ (S M kind n : ℕ) where
  record Started : Type 0 where
    known : kind ≤ 3
    none : kind ≡ 0 → n ≡ 0
    stage : kind ≡ 1 → n < S
    mark : 2 ≤ kind → n < M

  trigger-says : trigger_fits S M kind n ≡ true → Started
  unfolding trigger_fits
  trigger-says h =
      on_kind kind
      (λ e. record { known = omega arith; none = λ z. eqb-true n 0 (rw e at h); stage = λ z. absurd (omega arith); mark = λ z. absurd (omega arith) })
      (λ e. record { known = omega arith; none = λ z. absurd (omega arith); stage = λ z. ltb-true n S (rw e at h); mark = λ z. absurd (omega arith) })
      (λ e. record { known = omega arith; none = λ z. absurd (omega arith); stage = λ z. absurd (omega arith); mark = λ z. ltb-true n M (rw e at h) })
      (λ e. record { known = omega arith; none = λ z. absurd (omega arith); stage = λ z. absurd (omega arith); mark = λ z. ltb-true n M (rw e at h) })
      (λ a b c d. contra (rw (a, b, c, d) at h) refl)

  says-trigger : Started → trigger_fits S M kind n ≡ true
  unfolding trigger_fits
  says-trigger t =
      on_kind kind (λ e. rw e (eq-eqb n 0 (t.none e))) (λ e. rw e (lt-ltb n S (t.stage e))) (λ e. rw e (lt-ltb n M (t.mark (omega arith))))
      (λ e. rw e (lt-ltb n M (t.mark (omega arith))))
      (λ a b c d. absurd (let i = t.known in omega (arith, eqb-false kind 0 a, eqb-false kind 1 b, eqb-false kind 2 c, eqb-false kind 3 d)))

module _ (Q sense c : ℕ) where
  record Asked : Type 0 where
    known : sense ≤ 2
    none : sense ≡ 0 → c ≡ 0
    some : 1 ≤ sense → c < Q

  sense-says : sense_fits Q sense c ≡ true → Asked
  unfolding sense_fits
  sense-says h =
      on_kind sense (λ e. record { known = omega arith; none = λ z. eqb-true c 0 (rw e at h); some = λ z. absurd (omega arith) })
      (λ e. record { known = omega arith; none = λ z. absurd (omega arith); some = λ z. ltb-true c Q (rw e at h) })
      (λ e. record { known = omega arith; none = λ z. absurd (omega arith); some = λ z. ltb-true c Q (rw e at h) })
      (λ e. contra (rw e at h) refl) (λ x y z w. contra (rw (x, y, z) at h) refl)

  says-sense : Asked → sense_fits Q sense c ≡ true
  unfolding sense_fits
  says-sense t =
      on_kind sense (λ e. rw e (eq-eqb c 0 (t.none e))) (λ e. rw e (lt-ltb c Q (t.some (omega arith)))) (λ e. rw e (lt-ltb c Q (t.some (omega arith))))
      (λ e. absurd (let i = t.known in omega arith))
      (λ x y z w. absurd (let i = t.known in omega (arith, eqb-false sense 0 x, eqb-false sense 1 y, eqb-false sense 2 z)))

module _ (S M Q : ℕ) (s : List ℕ) (at : ℕ) where
  pub rule-says : rule_fits S M Q s at ≡ true → GoodRule S M Q s at
  unfolding rule_fits
  rule-says h =
      let z = both (trigger_fits S M (kind_at s at) (number_at s at) && sense_fits Q (sense_at s at) (condition_at s at) && leb (effect_at s at) 1
      && eqb (spare_at s at) 0) (ltb (target_at s at) M) h in
      let y = all4 (trigger_fits S M (kind_at s at) (number_at s at)) (sense_fits Q (sense_at s at) (condition_at s at)) (leb (effect_at s at) 1) (eqb (spare_at s at) 0) z.0 in
      let t = trigger-says S M (kind_at s at) (number_at s at) y.0 in
      let q = sense-says Q (sense_at s at) (condition_at s at) y.1 in
      record {
        kind = t.known;
        no_trigger = t.none;
        completed = t.stage;
        become = t.mark;
        sense = q.known;
        no_condition = q.none;
        condition = q.some;
        effect = leb-true _ _ y.2;
        spare = eqb-true _ _ y.3;
        target = ltb-true _ _ z.1;
      }

  pub says-rule : GoodRule S M Q s at → rule_fits S M Q s at ≡ true
  unfolding rule_fits
  says-rule g =
      rw (
        says-trigger S M (kind_at s at) (number_at s at) (record { known = g.kind; none = g.no_trigger; stage = g.completed; mark = g.become }),
        says-sense Q (sense_at s at) (condition_at s at) (record { known = g.sense; none = g.no_condition; some = g.condition }),
        le-leb _ _ g.effect,
        eq-eqb _ _ g.spare,
        lt-ltb _ _ g.target,
      )

module _ (M W : ℕ) (s : List ℕ) (at : ℕ) where
  pub condition-says : condition_fits M W (condition_place (rules_in s) (conditions_in s)) s at ≡ true → GoodCondition M W s (condition_from s at)
  unfolding condition_fits condition_from
  condition-says h =
      let t = all3 (leb 1 (count_at s at)) (leb (start_at s at + count_at s at) W) (good M (text_from s (condition_from s at))) h in
      record { least = leb-true _ _ t.0; inside = leb-true _ _ t.1; text = good-text M _ t.2 }

  pub says-condition : GoodCondition M W s (condition_from s at) → condition_fits M W (condition_place (rules_in s) (conditions_in s)) s at ≡ true
  unfolding condition_fits condition_from
  says-condition g = rw (le-leb _ _ g.least, le-leb _ _ g.inside) (text-good M _ g.text)

-- ---- the answer is the one that the table names

-- the lowest number that fails, by what the test of each number says
fails : {P : ℕ → Type 0} (k : ℕ) (f : ℕ → Bool) → ((p : ℕ) → f p ≡ true → P p) → ((p : ℕ) → P p → f p ≡ true) → (r : ℕ) → r < k → (P r → ⊥) → ((p : ℕ) → p < r → P p)
    → first k (λ p. not (f p)) ≡ r
fails k f says back r h n l =
    sym (first_found k (λ p. not (f p)) r h (λ p i. rw (back p (l p i))) (cases (f r) (λ t. absurd (n (says r t))) (λ e. rw e)))

passes : {P : ℕ → Type 0} (k : ℕ) (f : ℕ → Bool) → ((p : ℕ) → P p → f p ≡ true) → ((p : ℕ) → p < k → P p) → first k (λ p. not (f p)) ≡ k
passes k f back l = sym (first-none k (λ p. not (f p)) (λ p i. rw (back p (l p i))))

module _ (s : List ℕ) where
  fits_at : ℕ → Bool
  fits_at r = rule_fits (stages_in s) (marks_in s) (conditions_in s) s (rule_place r)

  good_at : ℕ → Bool
  good_at c = condition_fits (marks_in s) (words_in s) (condition_place (rules_in s) (conditions_in s)) s (condition_place (rules_in s) c)

  rule-yes : (r : ℕ) → fits_at r ≡ true → RuleIn s r
  unfolding fits_at
  rule-yes r = rule-says (stages_in s) (marks_in s) (conditions_in s) s (rule_place r)

  yes-rule : (r : ℕ) → RuleIn s r → fits_at r ≡ true
  unfolding fits_at
  yes-rule r = says-rule (stages_in s) (marks_in s) (conditions_in s) s (rule_place r)

  condition-yes : (c : ℕ) → good_at c ≡ true → ConditionIn s c
  unfolding good_at
  condition-yes c = condition-says (marks_in s) (words_in s) s (condition_place (rules_in s) c)

  yes-condition : (c : ℕ) → ConditionIn s c → good_at c ≡ true
  unfolding good_at
  yes-condition c = says-condition (marks_in s) (words_in s) s (condition_place (rules_in s) c)

  rules-pass : ((r : ℕ) → r < rules_in s → RuleIn s r) → first_bad_rule s (counts_of s) ≡ rules_in s
  unfolding first_bad_rule fits_at
  rules-pass = passes (rules_in s) fits_at yes-rule

  headed-answer : Headed s → image_answer s ≡ body_answer s (counts_of s)
  unfolding image_answer
  headed-answer g = rw (le-ltb (length s) book_header g.long, says-counts (counts_of s) g.counted, says-layout s (counts_of s) g.laid_out)

  -- at most one row holds
  pub judged-is : (a : Answer) → Judged s a → a ≡ image_answer s
  unfolding image_answer body_answer first_bad_rule first_bad_condition fits_at good_at
  judged-is a (short l) = rw (lt-ltb (length s) book_header l)
  judged-is a (count l n) = rw (le-ltb (length s) book_header l, not_so (λ t. n (counts-says (counts_of s) t)))
  judged-is a (layout l c n) = rw (le-ltb (length s) book_header l, says-counts (counts_of s) c, not_so (λ t. n (layout-says s (counts_of s) t)))
  judged-is a (rule g r h n l) = sym (headed-answer g ∙ rw (fails (rules_in s) fits_at rule-yes yes-rule r h n l, lt-ltb r (rules_in s) h))
  judged-is a (condition g rs c h n l) =
      sym (headed-answer g ∙ rw (rules-pass rs, le-ltb (rules_in s) (rules_in s) (omega arith), fails (conditions_in s) good_at condition-yes yes-condition c h n l, lt-ltb c (conditions_in s) h))
  judged-is a (accepted w) =
      sym (headed-answer w.headed
      ∙ rw (
        rules-pass w.rules,
        le-ltb (rules_in s) (rules_in s) (omega arith),
        passes (conditions_in s) good_at yes-condition w.conditions,
        le-ltb (conditions_in s) (conditions_in s) (omega arith),
      ))

  -- some row holds
  headed-row : Headed s → (a : Answer) × Judged s a
  headed-row g =
      let f = first-is (rules_in s) (λ p. not (fits_at p)) in
      let e = first-is (conditions_in s) (λ p. not (good_at p)) in
      let r : ℕ = first (rules_in s) (λ p. not (fits_at p)) in
      let c : ℕ = first (conditions_in s) (λ p. not (good_at p)) in
      let low : (p : ℕ) → p < r → RuleIn s p = λ p l. rule-yes p (not-false (fits_at p) (f.lowest p l)) in
      let low2 : (p : ℕ) → p < c → ConditionIn s p = λ p l. condition-yes p (not-false (good_at p) (e.lowest p l)) in
      cases (ltb r (rules_in s))
      (λ t. let h : r < rules_in s = ltb-true r (rules_in s) t in
      (answer bad_rule r 0, rule g r h (λ z. contra (yes-rule r z) (not-true (fits_at r) (f.passes h))) low))
      (λ t. let i : rules_in s ≤ r = ltb-false r (rules_in s) t in
      let rs : (p : ℕ) → p < rules_in s → RuleIn s p = λ p l. low p (omega arith) in
      cases (ltb c (conditions_in s))
      (λ u. let h : c < conditions_in s = ltb-true c (conditions_in s) u in
      (answer bad_condition c 0, condition g rs c h (λ z. contra (yes-condition c z) (not-true (good_at c) (e.passes h))) low2))
      (λ u. let j : conditions_in s ≤ c = ltb-false c (conditions_in s) u in
      (granted, accepted (record { headed = g; rules = rs; conditions = λ p l. low2 p (omega arith) }))))

  row : (a : Answer) × Judged s a
  row =
      cases (ltb (length s) book_header) (λ t. (refusal book_short, short (ltb-true (length s) book_header t)))
      (λ t. let l : book_header ≤ length s = ltb-false (length s) book_header t in
      cases (counts_fit (counts_of s))
      (λ u. let c : Counted (counts_of s) = counts-says (counts_of s) u in
      cases (layout_fits s (counts_of s))
      (λ v. headed-row (record { long = l; counted = c; laid_out = layout-says s (counts_of s) v }))
      (λ v. (refusal book_length, layout l c (λ z. contra (says-layout s (counts_of s) z) v))))
      (λ u. (refusal book_count, count l (λ z. contra (says-counts (counts_of s) z) u))))

  -- the answer's row holds: with `judged-is`, 20 to 24 and 0 are given exactly as the table says
  pub judged : Judged s (image_answer s)
  judged = let t = row in subst (λ (a : Answer). Judged s a) (judged-is t.0 t.1) t.1

  -- ---- granted exactly for well-formed images

  pub well-granted : WellFormed s → granted ≡ image_answer s
  well-granted w = judged-is granted (accepted w)

  pub granted-well : (a : Answer) → a ≡ image_answer s → a.code ≡ 0 → WellFormed s
  granted-well a e z = take (image_answer s) judged (sym (ap (λ (x : Answer). x.code) e) ∙ z)
    where
      take : (a : Answer) → Judged s a → a.code ≡ 0 → WellFormed s
      take a (short l) z = absurd (omega arith)
      take a (count l n) z = absurd (omega arith)
      take a (layout l c n) z = absurd (omega arith)
      take a (rule g r h n l) z = absurd (omega arith)
      take a (condition g rs c h n l) z = absurd (omega arith)
      take a (accepted w) z = w
