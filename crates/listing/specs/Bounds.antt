-- The listing has at most 13 bytes for 4 of the book, and a refusal is short: so no text is longer than `max_listing`. Assumes nothing.
use Rattle.std.specs.Prelude.{ℕ, zero, suc, ◌+◌, ◌*◌, ◌/◌, ◌≤◌, ◌<◌, ◌≡◌, Bool, ◌||◌, List, [], ◌∷◌, eqb, leb, get_or, take}
use Rattle.std.proofs.Math.Path.{refl}
use Rattle.std.proofs.Common.{sym, ap, ◌∙◌}
use Rattle.std.proofs.Math.Bool.{true, false}
use native.Mathlib.Omega.{arith}
use Rattle.std.proofs.Math.Dec.{ltb}
use Rattle.std.proofs.Math.ListN.{length, length-append}
use borrow.Author.Tests.{lt-ltb, ltb-true, ltb-false, leb-true}
use Rattle.paper.specs.Limits.{and_word, or_word, not_word, max_events, max_marks, max_rules, max_words, max_nodes, max_relations, chart_header}
use Rattle.paper.specs.declared.Answer.{Answer}
use Rattle.general.specs.Cases.{cases, neither}
use Rattle.sets.specs.Set.{has}
use Rattle.general.specs.Below.{some, first, first-is, tally, tally-le}
use Rattle.flat_chart.specs.Flat.{FlatChart}
use Rattle.flat_chart.specs.Chart.{response, include, exclude, set_of, Fit}
use Rattle.flat_chart.specs.Tests.{fit_chart}
use Rattle.flat_chart.specs.Fitness.{tested-fit}
use Rattle.records.specs.Image.{nodes, relations, out_of_range, misplaced, bad_node_at, bad_relation_at}
use Rattle.nesting.specs.Nesting.{event_count, is_event, on_loop_at, flagged_group_at}
use Rattle.chart.specs.Reading.{reading_relations, reading_nodes, reading}
use Rattle.book.specs.Book.{Book, no_rule, rule_of, text_of}
use Rattle.book.specs.GoodTexts.{GoodText, is_operator}
use Rattle.book.specs.WellRead.{RuleFormed}
use Rattle.book.specs.Formed.{FormedBook}
use Rattle.general.specs.Lists.{total, total-le, flat, length-flat, packed, All, all-at}
use Rattle.book.specs.ImageOf.{image_of, image-length}
use Rattle.book.specs.declared.Rule.{Rule}
use Rattle.derived.specs.Derived.{executed_mark, included_mark, answered_mark, on, opens, closes, inclusion, responding, answering, derived_text, derived_book, derived-text, join}
use Rattle.derived.specs.Sizes.{conditions-length}
use Rattle.deriver.specs.Formed.{derived-formed}
use Rattle.deriver.specs.Deriving.{derived_image, deriving_answer}
use Rattle.writing.specs.Text.{decimal_in, decimal}
use Rattle.single_lines.specs.Text.{counts_line, refusal_line}
use Rattle.rule_lines.specs.Text.{trigger_text, sense_text, effect_text, rule_line}
use Rattle.condition_lines.specs.Text.{word_text, condition_line}
use Rattle.listing.specs.Limits.{listing_input, listing_book, max_listing}
use Rattle.listing.specs.Text.{book_text, chart_text, image_text, listing_text}

-- ---- decimal numbers

-- w digits are enough for the numbers below it
unfoldable pub tens : ℕ → ℕ
tens zero = 1
tens (suc w) = 10 * tens w

in-digits : (w k n : ℕ) → n < tens (suc w) → length (decimal_in k n) ≤ suc w
unfolding decimal_in tens
in-digits w zero n h = omega arith
in-digits zero (suc k) n h = rw (lt-ltb n 10 (omega arith)) (omega arith)
in-digits (suc w) (suc k) n h =
    cases (ltb n 10) (λ b. rw b (omega arith))
    (λ b. let i : length (decimal_in k (n / 10)) ≤ suc w = in-digits w k (n / 10) (omega arith) in rw (b, length-append (decimal_in k (n / 10))) (omega arith))

pub digits-most : (w n : ℕ) → n < tens (suc w) → length (decimal n) ≤ suc w
unfolding decimal
digits-most w n h = in-digits w (suc n) n h

-- ---- one rule

-- the bytes of a rule's trigger and condition together: a rule of a derived book has one of them, never both
abbrev Brief : Rule → Type 0
Brief r = length (trigger_text r.trigger) + length (sense_text r.sense) ≤ 11

on-brief : (e : ℕ) (b : Bool) (m : ℕ) → e < max_events → Brief (on e b m)
unfolding trigger_text sense_text tens
on-brief e b m h = let d : length (decimal e) ≤ 3 = digits-most 2 e (omega arith) in omega arith

opens-brief : (e : ℕ) → e < max_events → Brief (opens e)
unfolding trigger_text sense_text tens
opens-brief e h = let d : length (decimal e) ≤ 3 = digits-most 2 e (omega arith) in omega arith

closes-brief : (e : ℕ) → e < max_events → Brief (closes e)
unfolding trigger_text sense_text tens
closes-brief e h = let d : length (decimal e) ≤ 3 = digits-most 2 e (omega arith) in omega arith

effect-most : (b : Bool) (m : ℕ) → m < max_marks → length (effect_text b m) ≤ 11
unfolding effect_text tens
effect-most true m h = let d : length (decimal m) ≤ 4 = digits-most 3 m (omega arith) in omega arith
effect-most false m h = let d : length (decimal m) ≤ 4 = digits-most 3 m (omega arith) in omega arith

rule-most : (i : ℕ) (r : Rule) → i < max_rules → Brief r → r.target < max_marks → length (rule_line i r) ≤ 29
unfolding rule_line tens
rule-most i r h f t =
    let a : length (decimal i) ≤ 6 = digits-most 5 i (omega arith) in
    let e : length (effect_text r.effect r.target) ≤ 11 = effect-most r.effect r.target t in
    rw (length-append (decimal i), length-append (trigger_text r.trigger), length-append (sense_text r.sense), length-append (effect_text r.effect r.target)) (omega arith)

-- ---- one condition

word-most : (M w : ℕ) → M ≤ max_marks → (is_operator w || ltb w M) ≡ true → length (word_text w) ≤ 5
unfolding word_text is_operator tens
word-most M w l h =
    cases (eqb w and_word) (λ a. rw a (omega arith))
    (λ a. cases (eqb w or_word) (λ b. rw (a, b) (omega arith))
    (λ b. cases (eqb w not_word) (λ d. rw (a, b, d) (omega arith))
    (λ d. let k : w < M = ltb-true w M (rw (a, b, d) at h) in
    let n : length (decimal w) ≤ 4 = digits-most 3 w (omega arith) in
    rw (a, b, d) (omega arith))))

parts-most : (f : ℕ → List ℕ) (b : ℕ) (l : List ℕ) → ((k : ℕ) → k < length l → length (f (get_or l k 0)) ≤ b) → length (packed f l) ≤ b * length l
unfolding packed
parts-most f b [] h = omega arith
parts-most f b (x ∷ l) h =
    let a : length (f x) ≤ b = h zero (omega arith) in
    let i : length (packed f l) ≤ b * length l = parts-most f b l (λ k j. h (suc k) (omega arith)) in
    rw (length-append (f x)) (omega arith)

condition-most : (M c : ℕ) (t : List ℕ) → M ≤ max_marks → c < max_events → GoodText M t → length (condition_line c t) ≤ 10 + 5 * length t
unfolding condition_line GoodText tens
condition-most M c t l h g =
    let d : length (decimal c) ≤ 3 = digits-most 2 c (omega arith) in
    let w : length (packed word_text t) ≤ 5 * length t = parts-most word_text 5 t (λ k j. word-most M (get_or t k 0) l ((g (λ m. false)).known k j)) in
    rw (length-append (decimal c), length-append (packed word_text t)) (omega arith)

lines-most : {A : Type 0} (k : ℕ) (size : ℕ → ℕ) (g : ℕ → List A) → ((e : ℕ) → e < k → size e ≤ 10 + 5 * length (g e)) → total k size ≤ 10 * k + 5 * length (flat k g)
unfolding total flat
lines-most zero size g h = omega arith
lines-most (suc k) size g h =
    let i : total k size ≤ 10 * k + 5 * length (flat k g) = lines-most k size g (λ e j. h e (omega arith)) in
    let j : size k ≤ 10 + 5 * length (g k) = h k (omega arith) in
    rw (length-append (flat k g)) (omega arith)

-- ---- the first line

counts-most : (S M R Q W : ℕ) → S ≤ max_events → M ≤ max_marks → R ≤ max_rules → Q ≤ max_events → W ≤ max_words → length (counts_line S M R Q W) ≤ 63
unfolding counts_line tens
counts-most S M R Q W s m r q w =
    let a : length (decimal S) ≤ 3 = digits-most 2 S (omega arith) in
    let b : length (decimal M) ≤ 4 = digits-most 3 M (omega arith) in
    let d : length (decimal R) ≤ 6 = digits-most 5 R (omega arith) in
    let e : length (decimal Q) ≤ 3 = digits-most 2 Q (omega arith) in
    let f : length (decimal W) ≤ 6 = digits-most 5 W (omega arith) in
    rw (length-append (decimal S), length-append (decimal M), length-append (decimal R), length-append (decimal Q), length-append (decimal W)) (omega arith)

-- ---- a book

module _ (c : FlatChart) (fit : Fit c) where
  abbrev b : Book
  b = derived_book c

  abbrev Q : ℕ
  Q = length (derived_book c).conditions

  formed : FormedBook (derived_book c)
  formed = derived-formed c fit

  few : length (derived_book c).conditions ≤ max_events
  few = rw (conditions-length c fit) fit.few

  rules-brief : All Brief (derived_book c).rules
  unfolding derived_book inclusion responding answering
  rules-brief =
      let n : c.count ≤ max_events = fit.few in
      join c Brief
      (record {
        inclusions = λ e h f i.
            cases (has (set_of c include e) f) (λ x. rw x (on-brief e true (included_mark c.count f) (omega arith), tt))
            (λ x. cases (has (set_of c exclude e) f) (λ y. rw (x, y) (on-brief e false (included_mark c.count f) (omega arith), tt)) (λ y. rw (x, y) tt));
        responses = λ e h f i. cases (has (set_of c response e) f) (λ x. rw x (on-brief e false (answered_mark c.count f) (omega arith), tt)) (λ x. rw x tt);
        answers = λ e h. cases (has (set_of c response e) e) (λ x. rw x tt) (λ x. rw x (on-brief e true (answered_mark c.count e) (omega arith), tt));
        executed = λ e h. on-brief e true (executed_mark c.count e) (omega arith);
        opened = λ e h. opens-brief e (omega arith);
        closed = λ e h. closes-brief e (omega arith);
      })

  rules-size : length (flat (length b.rules) (λ i. rule_line i (rule_of b i))) ≤ length b.rules * 29
  rules-size =
      rw (length-flat (length b.rules) (λ i. rule_line i (rule_of b i)))
      (total-le (length b.rules) 29 (λ i. length (rule_line i (rule_of b i)))
      (λ i h. let r : length b.rules ≤ max_rules = formed.rules in
      let m : b.marks ≤ max_marks = formed.marks in
      let t : (rule_of b i).target < b.marks = (all-at (RuleFormed b.stages b.marks Q) no_rule b.rules formed.each_rule i h).target in
      rule-most i (rule_of b i) (omega arith) (all-at Brief no_rule b.rules rules-brief i h) (omega arith)))

  words_are : b.words ≡ flat c.count (derived_text c)
  unfolding derived_book
  words_are = refl

  conditions-size : length (flat Q (λ e. condition_line e (text_of b e))) ≤ 10 * Q + 5 * length b.words
  conditions-size =
      let q : Q ≡ c.count = conditions-length c fit in
      let n : Q ≤ max_events = few in
      let w : length (flat Q (derived_text c)) ≡ length b.words = ap (λ (k : ℕ). length (flat k (derived_text c))) q ∙ ap length (sym words_are) in
      let l : length (flat Q (λ e. condition_line e (text_of b e))) ≡ total Q (λ e. length (condition_line e (text_of b e))) = length-flat Q _ in
      let t : total Q (λ e. length (condition_line e (text_of b e))) ≤ 10 * Q + 5 * length (flat Q (derived_text c)) =
      lines-most Q (λ e. length (condition_line e (text_of b e))) (derived_text c) (λ e h.
      let x : text_of b e ≡ derived_text c e = derived-text c e (rw q at h) in
      let y : length (condition_line e (text_of b e)) ≤ 10 + 5 * length (text_of b e) = condition-most b.marks e (text_of b e) formed.marks (omega arith) (formed.texts e h) in
      let z : length (text_of b e) ≡ length (derived_text c e) = ap length x in
      omega arith) in
      omega arith

  -- at most 13 bytes of text for 4 bytes of book
  pub book-most : 4 * length (book_text (derived_book c)) ≤ 13 * length (derived_image c)
  unfolding book_text
  book-most =
      let h : length (counts_line b.stages b.marks (length b.rules) Q (length b.words)) ≤ 63 =
      counts-most b.stages b.marks (length b.rules) Q (length b.words) formed.stages formed.marks formed.rules few formed.words in
      let r : length (flat (length b.rules) (λ i. rule_line i (rule_of b i))) ≤ length b.rules * 29 = rules-size in
      let q : length (flat Q (λ e. condition_line e (text_of b e))) ≤ 10 * Q + 5 * length b.words = conditions-size in
      let i : length (image_of b) ≡ 32 + 10 * length b.rules + 8 * Q + 2 * length b.words = image-length b in
      rw (
        length-append (counts_line b.stages b.marks (length b.rules) Q (length b.words)),
        length-append (flat (length b.rules) (λ i. rule_line i (rule_of b i))),
      ) (omega arith)

  image-most : length (derived_image c) < tens 10
  unfolding tens
  image-most =
      let i : length (image_of b) ≡ 32 + 10 * length b.rules + 8 * Q + 2 * length b.words = image-length b in
      let r : length b.rules ≤ max_rules = formed.rules in
      let w : length b.words ≤ max_words = formed.words in
      let n : Q ≤ max_events = few in
      omega arith

-- ---- a refusal

pub record Short (a : Answer) : Type 0 where
  pub code : a.code < tens 10
  pub place : a.place < tens 10
  pub other : a.other < tens 10

refusal-most : (a : Answer) → Short a → length (refusal_line a) ≤ max_listing
unfolding refusal_line
refusal-most a s =
    let x : length (decimal a.code) ≤ 10 = digits-most 9 a.code s.code in
    let y : length (decimal a.place) ≤ 10 = digits-most 9 a.place s.place in
    let z : length (decimal a.other) ≤ 10 = digits-most 9 a.other s.other in
    rw (length-append (decimal a.code), length-append (decimal a.place), length-append (decimal a.other)) (omega arith)

pub chart-most : (c : FlatChart) → length (chart_text c) ≤ max_listing
unfolding chart_text deriving_answer tens
chart-most c =
    cases (fit_chart c)
    (λ f. let fit : Fit c = tested-fit c f in
    cases (leb (length (derived_image c)) listing_book)
    (λ l. let m : length (derived_image c) ≤ listing_book = leb-true _ _ l in
    let k : 4 * length (book_text (derived_book c)) ≤ 13 * length (derived_image c) = book-most c fit in
    rw (f, l) (omega arith))
    (λ l. rw (f, l) (refusal-most _ (record { code = omega arith; place = image-most c fit; other = omega arith }))))
    (λ f. rw f (refusal-most _ (record { code = omega arith; place = omega arith; other = omega arith })))

-- a reader's refusal names a node, a relation or an event
module _ (image : List ℕ) where
  first_short : (code n : ℕ) (test : ℕ → Bool) → code ≤ 9 → n ≤ max_relations → Short (record { code = code; place = first n test; other = 0 })
  unfolding tens
  first_short code n test h l = let f : first n test ≤ n = (first-is n test).fits in record { code = omega arith; place = omega arith; other = omega arith }

  plain-short : (code place : ℕ) → code ≤ 9 → place ≤ max_relations → Short (record { code = code; place = place; other = 0 })
  unfolding tens
  plain-short code place h l = record { code = omega arith; place = omega arith; other = omega arith }

  module _ (n : nodes image ≤ max_nodes) (k : relations image ≤ max_relations) where
    events-few : event_count image ≤ max_nodes
    events-few = let t : tally (nodes image) (is_event image) ≤ nodes image = tally-le (nodes image) (is_event image) in omega arith

    relations-short : Short (reading_relations image).answer
    unfolding reading_relations
    relations-short =
        cases (some (relations image) (bad_relation_at image)) (λ a. rw a (first_short 8 (relations image) (bad_relation_at image) (omega arith) k))
        (λ a. rw a (plain-short 0 0 (omega arith) (omega arith)))

    nodes-short : Short (reading_nodes image).answer
    unfolding reading_nodes
    nodes-short =
        let e : event_count image ≤ max_nodes = events-few in
        cases (some (nodes image) (bad_node_at image)) (λ a. rw a (first_short 4 (nodes image) (bad_node_at image) (omega arith) (omega arith)))
        (λ a. cases (some (nodes image) (on_loop_at image)) (λ d. rw (a, d) (first_short 5 (nodes image) (on_loop_at image) (omega arith) (omega arith)))
        (λ d. cases (some (nodes image) (flagged_group_at image)) (λ f. rw (a, d, f) (first_short 6 (nodes image) (flagged_group_at image) (omega arith) (omega arith)))
        (λ f. cases (ltb max_events (event_count image)) (λ g. rw (a, d, f, g) (plain-short 7 (event_count image) (omega arith) (omega arith)))
        (λ g. rw (a, d, f, g) relations-short))))

  in-range : out_of_range image ≡ false → (nodes image ≤ max_nodes) × (relations image ≤ max_relations)
  unfolding out_of_range
  in-range h =
      let t = neither (eqb (nodes image) 0 || ltb max_nodes (nodes image)) (ltb max_relations (relations image)) h in
      let u = neither (eqb (nodes image) 0) (ltb max_nodes (nodes image)) t.0 in
      (ltb-false _ _ u.1, ltb-false _ _ t.1)

  pub reading-short : Short (reading image).answer
  unfolding reading
  reading-short =
      cases (ltb (length image) chart_header) (λ a. rw a (plain-short 1 0 (omega arith) (omega arith)))
      (λ a. cases (out_of_range image) (λ d. rw (a, d) (plain-short 2 0 (omega arith) (omega arith)))
      (λ d. let r = in-range d in
      cases (misplaced image) (λ f. rw (a, d, f) (plain-short 3 0 (omega arith) (omega arith))) (λ f. rw (a, d, f) (nodes-short r.0 r.1))))

-- ---- every text

pub image-text-most : (image : List ℕ) → length (image_text image) ≤ max_listing
unfolding image_text
image-text-most image =
    cases (eqb (reading image).answer.code 0) (λ z. rw z (chart-most (reading image).chart)) (λ z. rw z (refusal-most (reading image).answer (reading-short image)))

-- 49,152 bytes of book give at most 159,744 bytes of text
pub listing-most : (input : List ℕ) → length (listing_text input) ≤ max_listing
listing-most input = image-text-most (take listing_input input)
