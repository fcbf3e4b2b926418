-- A law for each return of the functions that judge an image, its rules and a check. Assumes nothing.
use Rattle.std.specs.Prelude.{◌≡◌, true, not, cond, List, ℕ, ◌+◌, ◌*◌, ◌≤◌, ◌<◌, ltb, length, Result, Some, None}
use Rattle.std.specs.Result.{IsErrAnd}
use Rattle.std.proofs.Common.{refl, sym, ap, ◌∙◌}
use Rattle.std.proofs.lemmas.Result.{err_from_is_err_and}
use native.Mathlib.Omega.{arith}
use borrow.Author.Tests.{ne_eqb, lt-ltb, le-ltb, ltb-true, ltb-false, le-leb, lt-leb}
use Rattle.paper.specs.Limits.{max_marks, book_header, rule_size, bad_rule, bad_condition, loop_found, clash, no_such_stage, order_room}
use Rattle.paper.specs.Answers.{answer, granted, refusal}
use Rattle.paper.specs.Refusals.{answer_of, answered}
use Rattle.paper.specs.declared.Answer.{Answer}
use Rattle.paper.specs.declared.Refusal.{Refusal}
use Rattle.paper.specs.declared.Refusal.TheVariants.{ChartShort, ChartCount, ChartLength, BadNode, ParentsLoop, GroupFlags, ManyEvents, BadRelation, Unfit, BookRoom, BookShort, BookCount, BookLength, BadRule, BadCondition, Loop, Clash, OrderUnfit, MarkAbove, NoSuchStage, StageClosed, OrderRoom, NotDerived, IndexUnfit, IndexRoom, MendRoom, LongList}
use Rattle.general.specs.Cases.{cases}
use Rattle.general.specs.Below.{first-is, found}
use Rattle.order_theory.specs.Order.{counted_rules, NoLoop}
use Rattle.book.specs.Image.{stages_in, rules_in, condition_place, word_place, book_of}
use Rattle.book.specs.Read.{rules-count}
use Rattle.book.specs.Judging.{counts_of, counts_fit, layout_fits, first_bad_rule, condition_fits, first_bad_condition, body_answer, image_answer}
use Rattle.book.specs.WellFormed.{WellFormed, granted-well, counts-says, layout-says}
use Rattle.book.specs.WellRead.{Opened}
use Rattle.book.specs.declared.Counts.{Counts}
use Rattle.texts.specs.Noted.{Named, NamedIn, named_in}
use Rattle.rule_order.specs.Nets.{rules_of}
use Rattle.ordering.specs.Scanning.{ordered_room}
use Rattle.loop_search.specs.Places.{loop_place}
use Rattle.clashes.specs.Pairs.{clash_first, clash_second}
use Rattle.judge.specs.Head.{head_answer, head-refused, passed-body, told, Begun}
use Rattle.judge.specs.Checking.{rules_answer, book_answer, stage_answer, checking, checked_room, PassesWith, marks-many, acyclic-at, book-answer, passes-granted, refused-room}
use Rattle.judge.proofs.Checking.{book-passes, granted-room}

-- what is refused has a code
pub some-code : (r : Refusal) → (answer_of r).code ≡ 0 → ⊥
some-code ChartShort e = omega arith
some-code ChartCount e = omega arith
some-code ChartLength e = omega arith
some-code (BadNode p) e = omega arith
some-code (ParentsLoop p) e = omega arith
some-code (GroupFlags p) e = omega arith
some-code (ManyEvents p) e = omega arith
some-code (BadRelation p) e = omega arith
some-code Unfit e = omega arith
some-code (BookRoom p) e = omega arith
some-code BookShort e = omega arith
some-code BookCount e = omega arith
some-code BookLength e = omega arith
some-code (BadRule p) e = omega arith
some-code (BadCondition p) e = omega arith
some-code (Loop p) e = omega arith
some-code (Clash p q) e = omega arith
some-code OrderUnfit e = omega arith
some-code MarkAbove e = omega arith
some-code NoSuchStage e = omega arith
some-code StageClosed e = omega arith
some-code (OrderRoom p) e = omega arith
some-code NotDerived e = omega arith
some-code IndexUnfit e = omega arith
some-code (IndexRoom p) e = omega arith
some-code (MendRoom p q) e = omega arith
some-code (LongList p) e = omega arith

-- what a `?` hands on is told as it was
pub thrown : {A : Type 0} (r : Result A Refusal) (e : Refusal) → IsErrAnd r (λ x. x ≡ e) → (a : Answer) → answer_of e ≡ a → told r ≡ a
thrown r e h a f = let p = err_from_is_err_and r h in rw (p.1, p.2) f

pub thrown_on : (r : Result (Unit {0}) Refusal) (e : Refusal) → IsErrAnd r (λ x. x ≡ e) → (a : Answer) → answer_of e ≡ a → answered r ≡ a
thrown_on r e h a f = let p = err_from_is_err_and r h in rw (p.1, p.2) f

-- ---- 20 to 22: behind the three tests

pub begun : (s : List ℕ) (h : Counts) → book_header ≤ length s → counts_fit h ≡ true → layout_fits s h ≡ true → h ≡ counts_of s → Begun s h
begun s h l f g c =
    record {
      headed = record { long = l; counted = counts-says (counts_of s) (rw c at f); laid_out = layout-says s (counts_of s) (rw c at g) };
      counts = c;
    }

-- ---- 23 and 24

module _ (s : List ℕ) (h : Counts) (b : Begun s h) where
  -- the bytes that are read lie in the image
  pub rules-inside : book_header + rule_size * h.rules ≤ length s
  rules-inside = rw b.counts (let e = b.headed.laid_out.whole in omega arith)

  pub words_inside : word_place h.rules h.conditions h.words ≤ length s
  words_inside = rw b.counts (let e = b.headed.laid_out.whole in omega arith)

  body : image_answer s ≡ body_answer s h
  body = rw b.counts (passed-body s b.headed)

  module _ (r : ℕ) (p : r ≡ first_bad_rule s h) where
    pub bad-rule : r < h.rules → answer bad_rule r 0 ≡ image_answer s
    unfolding body_answer
    bad-rule l = sym (body ∙ rw (← p, lt-ltb r h.rules l))

    module _ (i : h.rules ≤ r) (c : ℕ) (q : c ≡ first_bad_condition s h) where
      pub bad-condition : c < h.conditions → answer bad_condition c 0 ≡ image_answer s
      unfolding body_answer
      bad-condition l = sym (body ∙ rw (← p, le-ltb r h.rules i, ← q, lt-ltb c h.conditions l))

      pub none-bad : h.conditions ≤ c → granted ≡ image_answer s
      unfolding body_answer
      none-bad l = sym (body ∙ rw (← p, le-ltb r h.rules i, ← q, le-ltb c h.conditions l))

      pub all-named : (after : List ℕ) → h.conditions ≤ c → (c ≡ h.conditions → Named s h.rules h.conditions h.conditions after) → NamedIn s after
      unfolding first_bad_condition
      all-named after l n =
          let f = (first-is h.conditions (λ x. not (condition_fits h.marks h.words (condition_place h.rules h.conditions) s (condition_place h.rules x)))).fits in
          named_in s after (granted-well s granted (none-bad l) refl) (rw b.counts at (n (omega arith)))

-- ---- 25 and 26

found-so : (k n m : ℕ) → Some m ≡ found k n → (m ≡ n) × (n < k)
found-so k n m e =
    cases (ltb n k) (λ x. let z : Some m ≡ Some n = rw x at e in (cc, ltb-true n k x))
    (λ x. let z : Some m ≡ None = rw x at e in absurd (cc))

found-not : (k n : ℕ) → None ≡ found k n → k ≤ n
found-not k n e = cases (ltb n k) (λ x. let z : None ≡ Some n = rw x at e in absurd (cc)) (λ x. ltb-false n k x)

module _ (s : List ℕ) (h : Counts) (o : Opened s h) where
  module _ (m : ℕ) (p : Some m ≡ found (book_of s).marks (loop_place (book_of s))) where
    pub place-small : m ≤ max_marks
    place-small =
        let (e, l) = found-so (book_of s).marks (loop_place (book_of s)) m p in
        let k = o.formed.headed.counted.marks in omega (arith, marks-many s)

    pub rules-loop : answer loop_found m 0 ≡ rules_answer (book_of s)
    unfolding rules_answer
    rules-loop =
        let (e, l) = found-so (book_of s).marks (loop_place (book_of s)) m p in
        rw (e, lt-ltb (loop_place (book_of s)) (book_of s).marks l)

  module _ (p : None ≡ found (book_of s).marks (loop_place (book_of s))) (x y : ℕ) (first : x ≡ clash_first (book_of s)) (second : y ≡ clash_second (book_of s) x) where
    none-loops : rules_answer (book_of s) ≡ cond (ltb x h.rules) (answer clash x y) granted
    unfolding rules_answer
    none-loops =
        let z : length (book_of s).rules ≡ h.rules = rules-count s ∙ sym (ap (λ (c : Counts). c.rules) o.counts) in
        rw (le-ltb (loop_place (book_of s)) (book_of s).marks (found-not (book_of s).marks (loop_place (book_of s)) p), z, ← first, ← second)

    pub rules-clash : x < h.rules → answer clash x y ≡ rules_answer (book_of s)
    rules-clash k = sym (none-loops ∙ rw (lt-ltb x h.rules k))

    pub rules-pass : h.rules ≤ x → granted ≡ rules_answer (book_of s)
    rules-pass k = sym (none-loops ∙ rw (le-ltb x h.rules k))

-- ---- 20 to 26

module _ (s : List ℕ) where
  pub image-refused : (r : Refusal) → answer_of r ≡ image_answer s → answer_of r ≡ book_answer s
  unfolding book_answer
  image-refused r e = rw (← e, ne_eqb (answer_of r).code 0 (some-code r))

  pub head-stops : (r : Refusal) → answer_of r ≡ head_answer s → answer_of r ≡ book_answer s
  head-stops r e = image-refused r (head-refused s (answer_of r) e (some-code r))

  module _ (e : granted ≡ image_answer s) where
    pub book-judged : (a : Answer) → a ≡ rules_answer (book_of s) → a ≡ book_answer s
    book-judged a f = f ∙ sym (book-answer s (granted-well s granted e refl))

    pub book-opened : (h : Counts) → Begun s h → Opened s h
    book-opened h b = record { formed = granted-well s granted e refl; counts = b.counts }

  pub passing : (h : Counts) → Begun s h → granted ≡ book_answer s → PassesWith s h
  passing h b e = record { passes = book-passes s (sym (ap (λ (x : Answer). x.code) e)); counts = b.counts }

-- ---- the check

module _ (s : List ℕ) (stage : ℕ) (room : List ℕ) where
  module _ (r : Refusal) where
    pub untouched : answer_of r ≡ checking s stage (length room) → room ≡ checked_room s stage room
    untouched e = sym (refused-room s stage room (λ z. some-code r (ap (λ (x : Answer). x.code) e ∙ z)))

    pub book-stops : answer_of r ≡ book_answer s → answer_of r ≡ checking s stage (length room)
    unfolding checking
    book-stops e = rw (← e, ne_eqb (answer_of r).code 0 (some-code r))

  module _ (h : Counts) (p : PassesWith s h) where
    then : checking s stage (length room) ≡ stage_answer s stage (length room)
    unfolding checking
    then = rw (passes-granted s p.passes)

    pub check-nowhere : h.stages ≤ stage → refusal no_such_stage ≡ checking s stage (length room)
    unfolding stage_answer
    check-nowhere l = sym (then ∙ rw (le-ltb stage (stages_in s) (rw p.counts at l)))

    module _ (known : stage < h.stages) where
      -- what the running order asks for
      pub orders : (WellFormed s) × (h.rules ≡ rules_in s) × (NoLoop (rules_of s stage))
      orders = (p.passes.formed, ap (λ (x : Counts). x.rules) p.counts, acyclic-at s stage p.passes.acyclic (rw p.counts at known))

      module _ (counted : ℕ) (many : counted ≡ counted_rules (rules_of s stage)) where
        pub check-room : length room < counted → answer order_room counted 0 ≡ checking s stage (length room)
        unfolding stage_answer
        check-room l = sym (then ∙ rw (lt-ltb stage (stages_in s) (rw p.counts at known), ← many, lt-ltb (length room) counted l))

        pub check-granted : counted ≤ length room → granted ≡ checking s stage (length room)
        unfolding stage_answer
        check-granted l = sym (then ∙ rw (lt-ltb stage (stages_in s) (rw p.counts at known), ← many, le-ltb (length room) counted l))

        module _ (exit : List ℕ) (w : exit ≡ ordered_room (rules_of s stage) room) where
          pub room-kept : length room < counted → exit ≡ checked_room s stage room
          unfolding ordered_room
          room-kept l =
              w ∙ rw (lt-leb (counted_rules (rules_of s stage)) (length room) (rw (← many) l))
              (untouched (OrderRoom counted) (check-room l))

          pub room-ordered : counted ≤ length room → exit ≡ checked_room s stage room
          unfolding ordered_room
          room-ordered l =
              w ∙ rw (le-leb (counted_rules (rules_of s stage)) (length room) (rw (← many) l))
              (sym (granted-room s stage room (ap (λ (v : Answer). v.code) (sym (check-granted l)))).0)
