-- The check's answer and the room that it leaves, in the paper's order of refusals, and that they are exactly what the paper's table says. Assumes nothing.
use Rattle.std.specs.Prelude.{◌≡◌, cond, List, ◌++◌, ℕ, ◌≤◌, ◌<◌, eqb, ltb, length, drop}
use Rattle.std.proofs.Math.Path.{refl}
use Rattle.std.proofs.Common.{◌∙◌}
use native.Mathlib.Omega.{arith}
use borrow.Author.Tests.{eqb-true, ne_eqb, ltb-true, ltb-false, lt-ltb, le-ltb}
use Rattle.paper.specs.Limits.{loop_found, clash, no_such_stage, order_room}
use Rattle.paper.specs.Answers.{answer, granted, refusal}
use Rattle.paper.specs.declared.Answer.{Answer}
use Rattle.general.specs.Cases.{cases, coincide}
use Rattle.order_theory.specs.Order.{Counted, counted_rules, Fit, OnLoop, NoLoop}
use Rattle.order_theory.specs.Running.{running_order}
use Rattle.order_theory.proofs.Running.{running-fit}
use Rattle.book.specs.Book.{Book, rule_of}
use Rattle.book.specs.Image.{stages_in, marks_in, book_of}
use Rattle.book.specs.Read.{rules-count}
use Rattle.book.specs.Judging.{counts_of, image_answer}
use Rattle.book.specs.declared.Counts.{Counts}
use Rattle.book.specs.WellFormed.{WellFormed, Judged, judged-is, well-granted}
use Rattle.book.specs.WellRead.{rule-exists}
use Rattle.rule_order.specs.Rules.{net_of}
use Rattle.rule_order.specs.Nets.{rules_of}
use Rattle.clashes.specs.Clash.{NoClash, Clashes}
use Rattle.clashes.specs.Pairs.{clash_first, clash_second, LowestClash, clash-found, no-clash}
use Rattle.loop_search.specs.Places.{loop_place, loop-place}

-- ---- the answer

-- 25 and 26, of a well-formed book: no stage is asked for
unfoldable pub rules_answer : Book → Answer
rules_answer b =
    cond (ltb (loop_place b) b.marks) (answer loop_found (loop_place b) 0)
    (cond (ltb (clash_first b) (length b.rules)) (answer clash (clash_first b) (clash_second b (clash_first b))) granted)

-- 20 to 26
unfoldable pub book_answer : List ℕ → Answer
book_answer s = cond (eqb (image_answer s).code 0) (rules_answer (book_of s)) (image_answer s)

-- 29 and 31, of a stage and a room for so many numbers
unfoldable pub stage_answer : List ℕ → ℕ → ℕ → Answer
stage_answer s stage room =
    cond (ltb stage (stages_in s)) (cond (ltb room (counted_rules (rules_of s stage))) (answer order_room (counted_rules (rules_of s stage)) 0) granted) (refusal no_such_stage)

-- "29 also from the check, after 26 and before 31"; "31 is against that stage's count and names it"
unfoldable pub checking : List ℕ → ℕ → ℕ → Answer
checking s stage room = cond (eqb (book_answer s).code 0) (stage_answer s stage room) (book_answer s)

-- "The check is asked for a stage and writes that stage's order", by request (xiv) 32 bits a rule; "Room past what is written stays as it was"; a refusal writes nothing
unfoldable pub checked_room : List ℕ → ℕ → List ℕ → List ℕ
checked_room s stage room = cond (eqb (checking s stage (length room)).code 0) (running_order (rules_of s stage) ++ drop (counted_rules (rules_of s stage)) room) room

-- ---- the rows of the paper's table

-- "A loop is a loop among the rules counted for some stage": no stage of the book has one
abbrev pub Acyclic : Book → Type 0
Acyclic b = (t : ℕ) → t < b.stages → NoLoop (net_of b t)

-- "25 names the lowest mark over all stages": m is targeted by a rule on a loop of some stage, and nothing lower is for any
pub record LowestLoop (b : Book) (m : ℕ) : Type 0 where
  pub on : (t : ℕ) × (t < b.stages) × OnLoop (net_of b t) m
  pub lowest : (x t : ℕ) → x < m → t < b.stages → OnLoop (net_of b t) x → ⊥

-- two rules that set and clear one mark and are not apart, whichever count for a stage
abbrev pub Clashing : Book → Type 0
Clashing b = (p : ℕ) × (q : ℕ) × (p < q) × (q < length b.rules) × Clashes (rule_of b p) (rule_of b q)

-- nothing from 20 to 26 holds
pub record BookPasses (s : List ℕ) : Type 0 where
  pub formed : WellFormed s
  pub acyclic : Acyclic (book_of s)
  pub calm : NoClash (book_of s)

-- the book passes, and these are its counts
pub record PassesWith (s : List ℕ) (h : Counts) : Type 0 where
  pub passes : BookPasses s
  pub counts : h ≡ counts_of s

pub data Checked (s : List ℕ) (stage room : ℕ) : Answer → Type 0 where
  refused : (a : Answer) → Judged s a → (a.code ≡ 0 → ⊥) → Checked s stage room a
  looped : WellFormed s → (m : ℕ) → LowestLoop (book_of s) m → Checked s stage room (answer loop_found m 0)
  clashed : WellFormed s → Acyclic (book_of s) → (p q : ℕ) → LowestClash (book_of s) p q → Checked s stage room (answer clash p q)
  nowhere : BookPasses s → stages_in s ≤ stage → Checked s stage room (refusal no_such_stage)
  narrow : BookPasses s → stage < stages_in s → room < counted_rules (rules_of s stage) → Checked s stage room (answer order_room (counted_rules (rules_of s stage)) 0)
  passed : BookPasses s → stage < stages_in s → counted_rules (rules_of s stage) ≤ room → Checked s stage room granted

-- 0: the book is well formed, has no loop for any stage and no clash, the stage is one of its own, and the room holds that stage's order
pub record CheckPasses (s : List ℕ) (stage room : ℕ) : Type 0 where
  pub formed : WellFormed s
  pub acyclic : Acyclic (book_of s)
  pub calm : NoClash (book_of s)
  pub known : stage < stages_in s
  pub wide : counted_rules (rules_of s stage) ≤ room

module _ (s : List ℕ) where
  pub marks-many : (book_of s).marks ≡ marks_in s
  unfolding book_of
  marks-many = refl

  pub stages-many : (book_of s).stages ≡ stages_in s
  unfolding book_of
  stages-many = refl

  pub acyclic-at : (stage : ℕ) → Acyclic (book_of s) → stage < stages_in s → NoLoop (rules_of s stage)
  acyclic-at stage n h = n stage (rw stages-many h)

  module _ (w : WellFormed s) where
    pub targets : (r : ℕ) → r < length (book_of s).rules → (rule_of (book_of s) r).target < (book_of s).marks
    targets r h = rw marks-many (rule-exists s w r (rw (rules-count s) at h)).target

    pub targets-in : (stage r : ℕ) → Counted (rules_of s stage) r → (rules_of s stage).target r < (book_of s).marks
    unfolding net_of
    targets-in stage r c = targets r c.0

    -- the running order is a fit order where there is no loop
    pub order-fit : (stage : ℕ) → NoLoop (rules_of s stage) → Fit (rules_of s stage) (running_order (rules_of s stage))
    order-fit stage = running-fit (rules_of s stage) (book_of s).marks (targets-in stage)

    loop-is : (m : ℕ) → LowestLoop (book_of s) m → (loop_place (book_of s) ≡ m) × (m < (book_of s).marks)
    loop-is m l =
        let t = loop-place (book_of s) targets in
        let (u, i, o) = l.on in
        let b : m < (book_of s).marks = rw o.2 at (targets-in u o.0 o.1) in
        let h : loop_place (book_of s) ≤ m = cases (ltb m (loop_place (book_of s))) (λ e. absurd (t.0.1 m u (ltb-true m (loop_place (book_of s)) e) i o)) (λ e. ltb-false m (loop_place (book_of s)) e) in
        let k : loop_place (book_of s) < (book_of s).marks = omega arith in
        let (v, j, c) = t.0.0 k in
        let z : m ≤ loop_place (book_of s) =
        cases (ltb (loop_place (book_of s)) m) (λ e. absurd (l.lowest (loop_place (book_of s)) v (ltb-true (loop_place (book_of s)) m e) j c)) (λ e. ltb-false (loop_place (book_of s)) m e) in
        (omega arith, b)

    pub book-answer : book_answer s ≡ rules_answer (book_of s)
    unfolding book_answer
    book-answer = rw (← well-granted s w)

    pub answer-looped : (m : ℕ) → LowestLoop (book_of s) m → book_answer s ≡ answer loop_found m 0
    unfolding rules_answer
    answer-looped m l = let (e, h) = loop-is m l in book-answer ∙ rw (e, lt-ltb m (book_of s).marks h)

    module _ (n : Acyclic (book_of s)) where
      answer-calm : book_answer s ≡ cond (ltb (clash_first (book_of s)) (length (book_of s).rules)) (answer clash (clash_first (book_of s)) (clash_second (book_of s) (clash_first (book_of s)))) granted
      unfolding rules_answer
      answer-calm = book-answer ∙ rw ((loop-place (book_of s) targets).1.0 n, le-ltb (book_of s).marks (book_of s).marks (omega arith))

      pub answer-clashed : (p q : ℕ) → LowestClash (book_of s) p q → book_answer s ≡ answer clash p q
      answer-clashed p q l =
          let (e, f) = clash-found (book_of s) p q l in
          answer-calm ∙ rw (← e, ← f, lt-ltb p (length (book_of s).rules) (let i = l.rising in let j = l.inside in omega arith))

      answer-passed : NoClash (book_of s) → book_answer s ≡ granted
      answer-passed c = answer-calm ∙ rw ((no-clash (book_of s)).0 c, le-ltb (length (book_of s).rules) (length (book_of s).rules) (omega arith))

  pub answer-refused : (a : Answer) → Judged s a → (a.code ≡ 0 → ⊥) → book_answer s ≡ a
  unfolding book_answer
  answer-refused a j n = rw (← judged-is s a j, ne_eqb a.code 0 n)

  pub passes-granted : BookPasses s → book_answer s ≡ granted
  passes-granted p = answer-passed p.formed p.acyclic p.calm

  module _ (stage room : ℕ) where
    -- 20 to 26 are of the book alone
    pub book-is : (a : Answer) → Checked s stage room a → (a.code ≡ 0 → ⊥) → a.code ≤ clash → book_answer s ≡ a
    book-is a (refused b j n) z l = answer-refused a j n
    book-is a (looped w m o) z l = answer-looped w m o
    book-is a (clashed w n p q o) z l = answer-clashed w n p q o
    book-is a (nowhere p h) z l = absurd (omega arith)
    book-is a (narrow p h i) z l = absurd (omega arith)
    book-is a (passed p h i) z l = absurd (omega arith)

pub passes-book : (s : List ℕ) (stage room : ℕ) → (checking s stage room).code ≡ 0 → (book_answer s).code ≡ 0
unfolding checking
passes-book s stage room e = cases (eqb (book_answer s).code 0) (λ x. eqb-true (book_answer s).code 0 x) (λ x. rw x at e)

-- a refusal writes nothing
pub refused-room : (s : List ℕ) (stage : ℕ) (room : List ℕ) → ((checking s stage (length room)).code ≡ 0 → ⊥) → checked_room s stage room ≡ room
unfolding checked_room
refused-room s stage room n = rw (ne_eqb (checking s stage (length room)).code 0 n)

-- two results that meet the contract coincide
pub check-determined : (s : List ℕ) (stage : ℕ) (room : List ℕ) (a b : Answer) (k l : List ℕ)
    → a ≡ checking s stage (length room) → k ≡ checked_room s stage room → b ≡ checking s stage (length room) → l ≡ checked_room s stage room
    → (a ≡ b) × (k ≡ l)
check-determined s stage room a b k l e f g h = (coincide e g, coincide f h)
