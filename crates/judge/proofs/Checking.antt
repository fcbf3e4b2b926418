-- The check's answer and the room that it leaves, in the paper's order of refusals, and that they are exactly what the paper's table says. Assumes nothing.
use Rattle.std.specs.Prelude.{◌≡◌, ◌↔◌, List, ◌++◌, ℕ, ◌≤◌, ◌<◌, eqb, ltb, length, drop}
use Rattle.std.proofs.Math.Path.{refl, sym, subst}
use Rattle.std.proofs.Common.{ap, ◌∙◌}
use native.Mathlib.Omega.{arith}
use borrow.Author.Tests.{eqb-true, eqb-false, eq-eqb, ne_eqb, ltb-true, ltb-false, lt-ltb, le-ltb}
use Rattle.paper.specs.Limits.{bad_condition, loop_found, clash, no_such_stage, order_room}
use Rattle.paper.specs.Answers.{answer, granted, refusal}
use Rattle.paper.specs.declared.Answer.{Answer}
use Rattle.general.specs.Cases.{contra, cases}
use Rattle.order_theory.specs.Order.{Counted, counted_rules, Fit, Loop}
use Rattle.order_theory.specs.Running.{running_order}
use Rattle.order_theory.proofs.Running.{running-length}
use Rattle.book.specs.Book.{rule_of}
use Rattle.book.specs.Image.{stages_in, book_of}
use Rattle.book.specs.Judging.{image_answer}
use Rattle.book.specs.WellFormed.{WellFormed, Judged, short, count, layout, rule, condition, accepted, judged, granted-well}
use Rattle.rule_order.specs.Nets.{rules_of}
use Rattle.clashes.specs.Clash.{NoClash, clashes-so}
use Rattle.clashes.specs.Pairs.{clash_first, clash_second, LowestClash, clash-fits, lowest-clash, no-clash}
use Rattle.loop_search.specs.Places.{loop_place, loop-fits, loop-place}
use Rattle.judge.specs.Checking.{book_answer, stage_answer, checking, checked_room, Acyclic, LowestLoop, Clashing, BookPasses, Checked, CheckPasses, stages-many, acyclic-at, targets, targets-in, order-fit, answer-looped, answer-clashed, answer-refused, passes-granted, refused, looped, clashed, nowhere, narrow, passed}

module _ (s : List ℕ) where
  module _ (w : WellFormed s) where
    lowest-loop : loop_place (book_of s) < (book_of s).marks → LowestLoop (book_of s) (loop_place (book_of s))
    lowest-loop h = let t = loop-place (book_of s) (targets s w) in record { on = t.0.0 h; lowest = t.0.1 }

  judged-low : (a : Answer) → Judged s a → a.code ≤ bad_condition
  judged-low a (short l) = omega arith
  judged-low a (count l n) = omega arith
  judged-low a (layout l c n) = omega arith
  judged-low a (rule g r h n l) = omega arith
  judged-low a (condition g rs c h n l) = omega arith
  judged-low a (accepted w) = omega arith

  module _ (stage room : ℕ) where
    then : BookPasses s → checking s stage room ≡ stage_answer s stage room
    unfolding checking
    then p = rw (passes-granted s p)

    -- at most one row holds
    pub checked-is : (a : Answer) → Checked s stage room a → a ≡ checking s stage room
    unfolding checking stage_answer
    checked-is a (refused b j n) = rw (answer-refused s a j n, ne_eqb a.code 0 n)
    checked-is a (looped w m l) = rw (answer-looped s w m l)
    checked-is a (clashed w n p q l) = rw (answer-clashed s w n p q l)
    checked-is a (nowhere p h) = sym (then p ∙ rw (le-ltb stage (stages_in s) h))
    checked-is a (narrow p h l) = sym (then p ∙ rw (lt-ltb stage (stages_in s) h, lt-ltb room (counted_rules (rules_of s stage)) l))
    checked-is a (passed p h l) = sym (then p ∙ rw (lt-ltb stage (stages_in s) h, le-ltb room (counted_rules (rules_of s stage)) l))

    -- some row holds
    row-passing : BookPasses s → (a : Answer) × Checked s stage room a
    row-passing p =
        cases (ltb stage (stages_in s))
        (λ e. let h = ltb-true stage (stages_in s) e in
        cases (ltb room (counted_rules (rules_of s stage)))
        (λ g. (answer order_room (counted_rules (rules_of s stage)) 0, narrow p h (ltb-true room (counted_rules (rules_of s stage)) g)))
        (λ g. (granted, passed p h (ltb-false room (counted_rules (rules_of s stage)) g))))
        (λ e. (refusal no_such_stage, nowhere p (ltb-false stage (stages_in s) e)))

    row-clashed : WellFormed s → Acyclic (book_of s) → clash_first (book_of s) < length (book_of s).rules
        → Checked s stage room (answer clash (clash_first (book_of s)) (clash_second (book_of s) (clash_first (book_of s))))
    row-clashed w n h = clashed w n (clash_first (book_of s)) (clash_second (book_of s) (clash_first (book_of s))) (lowest-clash (book_of s) h)

    row-formed : WellFormed s → (a : Answer) × Checked s stage room a
    row-formed w =
        cases (ltb (loop_place (book_of s)) (book_of s).marks)
        (λ e. (answer loop_found (loop_place (book_of s)) 0, looped w (loop_place (book_of s)) (lowest-loop w (ltb-true (loop_place (book_of s)) (book_of s).marks e))))
        (λ e. let t = loop-place (book_of s) (targets s w) in
        let i = loop-fits (book_of s) in
        let n : Acyclic (book_of s) = t.1.1 (omega (arith, ltb-false (loop_place (book_of s)) (book_of s).marks e)) in
        cases (ltb (clash_first (book_of s)) (length (book_of s).rules))
        (λ f. (answer clash (clash_first (book_of s)) (clash_second (book_of s) (clash_first (book_of s))), row-clashed w n (ltb-true (clash_first (book_of s)) (length (book_of s).rules) f)))
        (λ f. let j = clash-fits (book_of s) in
        let c : NoClash (book_of s) = (no-clash (book_of s)).1 (omega (arith, ltb-false (clash_first (book_of s)) (length (book_of s).rules) f)) in
        row-passing (record { formed = w; acyclic = n; calm = c })))

    row : (a : Answer) × Checked s stage room a
    row =
        cases (eqb (image_answer s).code 0) (λ e. row-formed (granted-well s (image_answer s) refl (eqb-true (image_answer s).code 0 e)))
        (λ e. (image_answer s, refused (image_answer s) (judged s) (eqb-false (image_answer s).code 0 e)))

    -- the answer's row holds: with `checked-is`, every answer of the check is given exactly as the table says
    pub checked : Checked s stage room (checking s stage room)
    checked = let t = row in subst (λ (a : Answer). Checked s stage room a) (checked-is t.0 t.1) t.1

    -- ---- what each code says

    code_of : (a : Answer) → Checked s stage room a → (checking s stage room).code ≡ a.code
    code_of a c = ap (λ (x : Answer). x.code) (sym (checked-is a c))

    pub is-book : ((book_answer s).code ≡ 0 → ⊥) → Checked s stage room (book_answer s) × ((book_answer s).code ≤ clash)
    unfolding checking
    is-book n =
        let z : checking s stage room ≡ book_answer s = rw (ne_eqb (book_answer s).code 0 n) in
        let c = subst (λ (a : Answer). Checked s stage room a) z checked in
        (c, go (book_answer s) c n (λ p. n (ap (λ (a : Answer). a.code) (passes-granted s p))))
      where
        go : (a : Answer) → Checked s stage room a → (a.code ≡ 0 → ⊥) → (BookPasses s → ⊥) → a.code ≤ clash
        go a (refused b j n) z m = omega (arith, judged-low a j)
        go a (looped w m o) z x = omega arith
        go a (clashed w n p q o) z x = omega arith
        go a (nowhere p h) z x = absurd (x p)
        go a (narrow p h i) z x = absurd (x p)
        go a (passed p h i) z x = absurd (x p)

    -- 25, and its place is the lowest mark targeted by a rule on a loop, over all stages
    pub loop-named : (checking s stage room).code ≡ loop_found → LowestLoop (book_of s) (checking s stage room).place
    loop-named = go (checking s stage room) checked
      where
        go : (a : Answer) → Checked s stage room a → a.code ≡ loop_found → LowestLoop (book_of s) a.place
        go a (refused b j n) e = absurd (omega (arith, judged-low a j))
        go a (looped w m l) e = l
        go a (clashed w n p q l) e = absurd (omega arith)
        go a (nowhere p h) e = absurd (omega arith)
        go a (narrow p h l) e = absurd (omega arith)
        go a (passed p h l) e = absurd (omega arith)

    -- 26, and its places are the lowest pair
    pub clash-named : (checking s stage room).code ≡ clash → Acyclic (book_of s) × LowestClash (book_of s) (checking s stage room).place (checking s stage room).other
    clash-named = go (checking s stage room) checked
      where
        go : (a : Answer) → Checked s stage room a → a.code ≡ clash → Acyclic (book_of s) × LowestClash (book_of s) a.place a.other
        go a (refused b j n) e = absurd (omega (arith, judged-low a j))
        go a (looped w m l) e = absurd (omega arith)
        go a (clashed w n p q l) e = (n, l)
        go a (nowhere p h) e = absurd (omega arith)
        go a (narrow p h l) e = absurd (omega arith)
        go a (passed p h l) e = absurd (omega arith)

    pub passed_is : (checking s stage room).code ≡ 0 → CheckPasses s stage room
    passed_is = go (checking s stage room) checked
      where
        go : (a : Answer) → Checked s stage room a → a.code ≡ 0 → CheckPasses s stage room
        go a (refused b j n) e = absurd (n e)
        go a (looped w m l) e = absurd (omega arith)
        go a (clashed w n p q l) e = absurd (omega arith)
        go a (nowhere p h) e = absurd (omega arith)
        go a (narrow p h l) e = absurd (omega arith)
        go a (passed p h l) e = record { formed = p.formed; acyclic = p.acyclic; calm = p.calm; known = h; wide = l }

    -- nothing else is refused
    pub is-passed : CheckPasses s stage room → checking s stage room ≡ granted
    is-passed p = sym (checked-is granted (passed (record { formed = p.formed; acyclic = p.acyclic; calm = p.calm }) p.known p.wide))

    -- ---- on a well-formed book

    module _ (w : WellFormed s) where
      -- 25 exactly if some stage of the book has a loop, whichever is asked for
      pub loop-exactly : ((t : ℕ) × (t < stages_in s) × (r : ℕ) × Counted (rules_of s t) r × Loop (rules_of s t) r) ↔ ((checking s stage room).code ≡ loop_found)
      loop-exactly =
          let p = loop-place (book_of s) (targets s w) in (
            λ l. cases (ltb (loop_place (book_of s)) (book_of s).marks)
                (λ e. code_of (answer loop_found (loop_place (book_of s)) 0) (looped w (loop_place (book_of s)) (lowest-loop w (ltb-true (loop_place (book_of s)) (book_of s).marks e))))
                (λ e. let i = loop-fits (book_of s) in
                let n : Acyclic (book_of s) = p.1.1 (omega (arith, ltb-false (loop_place (book_of s)) (book_of s).marks e)) in
                absurd (acyclic-at s l.0 n l.1 l.2 l.3 l.4)),
            λ e. let (t, h, o) = (loop-named e).on in (t, rw (stages-many s) at h, o.0, o.1, o.3),
          )

      -- 26 exactly if there is no loop and two opposed rules are not apart
      pub clash-exactly : (Acyclic (book_of s) × Clashing (book_of s)) ↔ ((checking s stage room).code ≡ clash)
      clash-exactly = (
        λ l. let (p, q, i, j, c) = l.1 in
            cases (ltb (clash_first (book_of s)) (length (book_of s).rules))
            (λ e. code_of (answer clash (clash_first (book_of s)) (clash_second (book_of s) (clash_first (book_of s))))
            (row-clashed w l.0 (ltb-true (clash_first (book_of s)) (length (book_of s).rules) e)))
            (λ e. let f = clash-fits (book_of s) in
            let none : NoClash (book_of s) = (no-clash (book_of s)).1 (omega (arith, ltb-false (clash_first (book_of s)) (length (book_of s).rules) e)) in
            contra ((clashes-so (rule_of (book_of s) p) (rule_of (book_of s) q)).1 c) (none p q i j)),
        λ e. let (n, l) = clash-named e in (n, ((checking s stage room).place, (checking s stage room).other, l.rising, l.inside, l.clashes)),
      )

-- 20 to 26 are ruled out exactly if the book passes; the check is granted only then
pub book-passes : (s : List ℕ) → (book_answer s).code ≡ 0 → BookPasses s
book-passes s e = go (checking s 0 0) (checked s 0 0)
  where
    zero-code : (a : Answer) → book_answer s ≡ a → a.code ≡ 0
    zero-code a z = ap (λ (x : Answer). x.code) (sym z) ∙ e

    go : (a : Answer) → Checked s 0 0 a → BookPasses s
    go a (refused b j n) = absurd (n (zero-code a (answer-refused s a j n)))
    go a (looped w m l) = absurd (omega (arith, zero-code a (answer-looped s w m l)))
    go a (clashed w n p q l) = absurd (omega (arith, zero-code a (answer-clashed s w n p q l)))
    go a (nowhere p h) = p
    go a (narrow p h l) = p
    go a (passed p h l) = p

-- what a granted check leaves in the room: a fit order of the stage, and behind it the room as it was
pub granted-room : (s : List ℕ) (stage : ℕ) (room : List ℕ) → (checking s stage (length room)).code ≡ 0
    → (checked_room s stage room ≡ running_order (rules_of s stage) ++ drop (counted_rules (rules_of s stage)) room) × Fit (rules_of s stage) (running_order (rules_of s stage))
    × (length (running_order (rules_of s stage)) ≡ counted_rules (rules_of s stage))
unfolding checked_room
granted-room s stage room e =
    let p = passed_is s stage (length room) e in
    let n = acyclic-at s stage p.acyclic p.known in
    (rw (eq-eqb (checking s stage (length room)).code 0 e), order-fit s p.formed stage n, running-length (rules_of s stage) (book_of s).marks (targets-in s p.formed stage) n)
