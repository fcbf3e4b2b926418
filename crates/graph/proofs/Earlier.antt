-- Laws of earlier proofs, which stood in specs/: nothing cites them now, and they stand. Assumes nothing.
use Rattle.std.specs.Prelude.{ℕ, ◌≤◌, ◌<◌, ◌≡◌, Bool, not, ◌&&◌, eqb}
use Rattle.std.proofs.Common.{sym, ◌∙◌, arith}
use Rattle.std.proofs.Math.Bool.{true, false}
use borrow.Author.Tests.{not-true, not-false, eq-eqb, ne_eqb, le-leb, lt-leb}
use Rattle.paper.specs.Limits.{max_events, no_such_event, not_included, not_permitted, condition_wanting, milestone_wanting, unfit}
use Rattle.paper.specs.Answers.{answer, granted, refusal}
use Rattle.paper.specs.declared.Answer.{Answer}
use Rattle.sets.specs.Set.{has, union, inter, minus, only, lowest, size}
use Rattle.flat_chart.specs.Chart.{row_of}
use Rattle.flat_chart.specs.Roles.{permits}
use Rattle.graph.specs.Fitness.{fit, fit-both}
use Rattle.flat_chart.specs.Flat.{FlatChart, Row}
use Rattle.graph.specs.Flat.{Marking, Blocking, OpenTest, Step}
use Rattle.graph.specs.Steps.{unmet_of, awaited_of, blocking_of, free_with, shut, blocked, testing, opening, after_with, refusing, handed_on, stepping, stepping_by, executing, open_set, counting, finishing}

pub free-sets : (m : Marking) (conditions milestones : ℕ) (by : Blocking) (u w : Bool) → by ≡ blocking_of m conditions milestones → u ≡ eqb by.conditions 0 → w ≡ eqb by.milestones 0
    → (u && w) ≡ free_with m conditions milestones
unfolding free_with
free-sets m conditions milestones by u w p q r = rw (q, r, p)

pub after-made : (m : Marking) (e responses includes excludes : ℕ) {b p i x y z : ℕ} → b ≡ only e → x ≡ union m.executed b → p ≡ minus m.pending b → y ≡ union p responses
    → i ≡ minus m.included excludes → z ≡ union i includes → record { executed = x; pending = y; included = z } ≡ after_with m e responses includes excludes
unfolding after_with
after-made m e responses includes excludes h x p y i z = rw (x, y, z, i, p, h)

-- ---- what a fit chart and marking give

module _ (c : FlatChart) (m : Marking) (r : Bool) (p : r ≡ fit c m) (q : not r ≡ false) where
  ok : fit c m ≡ true
  ok = sym p ∙ not-false r q

  pub fit-few : c.count ≤ max_events
  fit-few = (fit-both c m ok).0.few

  pub fit-index : (e : ℕ) → e < c.count → e < max_events
  fit-index e h = let l : c.count ≤ max_events = fit-few in omega arith

-- ---- the cases, in the form in which the code meets them

pub step-unfit : (c : FlatChart) (m : Marking) (e r : ℕ) (f : Bool) (s : Step) → f ≡ fit c m → not f ≡ true → s ≡ refusing unfit 0 m → s ≡ executing c m e r
unfolding executing
step-unfit c m e r f s p q h = h ∙ rw (← p, not-true f q)

module _ (c : FlatChart) (m : Marking) (e r : ℕ) (f : Bool) (p : f ≡ fit c m) (q : not f ≡ false) where
  pub step_gone : (s : Step) → c.count ≤ e → s ≡ refusing no_such_event 0 m → s ≡ executing c m e r
  unfolding executing
  step_gone s h z = z ∙ rw (ok c m f p q, le-leb c.count e h)

  pub step-taken : (s : Step) (row : Row) → e < c.count → row ≡ row_of c e → s ≡ stepping_by m e row r → s ≡ executing c m e r
  unfolding executing
  step-taken s row h l z = z ∙ rw (l, ok c m f p q, lt-leb c.count e h)

pub step-forbidden : (m : Marking) (e : ℕ) (row : Row) (r : ℕ) (o : Bool) (s : Step) → o ≡ permits row.roles r → not o ≡ true → s ≡ refusing not_permitted 0 m → s ≡ stepping_by m e row r
unfolding stepping_by
step-forbidden m e row r o s p q z = z ∙ rw (← p, not-true o q)

module _ (m : Marking) (e : ℕ) (row : Row) (r : ℕ) (o : Bool) (po : o ≡ permits row.roles r) (qo : not o ≡ false) (t : OpenTest) (pt : t ≡ testing m e row) where
  pub step-held : (t.answer.code ≡ 0 → ⊥) → (s : Step) → s ≡ handed_on t m → s ≡ stepping_by m e row r
  unfolding stepping_by stepping
  step-held n s z = z ∙ rw (← po, not-false o qo, ← pt, ne_eqb _ 0 n)

  pub step-done : t.answer.code ≡ 0 → (n : Marking) (s : Step) → n ≡ after_with m e row.responses row.includes row.excludes → s ≡ handed_on t n → s ≡ stepping_by m e row r
  unfolding stepping_by stepping
  step-done h n s p z = z ∙ rw (← po, not-false o qo, ← pt, eq-eqb _ 0 h, p)

pub test-unfit : (c : FlatChart) (m : Marking) (e : ℕ) (f : Bool) (t : OpenTest) → f ≡ fit c m → not f ≡ true → t ≡ shut unfit → t ≡ opening c m e
unfolding opening
test-unfit c m e f t p q h = h ∙ rw (← p, not-true f q)

module _ (c : FlatChart) (m : Marking) (e : ℕ) (f : Bool) (p : f ≡ fit c m) (q : not f ≡ false) where
  pub test-gone : (t : OpenTest) → c.count ≤ e → t ≡ shut no_such_event → t ≡ opening c m e
  unfolding opening
  test-gone t h z = z ∙ rw (ok c m f p q, le-leb c.count e h)

  pub test-taken : (t : OpenTest) (row : Row) → e < c.count → row ≡ row_of c e → t ≡ testing m e row → t ≡ opening c m e
  unfolding opening
  test-taken t row h l z = z ∙ rw (l, ok c m f p q, lt-leb c.count e h)

module _ (m : Marking) (e : ℕ) (row : Row) (i : Bool) (pi : i ≡ has m.included e) where
  pub test-excluded : (t : OpenTest) → not i ≡ true → t ≡ shut not_included → t ≡ testing m e row
  unfolding testing
  test-excluded t qi z = z ∙ rw (← pi, not-true i qi)

  module _ (qi : not i ≡ false) (by : Blocking) (pb : by ≡ blocking_of m row.conditions row.milestones) where
    module _ (u : Bool) (pu : u ≡ eqb by.conditions 0) where
      none-unmet : u ≡ eqb (unmet_of m row.conditions) 0
      none-unmet = rw pb at pu

      pub test-unmet : not u ≡ true → (l : ℕ) (t : OpenTest) → l ≡ lowest max_events by.conditions → t ≡ blocked condition_wanting l by → t ≡ testing m e row
      unfolding testing
      test-unmet qu l t pl z = z ∙ rw (← pi, not-false i qi, pl, pb, ← none-unmet, not-true u qu)

      module _ (qu : not u ≡ false) (w : Bool) (pw : w ≡ eqb by.milestones 0) where
        none-awaited : w ≡ eqb (awaited_of m row.milestones) 0
        none-awaited = rw pb at pw

        pub test-awaited : not w ≡ true → (l : ℕ) (t : OpenTest) → l ≡ lowest max_events by.milestones → t ≡ blocked milestone_wanting l by → t ≡ testing m e row
        unfolding testing
        test-awaited qw l t pl z = z ∙ rw (← pi, not-false i qi, pl, pb, ← none-unmet, not-false u qu, ← none-awaited, not-true w qw)

        pub test-open : not w ≡ false → (a : Answer) (x y : ℕ) → a ≡ granted → x ≡ 0 → y ≡ 0 → record { answer = a; conditions = x; milestones = y } ≡ testing m e row
        unfolding testing
        test-open qw a x y ha hx hy = rw (← pi, not-false i qi, ← none-unmet, not-false u qu, ← none-awaited, not-false w qw, ha, hx, hy)

pub count-unfit : (c : FlatChart) (m : Marking) (r : Bool) (a : Answer) → r ≡ fit c m → not r ≡ true → a ≡ refusal unfit
    → record { answer = a; count = 0; lowest = max_events } ≡ counting c m
unfolding counting
count-unfit c m r a p q z = rw (← p, not-true r q, z)

pub count-open : (c : FlatChart) (m : Marking) (r : Bool) (a : Answer) (s k l : ℕ) → r ≡ fit c m → not r ≡ false → s ≡ open_set c m → a ≡ granted
    → k ≡ size s → l ≡ lowest max_events s → record { answer = a; count = k; lowest = l } ≡ counting c m
unfolding counting
count-open c m r a s k l p q hs z hk hl = rw (ok c m r p q, z, hk, hl, hs)

pub finish-told : (c : FlatChart) (m : Marking) (r : Bool) (a : Answer) (s : ℕ) (y : Bool) → r ≡ fit c m → not r ≡ false → a ≡ granted → s ≡ inter m.included m.pending
    → y ≡ eqb s 0 → record { answer = a; yes = y } ≡ finishing c m
unfolding finishing
finish-told c m r a s y p q z hs hy = rw (ok c m r p q, z, hy, hs)
