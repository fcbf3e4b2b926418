-- The matching snapshot of the next marking settles the derived book, so every fit order ends there. Assumes nothing.
use Rattle.std.specs.Prelude.{ℕ, ◌+◌, ◌-◌, ◌*◌, ◌≤◌, ◌<◌, ◌≡◌, Bool, ◌&&◌, ◌||◌, eqb, ltb, get_or}
use Rattle.std.proofs.Math.Path.{refl, sym}
use Rattle.std.proofs.Common.{ap, ◌∙◌, arith}
use Rattle.std.proofs.Math.Bool.{true, false, not, or-true, or-false}
use Rattle.std.proofs.Math.ListN.{length}
use borrow.Author.Tests.{eqb-true, eq-eqb, ltb-true, ltb-false, not-true, not-false}
use Rattle.general.specs.Cases.{contra, cases, both}
use Rattle.sets.specs.Set.{has, minus, only}
use Rattle.sets.specs.Laws.{has-union, has-minus, has-only}
use Rattle.flat_chart.specs.Chart.{set_of, response, include, exclude, Fit}
use Rattle.graph.specs.Steps.{after, after_with}
use Rattle.flat_chart.specs.Flat.{FlatChart}
use Rattle.graph.specs.Flat.{Marking}
use Rattle.book.specs.Text.{holds}
use Rattle.book.specs.Book.{text_of, no_rule}
use Rattle.book.specs.Firing.{fires, triggered, allowed}
use Rattle.general.specs.Lists.{all-at, at_all}
use Rattle.book.specs.declared.Rule.{Rule}
use Rattle.book.specs.declared.Trigger.{Trigger}
use Rattle.book.specs.declared.Trigger.TheVariants.{None, Completed, BecomeYes, BecomeNo}
use Rattle.order_theory.specs.Order.{Counted}
use Rattle.order_theory.specs.Settle.{Settled}
use Rattle.rule_order.specs.Rules.{counted, net_of, acts_of}
use Rattle.deriver.specs.Matching.{mark_of}
use Rattle.derived.specs.Derived.{executed_mark, included_mark, answered_mark, on, inclusion, responding, answering, derived_text, derived_book, derived_rules, derived-text, Parts, join, parts}
use Rattle.agreement.specs.Matching.{match-stage, match-executed, match-included, match-answered, match-past}
use Rattle.agreement.specs.Texts.{text-open}

gone : (x : Bool) → ((x && false) || false) ≡ false
gone true = refl
gone false = refl

kept : (x : Bool) → ((x && true) || false) ≡ x
kept true = refl
kept false = refl

turned : (x y : Bool) → x ≡ y → not x ≡ not y
turned x y = ap not

module _ (c : FlatChart) (fit : Fit c) (m : Marking) (e : ℕ) (he : e < c.count) where
  abbrev pub next : Marking
  next = after c m e

  -- ---- the next marking, event by event

  next-executed : (f : ℕ) → has next.executed f ≡ (has m.executed f || eqb e f)
  unfolding after_with
  next-executed f = has-union m.executed (only e) f ∙ rw (has-only e f)

  next-pending : (f : ℕ) → has next.pending f ≡ ((has m.pending f && not (eqb e f)) || has (set_of c response e) f)
  unfolding after_with
  next-pending f = has-union (minus m.pending (only e)) (set_of c response e) f ∙ rw (has-minus m.pending (only e) f, has-only e f)

  next-included : (f : ℕ) → has next.included f ≡ ((has m.included f && not (has (set_of c exclude e) f)) || has (set_of c include e) f)
  unfolding after_with
  next-included f = has-union (minus m.included (set_of c exclude e)) (set_of c include e) f ∙ rw (has-minus m.included (set_of c exclude e) f)

  -- ---- what fires in the next marking's snapshot has written it

  abbrev pub Fired : Rule → Bool
  Fired x = triggered (mark_of c m) e x.trigger (mark_of c next) && allowed (text_of (derived_book c)) x.sense (mark_of c next)

  abbrev pub Writes : Rule → Type 0
  Writes x = Fired x ≡ true → mark_of c next x.target ≡ x.effect

  -- a rule on a completion has written if it is on e's
  on-wrote : (d : ℕ) (b : Bool) (k : ℕ) → (d ≡ e → mark_of c next k ≡ b) → Writes (on d b k)
  unfolding triggered allowed
  on-wrote d b k w f = w (eqb-true d e (both (eqb d e) true f).0)

  pub all-wrote : Parts c Writes
  unfolding triggered allowed inclusion responding answering
  all-wrote =
      record {
        inclusions = λ d i f h. cases (has (set_of c include d) f)
            (λ x. rw x (on-wrote d true (included_mark c.count f) (λ q. match-included c next f h ∙ next-included f ∙ rw (rw q at x) (or-true (has m.included f && not (has (set_of c exclude e) f)))), tt))
            (λ x. cases (has (set_of c exclude d) f)
            (λ y. rw (x, y) (on-wrote d false (included_mark c.count f) (λ q. match-included c next f h ∙ next-included f ∙ rw (rw q at x, rw q at y) (gone (has m.included f))), tt))
            (λ y. rw (x, y) tt));
        responses = λ d i f h. cases (has (set_of c response d) f)
            (λ x. rw x (on-wrote d false (answered_mark c.count f) (λ q. match-answered c next f h ∙ turned (has next.pending f) true (next-pending f ∙ rw (rw q at x) (or-true (has m.pending f && not (eqb e f))))), tt))
            (λ x. rw x tt);
        answers = λ d i. cases (has (set_of c response d) d) (λ x. rw x tt)
            (λ x. rw x (
              on-wrote d true (answered_mark c.count d)
                  (λ q. match-answered c next d i ∙ turned (has next.pending d) false (next-pending d ∙ rw (q, rw q at x, eq-eqb e e refl) (gone (has m.pending e)))),
              tt,
            ));
        executed = λ d i. on-wrote d true (executed_mark c.count d) (λ q. match-executed c next d i ∙ next-executed d ∙ rw (eq-eqb e d (sym q)) (or-true (has m.executed d)));
        opened = λ d i f. match-stage c next d i ∙ sym (text-open c fit next d i) ∙ rw (derived-text c d i) at f;
        closed = λ d i f. match-stage c next d i ∙ sym (text-open c fit next d i) ∙ not-true (holds (mark_of c next) (derived_text c d)) (rw (derived-text c d i) at f);
      }

  -- ---- and what no firing rule targets is as it was

  abbrev pub Idle : ℕ → Rule → Type 0
  Idle k x = x.target ≡ k → Fired x ≡ false

  -- a rule on e's completion fires
  on-fired : {C : Type 0} (b : Bool) (n k : ℕ) → n ≡ k → Idle k (on e b n) → C
  unfolding triggered allowed
  on-fired b n k q idle = contra (rw (eq-eqb e e refl)) (idle q)

  idle-executed : (f : ℕ) → f < c.count → Parts c (Idle (executed_mark c.count f)) → mark_of c next (executed_mark c.count f) ≡ mark_of c m (executed_mark c.count f)
  idle-executed f h p =
      cases (eqb e f) (λ x. on-fired true (executed_mark c.count e) (executed_mark c.count f) (ap (executed_mark c.count) (eqb-true e f x)) (p.executed e he))
      (λ x. match-executed c next f h ∙ next-executed f ∙ rw x (or-false (has m.executed f)) ∙ sym (match-executed c m f h))

  idle-included : (f : ℕ) → f < c.count → Parts c (Idle (included_mark c.count f)) → mark_of c next (included_mark c.count f) ≡ mark_of c m (included_mark c.count f)
  unfolding inclusion
  idle-included f h p =
      cases (has (set_of c include e) f) (λ x. on-fired true (included_mark c.count f) (included_mark c.count f) refl (rw x at (p.inclusions e he f h)).0)
      (λ x. cases (has (set_of c exclude e) f) (λ y. on-fired false (included_mark c.count f) (included_mark c.count f) refl (rw (x, y) at (p.inclusions e he f h)).0)
      (λ y. match-included c next f h ∙ next-included f ∙ rw (x, y) (kept (has m.included f)) ∙ sym (match-included c m f h)))

  idle-answered : (f : ℕ) → f < c.count → Parts c (Idle (answered_mark c.count f)) → mark_of c next (answered_mark c.count f) ≡ mark_of c m (answered_mark c.count f)
  unfolding responding answering
  idle-answered f h p =
      cases (has (set_of c response e) f) (λ x. on-fired false (answered_mark c.count f) (answered_mark c.count f) refl (rw x at (p.responses e he f h)).0)
      (λ x. cases (eqb e f) (λ y.
      let q : e ≡ f = eqb-true e f y in
      on-fired true (answered_mark c.count e) (answered_mark c.count f) (ap (answered_mark c.count) q) (rw (rw (← q) at x) at (p.answers e he)).0)
      (λ y. match-answered c next f h ∙ turned (has next.pending f) (has m.pending f) (next-pending f ∙ rw (x, y) (kept (has m.pending f))) ∙ sym (match-answered c m f h)))

  idle-stage : (f : ℕ) → f < c.count → Parts c (Idle f) → mark_of c next f ≡ mark_of c m f
  unfolding triggered allowed
  idle-stage f h p = contra (not-false (holds (mark_of c next) (text_of (derived_book c) f)) (p.closed f h refl)) (p.opened f h refl)

  pub stayed : (k : ℕ) → Parts c (Idle k) → mark_of c next k ≡ mark_of c m k
  stayed k p =
      let n : ℕ = c.count in
      cases (ltb k n) (λ x. idle-stage k (ltb-true k n x) p)
      (λ x. let x' = ltb-false k n x in
      cases (ltb k (2 * n)) (λ y. let y' = ltb-true k (2 * n) y in moved n (omega arith) (omega arith) idle-executed)
      (λ y. let y' = ltb-false k (2 * n) y in
      cases (ltb k (3 * n)) (λ z. let z' = ltb-true k (3 * n) z in moved (2 * n) (omega arith) (omega arith) idle-included)
      (λ z. let z' = ltb-false k (3 * n) z in
      cases (ltb k (4 * n)) (λ w. let w' = ltb-true k (4 * n) w in moved (3 * n) (omega arith) (omega arith) idle-answered)
      (λ w. match-past c next k (ltb-false k (4 * n) w) ∙ sym (match-past c m k (ltb-false k (4 * n) w))))))
    where
      moved : (base : ℕ) → base ≤ k → k < base + c.count
          → ((f : ℕ) → f < c.count → Parts c (Idle (base + f)) → mark_of c next (base + f) ≡ mark_of c m (base + f)) → mark_of c next k ≡ mark_of c m k
      moved base l h g =
          let q : base + (k - base) ≡ k = omega arith in
          rw q at (g (k - base) (omega arith) (rw q p))

  -- a rule that does not count for e waits for another completion, so it does not fire
  pub uncounted-idle : (x : Rule) → counted e x.trigger ≡ false → Fired x ≡ false
  unfolding counted triggered
  uncounted-idle x h = go x.trigger h
    where
      go : (t : Trigger) → counted e t ≡ false → (triggered (mark_of c m) e t (mark_of c next) && allowed (text_of (derived_book c)) x.sense (mark_of c next)) ≡ false
      go None z = contra refl z
      go (Completed d) z = rw z
      go (BecomeYes k) z = contra refl z
      go (BecomeNo k) z = contra refl z

  pub derived-settled : Settled (net_of (derived_book c) e) (acts_of (derived_book c) (mark_of c m) e) (mark_of c m) (mark_of c next)
  unfolding net_of acts_of derived_book fires
  derived-settled =
      record {
        wrote = λ r h f. all-at Writes no_rule (derived_rules c) (join c Writes all-wrote) r h.0 f;
        stayed = λ k h. stayed k (parts c (Idle k) (at_all (Idle k) no_rule (derived_rules c) (λ r i q. waits k h r i q)));
      }
    where
      waits : (k : ℕ)
          → ((r : ℕ) → Counted (net_of (derived_book c) e) r → (net_of (derived_book c) e).target r ≡ k → (acts_of (derived_book c) (mark_of c m) e).fires (mark_of c next) r ≡ false)
          → (r : ℕ) → r < length (derived_rules c) → Idle k (get_or (derived_rules c) r no_rule)
      waits k h r i q =
          cases (counted e (get_or (derived_rules c) r no_rule).trigger) (λ x. h r (i, x) q) (λ x. uncounted-idle (get_or (derived_rules c) r no_rule) x)
