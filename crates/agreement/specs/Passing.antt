-- A book derived from a fit chart has no clash and no loop, so the check passes it. Assumes nothing.
use Prim.Native.Nat.{ℕ, ◌+◌, ◌-◌, ◌*◌, ◌≤◌, ◌<◌}
use Rattle.std.specs.Prelude.{◌≡◌, Bool, cond, ◌||◌, List, [], ◌∷◌, eqb, ltb, length}
use Rattle.std.proofs.Math.Path.{refl}
use Rattle.std.proofs.Common.{ap, subst}
use Rattle.std.proofs.Math.Bool.{true, false, not, and-false}
use Rattle.std.specs.Bool.{beq}
use native.Mathlib.Omega.{arith}
use borrow.Author.Tests.{eqb-true, ne_eqb, lt-ltb, le-ltb}
use Rattle.paper.specs.Limits.{max_events}
use Rattle.general.specs.Cases.{contra, cases, either}
use Rattle.sets.specs.Set.{has}
use Rattle.flat_chart.specs.Chart.{set_of, condition, response, milestone, include, exclude}
use Rattle.flat_chart.specs.Flat.{FlatChart}
use Rattle.book.specs.Text.{elem}
use Rattle.book.specs.Book.{rule_of, text_of, no_rule}
use Rattle.book.specs.Effects.{beq-refl}
use Rattle.book.specs.Firing.{refers, awaits, reads}
use Rattle.general.specs.Lists.{flat, All, all_append, all-flat, all-at}
use Rattle.book.specs.declared.Rule.{Rule}
use Rattle.order_theory.specs.Order.{NoLoop}
use Rattle.order_theory.specs.Running.{turn}
use Rattle.rule_order.specs.Rules.{net_of}
use Rattle.clashes.specs.Clash.{clash, opposed, apart, other_stages, completes_other, opposite_senses, is_written, is_negated, NoClash}
use Rattle.derived.specs.Derived.{executed_mark, included_mark, answered_mark, on, opens, closes, listed, clause, text_for, inclusion, responding, answering, setting_executed, derived_text, derived_book, derived_rules, derived-text, join}

all-elem : (P : ℕ → Type 0) (l : List ℕ) → All P l → (k : ℕ) → elem k l ≡ true → P k
unfolding elem
all-elem P [] a k e = contra e refl
all-elem P (x ∷ l) a k e = either (eqb k x) (elem k l) e (λ q. rw (eqb-true k x q) a.0) (all-elem P l a.1 k)

module _ (c : FlatChart) where
  -- what the completion of d writes to the mark k, if it writes k
  value : ℕ → ℕ → Bool
  value d k = cond (ltb k (2 * c.count)) true (cond (ltb k (3 * c.count)) (has (set_of c include d) (k - 2 * c.count)) (not (has (set_of c response d) (k - 3 * c.count))))

  -- the shapes of a derived book's rules
  data Shape : Rule → Type 0 where
    writes : (d k : ℕ) → c.count ≤ k → k < 4 * c.count → Shape (on d (value d k) k)
    opening : (f : ℕ) → f < c.count → Shape (opens f)
    closing : (f : ℕ) → f < c.count → Shape (closes f)

  wrote : (d k : ℕ) (b : Bool) → value d k ≡ b → c.count ≤ k → k < 4 * c.count → Shape (on d b k)
  wrote d k b v l h = subst (λ x. Shape (on d x k)) v (writes d k l h)

  writes-included : (d f : ℕ) (b : Bool) → f < c.count → has (set_of c include d) f ≡ b → Shape (on d b (included_mark c.count f))
  unfolding value
  writes-included d f b h e =
      let n : ℕ = c.count in
      let q : 2 * n + f - 2 * n ≡ f = omega arith in
      wrote d (2 * n + f) b (rw (le-ltb (2 * n + f) (2 * n) (omega arith), lt-ltb (2 * n + f) (3 * n) (omega arith), q) e) (omega arith) (omega arith)

  writes-answered : (d f : ℕ) (b : Bool) → f < c.count → not (has (set_of c response d) f) ≡ b → Shape (on d b (answered_mark c.count f))
  unfolding value
  writes-answered d f b h e =
      let n : ℕ = c.count in
      let q : 3 * n + f - 3 * n ≡ f = omega arith in
      wrote d (3 * n + f) b (rw (le-ltb (3 * n + f) (2 * n) (omega arith), le-ltb (3 * n + f) (3 * n) (omega arith), q) e) (omega arith) (omega arith)

  writes-executed : (d : ℕ) → d < c.count → Shape (setting_executed c.count d)
  unfolding value
  writes-executed d h = let n : ℕ = c.count in wrote d (n + d) true (rw (lt-ltb (n + d) (2 * n) (omega arith))) (omega arith) (omega arith)

  shapes : All Shape (derived_rules c)
  unfolding inclusion responding answering
  shapes =
      join c Shape (record {
        inclusions = λ d i f h. cases (has (set_of c include d) f) (λ x. rw x (writes-included d f true h x, tt))
            (λ x. cases (has (set_of c exclude d) f) (λ y. rw (x, y) (writes-included d f false h x, tt)) (λ y. rw (x, y) tt));
        responses = λ d i f h. cases (has (set_of c response d) f) (λ x. rw x (writes-answered d f false h (ap not x), tt)) (λ x. rw x tt);
        answers = λ d i. cases (has (set_of c response d) d) (λ x. rw x tt) (λ x. rw x (writes-answered d d true i (ap not x), tt));
        executed = writes-executed;
        opened = opening;
        closed = closing;
      })

  -- no two shapes clash
  shapes-apart : (x y : Rule) → Shape x → Shape y → clash x y ≡ false
  unfolding clash opposed apart other_stages completes_other opposite_senses is_written is_negated
  shapes-apart x y (writes d k l h) (writes d' k' l' h') =
      cases (eqb k k')
      (λ e. cases (eqb d d') (λ q. let p : value d k ≡ value d' k' = rw (eqb-true k k' e, eqb-true d d' q) in rw (e, p, beq-refl (value d' k')))
      (λ q. rw (e, q) (and-false (not (beq (value d k) (value d' k'))))))
      (λ e. rw e)
  shapes-apart x y (writes d k l h) (opening f i) = rw (ne_eqb k f (λ e. omega arith))
  shapes-apart x y (writes d k l h) (closing f i) = rw (ne_eqb k f (λ e. omega arith))
  shapes-apart x y (opening f i) (writes d k l h) = rw (ne_eqb f k (λ e. omega arith))
  shapes-apart x y (closing f i) (writes d k l h) = rw (ne_eqb f k (λ e. omega arith))
  shapes-apart x y (opening f i) (opening g j) = cases (eqb f g) (λ e. rw e) (λ e. rw e)
  shapes-apart x y (closing f i) (closing g j) = cases (eqb f g) (λ e. rw e) (λ e. rw e)
  shapes-apart x y (opening f i) (closing g j) = cases (eqb f g) (λ e. rw e) (λ e. rw e)
  shapes-apart x y (closing f i) (opening g j) = cases (eqb f g) (λ e. rw e) (λ e. rw e)

  shape_at : (r : ℕ) → r < length (derived_book c).rules → Shape (rule_of (derived_book c) r)
  unfolding derived_book
  shape_at r h = all-at Shape no_rule (derived_rules c) shapes r h

  -- no clash
  pub derived-calm : NoClash (derived_book c)
  derived-calm p q h l = shapes-apart (rule_of (derived_book c) p) (rule_of (derived_book c) q) (shape_at p (omega arith)) (shape_at q l)

  module _ (few : c.count ≤ max_events) where
    abbrev High : ℕ → Type 0
    High w = c.count ≤ w

    clause-high : (mark : ℕ → ℕ) → ((f : ℕ) → c.count ≤ mark f) → (s f : ℕ) → All High (listed (clause c.count mark) s f)
    clause-high mark l s f = cases (has s f) (λ x. rw x (omega arith, (omega arith, (l f, (omega arith, (omega arith, tt)))))) (λ x. rw x tt)

    -- a derived text names no stage
    text-high : (e : ℕ) → All High (derived_text c e)
    unfolding derived_text text_for
    text-high e =
        let n : ℕ = c.count in (
          omega arith,
          all_append High (flat n (listed (clause n (executed_mark n)) (set_of c condition e))) (flat n (listed (clause n (answered_mark n)) (set_of c milestone e)))
              (all-flat High n _ (λ f h. clause-high (executed_mark n) (λ g. omega arith) (set_of c condition e) f))
              (all-flat High n _ (λ f h. clause-high (answered_mark n) (λ g. omega arith) (set_of c milestone e) f)),
        )

    -- what refers to a mark is a stage's rule, and the mark is no stage
    refers-high : (x : Rule) (k : ℕ) → Shape x → (awaits x.trigger k || reads (text_of (derived_book c)) x.sense k) ≡ true → (x.target < c.count) × (c.count ≤ k)
    unfolding awaits reads
    refers-high x k (writes d n l h) e = contra e refl
    refers-high x k (opening f h) e = (h, all-elem High (derived_text c f) (text-high f) k (rw (derived-text c f h) at e))
    refers-high x k (closing f h) e = (h, all-elem High (derived_text c f) (text-high f) k (rw (derived-text c f h) at e))

    -- no loop, whichever stage the rules are counted for: what counts is not looked at
    pub derived-no-loop : (stage : ℕ) → NoLoop (net_of (derived_book c) stage)
    unfolding net_of refers
    derived-no-loop stage r h l =
        let (q, i, e, k) = turn (net_of (derived_book c) stage) r h l in
        let (p, j, g, n) = turn (net_of (derived_book c) stage) q i k in
        let a = refers-high (rule_of (derived_book c) r) (rule_of (derived_book c) q).target (shape_at r h.0) e in
        let b = refers-high (rule_of (derived_book c) q) (rule_of (derived_book c) p).target (shape_at q i.0) g in
        omega (arith, a.1, b.0)
