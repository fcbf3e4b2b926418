-- A test that most books without a loop pass: no mark is both drawn, that is targeted by a rule that can refer to a mark, and named by a
-- trigger or a text. On a loop every target is both. Assumes nothing.
use Rattle.std.specs.Prelude.{◌≡◌, Bool, true, false, ◌&&◌, ◌||◌, List, eqb, ltb, length}
use Rattle.std.proofs.Math.Path.{refl}
use Prim.Native.Nat.{ℕ, ◌≤◌, ◌<◌}
use Rattle.std.proofs.Common.{arith, eq-eqb, ltb-true, ltb-false}
use Rattle.std.proofs.Math.ListN.{get_or-eq_default}
use Rattle.paper.specs.Limits.{max_marks}
use Rattle.general.specs.Cases.{contra, cases, either, or_left, or_right}
use Rattle.general.specs.Below.{some, some_of}
use Rattle.order_theory.specs.Order.{Net, Counted, before, Chain, link, more, Loop, NoLoop}
use Rattle.book.specs.Text.{elem}
use Rattle.book.specs.Book.{Book, no_condition, rule_of, text_of}
use Rattle.book.specs.Firing.{awaits, reads, refers}
use Rattle.book.specs.declared.Trigger.{Trigger}
use Rattle.book.specs.declared.Trigger.TheVariants.{None, Completed, BecomeYes, BecomeNo}
use Rattle.book.specs.declared.Sense.{Sense}
use Rattle.book.specs.declared.Sense.TheVariants.{NoCondition, AsWritten, Negated}
use Rattle.rule_order.specs.Rules.{net_of}
use Rattle.loop_search.specs.Places.{loop_place, loop-place}
use Rattle.loop_search.specs.Searching.{asks}

-- the rule waits for some mark
unfoldable pub waits : Trigger → Bool
waits None = false
waits (Completed c) = false
waits (BecomeYes m) = true
waits (BecomeNo m) = true

module _ (b : Book) (m : ℕ) where
  -- rule r, which waits for a mark or has a condition, targets m
  abbrev pub draws : ℕ → Bool
  draws r = (waits (rule_of b r).trigger || asks (rule_of b r).sense) && eqb (rule_of b r).target m

  unfoldable pub drawn : Bool
  drawn = some (length b.rules) draws

  -- the trigger of rule r waits for m, the text of condition c names it
  abbrev pub awaited : ℕ → Bool
  awaited r = awaits (rule_of b r).trigger m

  abbrev pub told : ℕ → Bool
  told c = elem m (text_of b c)

  unfoldable pub named : Bool
  named = some (length b.rules) awaited || some (length b.conditions) told

-- some mark is both
unfoldable pub may_loop : Book → Bool
may_loop b = some max_marks (λ m. named b m && drawn b m)

-- ---- a loop needs such a mark

module _ {N : Net} where
  chain_next : {p q : ℕ} → Chain N p q → (r : ℕ) × Counted N r × (before N p r ≡ true)
  chain_next (link {p} {q} i j e) = (q, j, e)
  chain_next (more {p} {r} {q} i j e c) = (r, j, e)

  chain-refers : {p q : ℕ} → Chain N p q → (m : ℕ) × (N.refers q m ≡ true)
  chain-refers (link {p} {q} i j e) = (N.target p, e)
  chain-refers (more {p} {r} {q} i j e c) = chain-refers c

-- a rule refers to a mark by its trigger or by its condition
awaits-waits : (t : Trigger) (m : ℕ) → awaits t m ≡ true → waits t ≡ true
unfolding awaits waits
awaits-waits None m e = e
awaits-waits (Completed c) m e = e
awaits-waits (BecomeYes x) m e = refl
awaits-waits (BecomeNo x) m e = refl

reads-asks : (text : ℕ → List ℕ) (g : Sense) (m : ℕ) → reads text g m ≡ true → asks g ≡ true
unfolding reads asks
reads-asks text NoCondition m e = e
reads-asks text (AsWritten c) m e = refl
reads-asks text (Negated c) m e = refl

module _ (b : Book) (m : ℕ) where
  pub drawn-of : (r : ℕ) → r < length b.rules → refers b r m ≡ true → drawn b (rule_of b r).target ≡ true
  unfolding drawn refers
  drawn-of r h e =
      some_of (length b.rules) (draws b (rule_of b r).target) r h (rw (eq-eqb (rule_of b r).target (rule_of b r).target refl)
      (either (awaits (rule_of b r).trigger m) (reads (text_of b) (rule_of b r).sense m) e
      (λ x. rw (awaits-waits (rule_of b r).trigger m x)) (λ x. rw (or_right (waits (rule_of b r).trigger) (asks (rule_of b r).sense) (reads-asks (text_of b) (rule_of b r).sense m x)))))

  -- past the conditions stands a text without words
  told-some : (c : ℕ) → told b m c ≡ true → some (length b.conditions) (told b m) ≡ true
  unfolding text_of elem
  told-some c e =
      cases (ltb c (length b.conditions)) (λ t. some_of (length b.conditions) (told b m) c (ltb-true c (length b.conditions) t) e)
      (λ t. contra e (rw (get_or-eq_default b.conditions no_condition (ltb-false c (length b.conditions) t))))

  reads-told : (g : Sense) → reads (text_of b) g m ≡ true → some (length b.conditions) (told b m) ≡ true
  unfolding reads
  reads-told NoCondition e = contra e refl
  reads-told (AsWritten c) e = told-some c e
  reads-told (Negated c) e = told-some c e

  pub named-of : (r : ℕ) → r < length b.rules → refers b r m ≡ true → named b m ≡ true
  unfolding named refers
  named-of r h e =
      either (awaits (rule_of b r).trigger m) (reads (text_of b) (rule_of b r).sense m) e
      (λ x. or_left (some (length b.rules) (awaited b m)) (some (length b.conditions) (told b m)) (some_of (length b.rules) (awaited b m) r h x))
      (λ x. or_right (some (length b.rules) (awaited b m)) (some (length b.conditions) (told b m)) (reads-told (rule_of b r).sense x))

module _ (b : Book) (few : b.marks ≤ max_marks) (small : (r : ℕ) → r < length b.rules → (rule_of b r).target < b.marks) where
  -- the target of each rule on a loop is both
  pub loop-may : (stage r : ℕ) → Counted (net_of b stage) r → Loop (net_of b stage) r → may_loop b ≡ true
  unfolding may_loop net_of
  loop-may stage r c l =
      let (q, d, e) = chain_next l in
      let (m, f) = chain-refers l in
      let t : ℕ = (rule_of b r).target in
      let k = small r c.0 in
      some_of max_marks (λ m. named b m && drawn b m) t (omega arith) (rw (named-of b t q d.0 e, drawn-of b m r c.0 f))

  pub may-not : may_loop b ≡ false → (stage : ℕ) → NoLoop (net_of b stage)
  may-not e stage r c l = contra (loop-may stage r c l) e

  pub no-chance : may_loop b ≡ false → loop_place b ≡ b.marks
  no-chance e = (loop-place b small).1.0 (λ stage h. may-not e stage)
