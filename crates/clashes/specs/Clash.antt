-- Which rules are apart, which clash, and that rules which do not clash never fire against each other. Assumes nothing.
use Rattle.std.specs.Prelude.{◌≡◌, refl, ◌↔◌, Bool, true, false, not, ◌&&◌, ◌||◌, List, ℕ, ◌<◌, eqb, length}
use Rattle.std.proofs.Common.{sym, ap, ◌∙◌, arith, eqb-true, eq-eqb, ne_eqb}
use Rattle.std.specs.Bool.{beq}
use Rattle.std.proofs.Math.Decide.{dec_lt}
use Rattle.std.proofs.lemmas.Bool.{not-true}
use Rattle.general.specs.Cases.{contra, cases, both, either, or_right, not_so}
use Rattle.book.specs.Text.{Snap, holds}
use Rattle.book.specs.Book.{Book, rule_of, text_of}
use Rattle.book.specs.Firing.{fires, triggered, allowed}
use Rattle.book.specs.declared.Rule.{Rule}
use Rattle.book.specs.declared.Trigger.{Trigger}
use Rattle.book.specs.declared.Trigger.TheVariants.{None, Completed, BecomeYes, BecomeNo}
use Rattle.book.specs.declared.Sense.{Sense}
use Rattle.book.specs.declared.Sense.TheVariants.{NoCondition, AsWritten, Negated}
use Rattle.order_theory.specs.Settle.{Calm}
use Rattle.rule_order.specs.Rules.{net_of, acts_of}

-- ---- "Two rules that set and clear one mark are apart if their triggers are completions of different stages, or if they use one condition
-- record in opposite senses. Otherwise they clash."

unfoldable pub completes_other : ℕ → Trigger → Bool
completes_other c None = false
completes_other c (Completed d) = not (eqb c d)
completes_other c (BecomeYes m) = false
completes_other c (BecomeNo m) = false

-- completions of different stages
unfoldable pub other_stages : Trigger → Trigger → Bool
other_stages None t = false
other_stages (Completed c) t = completes_other c t
other_stages (BecomeYes m) t = false
other_stages (BecomeNo m) t = false

unfoldable pub is_written : ℕ → Sense → Bool
is_written c NoCondition = false
is_written c (AsWritten d) = eqb c d
is_written c (Negated d) = false

unfoldable pub is_negated : ℕ → Sense → Bool
is_negated c NoCondition = false
is_negated c (AsWritten d) = false
is_negated c (Negated d) = eqb c d

-- one condition record in opposite senses
unfoldable pub opposite_senses : Sense → Sense → Bool
opposite_senses NoCondition g = false
opposite_senses (AsWritten c) g = is_negated c g
opposite_senses (Negated c) g = is_written c g

unfoldable pub apart : Rule → Rule → Bool
apart p q = other_stages p.trigger q.trigger || opposite_senses p.sense q.sense

-- the same, for readers
pub data Apart (p q : Rule) : Type 0 where
  stages : (c d : ℕ) → p.trigger ≡ Completed c → q.trigger ≡ Completed d → (c ≡ d → ⊥) → Apart p q
  written : (c : ℕ) → p.sense ≡ AsWritten c → q.sense ≡ Negated c → Apart p q
  negated : (c : ℕ) → p.sense ≡ Negated c → q.sense ≡ AsWritten c → Apart p q

pub apart_of : (p q : Rule) → Apart p q → apart p q ≡ true
unfolding apart other_stages completes_other opposite_senses is_written is_negated
apart_of p q (stages c d e f n) = rw (e, f, ne_eqb c d n)
apart_of p q (written c e f) = or_right (other_stages p.trigger q.trigger) (opposite_senses p.sense q.sense) (rw (e, f) (eq-eqb c c refl))
apart_of p q (negated c e f) = or_right (other_stages p.trigger q.trigger) (opposite_senses p.sense q.sense) (rw (e, f) (eq-eqb c c refl))

pub of-apart : (p q : Rule) → apart p q ≡ true → Apart p q
unfolding apart other_stages completes_other opposite_senses is_written is_negated
of-apart p q e =
    either (other_stages p.trigger q.trigger) (opposite_senses p.sense q.sense) e
    (λ f. by_stages p.trigger q.trigger refl refl f) (λ f. by_senses p.sense q.sense refl refl f)
  where
    by_stages : (t u : Trigger) → p.trigger ≡ t → q.trigger ≡ u → other_stages t u ≡ true → Apart p q
    by_stages None u x y f = contra f refl
    by_stages (BecomeYes m) u x y f = contra f refl
    by_stages (BecomeNo m) u x y f = contra f refl
    by_stages (Completed c) None x y f = contra f refl
    by_stages (Completed c) (BecomeYes m) x y f = contra f refl
    by_stages (Completed c) (BecomeNo m) x y f = contra f refl
    by_stages (Completed c) (Completed d) x y f = stages c d x y (λ z. contra (eq-eqb c d z) (not-true (eqb c d) f))

    by_senses : (g h : Sense) → p.sense ≡ g → q.sense ≡ h → opposite_senses g h ≡ true → Apart p q
    by_senses NoCondition h x y f = contra f refl
    by_senses (AsWritten c) NoCondition x y f = contra f refl
    by_senses (AsWritten c) (AsWritten d) x y f = contra f refl
    by_senses (AsWritten c) (Negated d) x y f = written c x (y ∙ ap Negated (sym (eqb-true c d f)))
    by_senses (Negated c) NoCondition x y f = contra f refl
    by_senses (Negated c) (Negated d) x y f = contra f refl
    by_senses (Negated c) (AsWritten d) x y f = negated c x (y ∙ ap AsWritten (sym (eqb-true c d f)))

-- two rules that set and clear one mark
unfoldable pub opposed : Rule → Rule → Bool
opposed p q = eqb p.target q.target && not (beq p.effect q.effect)

unfoldable pub clash : Rule → Rule → Bool
clash p q = opposed p q && not (apart p q)

-- the same, for readers
pub record Clashes (p q : Rule) : Type 0 where
  pub mark : p.target ≡ q.target
  pub effects : p.effect ≡ q.effect → ⊥
  pub close : Apart p q → ⊥

pub clashes-so : (p q : Rule) → (clash p q ≡ true) ↔ Clashes p q
unfolding clash opposed
clashes-so p q = (
  λ e. let (x, y) = both (opposed p q) (not (apart p q)) e in
      let (t, d) = both (eqb p.target q.target) (not (beq p.effect q.effect)) x in
      record { mark = eqb-true p.target q.target t; effects = differ p.effect q.effect d; close = λ a. contra (apart_of p q a) (not-true (apart p q) y) },
  λ c. rw (eq-eqb p.target q.target c.mark, opposite p.effect q.effect c.effects, not_so (λ a. c.close (of-apart p q a))),
)
  where
    differ : (d e : Bool) → not (beq d e) ≡ true → d ≡ e → ⊥
    differ true true n z = contra n refl
    differ true false n z = contra refl z
    differ false true n z = contra z refl
    differ false false n z = contra n refl

    opposite : (d e : Bool) → (d ≡ e → ⊥) → beq d e ≡ false
    opposite true true n = absurd (n refl)
    opposite true false n = refl
    opposite false true n = refl
    opposite false false n = absurd (n refl)

-- no two rules of the book clash
abbrev pub NoClash : Book → Type 0
NoClash b = (p q : ℕ) → p < q → q < length b.rules → clash (rule_of b p) (rule_of b q) ≡ false

-- ---- rules that are apart never fire together

not-both : (x : Bool) → x ≡ true → not x ≡ true → ⊥
not-both x e f = contra (rw e at f) refl

stages-apart : (start : Snap) (stage : ℕ) (s : Snap) (t u : Trigger) → other_stages t u ≡ true → triggered start stage t s ≡ true → triggered start stage u s ≡ true → ⊥
unfolding triggered other_stages completes_other
stages-apart start stage s None u a e f = contra a refl
stages-apart start stage s (BecomeYes m) u a e f = contra a refl
stages-apart start stage s (BecomeNo m) u a e f = contra a refl
stages-apart start stage s (Completed c) None a e f = contra a refl
stages-apart start stage s (Completed c) (BecomeYes m) a e f = contra a refl
stages-apart start stage s (Completed c) (BecomeNo m) a e f = contra a refl
stages-apart start stage s (Completed c) (Completed d) a e f = not-both (eqb c d) (eq-eqb c d (eqb-true c stage e ∙ sym (eqb-true d stage f))) a

senses-apart : (text : ℕ → List ℕ) (s : Snap) (g h : Sense) → opposite_senses g h ≡ true → allowed text g s ≡ true → allowed text h s ≡ true → ⊥
unfolding allowed opposite_senses is_written is_negated
senses-apart text s NoCondition h a e f = contra a refl
senses-apart text s (AsWritten c) NoCondition a e f = contra a refl
senses-apart text s (AsWritten c) (AsWritten d) a e f = contra a refl
senses-apart text s (AsWritten c) (Negated d) a e f = not-both (holds s (text d)) (rw (eqb-true c d a) at e) f
senses-apart text s (Negated c) NoCondition a e f = contra a refl
senses-apart text s (Negated c) (AsWritten d) a e f = not-both (holds s (text d)) f (rw (eqb-true c d a) at e)
senses-apart text s (Negated c) (Negated d) a e f = contra a refl

-- two rules with one target that fire together have one effect, if they do not clash
calm-pair : (b : Book) (start : Snap) (stage : ℕ) (s : Snap) (p q : ℕ) → clash (rule_of b p) (rule_of b q) ≡ false → (rule_of b p).target ≡ (rule_of b q).target
    → fires b start stage s p ≡ true → fires b start stage s q ≡ true → (rule_of b p).effect ≡ (rule_of b q).effect
unfolding fires clash opposed apart
calm-pair b start stage s p q c t f g =
    let P : Rule = rule_of b p in
    let Q : Rule = rule_of b q in
    let x = both (triggered start stage P.trigger s) (allowed (text_of b) P.sense s) f in
    let y = both (triggered start stage Q.trigger s) (allowed (text_of b) Q.sense s) g in
    cases (other_stages P.trigger Q.trigger) (λ a. absurd (stages-apart start stage s P.trigger Q.trigger a x.0 y.0))
    (λ a. cases (opposite_senses P.sense Q.sense) (λ o. absurd (senses-apart (text_of b) s P.sense Q.sense o x.1 y.1))
    (λ o. same P.effect Q.effect (rw (eq-eqb P.target Q.target t, a, o) at c)))
  where
    same : (d e : Bool) → (not (beq d e) && true) ≡ false → d ≡ e
    same true true z = refl
    same true false z = z
    same false true z = sym z
    same false false z = refl

pub calm : (b : Book) (start : Snap) (stage : ℕ) → NoClash b → Calm (net_of b stage) (acts_of b start stage)
unfolding net_of acts_of
calm b start stage nc F p q i j t f g = go (dec_lt p q) (dec_lt q p)
  where
    go : Dec (p < q) → Dec (q < p) → (rule_of b p).effect ≡ (rule_of b q).effect
    go (yes h) d = calm-pair b start stage F p q (nc p q h j.0) t f g
    go (no n) (yes h) = sym (calm-pair b start stage F q p (nc q p h i.0) (sym t) g f)
    go (no n) (no m) = let e : p ≡ q = omega arith in ap (λ r. (rule_of b r).effect) e
