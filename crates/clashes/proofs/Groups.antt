-- Which rules of a mark clash, by what they do, by their turns and by the senses of groups. Assumes nothing.
use mathlib.Core.Path.{◌≡◌, refl, sym, ap, subst, ◌∙◌}
use mathlib.Core.Bool.{Bool, true, false, not, ◌&&◌, ◌||◌, and-true, and-false, beq}
use mathlib.Core.List.{List}
use Prim.Native.Nat.{ℕ, zero, suc, ◌+◌, ◌*◌, ◌≤◌, ◌<◌}
use native.Mathlib.Omega.{arith}
use lib.Dec.{eqb, ltb}
use lib.ListN.{length, get_or}
use borrow.Author.Tests.{eqb-true, eqb-false, eq-eqb, ne_eqb, ltb-true, ltb-false, lt-ltb, le-ltb}
use Rattle.paper.specs.Limits.{max_marks, max_events}
use Rattle.general.specs.Cases.{contra, cases, both, either, or_right, same_test, not_so}
use Rattle.general.specs.Below.{some, some_same, some-none}
use Rattle.sets.specs.Set.{has, inter}
use Rattle.sets.specs.Laws.{has-only, has_all, apart-not}
use Rattle.wide.specs.Number.{row_of}
use Rattle.book.specs.Book.{Book, rule_of}
use Rattle.book.specs.declared.Rule.{Rule}
use Rattle.book.specs.declared.Trigger.{Trigger}
use Rattle.book.specs.declared.Trigger.TheVariants.{None, Completed, BecomeYes, BecomeNo}
use Rattle.book.specs.WellRead.{trigger_exists}
use Rattle.clashes.specs.Clash.{completes_other, other_stages, opposite_senses, apart, Apart, opposed, clash, clashes-so}
use Rattle.clashes.specs.Clash.Apart.{stages, written, negated}
use Rattle.senses.specs.Senses.{side, does, turn, stages_at, slot, mixed, code, code_of, twin, meets, Senses}
use Rattle.clashes.specs.Groups.{senses_at, Summed, Sides, calm, clashes_any}
use Rattle.clashes.proofs.Senses.{code-some, twin-mixed, twin-not-mixed, opposite-code, senses-one}

-- ---- two rules

abbrev pub Known : Trigger → Type 0
Known t = trigger_exists max_events max_marks t ≡ true

apart-turned : (p q : Rule) → Apart p q → Apart q p
apart-turned p q (stages c d e f n) = stages d c f e (λ x. n (sym x))
apart-turned p q (written c e f) = negated c f e
apart-turned p q (negated c e f) = written c f e

pub clash-turned : (p q : Rule) → clash p q ≡ clash q p
clash-turned p q = same_test (clash p q) (clash q p) (half p q) (half q p)
  where
    half : (p q : Rule) → clash p q ≡ true → clash q p ≡ true
    half p q e =
        let c = (clashes-so p q).0 e in
        (clashes-so q p).1 (record { mark = sym c.mark; effects = λ x. c.effects (sym x); close = λ a. c.close (apart-turned q p a) })

-- a number and an effect are one number's only
pub side_same : (m n : ℕ) (d e : Bool) → eqb (side m d) (side n e) ≡ (eqb m n && beq d e)
unfolding side
side_same m n true true = same_test (eqb (2 * m + 1) (2 * n + 1)) (eqb m n && true) (λ t. let z = eqb-true (2 * m + 1) (2 * n + 1) t in rw (eq-eqb m n (omega arith)))
    (λ t. let z = eqb-true m n (both (eqb m n) true t).0 in eq-eqb (2 * m + 1) (2 * n + 1) (omega arith))
side_same m n true false = ne_eqb (2 * m + 1) (2 * n + 0) (λ e. omega arith) ∙ sym (and-false (eqb m n))
side_same m n false true = ne_eqb (2 * m + 0) (2 * n + 1) (λ e. omega arith) ∙ sym (and-false (eqb m n))
side_same m n false false = same_test (eqb (2 * m + 0) (2 * n + 0)) (eqb m n && true) (λ t. let z = eqb-true (2 * m + 0) (2 * n + 0) t in rw (eq-eqb m n (omega arith)))
    (λ t. let z = eqb-true m n (both (eqb m n) true t).0 in eq-eqb (2 * m + 0) (2 * n + 0) (omega arith))

eqb-turned : (m n : ℕ) → eqb m n ≡ eqb n m
eqb-turned m n = same_test (eqb m n) (eqb n m) (λ t. eq-eqb n m (sym (eqb-true m n t))) (λ t. eq-eqb m n (sym (eqb-true n m t)))

opposed-side : (p q : Rule) → opposed p q ≡ eqb (side q.target q.effect) (side p.target (not p.effect))
unfolding opposed
opposed-side p q =
    rw (side_same q.target p.target q.effect (not p.effect), eqb-turned p.target q.target, effects p.effect q.effect)
  where
    effects : (d e : Bool) → not (beq d e) ≡ beq e (not d)
    effects true true = refl
    effects true false = refl
    effects false true = refl
    effects false false = refl

-- completions of different stages, by turns
other-turns : (t u : Trigger) → Known t → Known u → other_stages t u ≡ (not (eqb (turn t) (turn u)) && ltb (turn t) max_events && ltb (turn u) max_events)
unfolding trigger_exists other_stages completes_other turn
other-turns None u h i = rw (and-false (not (eqb max_events (turn u))))
other-turns (BecomeYes m) u h i = rw (and-false (not (eqb max_events (turn u))))
other-turns (BecomeNo m) u h i = rw (and-false (not (eqb max_events (turn u))))
other-turns (Completed c) None h i = sym (and-false (not (eqb c max_events) && ltb c max_events))
other-turns (Completed c) (BecomeYes m) h i = sym (and-false (not (eqb c max_events) && ltb c max_events))
other-turns (Completed c) (BecomeNo m) h i = sym (and-false (not (eqb c max_events) && ltb c max_events))
other-turns (Completed c) (Completed d) h i = rw (h, i) (sym (and-true (not (eqb c d) && true) ∙ and-true (not (eqb c d))))

turn_small : (t : Trigger) → Known t → turn t ≤ max_events
unfolding trigger_exists turn
turn_small None h = omega arith
turn_small (Completed c) h = omega (arith, ltb-true c max_events h)
turn_small (BecomeYes m) h = omega arith
turn_small (BecomeNo m) h = omega arith

module _ (p q : Rule) (h : Known p.trigger) (i : Known q.trigger) where
  pub clash-says : clash p q ≡ (eqb (side q.target q.effect) (side p.target (not p.effect))
      && not ((not (eqb (turn p.trigger) (turn q.trigger)) && ltb (turn p.trigger) max_events && ltb (turn q.trigger) max_events) || eqb (code q.sense) (twin (code p.sense))))
  unfolding clash apart
  clash-says = rw (opposed-side p q, other-turns p.trigger q.trigger h i, opposite-code p.sense q.sense)

  -- as the code tells it
  module _ (m n : ℕ) (d e : Bool) (k l : ℕ) (f : m ≡ p.target) (g : d ≡ p.effect) (v : l ≡ side m (not d)) (f' : n ≡ q.target) (g' : e ≡ q.effect) (v' : k ≡ side n e) where
    pub clash-unopposed : (k ≡ l → ⊥) → false ≡ clash p q
    clash-unopposed z = sym (clash-says ∙ rw (ne_eqb (side q.target q.effect) (side p.target (not p.effect)) (λ x. z (v' ∙ rw (f', g', x, ← f, ← g) (sym v)))))

    pub clash-opposed : k ≡ l → (t u c w r : ℕ) → t ≡ turn p.trigger → u ≡ turn q.trigger → c ≡ code q.sense → w ≡ code p.sense → r ≡ twin w
        → not ((not (eqb t u) && ltb t max_events && ltb u max_events) || eqb c r) ≡ clash p q
    clash-opposed z t u c w r a b i j o =
        rw (a, b, o, i, j) (sym (clash-says ∙ rw (eq-eqb (side q.target q.effect) (side p.target (not p.effect)) (rw (← f, ← g, ← f', ← g') (sym v' ∙ z ∙ v)))))

  -- p waits for no completion: it clashes with every opposed rule but those in the opposite sense
  pub clash-late : max_events ≤ turn p.trigger
      → clash p q ≡ (eqb (side q.target q.effect) (side p.target (not p.effect)) && not (eqb (code q.sense) (twin (code p.sense))))
  clash-late l = clash-says ∙ rw (le-ltb (turn p.trigger) max_events l, and-false (not (eqb (turn p.trigger) (turn q.trigger))))

  -- p completes a stage: it clashes with opposed rules of this stage and of none
  pub clash-early : turn p.trigger < max_events
      → clash p q ≡ ((eqb q.target p.target && eqb (side (turn q.trigger) q.effect) (side (turn p.trigger) (not p.effect))
      && not (eqb (code q.sense) (twin (code p.sense))))
      || (eqb q.target p.target && eqb (side (turn q.trigger) q.effect) (side max_events (not p.effect)) && not (eqb (code q.sense) (twin (code p.sense)))))
  clash-early l =
      clash-says
      ∙ rw (
        lt-ltb (turn p.trigger) max_events l,
        beside,
        side_same q.target p.target q.effect (not p.effect),
        side_same (turn q.trigger) (turn p.trigger) q.effect (not p.effect),
        side_same (turn q.trigger) max_events q.effect (not p.effect),
      )
      (split (eqb q.target p.target) (beq q.effect (not p.effect)) (eqb (turn q.trigger) (turn p.trigger)) (eqb (turn q.trigger) max_events)
      (eqb (code q.sense) (twin (code p.sense))))
    where
      t : ℕ
      t = turn p.trigger

      u : ℕ
      u = turn q.trigger

      beside : (not (eqb t u) && true && ltb u max_events) ≡ not (eqb u t || eqb u max_events)
      beside =
          cases (eqb u t) (λ e. rw (e, eq-eqb t u (sym (eqb-true u t e))))
          (λ e. rw (e, ne_eqb t u (λ x. eqb-false u t e (sym x))) (cases (eqb u max_events) (λ f. rw (f, eqb-true u max_events f))
          (λ f. let z = eqb-false u max_events f in let y = turn_small q.trigger i in rw (f, lt-ltb u max_events (omega arith)))))

      split : (a b x y c : Bool) → (a && b && not (not (x || y) || c)) ≡ ((a && (x && b) && not c) || (a && (y && b) && not c))
      split false b x y c = refl
      split true false true true c = refl
      split true false true false c = refl
      split true false false true c = refl
      split true false false false c = refl
      split true true true true true = refl
      split true true true true false = refl
      split true true true false true = refl
      split true true true false false = refl
      split true true false true true = refl
      split true true false true false = refl
      split true true false false c = refl

-- ---- a rule against all

some_or : (k : ℕ) (f g : ℕ → Bool) → some k (λ q. f q || g q) ≡ (some k f || some k g)
unfolding some
some_or zero f g = refl
some_or (suc k) f g = rw (some_or k f g) (swap (some k f) (some k g) (f k) (g k))
  where
    swap : (a b c d : Bool) → ((a || b) || (c || d)) ≡ ((a || c) || (b || d))
    swap true b c d = refl
    swap false true true d = refl
    swap false true false d = refl
    swap false false true d = refl
    swap false false false d = refl

-- rules whose stages do not meet are completions of different stages
stage-in : (n e : ℕ) → e < max_events → (n < max_events → n ≡ e) → has (stages_at n) e ≡ true
unfolding stages_at
stage-in n e h f = cases (ltb n max_events) (λ t. rw t (has-only n e ∙ eq-eqb n e (f (ltb-true n max_events t)))) (λ t. rw t (has_all max_events e ∙ lt-ltb e max_events h))

stages-apart : (t u : ℕ) → ((e : ℕ) → has (stages_at t) e ≡ true → has (stages_at u) e ≡ true → ⊥) → (not (eqb t u) && ltb t max_events && ltb u max_events) ≡ true
stages-apart t u n =
    cases (ltb t max_events)
    (λ x. let h = ltb-true t max_events x in
    cases (ltb u max_events)
    (λ y. let i = ltb-true u max_events y in rw (x, y, ne_eqb t u (λ z. n t (stage-in t t h (λ o. refl)) (stage-in u t h (λ o. sym z)))))
    (λ y. let i = ltb-false u max_events y in absurd (n t (stage-in t t h (λ o. refl)) (stage-in u t h (λ o. absurd (omega arith))))))
    (λ x. let h = ltb-false t max_events x in
    cases (ltb u max_events)
    (λ y. let i = ltb-true u max_events y in absurd (n u (stage-in t u i (λ o. absurd (omega arith))) (stage-in u u i (λ o. refl))))
    (λ y. let i = ltb-false u max_events y in absurd (n 0 (stage-in t 0 (omega arith) (λ o. absurd (omega arith))) (stage-in u 0 (omega arith) (λ o. absurd (omega arith))))))

-- a mark's two places in its round
side-clears : (from i : ℕ) → side (from + i) false ≡ 2 * from + 2 * i
unfolding side
side-clears from i = omega arith

side-sets : (from i : ℕ) → side (from + i) true ≡ 2 * from + (2 * i + 1)
unfolding side
side-sets from i = omega arith

pub sides-of : (b : Book) (from n i k : ℕ) (work : List ℕ) → Summed b from n k work → i < n → Sides b (from + i) k (get_or work (senses_at n (2 * i)) 0) (get_or work (senses_at n (2 * i) + 1) 0)
sides-of b from n i k work g h =
    let z : senses_at n (2 * i + 1) ≡ senses_at n (2 * i) + 1 = omega arith in
    record {
      clears = rw (side-clears from i) (g.senses (2 * i) (omega arith));
      sets = rw (side-sets from i) (subst (λ (a : ℕ). Senses b (λ q. eqb (does b q) (2 * from + (2 * i + 1))) k (get_or work a 0)) z (g.senses (2 * i + 1) (omega arith)));
    }

module _ (b : Book) (known : (y : ℕ) → y < length b.rules → Known (rule_of b y).trigger) where
  apart-sense : (p : ℕ) → twin (code_of b p) ≡ mixed → ⊥
  apart-sense p = twin-not-mixed (code_of b p) (code-some (rule_of b p).sense)

  pub any-late : (p s : ℕ) → p < length b.rules → max_events ≤ turn (rule_of b p).trigger
      → Senses b (λ q. eqb (does b q) (side (rule_of b p).target (not (rule_of b p).effect))) (length b.rules) s → meets s (twin (code_of b p)) ≡ clashes_any b p
  unfolding clashes_any
  any-late p s h l g =
      g.says (twin (code_of b p)) (apart-sense p)
      ∙ some_same (length b.rules) _ (λ q. clash (rule_of b p) (rule_of b q)) (λ q i. sym (clash-late (rule_of b p) (rule_of b q) (known p h) (known q i) l))

  pub any-early : (p s t : ℕ) → p < length b.rules → turn (rule_of b p).trigger < max_events
      → Senses b (λ q. eqb (rule_of b q).target (rule_of b p).target && eqb (slot b q) (side (turn (rule_of b p).trigger) (not (rule_of b p).effect))) (length b.rules) s
      → Senses b (λ q. eqb (rule_of b q).target (rule_of b p).target && eqb (slot b q) (side max_events (not (rule_of b p).effect))) (length b.rules) t
      → (meets s (twin (code_of b p)) || meets t (twin (code_of b p))) ≡ clashes_any b p
  unfolding clashes_any
  any-early p s t h l g f =
      rw (g.says (twin (code_of b p)) (apart-sense p), f.says (twin (code_of b p)) (apart-sense p))
      (sym (some_or (length b.rules) _ _)
      ∙ some_same (length b.rules) _ (λ q. clash (rule_of b p) (rule_of b q)) (λ q i. sym (clash-early (rule_of b p) (rule_of b q) (known p h) (known q i) l)))

  -- ---- a mark that its words tell to be calm

  module _ (from n i : ℕ) (work : List ℕ) (g : Summed b from n (length b.rules) work) (inside : i < n) where
    -- a rule that clears the mark, and one that sets it
    record Pair (p q : ℕ) : Type 0 where
      clears : (p < length b.rules) × ((rule_of b p).target ≡ from + i) × ((rule_of b p).effect ≡ false)
      sets : (q < length b.rules) × ((rule_of b q).target ≡ from + i) × ((rule_of b q).effect ≡ true)

    does-of : (p : ℕ) (e : Bool) → (rule_of b p).target ≡ from + i → (rule_of b p).effect ≡ e → does b p ≡ side (from + i) e
    does-of p e x y = rw (x, y)

    not-other : (p q : ℕ) → Pair p q
        → (other_stages (rule_of b p).trigger (rule_of b q).trigger || opposite_senses (rule_of b p).sense (rule_of b q).sense) ≡ true → clash (rule_of b p) (rule_of b q) ≡ false
    unfolding clash apart
    not-other p q c e = rw (e) (and-false (opposed (rule_of b p) (rule_of b q)))

    by-stages : inter (row_of work (2 * i)) (row_of work (2 * i + 1)) ≡ 0 → (p q : ℕ) → Pair p q → clash (rule_of b p) (rule_of b q) ≡ false
    by-stages z p q c =
        let (h, x, e) = c.clears in
        let (k, y, f) = c.sets in
        not-other p q c (rw (
          other-turns (rule_of b p).trigger (rule_of b q).trigger (known p h) (known q k),
          stages-apart (turn (rule_of b p).trigger) (turn (rule_of b q).trigger) (λ v u w. apart-not (row_of work (2 * i)) (row_of work (2 * i + 1)) v z
              (g.stages p (2 * i) v h (omega arith) (does-of p false x e ∙ side-clears from i) u) (g.stages q (2 * i + 1) v k (omega arith) (does-of q true y f ∙ side-sets from i) w)),
        ))

    by-senses : twin (get_or work (senses_at n (2 * i)) 0) ≡ get_or work (senses_at n (2 * i) + 1) 0 → (p q : ℕ) → Pair p q → clash (rule_of b p) (rule_of b q) ≡ false
    unfolding meets
    by-senses z p q c =
        let (h, x, e) = c.clears in
        let (k, y, f) = c.sets in
        let s : ℕ = get_or work (senses_at n (2 * i)) 0 in
        let r : ℕ = get_or work (senses_at n (2 * i) + 1) 0 in
        let m : ℕ = from + i in
        let pair = sides-of b from n i (length b.rules) work g inside in
        let gs = pair.clears in
        let gr = pair.sets in
        let jp : eqb (does b p) (side m false) ≡ true = eq-eqb (does b p) (side m false) (does-of p false x e) in
        let jq : eqb (does b q) (side m true) ≡ true = eq-eqb (does b q) (side m true) (does-of q true y f) in
        not-other p q c (or_right (other_stages (rule_of b p).trigger (rule_of b q).trigger) (opposite_senses (rule_of b p).sense (rule_of b q).sense) (cases (eqb s mixed)
        (λ t. let o : r ≡ 0 = sym z ∙ ap twin (eqb-true s mixed t) ∙ twin-mixed in
        absurd (code-some (rule_of b q).sense (senses-one b (λ q. eqb (does b q) (side m true)) (length b.rules) r 0 q gr (λ n. omega arith) (rw (eq-eqb r 0 o)) k jq)))
        (λ t. let j : code_of b p ≡ s = senses-one b (λ q. eqb (does b q) (side m false)) (length b.rules) s s p gs (eqb-false s mixed t)
        (rw (eq-eqb s s refl) (and-false (not (eqb s 0)))) h jp in
        let v : r ≡ twin (code_of b p) = sym z ∙ ap twin (sym j) in
        opposite-code (rule_of b p).sense (rule_of b q).sense
        ∙ eq-eqb (code_of b q) (twin (code_of b p)) (senses-one b (λ q. eqb (does b q) (side m true)) (length b.rules) r (twin (code_of b p)) q gr (apart-sense p)
        (rw (eq-eqb r (twin (code_of b p)) v) (and-false (not (eqb r 0)))) k jq))))

    -- no rule that targets the mark clashes
    pub calm-any : (r : Bool) → r ≡ calm n work i → r ≡ true
        → (p : ℕ) → p < length b.rules → (rule_of b p).target ≡ from + i → clashes_any b p ≡ false
    unfolding clashes_any
    calm-any r e t p h x = some-none (length b.rules) (λ q. clash (rule_of b p) (rule_of b q)) (λ q l. not_so (λ c.
        let k = (clashes-so (rule_of b p) (rule_of b q)).0 c in contra c (turned q l (sym k.mark ∙ x) k.effects (rule_of b p).effect (rule_of b q).effect refl refl)))
      where
        pair : (p q : ℕ) → Pair p q → clash (rule_of b p) (rule_of b q) ≡ false
        pair p q c =
            either (eqb (inter (row_of work (2 * i)) (row_of work (2 * i + 1))) 0) (eqb (twin (get_or work (senses_at n (2 * i)) 0)) (get_or work (senses_at n (2 * i) + 1) 0)) (sym e ∙ t)
            (λ z. by-stages (eqb-true (inter (row_of work (2 * i)) (row_of work (2 * i + 1))) 0 z) p q c)
            (λ z. by-senses (eqb-true (twin (get_or work (senses_at n (2 * i)) 0)) (get_or work (senses_at n (2 * i) + 1) 0) z) p q c)

        turned : (q : ℕ) → q < length b.rules → (rule_of b q).target ≡ from + i → ((rule_of b p).effect ≡ (rule_of b q).effect → ⊥)
            → (d f : Bool) → (rule_of b p).effect ≡ d → (rule_of b q).effect ≡ f → clash (rule_of b p) (rule_of b q) ≡ false
        turned q l y n true true j k = absurd (n (j ∙ sym k))
        turned q l y n false false j k = absurd (n (j ∙ sym k))
        turned q l y n false true j k = pair p q (record { clears = (h, x, j); sets = (l, y, k) })
        turned q l y n true false j k = clash-turned (rule_of b p) (rule_of b q) ∙ pair q p (record { clears = (l, y, k); sets = (h, x, j) })
