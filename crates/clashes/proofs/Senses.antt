-- The senses of a group of rules as one number. Assumes nothing.
use mathlib.Core.Path.{◌≡◌, refl, sym, ◌∙◌}
use mathlib.Core.Bool.{Bool, true, false, not, cond, ◌&&◌, ◌||◌, or-false}
use Prim.Native.Nat.{ℕ, ◌+◌, ◌-◌, ◌*◌, ◌%◌, ◌<◌}
use native.Mathlib.Omega.{arith}
use lib.Dec.{eqb}
use borrow.Author.Tests.{eqb-true, eqb-false, eq-eqb, ne_eqb}
use Rattle.general.specs.Cases.{contra, cases, same_test}
use Rattle.general.specs.Below.{some, some_of, some-step}
use Rattle.book.specs.Book.{Book, rule_of}
use Rattle.book.specs.declared.Sense.{Sense}
use Rattle.book.specs.declared.Sense.TheVariants.{NoCondition, AsWritten, Negated}
use Rattle.clashes.specs.Clash.{is_written, is_negated, opposite_senses}
use Rattle.senses.specs.Senses.{code, code_of, mixed, twin, with_sense, meets, Senses}

-- ---- the number of a sense, and of its opposite

pub code-some : (g : Sense) → code g ≡ 0 → ⊥
unfolding code
code-some NoCondition e = omega arith
code-some (AsWritten c) e = omega arith
code-some (Negated c) e = omega arith

twin-written : (c : ℕ) → twin (2 * c + 2) ≡ 2 * c + 3
unfolding twin
twin-written c = rw (eq-eqb ((2 * c + 2) % 2) 0 (omega arith)) (omega arith)

twin-negated : (c : ℕ) → twin (2 * c + 3) ≡ 2 * c + 2
unfolding twin
twin-negated c = rw (ne_eqb ((2 * c + 3) % 2) 0 (λ e. omega arith)) (omega arith)

pub twin-mixed : twin mixed ≡ 0
unfolding twin
twin-mixed = refl

-- no sense has a mixed group for its opposite
pub twin-not-mixed : (n : ℕ) → (n ≡ 0 → ⊥) → twin n ≡ mixed → ⊥
unfolding twin
twin-not-mixed n h e =
    cases (eqb (n % 2) 0) (λ t. h (let z : n + 1 ≡ 1 = rw t at e in omega arith))
    (λ t. let z : n - 1 ≡ 1 = rw t at e in omega (arith, eqb-false (n % 2) 0 t))

-- "one condition record in opposite senses"
pub opposite-code : (g h : Sense) → opposite_senses g h ≡ eqb (code h) (twin (code g))
unfolding opposite_senses is_written is_negated code
opposite-code NoCondition h = rw (twin-mixed, ne_eqb (code h) 0 (code-some h))
opposite-code (AsWritten c) NoCondition = rw (twin-written c, ne_eqb 1 (2 * c + 3) (λ e. omega arith))
opposite-code (AsWritten c) (AsWritten d) = rw (twin-written c, ne_eqb (2 * d + 2) (2 * c + 3) (λ e. omega arith))
opposite-code (AsWritten c) (Negated d) =
    rw (twin-written c) (same_test (eqb c d) (eqb (2 * d + 3) (2 * c + 3))
    (λ t. let z = eqb-true c d t in eq-eqb (2 * d + 3) (2 * c + 3) (omega arith)) (λ t. let z = eqb-true (2 * d + 3) (2 * c + 3) t in eq-eqb c d (omega arith)))
opposite-code (Negated c) NoCondition = rw (twin-negated c, ne_eqb 1 (2 * c + 2) (λ e. omega arith))
opposite-code (Negated c) (AsWritten d) =
    rw (twin-negated c) (same_test (eqb c d) (eqb (2 * d + 2) (2 * c + 2))
    (λ t. let z = eqb-true c d t in eq-eqb (2 * d + 2) (2 * c + 2) (omega arith)) (λ t. let z = eqb-true (2 * d + 2) (2 * c + 2) t in eq-eqb c d (omega arith)))
opposite-code (Negated c) (Negated d) = rw (twin-negated c, ne_eqb (2 * d + 3) (2 * c + 2) (λ e. omega arith))

-- ---- the senses of a group

module _ (b : Book) (f : ℕ → Bool) where
  pub senses-none : Senses b f 0 0
  unfolding meets some
  senses-none = record { says = λ v n. refl }

  pub senses-past : (k s : ℕ) → Senses b f k s → f k ≡ false → Senses b f (k + 1) s
  senses-past k s g e = record { says = λ v n. g.says v n ∙ sym (some-step k (λ q. f q && not (eqb (code_of b q) v)) ∙ rw e (or-false (some k (λ q. f q && not (eqb (code_of b q) v))))) }

  pub senses-more : (k s : ℕ) → Senses b f k s → f k ≡ true → Senses b f (k + 1) (with_sense s (code_of b k))
  unfolding meets with_sense
  senses-more k s g e =
      record {
        says = λ v n.
            let h : (not (eqb s 0) && not (eqb s v)) ≡ some k (λ q. f q && not (eqb (code_of b q) v)) = g.says v n in
            joined v (code_of b k) n (code-some (rule_of b k).sense) ∙ sym (some-step k (λ q. f q && not (eqb (code_of b q) v)) ∙ rw (← h, e));
      }
    where
      joined : (v c : ℕ) → (v ≡ 1 → ⊥) → (c ≡ 0 → ⊥)
          → (not (eqb (cond (eqb s 0) c (cond (eqb s c) s 1)) 0) && not (eqb (cond (eqb s 0) c (cond (eqb s c) s 1)) v)) ≡ ((not (eqb s 0) && not (eqb s v)) || not (eqb c v))
      joined v c n m =
          cases (eqb s 0) (λ t. rw (t, ne_eqb c 0 m))
          (λ t. cases (eqb s c) (λ u. rw (t, u, t, ← eqb-true s c u) (twice (not (eqb s v))))
          (λ u. rw (t, u, ne_eqb 1 v (λ x. n (sym x))) (cases (eqb s v) (λ x. rw (x, ne_eqb c v (λ y. eqb-false s c u (eqb-true s v x ∙ sym y)))) (λ x. rw x))))
        where
          twice : (x : Bool) → x ≡ (x || x)
          twice true = refl
          twice false = refl

  -- one rule of a group that all have one sense
  pub senses-one : (k s v q : ℕ) → Senses b f k s → (v ≡ mixed → ⊥) → meets s v ≡ false → q < k → f q ≡ true → code_of b q ≡ v
  senses-one k s v q g n e h t =
      cases (eqb (code_of b q) v) (eqb-true (code_of b q) v)
      (λ x. contra (some_of k (λ q. f q && not (eqb (code_of b q) v)) q h (rw (t, x))) (sym (g.says v n) ∙ e))
