-- The climb to a node that lies above: how far it is, and that the climb which does not come back to its start in so many steps as there are nodes never does. Assumes nothing.
use Prim.Native.Nat.{ℕ, ◌+◌, ◌≤◌, ◌<◌}
use Rattle.std.specs.Prelude.{◌≡◌, ◌≢◌, ◌↔◌, ◌⊎◌, false, not, ◌&&◌, ◌||◌, List, ltb}
use Rattle.std.proofs.Math.Path.{refl, sym}
use Rattle.std.proofs.Common.{◌∙◌}
use Rattle.std.proofs.Math.Logic.{⊎_elim}
use Rattle.std.proofs.Math.Bool.{Bool, true, or-false}
use native.Mathlib.Omega.{arith}
use Rattle.std.proofs.Math.Dec.{eqb}
use borrow.Author.Tests.{lt-ltb, eq-eqb, ne_eqb, eqb-true}
use Rattle.general.specs.Cases.{contra, both, either, or_right, not_so, same_test}
use Rattle.general.specs.Below.{tally, tally-le, tally-less}
use Rattle.closure.specs.Closure.{Way, hop, via, within, reached}
use Rattle.records.specs.Image.{nodes, parent_of, Whole}
use Rattle.nesting.specs.Nesting.{parent, Nested, OnLoop, nested, at_or_above, on_loop_at, nested-so}
use Rattle.nesting.specs.Climbing.{from_up, from-none, from_step, nested-step, parent_is}
use Rattle.nesting.specs.Loops.{behind, loop-back, left-whole}

module _ (image : List ℕ) where
  pub one_parent : (a b c : ℕ) → parent image a b ≡ true → parent image a c ≡ true → b ≡ c
  one_parent a b c e f = sym (parent_is image a b e).2 ∙ (parent_is image a c f).2

  -- the node behind the first link of a way is the parent that the record names
  pub first-link : {a b : ℕ} → Way (parent image) a b → parent image a (parent_of image a) ≡ true
  first-link (hop {a} {b} e) = rw (parent_is image a b e).2 e
  first-link (via {a} {c} {b} e w) = rw (parent_is image a c e).2 e

module _ (image : List ℕ) (home : ℕ) where
  -- the links without the one that leaves home
  unfoldable pub onward : ℕ → ℕ → Bool
  onward a b = parent image a b && not (eqb a home)

  onward-in : (a b : ℕ) → onward a b ≡ true → b < nodes image
  unfolding onward
  onward-in a b e = (parent_is image a b (both (parent image a b) (not (eqb a home)) e).0).1

  pub onward-is : (a b : ℕ) → parent image a b ≡ true → a ≢ home → onward a b ≡ true
  unfolding onward
  onward-is a b e d = rw (e, ne_eqb a home d)

  onward-so : (a b : ℕ) → onward a b ≡ (parent image a b && not (eqb a home))
  unfolding onward
  onward-so a b = refl

  -- x is c, or lies before home on the way from c, or is home
  abbrev pub Ahead : ℕ → ℕ → Type 0
  Ahead c x = (c ≡ x) ⊎ Way onward c x

  -- how far it is from c to home
  unfoldable pub ahead : ℕ → ℕ
  ahead c = tally (nodes image) (within onward (nodes image) c)

  pub behind-first : {c p x : ℕ} → parent image c p ≡ true → Way onward c x → Ahead p x
  unfolding onward
  behind-first f w = behind (parent image) (one_parent image) onward (λ a b h. (both (parent image a b) (not (eqb a home)) h).0) w f

  so : (a b : ℕ) → Way onward a b ↔ (within onward (nodes image) a b ≡ true)
  so a b = reached onward (nodes image) onward-in a b

  -- a node below home is not ahead of itself
  not_own : {c : ℕ} → Nested image c home → within onward (nodes image) c c ≡ false
  not_own {c} w =
      not_so (λ t. contra (eq-eqb home home refl) (left-whole (parent image) (one_parent image) onward (λ a. eqb a home) onward-so ((so c c).1 t) w))

  pub ahead-few : {c : ℕ} → Nested image c home → ahead c < nodes image
  unfolding ahead
  ahead-few {c} w =
      let n : ℕ = nodes image in
      let f : ℕ → Bool = within onward n c in
      let g : ℕ → Bool = λ x. f x || eqb x c in
      let l = (parent_is image c (parent_of image c) (first-link image w)).0 in
      let t = tally-less n g f c l (or_right (f c) (eqb c c) (eq-eqb c c refl)) (not_own w) (λ x h d. rw (ne_eqb x c d) (or-false (f x))) in
      omega (arith, tally-le n g)

  -- one step up is one node nearer
  pub ahead-less : {c p : ℕ} → OnLoop image home → Nested image c home → c ≢ home → p ≡ parent_of image c → ahead p < ahead c
  unfolding ahead
  ahead-less {c} {p} l w d q =
      let n : ℕ = nodes image in
      let e : parent image c p ≡ true = rw q (first-link image w) in
      let f : onward c p ≡ true = onward-is c p e d in
      let back : Nested image p home = ⊎_elim (λ z. rw z l) (λ v. v) (behind (parent image) (one_parent image) (parent image) (λ a b h. h) w e) in
      let t = tally-less n (within onward n c) (within onward n p) p (onward-in c p f) ((so c p).0 (hop f)) (not_own back)
      (λ x h o. same_test (within onward n c x) (within onward n p x)
      (λ t. ⊎_elim (λ z. absurd (o (sym z))) (λ v. (so p x).0 v) (behind-first e ((so c x).1 t))) (λ t. (so c x).0 (via f ((so p x).1 t)))) in
      omega arith

-- ---- the search for a node on a loop

-- the climb from a has come to c, and has passed i nodes since the first
pub record Returning (image : List ℕ) (n a c i : ℕ) : Type 0 where
  pub same : on_loop_at image a ≡ from_up image c a
  pub near : on_loop_at image a ≡ true → i + ahead image a c < n

module _ {image : List ℕ} {n k a : ℕ} (w : Whole image n k) (h : a < n) where
  pub returning-start : {c : ℕ} → c ≡ parent_of image a → Returning image n a c 0
  unfolding on_loop_at
  returning-start {c} q =
      let e = w.nodes in
      record {
        same = rw q (nested-step image a a (omega arith));
        near = λ t.
            let l = (nested-so image a a).0 t in
            let b : Nested image c a = loop-back (parent image) (one_parent image) l (hop (rw q (first-link image l))) in
            let o = ahead-few image a b in
            omega arith;
      }

  module _ {c i : ℕ} (m : Returning image n a c i) where
    pub returning-home : c ≡ a → true ≡ on_loop_at image a
    unfolding from_up at_or_above
    returning-home q = let e = w.nodes in sym (m.same ∙ rw (q, lt-ltb a (nodes image) (omega arith), eq-eqb a a refl))

    pub returning-off : n ≤ c → false ≡ on_loop_at image a
    returning-off l = let e = w.nodes in sym (m.same ∙ from-none image c a (omega arith))

    pub returning-more : {p : ℕ} → c ≢ a → c < n → p ≡ parent_of image c → Returning image n a p (i + 1)
    unfolding on_loop_at from_up at_or_above
    returning-more {p} d l q =
        let e = w.nodes in
        let j : c < nodes image = omega arith in
        record {
          same = m.same ∙ from_step image c p a j q ∙ rw (ne_eqb c a d);
          near = λ t.
              let u = both (ltb c (nodes image)) (eqb c a || nested image c a) (sym m.same ∙ t) in
              let v : nested image c a ≡ true = either (eqb c a) (nested image c a) u.1 (λ x. absurd (d (eqb-true c a x))) (λ x. x) in
              let o = ahead-less image a ((nested-so image a a).0 t) ((nested-so image c a).0 v) d q in
              let b = m.near t in
              omega arith;
        }
