-- Once round a loop: the way from a node of it back to that node, and the lowest that it passes. Assumes nothing.
use Rattle.std.specs.Prelude.{ℕ, ◌≤◌, ◌<◌, ◌≡◌, refl, ◌≢◌, ◌⊎◌, true, not, List, eqb, ltb, min}
use Rattle.std.proofs.Common.{inl, inr, ⊎_elim, arith, eq-eqb, eqb-true, ltb-true, ltb-false}
use Rattle.std.proofs.lemmas.Bool.{eqb-false, not-true}
use Rattle.general.specs.Cases.{contra, cases, both}
use Rattle.closure.specs.Closure.{Way, hop, via, join}
use Rattle.records.specs.Image.{parent_of, Whole}
use Rattle.nesting.specs.Nesting.{parent, Nested, OnLoop}
use Rattle.nesting.specs.Loops.{loop-back, loop-on}
use Rattle.nesting.specs.Ahead.{one_parent, first-link, onward, onward-is, Ahead, ahead, behind-first, ahead-less}
use Rattle.mending.specs.Cutting.{start-in, LowestOfLoop}

-- low is the lowest of the loop of met
pub record LowestRound (image : List ℕ) (met low : ℕ) : Type 0 where
  pub lowest : LowestOfLoop image low
  pub round : Nested image met low

-- a node on a loop is one of the n nodes
pub loop-in : {image : List ℕ} {n k c : ℕ} → Whole image n k → OnLoop image c → c < n
loop-in {image} w l = let h = start-in image l in let e = w.nodes in omega arith

-- the lower of two is one of them
pub min-one : {m : ℕ} (a b : ℕ) → m ≡ min a b → (m ≡ a) ⊎ (m ≡ b)
min-one a b e = cases (ltb a b) (λ t. let l = ltb-true a b t in inl (omega arith)) (λ t. let l = ltb-false a b t in inr (omega arith))

module _ (image : List ℕ) (met : ℕ) where
  -- no way leaves met
  not-from : {x : ℕ} → Way (onward image met) met x → ⊥
  unfolding onward
  not-from (hop {a} {b} e) = contra (eq-eqb a a refl) (not-true (eqb a a) (both (parent image a b) (not (eqb a a)) e).1)
  not-from (via {a} {c} e w) = contra (eq-eqb a a refl) (not-true (eqb a a) (both (parent image a c) (not (eqb a a)) e).1)

  ahead-link : (c x y : ℕ) → parent image met c ≡ true → Ahead image met c x → parent image x y ≡ true → Ahead image met c y
  ahead-link c x y f h e =
      cases (eqb x met) (λ t. inl (one_parent image met c y f (rw (eqb-true x met t) at e)))
      (λ t. let l : Way (onward image met) x y = hop (onward-is image met x y e (eqb-false x met t)) in inr (⊎_elim (λ q. rw q l) (λ w. join (onward image met) w l) h))

  -- all that lies above what is ahead of the parent of met is ahead of it
  ahead-up : (c : ℕ) {x y : ℕ} → parent image met c ≡ true → Ahead image met c x → Way (parent image) x y → Ahead image met c y
  ahead-up c f h (hop {a = x} {b = y} e) = ahead-link c x y f h e
  ahead-up c f h (via {a = x} {c = d} {b = y} e w) = ahead-up c f (ahead-link c x d f h e) w

  -- gone round as far as c: what has been passed is not below low
  pub record Round (low c : ℕ) : Type 0 where
    pub on : OnLoop image met
    pub here : Nested image met c
    pub lowest : Nested image met low
    pub most : low ≤ met
    pub passed : (x : ℕ) → Nested image met x → (low ≤ x) ⊎ Ahead image met c x

  pub round-start : {c : ℕ} → OnLoop image met → c ≡ parent_of image met → Round met c
  round-start {c} l q =
      let e : parent image met c ≡ true = rw q (first-link image l) in
      record {
        on = l;
        here = hop e;
        lowest = l;
        most = omega arith;
        passed = λ x w. inr (ahead-up c e (ahead-up c e (inl refl) (loop-back (parent image) (one_parent image) l (hop e))) w);
      }

  module _ {low c : ℕ} (r : Round low c) where
    -- c lies on the loop
    pub round-on : OnLoop image c
    round-on = loop-on (parent image) (one_parent image) r.on r.here

    pub round-more : {next p : ℕ} → c ≢ met → p ≡ parent_of image c → next ≤ low → next ≤ c → (next ≡ low) ⊎ (next ≡ c) → Round next p
    round-more {next} {p} d q a b i =
        let e : parent image c p ≡ true = rw q (first-link image round-on) in
        record {
          on = r.on;
          here = join (parent image) r.here (hop e);
          lowest = ⊎_elim (λ z. rw z r.lowest) (λ z. rw z r.here) i;
          most = let m = r.most in omega arith;
          passed = λ x w. ⊎_elim (λ h. inl (omega arith)) (λ h. ⊎_elim (λ z. inl (omega arith)) (λ v. inr (behind-first image met e v)) h) (r.passed x w);
        }

    pub round-less : {p : ℕ} → c ≢ met → p ≡ parent_of image c → ahead image met p < ahead image met c
    round-less d q = ahead-less image met r.on (loop-back (parent image) (one_parent image) r.on r.here) d q

    pub round-end : c ≡ met → LowestRound image met low
    round-end z =
        record {
          lowest = record {
            on = loop-on (parent image) (one_parent image) r.on r.lowest;
            lowest = λ j h w. ⊎_elim (λ l. omega arith) (λ l. ⊎_elim (λ q. let m = r.most in omega arith) (λ v. not-from (rw z at v)) l)
                (r.passed j (join (parent image) r.lowest w));
          };
          round = r.lowest;
        }
