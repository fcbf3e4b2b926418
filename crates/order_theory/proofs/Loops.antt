-- A mark is targeted by a rule on a loop exactly if the closure of the table of references has it reach itself. Assumes nothing.
use Rattle.std.specs.Prelude.{◌≡◌, refl, ◌⊎◌, ◌↔◌, true, ◌&&◌, ℕ, ◌<◌, ltb}
use Rattle.std.proofs.Common.{subst, inl, inr, ⊎_elim, arith}
use Rattle.std.proofs.Math.Dec.{eqb}
use borrow.Author.Tests.{eqb-true, eq-eqb, ltb-true, ltb-false}
use Rattle.general.specs.Cases.{contra, cases, both}
use Rattle.general.specs.Below.{some_of, some_at, first-is}
use Rattle.closure.specs.Closure.{Way, hop, via, within, sound, complete}
use Rattle.order_theory.specs.Order.{Net, Counted, before, Chain, link, more, OnLoop, NoLoop}
use Rattle.order_theory.specs.Loops.{leads, loop_mark}

module _ (N : Net) where
  pub leads-of : (r a : ℕ) → Counted N r → N.refers r a ≡ true → leads N a (N.target r) ≡ true
  unfolding leads
  leads-of r a h e =
      some_of N.count (λ r'. N.counts r' && (N.refers r' a && eqb (N.target r') (N.target r))) r h.0 (rw (h.1, e, eq-eqb (N.target r) (N.target r) refl))

  pub of-leads : (a b : ℕ) → leads N a b ≡ true → (r : ℕ) × Counted N r × (N.refers r a ≡ true) × (N.target r ≡ b)
  unfolding leads
  of-leads a b e =
      let (r, h, x) = some_at N.count (λ r. N.counts r && (N.refers r a && eqb (N.target r) b)) e in
      let (c, w) = both (N.counts r) (N.refers r a && eqb (N.target r) b) x in
      let (y, z) = both (N.refers r a) (eqb (N.target r) b) w in
      (r, (h, c), y, eqb-true (N.target r) b z)

  -- a chain of rules is a way over their targets
  way_of : {p q : ℕ} → Chain N p q → Way (leads N) (N.target p) (N.target q)
  way_of (link {p} {q} i j e) = hop (leads-of q (N.target p) j e)
  way_of (more {p} {r} {q} i j e c) = via (leads-of r (N.target p) j e) (way_of c)

  -- a way over marks is a chain of rules: the first refers to where it starts, and the last targets where it ends
  abbrev Rules : ℕ → ℕ → Type 0
  Rules a b = (p : ℕ) × (q : ℕ) × Counted N p × Counted N q × (N.refers p a ≡ true) × (N.target q ≡ b) × ((p ≡ q) ⊎ Chain N p q)

  chain-of : {a b : ℕ} → Way (leads N) a b → Rules a b
  chain-of (hop {a} {b} e) = let t = of-leads a b e in (t.0, t.0, t.1, t.1, t.2, t.3, inl refl)
  chain-of (via {a} {c} {b} e w) =
      let (r, i, f, t) = of-leads a c e in
      let (p, q, j, l, g, u, s) = chain-of w in
      let k : before N r p ≡ true = rw (before, t) g in
      (r, q, i, l, f, u, inr (⊎_elim (λ x. link i l (rw x at k)) (λ h. more i j k h) s))

  pub loop-way : (m : ℕ) → OnLoop N m ↔ Way (leads N) m m
  loop-way m = (
    λ o. rw o.2 at (way_of o.3),
    λ w.
        let (p, q, i, j, e, t, s) = chain-of w in
        let k : before N q p ≡ true = rw (before, t) e in
        (q, j, t, ⊎_elim (λ x. link j j (subst (λ y. before N q y ≡ true) x k)) (λ c. more j i k c) s),
  )

  module _ (marks : ℕ) (small : (r : ℕ) → Counted N r → N.target r < marks) where
    pub loop-found : (m : ℕ) → OnLoop N m ↔ (within (leads N) marks m m ≡ true)
    loop-found m = (
      λ o. complete (leads N) marks (λ a b e. let t = of-leads a b e in rw t.3 at (small t.0 t.1)) ((loop-way m).0 o),
      λ e. (loop-way m).1 (sound (leads N) marks m m e),
    )

    pub loop-mark : ((loop_mark N marks < marks → OnLoop N (loop_mark N marks)) × ((m : ℕ) → m < loop_mark N marks → OnLoop N m → ⊥)) × (NoLoop N ↔ (loop_mark N marks ≡ marks))
    loop-mark =
        let l = first-is marks (λ m. within (leads N) marks m m) in (
          (λ h. (loop-found (loop_mark N marks)).1 (l.passes h), λ m h o. contra ((loop-found m).0 o) (l.lowest m h)),
          (
            λ n. cases (ltb (loop_mark N marks) marks)
                (λ e. let o = (loop-found (loop_mark N marks)).1 (l.passes (ltb-true (loop_mark N marks) marks e)) in absurd (n o.0 o.1 o.3))
                (λ e. let i = l.fits in omega (arith, ltb-false (loop_mark N marks) marks e)),
            λ e r i c. contra ((loop-found (N.target r)).0 (r, i, refl, c)) (l.lowest (N.target r) (rw e (small r i))),
          ),
        )
