-- Where fewer rules count there are no more loops, rules that refer to nothing are on none, and a rule that cannot fire may be left out of an
-- order. Assumes nothing.
use Rattle.std.specs.Prelude.{◌≡◌, ◌↔◌, true, false, ℕ, ◌<◌}
use Rattle.std.proofs.Math.Path.{refl}
use Rattle.std.proofs.Common.{sym, ap, subst, ◌∙◌}
use Rattle.std.proofs.Math.Logic.{inl, inr, ⊎_elim}
use mathlib.Core.List.{List, [], ◌∷◌}
use Rattle.general.specs.Cases.{contra, cases, not_so, same_test}
use Rattle.order_theory.specs.Order.{Net, Counted, Mem, Distinct, before, Respects, Fit, Chain, link, more, NoLoop, OnLoop}
use Rattle.order_theory.specs.Loops.{leads}
use Rattle.order_theory.proofs.Loops.{leads-of, of-leads}
use Rattle.order_theory.specs.Settle.{Snap, Acts, Calm, Settled, run}
use Rattle.order_theory.proofs.Settle.{run_settled, settled-unique}
use Rattle.order_theory.specs.Fewer.{Fewer, all_counted, RefersToNothing, counted_of, LeavesOut}

pub fewer-all : (N : Net) → Fewer N (all_counted N)
fewer-all N = record { count = refl; target = λ r. refl; refers = λ r m. refl; counts = λ r e. refl }

-- ---- loops

module _ {N M : Net} (f : Fewer N M) where
  pub fewer-counted : (r : ℕ) → Counted N r → Counted M r
  fewer-counted r c = (subst (λ (n : ℕ). r < n) f.count c.0, f.counts r c.1)

  before_same : (p q : ℕ) → before N p q ≡ before M p q
  before_same p q = f.refers q (N.target p) ∙ ap (M.refers q) (f.target p)

  fewer-chain : {p q : ℕ} → Chain N p q → Chain M p q
  fewer-chain (link {p} {q} i j e) = link (fewer-counted p i) (fewer-counted q j) (sym (before_same p q) ∙ e)
  fewer-chain (more {p} {r} {q} i j e c) = more (fewer-counted p i) (fewer-counted r j) (sym (before_same p r) ∙ e) (fewer-chain c)

  -- a mark on a loop is on one where more rules count
  pub fewer-marks : (m : ℕ) → OnLoop N m → OnLoop M m
  fewer-marks m o = (o.0, fewer-counted o.0 o.1, sym (f.target o.0) ∙ o.2, fewer-chain o.3)

  -- so without a loop there, there is none here
  pub fewer-loops : NoLoop M → NoLoop N
  fewer-loops h r c l = h r (fewer-counted r c) (fewer-chain l)

-- rules that form no loop over the whole book form none among those that count
pub whole-no-loop : (N : Net) → NoLoop (all_counted N) → NoLoop N
whole-no-loop N = fewer-loops (fewer-all N)

module _ {N M : Net} (f : Fewer N M) (n : RefersToNothing N M) where
  -- a rule that refers to a mark counts in both
  referring : (r m : ℕ) → Counted M r → M.refers r m ≡ true → Counted N r
  referring r m c e = (subst (λ (k : ℕ). r < k) (sym f.count) c.0, cases (N.counts r) (λ x. x) (λ x. contra e (n r c x m)))

  -- so the same marks lead to the same marks
  pub nothing-leads : (a b : ℕ) → leads N a b ≡ leads M a b
  nothing-leads a b =
      same_test (leads N a b) (leads M a b)
      (λ e.
      let (r, c, g, t) = of-leads N a b e in
      subst (λ (x : ℕ). leads M a x ≡ true) (sym (f.target r) ∙ t) (leads-of M r a (fewer-counted f r c) (sym (f.refers r a) ∙ g)))
      (λ e.
      let (r, c, g, t) = of-leads M a b e in
      subst (λ (x : ℕ). leads N a x ≡ true) (f.target r ∙ t) (leads-of N r a (referring r a c g) (f.refers r a ∙ g)))

  chain-end : {p q : ℕ} → Chain M p q → Counted N q
  chain-end (link {p} {q} i j e) = referring q (M.target p) j e
  chain-end (more {p} {r} {q} i j e c) = chain-end c

  chain-kept : {p q : ℕ} → Counted N p → Chain M p q → Chain N p q
  chain-kept h (link {p} {q} i j e) = link h (referring q (M.target p) j e) (before_same f p q ∙ e)
  chain-kept h (more {p} {r} {q} i j e c) = let k = referring r (M.target p) j e in more h k (before_same f p r ∙ e) (chain-kept k c)

  -- and such rules are on no loop: those of N are all there are
  pub nothing-marks : (m : ℕ) → OnLoop N m ↔ OnLoop M m
  nothing-marks m = (fewer-marks f m, λ o. let h = chain-end o.3 in (o.0, h, f.target o.0 ∙ o.2, chain-kept h o.3))

  pub nothing-loops : NoLoop N ↔ NoLoop M
  nothing-loops = (λ h r c l. let i = chain-end l in h r i (chain-kept i l), fewer-loops f)

-- ---- an order without the rules that do not count

module _ (N : Net) where
  -- one entry of any fact about them: it counts and stands first, or it is left out
  leaves : (P : List ℕ → Type 0) (r : ℕ) (l : List ℕ) → (N.counts r ≡ true → P (r ∷ counted_of N l)) → (N.counts r ≡ false → P (counted_of N l)) → P (counted_of N (r ∷ l))
  unfolding counted_of
  leaves P r l y n = cases (N.counts r) (λ e. rw e (y e)) (λ e. rw e (n e))

  counted-listed : (l : List ℕ) (q : ℕ) → Mem q (counted_of N l) → Mem q l × (N.counts q ≡ true)
  unfolding counted_of
  counted-listed [] q = absurd
  counted-listed (r ∷ l) q =
      leaves (λ k. Mem q k → Mem q (r ∷ l) × (N.counts q ≡ true)) r l
      (λ e. ⊎_elim (λ x. (inl x, rw x e)) (λ i. let t = counted-listed l q i in (inr t.0, t.1)))
      (λ e i. let t = counted-listed l q i in (inr t.0, t.1))

  listed-counted : (l : List ℕ) (q : ℕ) → Mem q l → N.counts q ≡ true → Mem q (counted_of N l)
  listed-counted [] q i c = absurd i
  listed-counted (r ∷ l) q i c =
      leaves (Mem q) r l (λ e. ⊎_elim inl (λ j. inr (listed-counted l q j c)) i)
      (λ e. ⊎_elim (λ x. contra (rw x at c) e) (λ j. listed-counted l q j c) i)

  counted-distinct : (l : List ℕ) → Distinct l → Distinct (counted_of N l)
  unfolding counted_of
  counted-distinct [] x = tt
  counted-distinct (r ∷ l) x = leaves Distinct r l (λ e. (λ i. x.0 (counted-listed l r i).0, counted-distinct l x.1)) (λ e. counted-distinct l x.1)

  counted-respects : (l : List ℕ) → Respects N l → Respects N (counted_of N l)
  unfolding counted_of
  counted-respects [] x = tt
  counted-respects (r ∷ l) x =
      leaves (Respects N) r l
      (λ e. (λ q i. x.0 q (⊎_elim inl (λ j. inr (counted-listed l q j).0) i), counted-respects l x.1)) (λ e. counted-respects l x.1)

  -- what is left of a fit order where fewer rules count is a fit order there
  pub fewer-fit : (M : Net) → Fewer N M → (l : List ℕ) → Fit M l → Fit N (counted_of N l)
  fewer-fit M f l x = record {
    below = λ q i. let (j, c) = counted-listed l q i in (subst (λ (n : ℕ). q < n) (sym f.count) (x.below q j).0, c);
    whole = λ q c. listed-counted l q (x.whole q (fewer-counted f q c)) c.1;
    distinct = counted-distinct l x.distinct;
    respects = counted-respects l (respected l x.respects);
  }
    where
      respected : (k : List ℕ) → Respects M k → Respects N k
      respected [] y = tt
      respected (r ∷ k) y = (λ q i. before_same f q r ∙ y.0 q i, respected k y.1)

module _ {N M : Net} {A : Acts N} {B : Acts M} (o : LeavesOut N M A B) where
  -- a rule of M that fires counts in N
  firing : (r : ℕ) → Counted M r → (s : Snap) → B.fires s r ≡ true → Counted N r × (A.fires s r ≡ true)
  firing r c s e =
      let g : A.fires s r ≡ true = o.fires s r ∙ e in
      ((subst (λ (n : ℕ). r < n) (sym o.fewer.count) c.0, cases (N.counts r) (λ x. x) (λ x. contra g (o.idle r c x s))), g)

  pub left-out-calm : Calm N A → Calm M B
  left-out-calm calm F p q i j t f g =
      let (c, x) = firing p i F f in
      let (d, y) = firing q j F g in
      sym (o.effect p) ∙ calm F p q c d (o.fewer.target p ∙ t ∙ sym (o.fewer.target q)) x y ∙ o.effect q

  -- what the rules make of a snapshot is the same with and without them
  pub left-out-settled : (s F : Snap) → Settled M B s F ↔ Settled N A s F
  left-out-settled s F = (
    λ a. record {
      wrote = λ r c f. ap F (o.fewer.target r) ∙ a.wrote r (fewer-counted o.fewer r c) (sym (o.fires F r) ∙ f) ∙ sym (o.effect r);
      stayed = λ m h. a.stayed m (λ r c t. not_so (λ f. let (d, g) = firing r c F f in contra g (h r d (o.fewer.target r ∙ t))));
    },
    λ a. record {
      wrote = λ r c f. let (d, g) = firing r c F f in ap F (sym (o.fewer.target r)) ∙ a.wrote r d g ∙ o.effect r;
      stayed = λ m h. a.stayed m (λ r c t. o.fires F r ∙ h r (fewer-counted o.fewer r c) (sym (o.fewer.target r) ∙ t));
    },
  )

  -- every fit order of the counted rules ends as every fit order with those that are left out does
  pub left_out : (k l : List ℕ) → Fit N k → Fit M l → Calm N A → (s : Snap) (m : ℕ) → run N A s k m ≡ run M B s l m
  left_out k l x y calm s =
      settled-unique N A s (run N A s k) (run M B s l) (run_settled N A k x calm s)
      ((left-out-settled s (run M B s l)).0 (run_settled M B l y (left-out-calm calm) s)) k x
