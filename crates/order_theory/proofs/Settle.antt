-- Any two fit orders of the counted rules end alike, and no mark changes twice. Assumes nothing.
use Rattle.std.specs.Prelude.{◌≡◌, ◌⊎◌, Bool, false, ◌&&◌, ℕ, ◌≤◌, eqb}
use Rattle.std.proofs.Math.Path.{refl, sym, subst}
use Rattle.std.proofs.Common.{ap, ◌∙◌, inl, inr, ⊎_elim, eqb-true, eq-eqb}
use Rattle.std.proofs.Math.Bool.{true}
use mathlib.Core.List.{List, [], ◌∷◌}
use native.Mathlib.Omega.{arith}
use Rattle.paper.specs.Snapshots.{Snap}
use Rattle.general.specs.Cases.{contra, cases, all3}
use Rattle.general.specs.Below.{find}
use Rattle.order_theory.specs.Order.{Net, Counted, Mem, Fit, Respects, before}
use Rattle.order_theory.specs.Settle.{Acts, flips, flips-same, step, run, changes, Calm, Settled}

flips-le : (a b : Bool) → flips a b ≤ 1
unfolding flips
flips-le true true = omega arith
flips-le true false = omega arith
flips-le false true = omega arith
flips-le false false = omega arith

module _ (N : Net) (A : Acts N) where
  stepped : {C : Type 0} (s : Snap) (r m : ℕ) → (step N A s r m ≡ s m → C) → (N.target r ≡ m → A.fires s r ≡ true → step N A s r m ≡ A.effect r → C) → C
  unfolding step
  stepped s r m k w =
      cases (eqb m (N.target r))
      (λ e. cases (A.fires s r) (λ f. w (sym (eqb-true m (N.target r) e)) f (rw (e, f))) (λ f. k (rw (e, f))))
      (λ e. k (rw e))

  untouched : (l : List ℕ) (s : Snap) (m : ℕ) → ((q : ℕ) → Mem q l → N.target q ≡ m → ⊥) → run N A s l m ≡ s m
  unfolding run
  untouched [] s m h = refl
  untouched (r ∷ l) s m h = untouched l (step N A s r) m (λ q i. h q (inr i)) ∙ stepped s r m (λ e. e) (λ t f e. absurd (h r (inl refl) t))

  -- a rule fires at its turn exactly if it fires in the final snapshot
  final-fire : (l : List ℕ) (r : ℕ) (s : Snap) → Respects N (r ∷ l) → A.fires (run N A s (r ∷ l)) r ≡ A.fires s r
  final-fire l r s h = A.local (run N A s (r ∷ l)) s r (λ m e. untouched (r ∷ l) s m (λ q i t. contra e (rw (t, before) at (h.0 q i))))

  -- what the start has at m and every firing rule writes to m, the end has at m
  keep : (P : Bool → Type 0) (l : List ℕ) (s : Snap) (m : ℕ) → Respects N l → P (s m)
      → ((q : ℕ) → Mem q l → N.target q ≡ m → A.fires (run N A s l) q ≡ true → P (A.effect q)) → P (run N A s l m)
  unfolding run
  keep P [] s m h p w = p
  keep P (r ∷ l) s m h p w =
      keep P l (step N A s r) m h.1
      (stepped s r m (λ e. subst P (sym e) p) (λ t f e. subst P (sym e) (w r (inl refl) t (final-fire l r s h ∙ f))))
      (λ q i. w q (inr i))

  wrote_it : (l : List ℕ) (s : Snap) → Respects N l → (r : ℕ) → Mem r l
      → ((q : ℕ) → Mem q l → N.target q ≡ N.target r → A.fires (run N A s l) q ≡ true → A.effect q ≡ A.effect r)
      → A.fires (run N A s l) r ≡ true → run N A s l (N.target r) ≡ A.effect r
  unfolding run step
  wrote_it [] s h r i w f = absurd i
  wrote_it (x ∷ l) s h r (inr i) w f = wrote_it l (step N A s x) h.1 r i (λ q j. w q (inr j)) f
  wrote_it (x ∷ l) s h r (inl e) w f =
      let g : A.fires s x ≡ true = sym (final-fire l x s h) ∙ rw e at f in
      keep (λ b. b ≡ A.effect r) l (step N A s x) (N.target r) h.1 (rw (eq-eqb (N.target r) (N.target x) (ap N.target e), g) (ap A.effect (sym e))) (λ q j. w q (inr j))

  pub run_settled : (l : List ℕ) → Fit N l → Calm N A → (s : Snap) → Settled N A s (run N A s l)
  run_settled l fit calm s = record {
    wrote = λ r i f. wrote_it l s fit.respects r (fit.whole r i) (λ q j e g. calm (run N A s l) q r (fit.below q j) i e g f) f;
    stayed = λ m h. keep (λ b. b ≡ s m) l s m fit.respects refl (λ q j e g. contra g (h q (fit.below q j) e));
  }

  module _ (s F G : Snap) (a : Settled N A s F) (b : Settled N A s G) where
    -- where the rules that target m fire alike in both, F and G agree at m
    same_at : (m : ℕ) → ((q : ℕ) → Counted N q → N.target q ≡ m → A.fires F q ≡ A.fires G q) → F m ≡ G m
    same_at m h =
        find N.count (λ q. N.counts q && eqb (N.target q) m && A.fires F q)
        (λ q i e.
        let (x, y, f) = all3 (N.counts q) (eqb (N.target q) m) (A.fires F q) e in
        let c : Counted N q = (i, x) in
        let u : N.target q ≡ m = eqb-true (N.target q) m y in
        rw (← u) (a.wrote q c f ∙ sym (b.wrote q c (sym (h q c u) ∙ f))))
        (λ z.
        let w : (q : ℕ) → Counted N q → N.target q ≡ m → A.fires F q ≡ false = λ q c u. rw (c.1, eq-eqb (N.target q) m u) at (z q c.0) in
        a.stayed m w ∙ sym (b.stayed m (λ q c u. sym (h q c u) ∙ w q c u)))

    fire-alike : (l : List ℕ) → Respects N l → ((q : ℕ) → Counted N q → Mem q l ⊎ (A.fires F q ≡ A.fires G q)) → (q : ℕ) → Counted N q → A.fires F q ≡ A.fires G q
    fire-alike [] h w q c = ⊎_elim absurd (λ e. e) (w q c)
    fire-alike (r ∷ l) h w q c = fire-alike l h.1 (λ p d. ⊎_elim (⊎_elim (λ e. inr (rw e new)) inl) inr (w p d)) q c
      where
        new : A.fires F r ≡ A.fires G r
        new = A.local F G r (λ m e. same_at m (λ p d u. ⊎_elim (λ i. contra e (rw (u, before) at (h.0 p i))) (λ x. x) (w p d)))

    pub settled-unique : (l : List ℕ) → Fit N l → (m : ℕ) → F m ≡ G m
    settled-unique l fit m = same_at m (λ q c u. fire-alike l fit.respects (λ p d. inl (fit.whole p d)) q c)

  -- every fit order ends alike
  pub confluence : (k l : List ℕ) → Fit N k → Fit N l → Calm N A → (s : Snap) (m : ℕ) → run N A s k m ≡ run N A s l m
  confluence k l x y calm s = settled-unique s (run N A s k) (run N A s l) (run_settled k x calm s) (run_settled l y calm s) k x

  -- a mark that no firing rule alters never changes
  quiet : (l : List ℕ) (s : Snap) (m : ℕ) → Respects N l → ((q : ℕ) → Mem q l → N.target q ≡ m → A.fires (run N A s l) q ≡ true → A.effect q ≡ s m) → changes N A s l m ≡ 0
  unfolding run changes
  quiet [] s m h w = refl
  quiet (r ∷ l) s m h w = rw (flips-same (s m) (step N A s r m) same, quiet l (step N A s r) m h.1 (λ q i t f. w q (inr i) t f ∙ sym same))
    where
      same : step N A s r m ≡ s m
      same = stepped s r m (λ e. e) (λ t f e. e ∙ w r (inl refl) t (final-fire l r s h ∙ f))

  once : (l : List ℕ) (s : Snap) (m : ℕ) → Respects N l
      → ((p q : ℕ) → Mem p l → Mem q l → N.target p ≡ m → N.target q ≡ m → A.fires (run N A s l) p ≡ true → A.fires (run N A s l) q ≡ true → A.effect p ≡ A.effect q)
      → changes N A s l m ≤ 1
  unfolding run changes
  once [] s m h w = omega arith
  once (r ∷ l) s m h w =
      stepped s r m
      (λ e. rw (flips-same (s m) (step N A s r m) e) (omega (arith, once l (step N A s r) m h.1 (λ p q i j. w p q (inr i) (inr j)))))
      (λ t f e.
      rw (quiet l (step N A s r) m h.1 (λ q i u g. w q r (inr i) (inl refl) u t g (final-fire l r s h ∙ f) ∙ sym e))
      (omega (arith, flips-le (s m) (step N A s r m))))

  -- no mark changes more than once
  pub toggle-once : (l : List ℕ) → Fit N l → Calm N A → (s : Snap) (m : ℕ) → changes N A s l m ≤ 1
  toggle-once l fit calm s m = once l s m fit.respects (λ p q i j t u f g. calm (run N A s l) p q (fit.below p i) (fit.below q j) (t ∙ sym u) f g)
