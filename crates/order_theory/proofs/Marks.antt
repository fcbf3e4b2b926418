-- Ready rules by marks, as code that counts the unwritten rules of each mark sees them: a rule is ready exactly if it counts, is unwritten
-- and every mark that it refers to is settled. Only counted rules are waited for. Assumes nothing.
use Rattle.std.specs.Prelude.{◌≡◌, refl, ◌≢◌, true, false, ◌&&◌, ◌||◌, ℕ, ◌≤◌, ◌<◌}
use Rattle.std.proofs.Common.{sym, ◌∙◌, arith}
use Rattle.std.proofs.Math.Bool.{not}
use Rattle.std.proofs.Math.Dec.{eqb}
use borrow.Author.Tests.{eqb-true, eqb-false, eq-eqb, ne_eqb, not-true, not-false}
use Rattle.general.specs.Cases.{contra, cases, all3, neither, not_so, same_test}
use Rattle.general.specs.Below.{every, every-at, every_of, tally-none, none-tally, find, first-is}
use Rattle.order_theory.specs.Order.{Net, Counted, before}
use Rattle.order_theory.specs.Written.{Written, write}
use Rattle.order_theory.specs.Running.{ready, next}
use Rattle.order_theory.proofs.Running.{ready-is, is-ready}
use Rattle.order_theory.specs.Marks.{waiting, is_settled}

module _ (N : Net) where
  -- settled, by the rules
  pub settled_is : (d : Written) (m : ℕ) → is_settled N d m ≡ true → (p : ℕ) → Counted N p → N.target p ≡ m → d p ≡ true
  unfolding is_settled waiting
  settled_is d m e p h t =
      not-false (d p)
      (rw (h.1, eq-eqb (N.target p) m t) at (none-tally N.count (λ q. N.counts q && eqb (N.target q) m && not (d q)) (eqb-true (waiting N d m) 0 e) p h.0))

  pub is-settled : (d : Written) (m : ℕ) → ((p : ℕ) → Counted N p → N.target p ≡ m → d p ≡ true) → is_settled N d m ≡ true
  unfolding is_settled waiting
  is-settled d m h =
      eq-eqb (waiting N d m) 0
      (tally-none N.count (λ q. N.counts q && eqb (N.target q) m && not (d q))
      (λ p c. cases (N.counts p) (λ y. cases (eqb (N.target p) m) (λ e. rw (y, e, h p (c, y) (eqb-true (N.target p) m e))) (λ e. rw (y, e))) (λ y. rw y)))

  pub unsettled : {C : Type 0} (d : Written) (m : ℕ) → is_settled N d m ≡ false → ((p : ℕ) → Counted N p → N.target p ≡ m → d p ≡ false → C) → C
  unsettled d m e k =
      find N.count (λ p. N.counts p && eqb (N.target p) m && not (d p))
      (λ p c x. let (y, z, w) = all3 (N.counts p) (eqb (N.target p) m) (not (d p)) x in k p (c, y) (eqb-true (N.target p) m z) (not-true (d p) w))
      (λ h. contra (is-settled d m (λ p c t. not-false (d p) (rw (c.1, eq-eqb (N.target p) m t) at (h p c.0)))) e)

  -- ---- ready, by marks

  pub ready-marks : (marks : ℕ) → ((r : ℕ) → Counted N r → N.target r < marks) → (d : Written) (r : ℕ)
      → ready N d r ≡ (N.counts r && not (d r) && every marks (λ m. not (N.refers r m) || is_settled N d m))
  ready-marks marks small d r =
      same_test (ready N d r) (N.counts r && not (d r) && every marks (λ m. not (N.refers r m) || is_settled N d m))
      (λ e.
      let (x, y, c) = ready-is N d r e in
      rw (
        c,
        x,
        every_of marks (λ m. not (N.refers r m) || is_settled N d m) (λ m c. cases (N.refers r m)
            (λ z. rw (z, is-settled d m (λ p i t. cases (d p) (λ u. u) (λ u. contra z (rw (before, t) at (y p i u)))))) (λ z. rw z)),
      ))
      (λ e.
      let (c, x, y) = all3 (N.counts r) (not (d r)) (every marks (λ m. not (N.refers r m) || is_settled N d m)) e in
      is-ready N d r c (not-true (d r) x)
      (λ p i u. not_so (λ (z : N.refers r (N.target p) ≡ true). contra
      (settled_is d (N.target p) (rw z at (every-at marks (λ m. not (N.refers r m) || is_settled N d m) (N.target p) y (small p i))) p i refl) u)))

  -- ---- what changes once r is written

  pub ready-gone : (d : Written) (r : ℕ) → ready N (write d r) r ≡ false
  ready-gone d r = not_so (λ e. contra (rw (eq-eqb r r refl)) (ready-is N (write d r) r e).0)

  -- a rule that does not refer to r's target stays as it was
  pub ready-stays : (d : Written) (r q : ℕ) → q ≢ r → N.refers q (N.target r) ≡ false → ready N (write d r) q ≡ ready N d q
  ready-stays d r q n f =
      same_test (ready N (write d r) q) (ready N d q)
      (λ e.
      let (x, y, c) = ready-is N (write d r) q e in
      is-ready N d q c (neither (eqb q r) (d q) x).1
      (λ p i u. cases (eqb p r) (λ z. rw (before, eqb-true p r z) f) (λ z. y p i (rw (z, u)))))
      (λ e.
      let (x, y, c) = ready-is N d q e in
      is-ready N (write d r) q c (rw (ne_eqb q r n, x)) (λ p i u. y p i (neither (eqb p r) (d p) u).1))

  -- and so does every other rule while r's target still waits for another rule
  pub ready-waits : (d : Written) (r q : ℕ) → q ≢ r → is_settled N (write d r) (N.target r) ≡ false → ready N (write d r) q ≡ ready N d q
  ready-waits d r q n s =
      cases (N.refers q (N.target r))
      (λ t. unsettled (write d r) (N.target r) s (λ p c u w.
      let b : before N p q ≡ true = rw (before, u) t in
      not_so (λ e. contra b ((ready-is N (write d r) q e).1 p c w))
      ∙ sym (not_so (λ e. contra b ((ready-is N d q e).1 p c (neither (eqb p r) (d p) w).1)))))
      (λ t. ready-stays d r q n t)

  -- so the search for the next rule goes on behind r: nothing up to r is ready
  pub next-on : (d : Written) (r : ℕ) → r ≡ next N d → is_settled N (write d r) (N.target r) ≡ false → (p : ℕ) → p ≤ r → ready N (write d r) p ≡ false
  next-on d r e s p h =
      cases (eqb p r) (λ x. rw (eqb-true p r x) (ready-gone d r))
      (λ x. let n : p ≢ r = eqb-false p r x in ready-waits d r p n s ∙ (first-is N.count (ready N d)).lowest p (omega arith))
