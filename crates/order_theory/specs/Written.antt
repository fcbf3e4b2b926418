-- Which numbers are written while an order is, how many are left, and lists that hold each number below n that passes a test once. Assumes nothing.
use Rattle.std.specs.Prelude.{◌≡◌, refl, ◌⊎◌, Bool, true, false, not, ◌&&◌, ◌||◌, ℕ, suc, ◌+◌, ◌<◌, eqb, length}
use Rattle.std.proofs.Common.{inl, inr, ⊎_elim, eqb-true, eq-eqb, ne_eqb}
use Rattle.std.proofs.Math.Bool.{and-true}
use mathlib.Core.List.{List, [], ◌∷◌}
use native.Mathlib.Omega.{arith}
use Rattle.std.proofs.lemmas.Bool.{not-false}
use Rattle.general.specs.Cases.{contra, cases, either}
use Rattle.general.specs.Below.{tally, tally-same, tally-less, tally-none, none-tally}
use Rattle.order_theory.specs.Order.{Mem, Distinct}

abbrev pub Written : Type 0
Written = ℕ → Bool

abbrev pub none : Written
none q = false

-- what is written once r is
abbrev pub write : Written → ℕ → Written
write d r q = eqb q r || d q

-- and once all of l are
unfoldable pub write_all : Written → List ℕ → Written
write_all d [] = d
write_all d (r ∷ l) = write_all (write d r) l

-- how many of the numbers below n that pass g are unwritten
abbrev pub left : (ℕ → Bool) → Written → ℕ → ℕ
left g d n = tally n (λ q. g q && not (d q))

-- once r is written, there is one less, or none less where r does not pass
module _ (g : ℕ → Bool) (d : Written) (n r : ℕ) where
  pub left_less : r < n → g r ≡ true → d r ≡ false → left g d n ≡ suc (left g (write d r) n)
  left_less h e f =
      tally-less n (λ q. g q && not (d q)) (λ q. g q && not (write d r q)) r h (rw (e, f)) (rw (e, eq-eqb r r refl))
      (λ q l x. rw (ne_eqb q r x))

  pub left-same : g r ≡ false → left g (write d r) n ≡ left g d n
  left-same e =
      tally-same n (λ q. g q && not (write d r q)) (λ q. g q && not (d q))
      (λ q l. cases (eqb q r) (λ x. rw (eqb-true q r x, e)) (λ x. rw x))

-- at first, all that pass are unwritten
pub left-first : (g : ℕ → Bool) (n : ℕ) → left g none n ≡ tally n g
left-first g n = tally-same n (λ q. g q && true) g (λ q h. and-true (g q))

-- ---- lists as written sets

listed-or : (l : List ℕ) (d : Written) (q : ℕ) → write_all d l q ≡ true → Mem q l ⊎ (d q ≡ true)
unfolding write_all
listed-or [] d q e = inr e
listed-or (r ∷ l) d q e = ⊎_elim (λ i. inl (inr i)) (λ x. either (eqb q r) (d q) x (λ y. inl (inl (eqb-true q r y))) inr) (listed-or l (write d r) q e)

kept : (l : List ℕ) (d : Written) (q : ℕ) → d q ≡ true → write_all d l q ≡ true
unfolding write_all
kept [] d q e = e
kept (r ∷ l) d q e = kept l (write d r) q (cases (eqb q r) (λ x. rw x) (λ x. rw x e))

listed : (l : List ℕ) (d : Written) (q : ℕ) → Mem q l → write_all d l q ≡ true
unfolding write_all
listed [] d q i = absurd i
listed (r ∷ l) d q (inl e) = kept l (write d r) q (rw (eq-eqb q r e))
listed (r ∷ l) d q (inr i) = listed l (write d r) q i

-- a number is written exactly if it is listed
pub written_listed : (l : List ℕ) (q : ℕ) → write_all none l q ≡ true → Mem q l
written_listed l q e = ⊎_elim (λ i. i) (λ z. contra z refl) (listed-or l none q e)

pub listed-written : (l : List ℕ) (q : ℕ) → Mem q l → write_all none l q ≡ true
listed-written l q i = listed l none q i

module _ (n : ℕ) (g : ℕ → Bool) where
  left-all : (l : List ℕ) (d : Written) → Distinct l → ((q : ℕ) → Mem q l → ((q < n) × (g q ≡ true)) × (d q ≡ false)) → left g (write_all d l) n + length l ≡ left g d n
  unfolding write_all
  left-all [] d x h = omega arith
  left-all (r ∷ l) d x h =
      let (c, u) = h r (inl refl) in
      omega (
        arith,
        left-all l (write d r) x.1 (λ q i. ((h q (inr i)).0, rw (ne_eqb q r (λ e. x.0 (rw e at i))) (h q (inr i)).1)),
        left_less g d n r c.0 c.1 u,
      )

  -- as many different numbers below n that pass as there are, are all of them
  pub each-listed : (l : List ℕ) → length l ≡ tally n g → Distinct l → ((q : ℕ) → Mem q l → (q < n) × (g q ≡ true)) → (q : ℕ) → (q < n) × (g q ≡ true) → Mem q l
  each-listed l e x h q c =
      written_listed l q
      (not-false (write_all none l q)
      (rw c.1 at (none-tally n (λ p. g p && not (write_all none l p)) (omega (arith, left-all l none x (λ p i. (h p i, refl)), left-first g n)) q c.0)))

  -- and a list that holds each number below n that passes once, and no other, has as many entries as there are
  pub listed-length : (l : List ℕ) → Distinct l → ((q : ℕ) → Mem q l → (q < n) × (g q ≡ true)) → ((q : ℕ) → (q < n) × (g q ≡ true) → Mem q l) → length l ≡ tally n g
  listed-length l x h w =
      omega (
        arith,
        left-all l none x (λ p i. (h p i, refl)),
        left-first g n,
        tally-none n (λ p. g p && not (write_all none l p)) (λ q c. cases (g q) (λ e. rw (e, listed-written l q (w q (c, e)))) (λ e. rw e)),
      )
