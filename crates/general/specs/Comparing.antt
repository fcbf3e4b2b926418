-- Bytes compared with a list run by run: the list is theirs exactly if the lengths are one and every run stands at its place. Assumes nothing.
use Rattle.std.specs.Prelude.{ℕ, suc, ◌+◌, ◌≤◌, ◌<◌, ◌≡◌, ◌↔◌, Bool, true, false, not, ◌&&◌, eqb, length, get_or}
use Rattle.std.proofs.Math.Path.{refl}
use Rattle.std.proofs.Common.{sym, ap, ◌∙◌, suc-add, arith, length-append, eqb-true, eq-eqb}
use mathlib.Core.List.{List, [], ◌∷◌, ◌++◌}
use Rattle.std.proofs.Math.Nat.{add-suc, add-zero}
use Rattle.std.proofs.Math.Seq.{get_or-append_seam, append_snoc}
use Rattle.std.proofs.lemmas.Bool.{not-true, not-false}
use Rattle.general.specs.Cases.{contra, cases, both, not_so}
use Rattle.general.specs.Lists.{flat, flat_step, flat-part, flat-around}
use Rattle.general.specs.Writing.{Fits}

-- the one list is the other
unfoldable pub same_bytes : List ℕ → List ℕ → Bool
same_bytes [] [] = true
same_bytes [] (y ∷ l) = false
same_bytes (x ∷ k) [] = false
same_bytes (x ∷ k) (y ∷ l) = eqb x y && same_bytes k l

pub same-so : (k l : List ℕ) → same_bytes k l ≡ true → k ≡ l
unfolding same_bytes
same-so [] [] e = refl
same-so [] (y ∷ l) e = contra e refl
same-so (x ∷ k) [] e = contra e refl
same-so (x ∷ k) (y ∷ l) e = let t = both (eqb x y) (same_bytes k l) e in rw (eqb-true x y t.0, same-so k l t.1)

pub so-same : (l : List ℕ) → same_bytes l l ≡ true
unfolding same_bytes
so-same [] = refl
so-same (x ∷ l) = rw (eq-eqb x x refl) (so-same l)

pub same-exactly : (k l : List ℕ) → (same_bytes k l ≡ true) ↔ (k ≡ l)
same-exactly k l = (same-so k l, λ e. rw e (so-same l))

pub same-shorter : (k l : List ℕ) → (length k ≡ length l → ⊥) → same_bytes k l ≡ false
same-shorter k l h = not_so (λ e. h (ap length (same-so k l e)))

-- the run stands at the place at, of a list that reaches so far
unfoldable pub stands_at : List ℕ → ℕ → List ℕ → Bool
stands_at s at [] = true
stands_at s at (x ∷ l) = eqb (get_or s at 0) x && stands_at s (suc at) l

module _ (s : List ℕ) where
  -- two runs are one
  pub stands-append : (at : ℕ) (a b : List ℕ) → stands_at s at (a ++ b) ≡ (stands_at s at a && stands_at s (at + length a) b)
  unfolding stands_at
  stands-append at [] b = rw add-zero
  stands-append at (x ∷ a) b =
      cases (eqb (get_or s at 0) x)
      (λ e. rw e (stands-append (suc at) a b ∙ rw (suc-add at (length a), add-suc at (length a))))
      (λ e. rw e)

-- the whole behind a beginning
stands-behind : (p s l : List ℕ) → length s ≡ length l → stands_at (p ++ s) (length p) l ≡ same_bytes s l
unfolding stands_at same_bytes
stands-behind p [] [] h = refl
stands-behind p [] (y ∷ l) h = absurd (omega arith)
stands-behind p (x ∷ s) [] h = absurd (omega arith)
stands-behind p (x ∷ s) (y ∷ l) h =
    let n : length (p ++ (x ∷ [])) ≡ suc (length p) = length-append p (x ∷ []) ∙ omega arith in
    let t : stands_at (p ++ x ∷ s) (suc (length p)) l ≡ same_bytes s l = rw (← append_snoc p x s, ← n) (stands-behind (p ++ (x ∷ [])) s l (omega arith)) in
    rw (get_or-append_seam p x s 0, t)

-- the whole, from the start, of a list of its length
pub stands-whole : (s l : List ℕ) → length s ≡ length l → stands_at s 0 l ≡ same_bytes s l
stands-whole s l h = stands-behind [] s l h

-- ---- a loop over the numbers below n: the runs of those passed stand

module _ (g : ℕ → List ℕ) (n : ℕ) (s : List ℕ) (at : ℕ) where
  pub record Stand (k next : ℕ) : Type 0 where
    pub few : k ≤ n
    pub place : next ≡ at + length (flat k g)
    pub so : stands_at s at (flat k g) ≡ true

  pub stand-start : Stand 0 at
  unfolding flat stands_at
  stand-start = record { few = omega arith; place = omega arith; so = refl }

  module _ (k next : ℕ) (inv : Stand k next) where
    pub stand-fits : k < n → Fits s at (flat n g) → Fits s next (g k)
    stand-fits h f = let p = inv.place in omega (arith, flat-part n k g h)

    pub stand-more : (next' : ℕ) (b : Bool) → k < n → b ≡ stands_at s next (g k) → not b ≡ false → next' ≡ next + length (g k) → Stand (k + 1) next'
    stand-more next' b h e t q =
        record {
          few = omega arith;
          place = rw (flat_step k g) (let i = inv.place in omega (arith, length-append (flat k g) (g k)));
          so = rw (flat_step k g) (stands-append s at (flat k g) (g k) ∙ rw (inv.so, ← inv.place, ← e) (not-false b t));
        }

    pub stand-not : (b : Bool) → k < n → b ≡ stands_at s next (g k) → not b ≡ true → false ≡ stands_at s at (flat n g)
    stand-not b h e t =
        let (r, p) = flat-around n k g h in
        sym (rw p (stands-append s at (flat k g) (g k ++ r) ∙ rw (inv.so, ← inv.place) (stands-append s next (g k) r ∙ rw (← e, not-true b t))))

    pub stand-done : n ≤ k → true ≡ stands_at s at (flat n g)
    stand-done h = let l : k ≤ n = inv.few in let q : k ≡ n = omega arith in rw (← q) (sym inv.so)
