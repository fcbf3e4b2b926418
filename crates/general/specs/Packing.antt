-- Records of one length in a run of bytes: each reads back from where it lies, and bytes are the runs that are cut out of them. Assumes nothing.
use Prim.Native.Nat.{ℕ, zero, suc, ◌+◌, ◌*◌, ◌≤◌, ◌<◌}
use Rattle.std.specs.Prelude.{◌≡◌, get_or, take, drop}
use Rattle.std.proofs.Math.Path.{refl}
use Rattle.std.proofs.Common.{sym, ap, ◌∙◌, add-zero, take-append-drop, drop-drop}
use mathlib.Core.List.{List, [], ◌∷◌, ◌++◌, append_assoc}
use Rattle.std.proofs.Math.Nat.{mul-zero}
use native.Mathlib.Omega.{arith}
use Rattle.std.proofs.Math.ListN.{length}
use Rattle.general.specs.Tables.{tabulate}
use Rattle.general.specs.Lists.{flat, packed, packed-append, tabulated}

-- a reading that looks at w bytes from its place
pub record Local {B : Type 0} (g : List ℕ → ℕ → B) (w : ℕ) : Type 0 where
  pub first : (s t : List ℕ) (at : ℕ) → at + w ≤ length s → g (s ++ t) at ≡ g s at
  pub second : (s t : List ℕ) (at : ℕ) → g (s ++ t) (length s + at) ≡ g t at

module _ {A B : Type 0} (f : A → List ℕ) (g : List ℕ → ℕ → B) (w : ℕ) (sized : (x : A) → length (f x) ≡ w) (c : Local g w) (d : A) where
  pub read-run : (l : List A) (post : List ℕ) (i : ℕ) → i < length l → g (packed f l ++ post) (w * i) ≡ g (f (get_or l i d)) 0
  unfolding packed
  read-run [] post i h = absurd (omega arith)
  read-run (x ∷ l) post zero h =
      let n : length (f x) ≡ w = sized x in
      rw (append_assoc (f x) (packed f l) post, mul-zero w) (c.first (f x) (packed f l ++ post) 0 (omega arith))
  read-run (x ∷ l) post (suc i) h =
      let n : length (f x) ≡ w = sized x in
      let p : w * suc i ≡ length (f x) + w * i = omega arith in
      rw (append_assoc (f x) (packed f l) post, p) (c.second (f x) (packed f l ++ post) (w * i) ∙ read-run l post i (omega arith))

  -- a record in a run behind what is p long
  pub read_behind : (pre : List ℕ) (l : List A) (post : List ℕ) (p : ℕ) → length pre ≡ p → (i : ℕ) → i < length l
      → g (pre ++ (packed f l ++ post)) (p + w * i) ≡ g (f (get_or l i d)) 0
  read_behind pre l post p q i h = rw (← q) (c.second pre (packed f l ++ post) (w * i) ∙ read-run l post i h)

-- the whole run, where each record reads back
pub read-list : {A : Type 0} (f : A → List ℕ) (g : List ℕ → ℕ → A) (w : ℕ) (sized : (x : A) → length (f x) ≡ w) (c : Local g w) (d : A) → ((x : A) → g (f x) 0 ≡ x)
    → (pre : List ℕ) (l : List A) (post : List ℕ) (p : ℕ) → length pre ≡ p → tabulate (length l) (λ i. g (pre ++ (packed f l ++ post)) (p + w * i)) ≡ l
read-list f g w sized c d back pre l post p q =
    tabulated d l (λ i. g (pre ++ (packed f l ++ post)) (p + w * i)) (λ i h. read_behind f g w sized c d pre l post p q i h ∙ back (get_or l i d))

-- ---- runs of runs

module _ {A B : Type 0} (f : A → List B) where
  pub packed-flat-parts : (k : ℕ) (g : ℕ → List A) → packed f (flat k g) ≡ flat k (λ i. packed f (g i))
  unfolding packed flat
  packed-flat-parts zero g = refl
  packed-flat-parts (suc k) g = packed-append f (flat k g) (g k) ∙ rw (packed-flat-parts k g)

-- what is behind the place p is n parts of w each, and what is behind them
pub parts-behind : {A : Type 0} (s : List A) (p w n : ℕ) → drop p s ≡ flat n (λ i. take w (drop (p + w * i) s)) ++ drop (p + w * n) s
unfolding flat
parts-behind s p w zero = rw (mul-zero w, add-zero)
parts-behind s p w (suc n) =
    let at : ℕ = p + w * n in
    let q : at + w ≡ p + w * suc n = omega arith in
    let e : drop at s ≡ take w (drop at s) ++ drop (p + w * suc n) s =
    sym (take-append-drop w (drop at s)) ∙ rw (drop-drop w at s, q) in
    parts-behind s p w n ∙ ap (λ l. flat n (λ i. take w (drop (p + w * i) s)) ++ l) e ∙ sym (append_assoc (flat n (λ i. take w (drop (p + w * i) s))) _ _)
