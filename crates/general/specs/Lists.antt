-- Lists made part by part: one part for each number, one part for each element, and what holds of every element. Assumes nothing.
use Prim.Native.Nat.{ℕ, zero, suc, ◌+◌, ◌*◌, ◌≤◌, ◌<◌}
use Rattle.std.specs.Prelude.{◌≡◌, get_or, take}
use Rattle.std.proofs.Math.Path.{refl, ap, ap₂}
use Rattle.std.proofs.Common.{sym, ◌∙◌, take-suc}
use mathlib.Core.List.{List, [], ◌∷◌, ◌++◌, append_assoc, append-nil}
use Rattle.std.proofs.Math.Numerals.{add-one}
use native.Mathlib.Omega.{arith}
use Rattle.std.proofs.Math.ListN.{length, drop, length-append, get_or-append}
use Rattle.std.proofs.lemmas.List.{get_or_at}
use Rattle.std.proofs.Math.Seq.{take-length}
use Rattle.general.specs.Cases.{lt-suc}
use Rattle.general.specs.Tables.{tabulate}

-- ---- sums

unfoldable pub total : ℕ → (ℕ → ℕ) → ℕ
total zero g = zero
total (suc k) g = total k g + g k

pub total-step : (k : ℕ) (g : ℕ → ℕ) → total (k + 1) g ≡ total k g + g k
unfolding total
total-step k g = rw add-one

pub total-same : (k : ℕ) (g h : ℕ → ℕ) → ((e : ℕ) → e < k → g e ≡ h e) → total k g ≡ total k h
unfolding total
total-same zero g h s = refl
total-same (suc k) g h s = rw (total-same k g h (λ e l. s e (omega arith)), s k (omega arith))

pub total-le : (k b : ℕ) (g : ℕ → ℕ) → ((e : ℕ) → e < k → g e ≤ b) → total k g ≤ k * b
unfolding total
total-le zero b g h = omega arith
total-le (suc k) b g h =
    let i : total k g ≤ k * b = total-le k b g (λ e l. h e (omega arith)) in
    let j : g k ≤ b = h k (omega arith) in
    omega arith

pub total-one : (k c : ℕ) → total k (λ e. c) ≡ c * k
unfolding total
total-one zero c = omega arith
total-one (suc k) c = rw (total-one k c) (omega arith)

pub total-scaled : (k c : ℕ) (g : ℕ → ℕ) → total k (λ e. c * g e) ≡ c * total k g
unfolding total
total-scaled zero c g = omega arith
total-scaled (suc k) c g = rw (total-scaled k c g) (omega arith)

module _ {A : Type 0} where
  -- the parts of the numbers below k, in order
  unfoldable pub flat : ℕ → (ℕ → List A) → List A
  flat zero g = []
  flat (suc k) g = flat k g ++ g k

  pub flat_step : (k : ℕ) (g : ℕ → List A) → flat (k + 1) g ≡ flat k g ++ g k
  unfolding flat
  flat_step k g = rw add-one

  pub flat-same : (k : ℕ) (g h : ℕ → List A) → ((e : ℕ) → e < k → g e ≡ h e) → flat k g ≡ flat k h
  unfolding flat
  flat-same zero g h s = refl
  flat-same (suc k) g h s = rw (flat-same k g h (λ e l. s e (omega arith)), s k (omega arith))

  pub flat-none : (k : ℕ) (g : ℕ → List A) → ((e : ℕ) → e < k → g e ≡ []) → flat k g ≡ []
  unfolding flat
  flat-none zero g s = refl
  flat-none (suc k) g s = rw (flat-none k g (λ e l. s e (omega arith)), s k (omega arith))

  pub length-flat : (k : ℕ) (g : ℕ → List A) → length (flat k g) ≡ total k (λ e. length (g e))
  unfolding flat total
  length-flat zero g = refl
  length-flat (suc k) g = length-append (flat k g) (g k) ∙ rw (length-flat k g)

  -- parts of one length
  pub length-parts : (k w : ℕ) (g : ℕ → List A) → ((e : ℕ) → length (g e) ≡ w) → length (flat k g) ≡ w * k
  length-parts k w g h = length-flat k g ∙ total-same k (λ e. length (g e)) (λ e. w) (λ e l. h e) ∙ total-one k w

  -- what stands before part e, and part e, lie in the whole
  pub flat-part : (k e : ℕ) (g : ℕ → List A) → e < k → length (flat e g) + length (g e) ≤ length (flat k g)
  unfolding flat
  flat-part zero e g h = absurd (omega arith)
  flat-part (suc k) e g h =
      let a : length (flat k g ++ g k) ≡ length (flat k g) + length (g k) = length-append (flat k g) (g k) in
      lt-suc h (λ q. rw q (omega arith)) (λ l. let i : length (flat e g) + length (g e) ≤ length (flat k g) = flat-part k e g l in omega arith)

  -- part e is cut out of the whole where it starts
  pub cut-flat : (k e : ℕ) (g : ℕ → List A) (t : List A) → e < k → take (length (g e)) (drop (length (flat e g)) (flat k g ++ t)) ≡ g e
  unfolding flat
  cut-flat zero e g t h = absurd (omega arith)
  cut-flat (suc k) e g t h =
      lt-suc h
      (λ q. rw (q, append_assoc (flat k g) (g k) t, drop-seam (flat k g) (g k ++ t)) (take-seam (g k) t))
      (λ l. rw (append_assoc (flat k g) (g k) t) (cut-flat k e g (g k ++ t) l))
    where
      drop-seam : (x y : List A) → drop (length x) (x ++ y) ≡ y
      drop-seam [] y = refl
      drop-seam (a ∷ x) y = drop-seam x y

      take-seam : (x y : List A) → take (length x) (x ++ y) ≡ x
      take-seam [] y = refl
      take-seam (a ∷ x) y = ap (λ (r : List A). a ∷ r) (take-seam x y)

  -- part e, and what stands before it and behind it
  pub flat-around : (k e : ℕ) (g : ℕ → List A) → e < k → (rest : List A) × (flat k g ≡ flat e g ++ (g e ++ rest))
  unfolding flat
  flat-around zero e g h = absurd (omega arith)
  flat-around (suc k) e g h =
      lt-suc h (λ q. ([], rw (q, append-nil (g k))))
      (λ l. let (r, p) = flat-around k e g l in
      (r ++ g k, ap (λ (x : List A). x ++ g k) p ∙ append_assoc (flat e g) (g e ++ r) (g k) ∙ ap (λ (x : List A). flat e g ++ x) (append_assoc (g e) r (g k))))

  -- ---- one element for each number

  abbrev pub each : ℕ → (ℕ → A) → List A
  each k g = flat k (λ e. g e ∷ [])

  pub length-each : (k : ℕ) (g : ℕ → A) → length (each k g) ≡ k
  unfolding flat
  length-each zero g = refl
  length-each (suc k) g = length-append (each k g) (g k ∷ []) ∙ rw (length-each k g) (omega arith)

  pub get_or-each : (k : ℕ) (g : ℕ → A) (e : ℕ) (d : A) → e < k → get_or (each k g) e d ≡ g e
  unfolding flat
  get_or-each zero g e d h = absurd (omega arith)
  get_or-each (suc k) g e d h =
      lt-suc h (λ q. rw q (get_or_at (each k g) (g k) [] d k (length-each k g)))
      (λ l. let n : length (each k g) ≡ k = length-each k g in get_or-append (each k g) (g k ∷ []) d e (omega arith) ∙ get_or-each k g e d l)

  -- ---- what holds of every element

  abbrev pub All : (A → Type 0) → List A → Type 0
  All P [] = Unit {0}
  All P (x ∷ l) = P x × All P l

  module _ (P : A → Type 0) where
    pub all_append : (k l : List A) → All P k → All P l → All P (k ++ l)
    all_append [] l x y = y
    all_append (a ∷ k) l x y = (x.0, all_append k l x.1 y)

    pub append-all : (k l : List A) → All P (k ++ l) → All P k × All P l
    append-all [] l x = (tt, x)
    append-all (a ∷ k) l x = let t = append-all k l x.1 in ((x.0, t.0), t.1)

    pub all-flat : (k : ℕ) (g : ℕ → List A) → ((f : ℕ) → f < k → All P (g f)) → All P (flat k g)
    unfolding flat
    all-flat zero g h = tt
    all-flat (suc k) g h = all_append (flat k g) (g k) (all-flat k g (λ f i. h f (omega arith))) (h k (omega arith))

    pub flat-all : (k : ℕ) (g : ℕ → List A) → All P (flat k g) → (f : ℕ) → f < k → All P (g f)
    unfolding flat
    flat-all zero g x f h = absurd (omega arith)
    flat-all (suc k) g x f h = let t = append-all (flat k g) (g k) x in lt-suc h (λ q. rw q t.1) (flat-all k g t.0 f)

    pub all-at : (d : A) (l : List A) → All P l → (r : ℕ) → r < length l → P (get_or l r d)
    all-at d [] x r h = absurd (omega arith)
    all-at d (a ∷ l) x zero h = x.0
    all-at d (a ∷ l) x (suc r) h = all-at d l x.1 r (omega arith)

    pub at_all : (d : A) (l : List A) → ((r : ℕ) → r < length l → P (get_or l r d)) → All P l
    at_all d [] h = tt
    at_all d (a ∷ l) h = (h zero (omega arith), at_all d l (λ r i. h (suc r) (omega arith)))

  pub all_map : (P Q : A → Type 0) → ((x : A) → P x → Q x) → (l : List A) → All P l → All Q l
  all_map P Q h [] x = tt
  all_map P Q h (a ∷ l) x = (h a x.0, all_map P Q h l x.1)

  -- ---- a list by its elements

  pub tabulated : (d : A) (l : List A) (F : ℕ → A) → ((i : ℕ) → i < length l → F i ≡ get_or l i d) → tabulate (length l) F ≡ l
  unfolding tabulate
  tabulated d [] F h = refl
  tabulated d (x ∷ l) F h = ap₂ (λ (y : A) (m : List A). y ∷ m) (h zero (omega arith)) (tabulated d l (λ k. F (suc k)) (λ i j. h (suc i) (omega arith)))

-- ---- one part for each element

module _ {A B : Type 0} (f : A → List B) where
  unfoldable pub packed : List A → List B
  packed [] = []
  packed (x ∷ l) = f x ++ packed l

  pub packed-append : (k l : List A) → packed (k ++ l) ≡ packed k ++ packed l
  unfolding packed
  packed-append [] l = refl
  packed-append (x ∷ k) l = rw (packed-append k l) (sym (append_assoc (f x) (packed k) (packed l)))

  pub packed-one : (x : A) → packed (x ∷ []) ≡ f x
  unfolding packed
  packed-one x = append-nil (f x)

  pub packed_all : (P : A → Type 0) (Q : B → Type 0) → ((x : A) → P x → All Q (f x)) → (l : List A) → All P l → All Q (packed l)
  unfolding packed
  packed_all P Q h [] a = tt
  packed_all P Q h (x ∷ l) a = all_append Q (f x) (packed l) (h x a.0) (packed_all P Q h l a.1)

  -- parts of one length
  module _ (w : ℕ) (same : (x : A) → length (f x) ≡ w) where
    pub length-packed : (l : List A) → length (packed l) ≡ w * length l
    unfolding packed
    length-packed [] = omega arith
    length-packed (x ∷ l) =
        let i : length (packed l) ≡ w * length l = length-packed l in
        let j : length (f x) ≡ w = same x in
        length-append (f x) (packed l) ∙ omega arith

  -- element by element, by number
  pub packed-flat : (d : A) (l : List A) → packed l ≡ flat (length l) (λ j. f (get_or l j d))
  unfolding packed flat
  packed-flat d l = ap packed (sym (take-length l)) ∙ upto (length l) (omega arith)
    where
      upto : (k : ℕ) → k ≤ length l → packed (take k l) ≡ flat k (λ j. f (get_or l j d))
      upto zero h = refl
      upto (suc k) h = rw (take-suc l k d (omega arith), packed-append (take k l) (get_or l k d ∷ []), packed-one (get_or l k d), upto k (omega arith))
