-- Tests over the numbers below k: every one passes, some one passes, the first that passes, how many pass. Assumes nothing.
use Rattle.std.specs.Prelude.{◌≡◌, refl, ◌≢◌, Bool, true, false, not, cond, ◌&&◌, ◌||◌, ℕ, zero, suc, ◌+◌, ◌≤◌, ◌<◌, eqb, ltb, Option, Some, None}
use Rattle.std.proofs.Common.{sym, ◌∙◌, add-one, arith, le_antisymm, lt_of_not-le, le_of_suc-le-suc, eqb-true, eq-eqb, ne_eqb}
use Rattle.std.proofs.Math.Bool.{and-true}
use Rattle.std.proofs.lemmas.Bool.{eqb-false}
use Rattle.general.specs.Cases.{contra, cases, both, either, or_left, or_right, not_so, lt-suc}

-- ---- every one

unfoldable pub every : ℕ → (ℕ → Bool) → Bool
every zero f = true
every (suc k) f = every k f && f k

pub every-at : (k : ℕ) (f : ℕ → Bool) (p : ℕ) → every k f ≡ true → p < k → f p ≡ true
unfolding every
every-at zero f p e h = absurd (omega arith)
every-at (suc k) f p e h = let t = both (every k f) (f k) e in lt-suc h (λ q. rw q t.1) (λ l. every-at k f p t.0 l)

pub every_of : (k : ℕ) (f : ℕ → Bool) → ((p : ℕ) → p < k → f p ≡ true) → every k f ≡ true
unfolding every
every_of zero f h = refl
every_of (suc k) f h = rw (every_of k f (λ p l. h p (omega arith)), h k (omega arith))

pub every-same : (k : ℕ) (f g : ℕ → Bool) → ((p : ℕ) → p < k → f p ≡ g p) → every k f ≡ every k g
unfolding every
every-same zero f g h = refl
every-same (suc k) f g h = rw (every-same k f g (λ p l. h p (omega arith)), h k (omega arith))

-- ---- some one

unfoldable pub some : ℕ → (ℕ → Bool) → Bool
some zero f = false
some (suc k) f = some k f || f k

pub some_of : (k : ℕ) (f : ℕ → Bool) (p : ℕ) → p < k → f p ≡ true → some k f ≡ true
unfolding some
some_of zero f p h e = absurd (omega arith)
some_of (suc k) f p h e = lt-suc h (λ q. or_right (some k f) (f k) (rw q at e)) (λ l. or_left (some k f) (f k) (some_of k f p l e))

pub some_at : (k : ℕ) (f : ℕ → Bool) → some k f ≡ true → (p : ℕ) × (p < k) × (f p ≡ true)
unfolding some
some_at zero f e = contra e refl
some_at (suc k) f e =
    either (some k f) (f k) e (λ x. let t = some_at k f x in (t.0, omega arith, t.2)) (λ x. (k, omega arith, x))

pub some-none : (k : ℕ) (f : ℕ → Bool) → ((p : ℕ) → p < k → f p ≡ false) → some k f ≡ false
some-none k f h = not_so (λ e. let t = some_at k f e in contra t.2 (h t.0 t.1))

pub some_same : (k : ℕ) (f g : ℕ → Bool) → ((p : ℕ) → p < k → f p ≡ g p) → some k f ≡ some k g
unfolding some
some_same zero f g h = refl
some_same (suc k) f g h = rw (some_same k f g (λ p l. h p (omega arith)), h k (omega arith))

pub some-step : (k : ℕ) (f : ℕ → Bool) → some (k + 1) f ≡ (some k f || f k)
unfolding some
some-step k f = rw add-one

-- ---- the first: the lowest number below k that passes, or k

unfoldable pub first : ℕ → (ℕ → Bool) → ℕ
first zero f = zero
first (suc k) f = cond (eqb (first k f) k) (cond (f k) k (suc k)) (first k f)

-- a number below k, or none where it is k, which says that there is none
abbrev pub found : ℕ → ℕ → Option ℕ
found k n = cond (ltb n k) (Some n) None

pub record First (k : ℕ) (f : ℕ → Bool) (r : ℕ) : Type 0 where
  pub fits : r ≤ k
  pub passes : r < k → f r ≡ true
  pub lowest : (p : ℕ) → p < r → f p ≡ false

pub first-is : (k : ℕ) (f : ℕ → Bool) → First k f (first k f)
unfolding first
first-is zero f = record { fits = omega arith; passes = λ h. absurd (omega arith); lowest = λ p h. absurd (omega arith) }
first-is (suc k) f =
    let l = first-is k f in
    cases (eqb (first k f) k)
    (λ e. cases (f k)
    (λ g. rw (e, g) (record { fits = omega arith; passes = λ h. g; lowest = λ p h. l.lowest p (rw (eqb-true (first k f) k e) h) }))
    (λ g. rw (e, g) (record { fits = omega arith; passes = λ h. absurd (omega arith); lowest = λ p h. lt-suc h (λ s. rw s g) (λ i. l.lowest p (rw (eqb-true (first k f) k e) i)) })))
    (λ e. let n : first k f ≢ k = eqb-false (first k f) k e in let i = l.fits in rw e (record { fits = omega arith; passes = λ h. l.passes (omega arith); lowest = l.lowest }))

pub first-unique : (k : ℕ) (f : ℕ → Bool) (r s : ℕ) → First k f r → First k f s → r ≡ s
first-unique k f r s a b = le_antisymm (half r s a b) (half s r b a)
  where
    half : (r s : ℕ) → First k f r → First k f s → r ≤ s
    half r s a b = le_of_suc-le-suc (lt_of_not-le (λ (h : suc s ≤ r). let i = a.fits in contra (b.passes (omega arith)) (a.lowest s h)))

-- the same of a proposition: the lowest number below k of which P holds
pub record Lowest (k : ℕ) (P : ℕ → Type 0) (r : ℕ) : Type 0 where
  pub fits : r < k
  pub holds : P r
  pub least : (p : ℕ) → p < r → P p → ⊥

pub lowest-one : (k : ℕ) (P : ℕ → Type 0) (r s : ℕ) → Lowest k P r → Lowest k P s → r ≡ s
lowest-one k P r s a b = le_antisymm (half r s a b) (half s r b a)
  where
    half : (r s : ℕ) → Lowest k P r → Lowest k P s → r ≤ s
    half r s a b = le_of_suc-le-suc (lt_of_not-le (λ (h : suc s ≤ r). a.least s h b.holds))

-- where a scan upwards stops: everything below r failed, and r passes or is the end
pub first_found : (k : ℕ) (f : ℕ → Bool) (r : ℕ) → r < k → ((p : ℕ) → p < r → f p ≡ false) → f r ≡ true → r ≡ first k f
first_found k f r h l e =
    first-unique k f r (first k f) (record { fits = omega arith; passes = λ i. e; lowest = l }) (first-is k f)

pub first-none : (k : ℕ) (f : ℕ → Bool) → ((p : ℕ) → p < k → f p ≡ false) → k ≡ first k f
first-none k f l = first-unique k f k (first k f) (record { fits = omega arith; passes = λ h. absurd (omega arith); lowest = l }) (first-is k f)

pub first-same : (k : ℕ) (f g : ℕ → Bool) → ((p : ℕ) → p < k → f p ≡ g p) → first k f ≡ first k g
first-same k f g h =
    let l = first-is k f in
    let i = l.fits in
    first-unique k g (first k f) (first k g)
    (record { fits = i; passes = λ c. sym (h (first k f) c) ∙ l.passes c; lowest = λ p c. sym (h p (omega arith)) ∙ l.lowest p c }) (first-is k g)

-- a case split: some number below k passes, or none does
pub find : {C : Type 0} (k : ℕ) (f : ℕ → Bool) → ((p : ℕ) → p < k → f p ≡ true → C) → (((p : ℕ) → p < k → f p ≡ false) → C) → C
find {C} k f y n =
    let l = first-is k f in let i = l.fits in
    cases (eqb (first k f) k)
    (λ e. n (λ p h. l.lowest p (omega (arith, eqb-true (first k f) k e))))
    (λ e. let x : first k f ≢ k = eqb-false (first k f) k e in let c : first k f < k = omega arith in y (first k f) c (l.passes c))

-- ---- how many

unfoldable pub tally : ℕ → (ℕ → Bool) → ℕ
tally zero f = zero
tally (suc k) f = cond (f k) 1 0 + tally k f

pub tally-same : (k : ℕ) (f g : ℕ → Bool) → ((p : ℕ) → p < k → f p ≡ g p) → tally k f ≡ tally k g
unfolding tally
tally-same zero f g h = refl
tally-same (suc k) f g h = rw (h k (omega arith), tally-same k f g (λ p l. h p (omega arith)))

pub tally-le : (k : ℕ) (f : ℕ → Bool) → tally k f ≤ k
unfolding tally
tally-le zero f = omega arith
tally-le (suc k) f = cases (f k) (λ e. rw e (omega (arith, tally-le k f))) (λ e. rw e (omega (arith, tally-le k f)))

pub tally-all : (k : ℕ) (f : ℕ → Bool) → ((p : ℕ) → p < k → f p ≡ true) → tally k f ≡ k
unfolding tally
tally-all zero f h = refl
tally-all (suc k) f h = rw (h k (omega arith)) (omega (arith, tally-all k f (λ p l. h p (omega arith))))

-- one that passes f and not g, where they agree else
pub tally-less : (k : ℕ) (f g : ℕ → Bool) (r : ℕ) → r < k → f r ≡ true → g r ≡ false → ((p : ℕ) → p < k → p ≢ r → f p ≡ g p) → tally k f ≡ suc (tally k g)
unfolding tally
tally-less zero f g r h a b e = absurd (omega arith)
tally-less (suc k) f g r h a b e =
    lt-suc h
    (λ q. rw (rw q at a, rw q at b, tally-same k f g (λ p l. e p (omega arith) (λ x. omega arith))) (omega arith))
    (λ l. rw (e k (omega arith) (λ x. omega arith)) (omega (arith, tally-less k f g r l a b (λ p i. e p (omega arith)))))

-- none passes exactly if the number is 0
pub tally-none : (k : ℕ) (f : ℕ → Bool) → ((p : ℕ) → p < k → f p ≡ false) → tally k f ≡ 0
unfolding tally
tally-none zero f h = refl
tally-none (suc k) f h = rw (h k (omega arith)) (omega (arith, tally-none k f (λ p l. h p (omega arith))))

pub none-tally : (k : ℕ) (f : ℕ → Bool) → tally k f ≡ 0 → (p : ℕ) → p < k → f p ≡ false
none-tally k f z p h = not_so (λ e. absurd (omega (arith, tally-less k f (λ q. f q && not (eqb q p)) p h e (rw (eq-eqb p p refl, e)) (λ q l n. rw (ne_eqb q p n) (sym (and-true (f q)))))))

-- one turn of a loop that goes up
pub tally-step : (k : ℕ) (f : ℕ → Bool) → tally (k + 1) f ≡ cond (f k) 1 0 + tally k f
unfolding tally
tally-step k f = rw add-one
