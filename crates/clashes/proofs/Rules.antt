-- The laws of groups for the rules of an image, as the code meets them. Assumes nothing.
use mathlib.Core.Path.{◌≡◌, sym, subst, ◌∙◌}
use mathlib.Core.Bool.{Bool, true, false, not, ◌&&◌, ◌||◌}
use mathlib.Core.List.{List, ◌++◌}
use Prim.Native.Nat.{ℕ, ◌+◌, ◌-◌, ◌*◌, ◌≤◌, ◌<◌}
use native.Mathlib.Nat.{le_antisymm}
use native.Mathlib.Omega.{arith}
use lib.Dec.{eqb}
use lib.ListN.{length, get_or, set, drop, replicate}
use borrow.Author.Tests.{not-false}
use Rattle.paper.specs.Limits.{max_events}
use Rattle.general.specs.Below.{first}
use Rattle.book.specs.Book.{rule_of}
use Rattle.book.specs.Image.{rules_in, marks_in, book_of}
use Rattle.book.specs.Read.{rules-count}
use Rattle.book.specs.WellFormed.{WellFormed}
use Rattle.book.specs.WellRead.{rule-exists}
use Rattle.senses.specs.Senses.{side, does, turn, stages_at, slots, code_of, twin, with_sense, meets, Senses}
use Rattle.clashes.specs.Groups.{round_words, senses_at, Added, Summed, Sides, ByStage, calm, clashes_any, Found}
use Rattle.clashes.specs.Pairs.{clash_first}
use Rattle.senses.proofs.Bytes.{trigger-known}
use Rattle.clashes.proofs.Groups.{Known, any-late, any-early, calm-any, sides-of}
use Rattle.clashes.proofs.Passes.{summed-start, summed-past, summed-more, by-start, by-past, by-more, found-start, found-calm, found-more, found-first}

side-small : (n : ℕ) (d : Bool) → side n d < 2 * n + 2
unfolding side
side-small n true = omega arith
side-small n false = omega arith

side-large : (n : ℕ) (d : Bool) → 2 * n ≤ side n d
unfolding side
side-large n true = omega arith
side-large n false = omega arith

-- what a rule does, counted from the round's first mark on
side-from : (from m : ℕ) (d : Bool) → from ≤ m → side m d ≡ 2 * from + side (m - from) d
unfolding side
side-from from m true h = omega arith
side-from from m false h = omega arith

module _ (s : List ℕ) (w : WellFormed s) where
  known : (y : ℕ) → y < length (book_of s).rules → Known (rule_of (book_of s) y).trigger
  known y h = trigger-known s y w (rw (rules-count s) at h)

  -- ---- a rule against all

  module _ (p : ℕ) (h : p < rules_in s) (c v : ℕ) (d : Bool) (t : ℕ) (e : c ≡ code_of (book_of s) p) (f : v ≡ twin c) (i : d ≡ (rule_of (book_of s) p).effect)
      (j : t ≡ turn (rule_of (book_of s) p).trigger) where
    inside : p < length (book_of s).rules
    inside = rw (rules-count s) h

    late-any : (u : Bool) (z : ℕ) → Senses (book_of s) (λ q. eqb (does (book_of s) q) (side (rule_of (book_of s) p).target u)) (rules_in s) z → not d ≡ u → max_events ≤ t
        → (r : Bool) → r ≡ meets z v → r ≡ clashes_any (book_of s) p
    late-any u z g o l r q = q ∙ rw (f, e) (any-late (book_of s) known p z inside (rw j at l) (rw (← i, o, rules-count s) g))

    pub late-sets : (x y : ℕ) → Sides (book_of s) (rule_of (book_of s) p).target (rules_in s) x y → not d ≡ true → max_events ≤ t → (r : Bool) → r ≡ meets y v → r ≡ clashes_any (book_of s) p
    late-sets x y g = late-any true y g.sets

    pub late-clears : (x y : ℕ) → Sides (book_of s) (rule_of (book_of s) p).target (rules_in s) x y → not d ≡ false → max_events ≤ t → (r : Bool) → r ≡ meets x v → r ≡ clashes_any (book_of s) p
    late-clears x y g = late-any false x g.clears

    pub early-any : (by : List ℕ) → ByStage (book_of s) (rule_of (book_of s) p).target (rules_in s) by → t < max_events → (k l : ℕ) → k ≡ side t (not d) → l ≡ side max_events (not d)
        → (x y : Bool) → x ≡ meets (get_or by k 0) v → y ≡ meets (get_or by l 0) v → (x || y) ≡ clashes_any (book_of s) p
    early-any by g l k k' y y' x x' q q' =
        let o : k ≡ side (turn (rule_of (book_of s) p).trigger) (not (rule_of (book_of s) p).effect) = y ∙ rw (j, i) in
        let o' : k' ≡ side max_events (not (rule_of (book_of s) p).effect) = y' ∙ rw i in
        let n : k < slots = rw y (omega (arith, side-small t (not d))) in
        let n' : k' < slots = rw y' (omega (arith, side-small max_events (not d))) in
        rw (q, q', f, e, o, o') (any-early (book_of s) known p _ _ inside (rw j at l)
        (rw (← rules-count s) at (g.senses _ (rw o at n))) (rw (← rules-count s) at (g.senses _ (rw o' at n'))))

module _ (s : List ℕ) where
  -- ---- one turn of each pass

  module _ (r : ℕ) (m : ℕ) (d : Bool) (t g : ℕ) (e : m ≡ (rule_of (book_of s) r).target) (f : d ≡ (rule_of (book_of s) r).effect) (h : t ≡ turn (rule_of (book_of s) r).trigger)
      (i : g ≡ code_of (book_of s) r) where
    pub sum_more : (from n : ℕ) (work : List ℕ) → Summed (book_of s) from n r work → from ≤ m → m - from < n → (k : ℕ) → k ≡ side (m - from) d → (a : ℕ) → a ≡ stages_at t
        → (out : List ℕ) → Added n work k a g out → (Summed (book_of s) from n (r + 1) out) × (length out ≡ length work)
    sum_more from n work o l j k z a q out u = (
      summed-more (book_of s) from n r work o k g out (rw (q, h) at u) (rw z (omega (arith, side-small (m - from) d))) (rw (← e, ← f, z) (side-from from m d l)) i,
      u.long,
    )

    pub stage-more : (mark : ℕ) (by : List ℕ) → ByStage (book_of s) mark r by → m ≡ mark → t ≤ max_events → (k y : ℕ) → k ≡ side t d → y ≡ with_sense (get_or by k 0) g
        → (out : List ℕ) → out ≡ set by k y → ByStage (book_of s) mark (r + 1) out
    stage-more mark by o l n k y z q out j =
        rw j (by-more (book_of s) mark r by o m k y e l (z ∙ rw (h, f)) (rw z (omega (arith, side-small t d))) (q ∙ rw i))

  -- a rule whose target lies before the round, and one whose target lies behind it
  module _ (r m : ℕ) (e : m ≡ (rule_of (book_of s) r).target) (from n : ℕ) (work : List ℕ) (g : Summed (book_of s) from n r work) where
    pub sum-before : m < from → Summed (book_of s) from n (r + 1) work
    sum-before h = summed-past (book_of s) from n r work g (λ d l x. absurd (omega (arith, rw (← e) at x, side-small m (rule_of (book_of s) r).effect)))

    pub sum-behind : from ≤ m → n ≤ m - from → Summed (book_of s) from n (r + 1) work
    sum-behind h j = summed-past (book_of s) from n r work g (λ d l x. absurd (omega (arith, rw (← e) at x, side-large m (rule_of (book_of s) r).effect)))

  pub stage-start : (m : ℕ) (by : List ℕ) → by ≡ replicate slots 0 → ByStage (book_of s) m 0 by
  stage-start m by e = rw e (by-start (book_of s) m)

  pub stage-past : (m r t : ℕ) (by : List ℕ) → ByStage (book_of s) m r by → t ≡ (rule_of (book_of s) r).target → (t ≡ m → ⊥)
      → (out : List ℕ) → out ≡ by → ByStage (book_of s) m (r + 1) out
  stage-past m r t by g e n out j = rw j (by-past (book_of s) m r by g t e n)

  pub begins : WellFormed s → (low : ℕ) → Found (book_of s) (marks_in s) low → low ≡ clash_first (book_of s)
  begins w low g = found-first (book_of s) (marks_in s) low g (λ p h. (rule-exists s w p (rw (rules-count s) at h)).target)

  -- ---- mark by mark

  next-mark : (from i low : ℕ) → Found (book_of s) (from + i + 1) low → Found (book_of s) (from + (i + 1)) low
  next-mark from i low g = let z : from + i + 1 ≡ from + (i + 1) = omega arith in subst (λ (k : ℕ). Found (book_of s) k low) z g

  module _ (rules : ℕ) (e : rules ≡ rules_in s) where
    pub mark-fits : (m low : ℕ) → Found (book_of s) m low → low ≤ rules
    mark-fits m low g = let h = g.fits in omega (arith, rules-count s)

    pub mark-sides : (from n i : ℕ) (work : List ℕ) → i < n → Summed (book_of s) from n rules work
        → Sides (book_of s) (from + i) rules (get_or work (senses_at n (2 * i)) 0) (get_or work (senses_at n (2 * i) + 1) 0)
    mark-sides from n i work h g = sides-of (book_of s) from n i rules work g h

    pub mark-calm : WellFormed s → (from n i low : ℕ) (work : List ℕ) → i < n → Summed (book_of s) from n rules work → Found (book_of s) (from + i) low → (r : Bool)
        → r ≡ calm n work i → not r ≡ false
        → (out : ℕ) → out ≡ low → Found (book_of s) (from + (i + 1)) out
    mark-calm w from n i low work h g f r q t out o =
        rw o (next-mark from i low (found-calm (book_of s) (from + i) low f
        (calm-any (book_of s) (known s w) from n i work (subst (λ (k : ℕ). Summed (book_of s) from n k work) (e ∙ sym (rules-count s)) g) h r q (not-false r t))))

  pub mark-more : (from i low r : ℕ) → Found (book_of s) (from + i) low → r ≡ first low (λ p. eqb (rule_of (book_of s) p).target (from + i) && clashes_any (book_of s) p)
      → (out : ℕ) → out ≡ r → Found (book_of s) (from + (i + 1)) out
  mark-more from i low r g f out o = rw o (next-mark from i r (found-more (book_of s) (from + i) low r g f))

  -- ---- round by round

  pub rounds-start : (rules : ℕ) → rules ≡ rules_in s → (low : ℕ) → low ≡ rules → Found (book_of s) 0 low
  rounds-start rules e low l = found-start (book_of s) low (l ∙ e ∙ sym (rules-count s))

  pub round-start : (from n : ℕ) (work out : List ℕ) → round_words n ≤ length work → out ≡ replicate (round_words n) 0 ++ drop (round_words n) work → Summed (book_of s) from n 0 out
  round-start from n work out h o = rw o (summed-start (book_of s) from n work h)

  pub rounds-end : (marks from low : ℕ) → marks ≡ marks_in s → from ≤ marks → marks ≤ from → Found (book_of s) from low → Found (book_of s) (marks_in s) low
  rounds-end marks from low e h l g = subst (λ (k : ℕ). Found (book_of s) k low) (le_antisymm h l ∙ e) g
