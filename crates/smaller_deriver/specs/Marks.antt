-- The table of new mark numbers as the code fills it: four runs of n marks. Assumes nothing.
use Rattle.std.specs.Prelude.{ℕ, zero, suc, ◌+◌, ◌-◌, ◌*◌, ◌≤◌, ◌<◌, ◌≡◌, Bool, true, false, cond, List, [], ◌∷◌, ◌++◌}
use Rattle.std.proofs.Math.Path.{refl, sym, ap}
use Rattle.std.proofs.Common.{◌∙◌, append_assoc, append-nil}
use native.Mathlib.Omega.{arith}
use lib.ListN.{get_or, set, replicate}
use Rattle.std.proofs.lemmas.List.Edits.{sets}
use borrow.Author.Tests.{lt-ltb}
use Rattle.paper.specs.Limits.{max_events, max_marks, no_mark}
use Rattle.general.specs.Cases.{cases}
use Rattle.general.specs.Below.{tally, tally-same, tally-step, tally-le}
use Rattle.general.specs.Lists.{flat, flat_step, flat-same, each, length-each}
use Rattle.general.specs.Writing.{sets-append}
use Rattle.sets.specs.Set.{has, union, all_below}
use Rattle.sets.specs.Laws.{has_all}
use Rattle.flat_chart.specs.Flat.{FlatChart}
use Rattle.graph.specs.Flat.{Marking}
use Rattle.deriver.specs.Matching.{four_runs}
use Rattle.smaller.specs.Staying.{stays, new_mark, smaller_marks, mark_table}
use Rattle.smaller.specs.Kept.{union_upto, union-step, executed_kept, included_kept, answered_kept, has-answered}
use Rattle.smaller.proofs.Staying.{has-executed, has-included}
use Rattle.smaller.specs.Numbering.{stays-stage, stays-executed, stays-included, stays-answered, stays-below}

-- the new number of mark e of a run, where next is the first that is free
abbrev pub numbered : ℕ → ℕ → ℕ → ℕ
numbered set next e = cond (has set e) (next + tally e (has set)) no_mark

-- ---- as the loop meets it

pub union_more : (t : List ℕ) (e : ℕ) {s r v : ℕ} → s ≡ union_upto e t → r ≡ get_or t e 0 → v ≡ union s r → v ≡ union_upto (e + 1) t
union_more t e p q u = u ∙ rw (p, q) (sym (union-step e t))

-- the first e marks of a run have their numbers, and free is the next
pub record Passed (start : List ℕ) (at set next e free : ℕ) (table : List ℕ) : Type 0 where
  pub counted : free ≡ next + tally e (has set)
  pub numbers : table ≡ sets start at (each e (numbered set next))

module _ {start : List ℕ} {at set next e free : ℕ} {table : List ℕ} (p : Passed start at set next e free table) where
  pub free-few : (n : ℕ) → e < n → free < next + n
  free-few n h = let l : tally e (has set) ≤ e = tally-le e (has set) in let q = p.counted in omega arith

  numbers_more : {v : ℕ} → v ≡ numbered set next e → lib.ListN.set table (at + e) v ≡ sets start at (each (e + 1) (numbered set next))
  numbers_more q =
      rw (q, p.numbers, flat_step e (λ k. numbered set next k ∷ []))
      (sym (sets-append (each e (numbered set next)) (numbered set next e ∷ []) start at ∙ rw (length-each e (numbered set next))))

  pub mark-kept : has set e ≡ true → Passed start at set next (e + 1) (free + 1) (lib.ListN.set table (at + e) free)
  mark-kept t =
      let z : tally (e + 1) (has set) ≡ 1 + tally e (has set) = tally-step e (has set) ∙ rw t in
      let q = p.counted in
      record { counted = omega arith; numbers = numbers_more (q ∙ rw t) }

  pub mark-dropped : has set e ≡ false → Passed start at set next (e + 1) free (lib.ListN.set table (at + e) no_mark)
  mark-dropped t =
      let z : tally (e + 1) (has set) ≡ 0 + tally e (has set) = tally-step e (has set) ∙ rw t in
      let q = p.counted in
      record { counted = omega arith; numbers = numbers_more (rw t) }

-- ---- the four runs, by the sets of events whose marks stay

module _ (n E I A : ℕ) where
  abbrev stage_next : ℕ
  stage_next = 0 + tally n (has (all_below n))

  abbrev executed_next : ℕ
  executed_next = stage_next + tally n (has E)

  abbrev included_next : ℕ
  included_next = executed_next + tally n (has I)

  unfoldable pub marks_by : ℕ
  marks_by = included_next + tally n (has A)

  unfoldable pub table_by : List ℕ
  table_by =
      sets (sets (sets (sets (replicate max_marks no_mark) 0 (each n (numbered (all_below n) 0))) n (each n (numbered E stage_next))) (2 * n) (each n (numbered I executed_next)))
      (3 * n) (each n (numbered A included_next))

-- ---- the four runs are the table

pub run-few : (n set next r bound : ℕ) → r ≡ next + tally n (has set) → next ≤ bound → r ≤ bound + n
run-few n set next r bound p h = let l : tally n (has set) ≤ n = tally-le n (has set) in omega arith

pub number-done : (n E I A : ℕ) (u a b d e : ℕ) (r₁ r₂ r₃ r₄ : List ℕ) → u ≡ all_below n
    → (a ≡ 0 + tally n (has u)) × (r₁ ≡ sets (replicate max_marks no_mark) 0 (each n (numbered u 0)))
    → (b ≡ a + tally n (has E)) × (r₂ ≡ sets r₁ n (each n (numbered E a)))
    → (d ≡ b + tally n (has I)) × (r₃ ≡ sets r₂ (2 * n) (each n (numbered I b)))
    → (e ≡ d + tally n (has A)) × (r₄ ≡ sets r₃ (3 * n) (each n (numbered A d)))
    → (r₄ ≡ table_by n E I A) × (e ≡ marks_by n E I A)
unfolding table_by marks_by
number-done n E I A u a b d e r₁ r₂ r₃ r₄ q x y z w =
    let a' : a ≡ 0 + tally n (has (all_below n)) = x.0 ∙ rw q in
    let b' : b ≡ 0 + tally n (has (all_below n)) + tally n (has E) = y.0 ∙ rw a' in
    let d' : d ≡ 0 + tally n (has (all_below n)) + tally n (has E) + tally n (has I) = z.0 ∙ rw b' in
    (w.1 ∙ rw (z.1, y.1, x.1, d', b', a', q), w.0 ∙ rw d')

each_more : {A : Type 0} (a b : ℕ) (g : ℕ → A) → each (a + b) g ≡ each a g ++ each b (λ e. g (a + e))
unfolding flat
each_more a zero g = let z : a + zero ≡ a = omega arith in rw z (sym (append-nil (each a g)))
each_more a (suc b) g =
    let z : a + suc b ≡ suc (a + b) = omega arith in
    rw (z, each_more a b g) (append_assoc (each a g) (each b (λ e. g (a + e))) (g (a + b) ∷ []))

tally-sum : (a b : ℕ) (f : ℕ → Bool) → tally (a + b) f ≡ tally a f + tally b (λ e. f (a + e))
unfolding tally
tally-sum a zero f = let z : a + zero ≡ a = omega arith in rw z (omega arith)
tally-sum a (suc b) f =
    let z : a + suc b ≡ suc (a + b) = omega arith in
    let i : tally (a + b) f ≡ tally a f + tally b (λ e. f (a + e)) = tally-sum a b f in
    rw z (omega arith)

each_same : {A : Type 0} (w : ℕ) (x : A) (g : ℕ → A) → ((e : ℕ) → e < w → g e ≡ x) → each w g ≡ replicate w x
unfolding flat
each_same zero x g h = refl
each_same (suc w) x g h = rw (each_same w x g (λ e l. h e (omega arith)), h w (omega arith)) (grown w)
  where
    grown : (w : ℕ) → replicate w x ++ (x ∷ []) ≡ replicate (suc w) x
    grown zero = refl
    grown (suc w) = ap (λ l. x ∷ l) (grown w)

module _ (c : FlatChart) (m : Marking) (few : c.count ≤ max_events) where
  abbrev n : ℕ
  n = c.count

  abbrev entry : ℕ → ℕ
  entry k = cond (stays c m k) (new_mark c m k) no_mark

  -- a run of n marks from base on, where set says which stay and next how many stay before
  run : (base set next : ℕ) → ((e : ℕ) → e < n → stays c m (base + e) ≡ has set e) → next ≡ tally base (stays c m)
      → (each n (numbered set next) ≡ each n (λ e. entry (base + e))) × (next + tally n (has set) ≡ tally (base + n) (stays c m))
  unfolding new_mark
  run base set next s p = (
    flat-same n (λ e. numbered set next e ∷ []) (λ e. entry (base + e) ∷ [])
        (λ e h. ap (λ (x : ℕ). x ∷ []) (rw (s e h) (cases (has set e)
        (λ t. rw (t, tally-sum base e (stays c m), p, tally-same e (λ k. stays c m (base + k)) (has set) (λ k l. s k (omega arith)))) (λ t. rw t)))),
    rw (p, tally-sum base n (stays c m), tally-same n (λ k. stays c m (base + k)) (has set) s),
  )

  stage-run : (each n (numbered (all_below n) 0) ≡ each n (λ e. entry (0 + e))) × (0 + tally n (has (all_below n)) ≡ tally (0 + n) (stays c m))
  unfolding tally
  stage-run = run 0 (all_below n) 0 (λ e h. let z : 0 + e ≡ e = omega arith in rw (z, has_all n e, lt-ltb e n h) (stays-stage c m e h)) refl

  -- how many numbers are given before each run
  abbrev next₁ : ℕ
  next₁ = 0 + tally n (has (all_below n))

  abbrev next₂ : ℕ
  next₂ = next₁ + tally n (has (executed_kept c m))

  abbrev next₃ : ℕ
  next₃ = next₂ + tally n (has (included_kept c m))

  upto : {x j k : ℕ} → x ≡ tally j (stays c m) → j ≡ k → x ≡ tally k (stays c m)
  upto p q = p ∙ ap (λ (k : ℕ). tally k (stays c m)) q

  before-executed : next₁ ≡ tally n (stays c m)
  before-executed = upto stage-run.1 (let z : 0 + n ≡ n = omega arith in z)

  executed-run : (each n (numbered (executed_kept c m) next₁) ≡ each n (λ e. entry (n + e))) × (next₂ ≡ tally (n + n) (stays c m))
  executed-run = run n (executed_kept c m) next₁ (λ e h. stays-executed c m e h ∙ sym (has-executed c m e)) before-executed

  before-included : next₂ ≡ tally (2 * n) (stays c m)
  before-included = upto executed-run.1 (let z : n + n ≡ 2 * n = omega arith in z)

  included-run : (each n (numbered (included_kept c m) next₂) ≡ each n (λ e. entry (2 * n + e))) × (next₃ ≡ tally (2 * n + n) (stays c m))
  included-run = run (2 * n) (included_kept c m) next₂ (λ e h. stays-included c m e h ∙ sym (has-included c m e h)) before-included

  before-answered : next₃ ≡ tally (3 * n) (stays c m)
  before-answered = upto included-run.1 (let z : 2 * n + n ≡ 3 * n = omega arith in z)

  answered-run : (each n (numbered (answered_kept c m) next₃) ≡ each n (λ e. entry (3 * n + e))) × (next₃ + tally n (has (answered_kept c m)) ≡ tally (3 * n + n) (stays c m))
  answered-run = run (3 * n) (answered_kept c m) next₃ (λ e h. stays-answered c m e h ∙ sym (has-answered c m e)) before-answered

  pub marks-are : marks_by n (executed_kept c m) (included_kept c m) (answered_kept c m) ≡ smaller_marks c m
  unfolding marks_by smaller_marks
  marks-are = upto answered-run.1 (let z : 3 * n + n ≡ 4 * n = omega arith in z)

  -- n entries from base on, and the rest
  split : (base next w : ℕ) → base + n ≡ next → each (n + w) (λ e. entry (base + e)) ≡ each n (λ e. entry (base + e)) ++ each w (λ e. entry (next + e))
  split base next w q =
      each_more n w (λ e. entry (base + e))
      ∙ ap (λ (l : List ℕ). each n (λ e. entry (base + e)) ++ l)
      (flat-same w (λ e. entry (base + (n + e)) ∷ []) (λ e. entry (next + e) ∷ []) (λ e h. ap (λ (k : ℕ). entry k ∷ []) (let z : base + (n + e) ≡ next + e = omega arith in z)))

  abbrev rest : ℕ
  rest = max_marks - 4 * n

  -- behind the marks of the book there is none
  last : each rest (λ e. entry (4 * n + e)) ≡ replicate rest no_mark
  last = each_same rest no_mark (λ e. entry (4 * n + e)) (λ e h. cases (stays c m (4 * n + e)) (λ t. let z = stays-below c m (4 * n + e) t in absurd (omega arith)) (λ t. rw t))

  five : each max_marks entry ≡ each n (λ e. entry (0 + e)) ++ (each n (λ e. entry (n + e)) ++ (each n (λ e. entry (2 * n + e)) ++ (each n (λ e. entry
      (3 * n + e)) ++ replicate rest no_mark)))
  five =
      let z : max_marks ≡ n + (n + (n + (n + rest))) = omega arith in
      ap (λ (k : ℕ). each k entry) z
      ∙ flat-same (n + (n + (n + (n + rest)))) (λ e. entry e ∷ []) (λ e. entry (0 + e) ∷ []) (λ e h. ap (λ (k : ℕ). entry k ∷ []) (let z : e ≡ 0 + e = omega arith in z))
      ∙ split 0 n (n + (n + (n + rest))) (omega arith)
      ∙ rw (split n (2 * n) (n + (n + rest)) (omega arith), split (2 * n) (3 * n) (n + rest) (omega arith), split (3 * n) (4 * n) rest (omega arith), last)

  pub table_is : table_by n (executed_kept c m) (included_kept c m) (answered_kept c m) ≡ mark_table c m
  unfolding table_by mark_table
  table_is =
      rw (stage-run.0, executed-run.0, included-run.0, answered-run.0)
      (four_runs no_mark n max_marks (each n (λ e. entry (0 + e))) (each n (λ e. entry (n + e))) (each n (λ e. entry (2 * n + e))) (each n (λ e. entry (3 * n + e)))
      (length-each n _) (length-each n _) (length-each n _) (length-each n _) (omega arith) ∙ sym five)
