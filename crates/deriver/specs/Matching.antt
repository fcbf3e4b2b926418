-- "The matching snapshot has stage e yes exactly if e is open, executed e if e is in Ex, included e if in In, answered e if not in Re; marks from 4n on are no." Assumes nothing.
use Rattle.std.specs.Prelude.{ℕ, zero, suc, ◌+◌, ◌-◌, ◌*◌, ◌≤◌, ◌<◌, ◌≡◌, Bool, true, false, cond, List, [], ◌∷◌, ◌++◌, ltb}
use Rattle.std.proofs.Common.{sym, ◌∙◌, append_assoc, zero-add, get_or-append-add}
use Rattle.std.proofs.Math.Path.{ap}
use Rattle.std.proofs.Math.Bool.{not}
use native.Mathlib.Omega.{arith}
use lib.ListN.{length, get_or, set, drop, replicate, length-append, length-replicate, get_or-replicate, get_or-append, get_or-eq_default}
use Rattle.std.proofs.lemmas.List.Edits.{sets, sets-eq}
use borrow.Author.Tests.{not-true, not-false, lt-ltb, le-ltb, ltb-true, ltb-false}
use Rattle.paper.specs.Limits.{max_events, max_marks, unfit}
use Rattle.paper.specs.Answers.{granted, refusal}
use Rattle.paper.specs.declared.Answer.{Answer}
use Rattle.general.specs.Cases.{cases}
use Rattle.sets.specs.Set.{has, minus, all_below}
use Rattle.sets.specs.Laws.{has-minus, has_all, has-collect}
use Rattle.graph.specs.Fitness.{fit}
use Rattle.graph.specs.Fitness.{fit-both}
use Rattle.graph.specs.Steps.{is_open, open_among}
use Rattle.flat_chart.specs.Flat.{FlatChart}
use Rattle.graph.specs.Flat.{Marking}
use Rattle.book.specs.Text.{Snap, snap_of}
use Rattle.general.specs.Lists.{flat_step, flat-same, each, length-each, get_or-each}
use Rattle.deriver.specs.declared.Matched.{Matched}
use Rattle.general.specs.Writing.{sets-append}

module _ (c : FlatChart) (m : Marking) where
  unfoldable pub matching_marks : List Bool
  matching_marks =
      each c.count (is_open c m)
      ++ (each c.count (has m.executed)
      ++ (each c.count (has m.included)
      ++ (each c.count (λ e. not (has m.pending e)) ++ replicate (max_marks - 4 * c.count) false)))

  -- "refused with 14: every mark no"
  unfoldable pub matching_of : Matched
  matching_of =
      cond (not (fit c m)) (record { answer = refusal unfit; snapshot = record { marks = replicate max_marks false } })
      (record { answer = granted; snapshot = record { marks = matching_marks } })

  -- ---- the same, mark by mark

  unfoldable pub mark_of : Snap
  mark_of k =
      cond (ltb k c.count) (is_open c m k)
      (cond (ltb k (2 * c.count)) (has m.executed (k - c.count))
      (cond (ltb k (3 * c.count)) (has m.included (k - 2 * c.count))
      (cond (ltb k (4 * c.count)) (not (has m.pending (k - 3 * c.count))) false)))

  abbrev n : ℕ
  n = c.count

  -- behind n marks
  behind : (g : ℕ → Bool) (l : List Bool) (k : ℕ) → get_or (each n g ++ l) k false ≡ cond (ltb k n) (g k) (get_or l (k - n) false)
  behind g l k =
      let q : length (each n g) ≡ n = length-each n g in
      cases (ltb k n)
      (λ t. let h : k < n = ltb-true k n t in rw t (get_or-append (each n g) l false k (omega arith) ∙ get_or-each n g k false h))
      (λ t. let h : n ≤ k = ltb-false k n t in
      let p : k ≡ length (each n g) + (k - n) = omega arith in
      rw t (ap (λ (x : ℕ). get_or (each n g ++ l) x false) p ∙ get_or-append-add (each n g) l (k - n) false))

  none : (k w : ℕ) → get_or (replicate w false) k false ≡ false
  none k w = cases (ltb k w) (λ t. get_or-replicate w k false false (ltb-true k w t))
      (λ t. let h : w ≤ k = ltb-false k w t in get_or-eq_default (replicate w false) false (rw (length-replicate w false) h))

  pub marks-at : (k : ℕ) → snap_of matching_marks k ≡ mark_of k
  unfolding matching_marks mark_of
  marks-at k =
      behind (is_open c m) _ k
      ∙ cases (ltb k n) (λ t. rw t)
      (λ t. let h : n ≤ k = ltb-false k n t in
      rw t (behind (has m.executed) _ (k - n)
      ∙ cases (ltb k (2 * n)) (λ u. let i : k < 2 * n = ltb-true k (2 * n) u in rw (u, lt-ltb (k - n) n (omega arith)))
      (λ u. let i : 2 * n ≤ k = ltb-false k (2 * n) u in
      let p : k - n - n ≡ k - 2 * n = omega arith in
      rw (u, le-ltb (k - n) n (omega arith), p) (behind (has m.included) _ (k - 2 * n)
      ∙ cases (ltb k (3 * n)) (λ v. let j : k < 3 * n = ltb-true k (3 * n) v in rw (v, lt-ltb (k - 2 * n) n (omega arith)))
      (λ v. let j : 3 * n ≤ k = ltb-false k (3 * n) v in
      let q : k - 2 * n - n ≡ k - 3 * n = omega arith in
      rw (v, le-ltb (k - 2 * n) n (omega arith), q) (behind (λ e. not (has m.pending e)) _ (k - 3 * n)
      ∙ cases (ltb k (4 * n)) (λ w. let x : k < 4 * n = ltb-true k (4 * n) w in rw (w, lt-ltb (k - 3 * n) n (omega arith)))
      (λ w. let x : 4 * n ≤ k = ltb-false k (4 * n) w in rw (w, le-ltb (k - 3 * n) n (omega arith)) (none (k - 3 * n - n) (max_marks - 4 * n)))))))))

-- ---- as the code meets it

-- one mark more
pub marks-more : (start marks : List Bool) (at set e : ℕ) (b : Bool) → b ≡ has set e → marks ≡ sets start at (each e (has set))
    → lib.ListN.set marks (at + e) b ≡ sets start at (each (e + 1) (has set))
marks-more start marks at set e b p q =
    rw (q, p, flat_step e (λ k. has set k ∷ []))
    (sym (sets-append (each e (has set)) (has set e ∷ []) start at ∙ rw (length-each e (has set))))

drop-same : {A : Type 0} (x : A) (k w : ℕ) → drop k (replicate w x) ≡ replicate (w - k) x
drop-same x zero w = let e : w ≡ w - zero = omega arith in ap (λ (i : ℕ). replicate i x) e
drop-same x (suc k) zero = let e : zero ≡ zero - suc k = omega arith in ap (λ (i : ℕ). replicate i x) e
drop-same x (suc k) (suc w) = let e : w - k ≡ suc w - suc k = omega arith in drop-same x k w ∙ ap (λ (i : ℕ). replicate i x) e

-- four runs of n entries, one behind the other, over a table that says x throughout
pub four_runs : {A : Type 0} (x : A) (n w : ℕ) (a b c d : List A) → length a ≡ n → length b ≡ n → length c ≡ n → length d ≡ n → 4 * n ≤ w
    → sets (sets (sets (sets (replicate w x) 0 a) n b) (2 * n) c) (3 * n) d ≡ a ++ (b ++ (c ++ (d ++ replicate (w - 4 * n) x)))
four_runs {A} x n w a b c d p q r s h =
    let room : List A = replicate w x in
    let z : 0 + length a ≡ n = omega arith in
    let y : n + length b ≡ 2 * n = omega arith in
    let v : 2 * n + length c ≡ 3 * n = omega arith in
    let l : length (a ++ (b ++ (c ++ d))) ≡ 4 * n = simp length-append (omega arith) in
    let t : length room ≡ w = length-replicate w x in
    let u : sets room 0 (a ++ (b ++ (c ++ d))) ≡ sets (sets (sets (sets room 0 a) n b) (2 * n) c) (3 * n) d =
    sets-append a (b ++ (c ++ d)) room 0 ∙ rw z (sets-append b (c ++ d) (sets room 0 a) n ∙ rw y (sets-append c d (sets (sets room 0 a) n b) (2 * n) ∙ rw v)) in
    sym u
    ∙ sets-eq (a ++ (b ++ (c ++ d))) room 0 (omega arith)
    ∙ rw (l, zero-add (4 * n), drop-same x (4 * n) w) (simp append_assoc)

module _ (c : FlatChart) (m : Marking) (b : Bool) (p : b ≡ fit c m) where
  pub matching-unfit : not b ≡ true → (a : Answer) → a ≡ refusal unfit → record { answer = a; snapshot = record { marks = replicate max_marks false } } ≡ matching_of c m
  unfolding matching_of
  matching-unfit t a g = rw (g, ← p, not-true b t)

  module _ (t : not b ≡ false) where
    ok : fit c m ≡ true
    ok = sym p ∙ not-false b t

    pub matching-few : c.count ≤ max_events
    matching-few = (fit-both c m ok).0.few

    pub matching-done : (o u s : ℕ) (r₁ r₂ r₃ r₄ : List Bool) (a : Answer)
        → o ≡ open_among m c.conditions c.milestones c.count → u ≡ all_below c.count → s ≡ minus u m.pending
        → r₁ ≡ sets (replicate max_marks false) 0 (each c.count (has o)) → r₂ ≡ sets r₁ c.count (each c.count (has m.executed))
        → r₃ ≡ sets r₂ (2 * c.count) (each c.count (has m.included)) → r₄ ≡ sets r₃ (3 * c.count) (each c.count (has s)) → a ≡ granted
        → record { answer = a; snapshot = record { marks = r₄ } } ≡ matching_of c m
    unfolding matching_of matching_marks open_among
    matching-done o u s r₁ r₂ r₃ r₄ a po pu ps p₁ p₂ p₃ p₄ g = rw (g, ok, runs)
      where
        open-same : each c.count (has o) ≡ each c.count (is_open c m)
        open-same =
            flat-same c.count (λ e. has o e ∷ []) (λ e. is_open c m e ∷ [])
            (λ e h. ap (λ (x : Bool). x ∷ []) (rw po (has-collect c.count (is_open c m) e ∙ rw (lt-ltb e c.count h))))

        answered-same : each c.count (has s) ≡ each c.count (λ e. not (has m.pending e))
        answered-same =
            flat-same c.count (λ e. has s e ∷ []) (λ e. not (has m.pending e) ∷ [])
            (λ e h. ap (λ (x : Bool). x ∷ []) (rw (ps, pu) (has-minus (all_below c.count) m.pending e ∙ rw (has_all c.count e, lt-ltb e c.count h))))

        runs : r₄ ≡ matching_marks c m
        runs =
            let l : c.count ≤ max_events = matching-few in
            p₄ ∙ rw (p₃, p₂, p₁, open-same, answered-same)
            (four_runs false c.count max_marks (each c.count (is_open c m)) (each c.count (has m.executed)) (each c.count (has m.included))
            (each c.count (λ e. not (has m.pending e))) (length-each c.count (is_open c m)) (length-each c.count (has m.executed))
            (length-each c.count (has m.included)) (length-each c.count (λ e. not (has m.pending e))) (omega arith))
