-- The rows of the paper's table for the matching snapshot, and that the call answers exactly as they say. Assumes nothing.
use Rattle.std.specs.Prelude.{ℕ, ◌-◌, ◌*◌, ◌≤◌, ◌<◌, ◌≡◌, ◌↔◌, Bool, true, not, List, ltb, length, replicate}
use Rattle.std.proofs.Common.{sym, ap, subst, ◌∙◌, arith, length-append, ext_get_or, ltb-true, ltb-false}
use Rattle.std.proofs.Math.Bool.{false}
use Rattle.std.proofs.lemmas.List.{length-replicate}
use Rattle.std.proofs.lemmas.Bool.{not-true}
use Rattle.paper.specs.Limits.{max_events, max_marks, unfit}
use Rattle.paper.specs.Answers.{granted, refusal}
use Rattle.general.specs.Cases.{cases, contra, same_test, not_so}
use Rattle.sets.specs.Set.{has}
use Rattle.flat_chart.specs.Chart.{In, Fit}
use Rattle.graph.specs.Fitness.{FitMarking, fit}
use Rattle.graph.specs.Fitness.{fit-both, both-fit}
use Rattle.graph.specs.Steps.{is_open}
use Rattle.graph.specs.Execution.{Enabled, open-enabled}
use Rattle.flat_chart.specs.Flat.{FlatChart}
use Rattle.graph.specs.Flat.{Marking}
use Rattle.book.specs.Text.{snap_of}
use Rattle.general.specs.Lists.{each, length-each}
use Rattle.derived.specs.Derived.{executed_mark, included_mark, answered_mark}
use Rattle.deriver.specs.Matching.{matching_marks, matching_of, marks-at}
use Rattle.deriver.specs.declared.Matched.{Matched}
use Rattle.agreement.specs.Matching.{match-stage, match-executed, match-included, match-answered, match-past}
use Rattle.promises.specs.Tables.{Unfit, untested}

-- "The matching snapshot has stage e yes exactly if e is open, executed e if e is in Ex, included e if in In, answered e if not in Re; marks from 4n on are no."
pub record Matching (c : FlatChart) (m : Marking) (marks : List Bool) : Type 0 where
  pub whole : length marks ≡ max_marks
  pub stage : (e : ℕ) → e < c.count → (snap_of marks e ≡ true) ↔ Enabled c m e
  pub executed : (e : ℕ) → e < c.count → (snap_of marks (executed_mark c.count e) ≡ true) ↔ In m.executed e
  pub included : (e : ℕ) → e < c.count → (snap_of marks (included_mark c.count e) ≡ true) ↔ In m.included e
  pub answered : (e : ℕ) → e < c.count → (snap_of marks (answered_mark c.count e) ≡ true) ↔ (In m.pending e → ⊥)
  pub past : (k : ℕ) → 4 * c.count ≤ k → snap_of marks k ≡ false

-- a matching snapshot has every mark
pub marks-whole : (c : FlatChart) → c.count ≤ max_events → (m : Marking) → length (matching_marks c m) ≡ max_marks
unfolding matching_marks
marks-whole c few m =
    let n : ℕ = c.count in
    let s : length (each n (is_open c m)) ≡ n = length-each n (is_open c m) in
    let x : length (each n (has m.executed)) ≡ n = length-each n (has m.executed) in
    let i : length (each n (has m.included)) ≡ n = length-each n (has m.included) in
    let a : length (each n (λ e. not (has m.pending e))) ≡ n = length-each n (λ e. not (has m.pending e)) in
    let r : length (replicate (max_marks - 4 * n) false) ≡ max_marks - 4 * n = length-replicate (max_marks - 4 * n) false in
    simp length-append (omega arith)

module _ (c : FlatChart) (m : Marking) where
  -- the matching snapshot of a fit chart and marking
  pub matched : Fit c → FitMarking c.count m → matching_of c m ≡ record { answer = granted; snapshot = record { marks = matching_marks c m } }
  unfolding matching_of
  matched f t = rw (both-fit c m f t)

  -- "a refused matching snapshot every mark no"
  pub matching-refused : Unfit c m → matching_of c m ≡ record { answer = refusal unfit; snapshot = record { marks = replicate max_marks false } }
  unfolding matching_of
  matching-refused n = let no : fit c m ≡ false = not_so (λ ok. let t = fit-both c m ok in n t.0 t.1) in rw no

  pub data Matches : Matched → Type 0 where
    is_unfit : Unfit c m → Matches (record { answer = refusal unfit; snapshot = record { marks = replicate max_marks false } })
    is_matched : {marks : List Bool} → Fit c → FitMarking c.count m → Matching c m marks → Matches (record { answer = granted; snapshot = record { marks = marks } })

  shown : Fit c → Matching c m (matching_marks c m)
  shown f =
      record {
        whole = marks-whole c f.few m;
        stage = λ e h. rw (marks-at c m e, match-stage c m e h) (open-enabled c m e);
        executed = λ e h. rw (marks-at c m (executed_mark c.count e), match-executed c m e h) (λ x. x, λ x. x);
        included = λ e h. rw (marks-at c m (included_mark c.count e), match-included c m e h) (λ x. x, λ x. x);
        answered = λ e h. rw (marks-at c m (answered_mark c.count e), match-answered c m e h) (λ x y. contra y (not-true (has m.pending e) x), λ n. rw (not_so n));
        past = λ k h. marks-at c m k ∙ match-past c m k h;
      }

  -- two snapshots that match are one, mark by mark
  module _ (k l : List Bool) (a : Matching c m k) (b : Matching c m l) where
    alike : {P : Type 0} (i : ℕ) → (snap_of k i ≡ true) ↔ P → (snap_of l i ≡ true) ↔ P → snap_of k i ≡ snap_of l i
    alike i p q = same_test (snap_of k i) (snap_of l i) (λ x. q.1 (p.0 x)) (λ x. p.1 (q.0 x))

    moved : {i j : ℕ} → i ≡ j → snap_of k i ≡ snap_of l i → snap_of k j ≡ snap_of l j
    moved z p = subst (λ (x : ℕ). snap_of k x ≡ snap_of l x) z p

    same-mark : (i : ℕ) → snap_of k i ≡ snap_of l i
    same-mark i =
        let n : ℕ = c.count in
        cases (ltb i n) (λ t. let h : i < n = ltb-true i n t in alike i (a.stage i h) (b.stage i h))
        (λ t. let h : n ≤ i = ltb-false i n t in
        cases (ltb i (2 * n))
        (λ u. let o : i < 2 * n = ltb-true i (2 * n) u in
        let e : i - n < n = omega arith in
        let z : executed_mark n (i - n) ≡ i = omega arith in
        moved z (alike _ (a.executed (i - n) e) (b.executed (i - n) e)))
        (λ u. let o : 2 * n ≤ i = ltb-false i (2 * n) u in
        cases (ltb i (3 * n))
        (λ v. let p : i < 3 * n = ltb-true i (3 * n) v in
        let e : i - 2 * n < n = omega arith in
        let z : included_mark n (i - 2 * n) ≡ i = omega arith in
        moved z (alike _ (a.included (i - 2 * n) e) (b.included (i - 2 * n) e)))
        (λ v. let p : 3 * n ≤ i = ltb-false i (3 * n) v in
        cases (ltb i (4 * n))
        (λ w. let q : i < 4 * n = ltb-true i (4 * n) w in
        let e : i - 3 * n < n = omega arith in
        let z : answered_mark n (i - 3 * n) ≡ i = omega arith in
        moved z (alike _ (a.answered (i - 3 * n) e) (b.answered (i - 3 * n) e)))
        (λ w. let q : 4 * n ≤ i = ltb-false i (4 * n) w in a.past i q ∙ sym (b.past i q)))))

    pub matching-one : k ≡ l
    matching-one = ext_get_or false k l (a.whole ∙ sym b.whole) (λ i h. same-mark i)

  -- some row holds, and it is the call's answer
  pub matches : Matches (matching_of c m)
  matches =
      cases (fit c m)
      (λ ok. let (f, t) = fit-both c m ok in rw (matched f t) (is_matched f t (shown f)))
      (λ z. rw (matching-refused (untested c m z)) (is_unfit (untested c m z)))

  pub matches-only : {r : Matched} → Matches r → r ≡ matching_of c m
  matches-only (is_unfit n) = sym (matching-refused n)
  matches-only (is_matched {marks} f t x) =
      ap (λ (l : List Bool). record { answer = granted; snapshot = record { marks = l } }) (matching-one marks (matching_marks c m) x (shown f)) ∙ sym (matched f t)
