-- The rules that do not count may stand as written from the start, as code does that tests once for each rule whether it counts. Assumes nothing.
use Rattle.std.specs.Prelude.{◌≡◌, Bool, ◌&&◌, ◌||◌}
use Rattle.std.proofs.Math.Path.{refl}
use Rattle.std.proofs.Common.{ap, ◌∙◌}
use Rattle.std.proofs.Math.Bool.{not, and-false}
use mathlib.Core.List.{List, [], ◌∷◌}
use Prim.Native.Nat.{ℕ, zero, suc, ◌<◌}
use Rattle.std.proofs.Math.Dec.{eqb}
use Rattle.general.specs.Cases.{cases}
use Rattle.general.specs.Below.{every, every-same, first-same, tally-same}
use Rattle.order_theory.specs.Order.{Net, Counted, counted_rules, before}
use Rattle.order_theory.specs.Written.{Written, none, write, left}
use Rattle.order_theory.specs.Running.{unwritten, unwritten_first, ready, next, greedy, running_order}
use Rattle.order_theory.specs.Pass.{fine, passes}
use Rattle.order_theory.specs.Marks.{waiting, is_settled}
use Rattle.order_theory.proofs.Marks.{ready-marks}
use Rattle.order_theory.specs.Skipped.{skipped, Agree, unwritten-agree, Skips, skips-counted}

module _ (N : Net) where
  pub skipped-agrees : Agree N (skipped N) none
  skipped-agrees q c = rw c

  agree-write : (d e : Written) → Agree N d e → (r : ℕ) → Agree N (write d r) (write e r)
  agree-write d e h r q c = rw (h q c)

  -- ---- then nothing tells them apart

  pub ready-agree : (d e : Written) → Agree N d e → (r : ℕ) → ready N d r ≡ ready N e r
  unfolding ready
  ready-agree d e h r =
      cases (N.counts r)
      (λ c. rw (c, h r c) (ap (λ b. not (e r) && b) (every-same N.count (λ p. not (N.counts p && before N p r) || d p) (λ p. not (N.counts p && before N p r) || e p)
      (λ p i. cases (N.counts p) (λ x. rw (x, h p x)) (λ x. rw x)))))
      (λ c. rw c)

  next_agree : (d e : Written) → Agree N d e → next N d ≡ next N e
  next_agree d e h = first-same N.count (ready N d) (ready N e) (λ p i. ready-agree d e h p)

  pub greedy-agree : (f : ℕ) (d e : Written) → Agree N d e → greedy N f d ≡ greedy N f e
  unfolding greedy
  greedy-agree zero d e h = refl
  greedy-agree (suc f) d e h = rw (next_agree d e h, greedy-agree f (write d (next N e)) (write e (next N e)) (agree-write d e h (next N e)))

  pub passes-agree : (l : List ℕ) (d e : Written) → Agree N d e → passes N d l ≡ passes N e l
  unfolding passes fine
  passes-agree [] d e h = refl
  passes-agree (r ∷ l) d e h = rw (ready-agree d e h r, passes-agree l (write d r) (write e r) (agree-write d e h r))

  left-agree : (g : ℕ → Bool) (d e : Written) → Agree N d e → left (λ p. N.counts p && g p) d N.count ≡ left (λ p. N.counts p && g p) e N.count
  left-agree g d e h =
      tally-same N.count (λ q. N.counts q && g q && not (d q)) (λ q. N.counts q && g q && not (e q))
      (λ q i. cases (N.counts q) (λ x. rw (x, h q x)) (λ x. rw x))

  pub waiting-agree : (d e : Written) → Agree N d e → (m : ℕ) → waiting N d m ≡ waiting N e m
  unfolding waiting
  waiting-agree d e h m = left-agree (λ p. eqb (N.target p) m) d e h

  -- ---- the start

  pub skipped-running : greedy N (counted_rules N) (skipped N) ≡ running_order N
  unfolding running_order
  skipped-running = greedy-agree (counted_rules N) (skipped N) none skipped-agrees

  pub skipped-passes : (l : List ℕ) → passes N (skipped N) l ≡ passes N none l
  skipped-passes l = passes-agree l (skipped N) none skipped-agrees

  pub skipped-waiting : (m : ℕ) → waiting N (skipped N) m ≡ waiting N none m
  skipped-waiting m = waiting-agree (skipped N) none skipped-agrees m

  pub skipped-unwritten : unwritten N (skipped N) ≡ counted_rules N
  skipped-unwritten = unwritten-agree N (skipped N) none skipped-agrees ∙ unwritten_first N

  -- so a rule is ready exactly if it is unwritten and every mark that it refers to is settled
  pub ready-skips : (marks : ℕ) → ((r : ℕ) → Counted N r → N.target r < marks) → (d : Written) → Skips N d → (r : ℕ)
      → ready N d r ≡ (not (d r) && every marks (λ m. not (N.refers r m) || is_settled N d m))
  ready-skips marks small d h r =
      ready-marks N marks small d r
      ∙ cases (d r) (λ e. rw (e, and-false (N.counts r))) (λ e. rw (e, skips-counted N d h r e))
