-- A completion's walk through its order, as the paper defines firing: there is one, it has one end, how often each mark changes along it, and how many rules it looks
-- at. Assumes nothing.
use Rattle.std.specs.Prelude.{◌≡◌, true, false, cond, eqb, length}
use Rattle.std.proofs.Math.Path.{refl, ap, subst, fun_ext}
use Rattle.std.proofs.Common.{sym, ◌∙◌, arith}
use mathlib.Core.List.{List, [], ◌∷◌}
use Prim.Native.Nat.{ℕ, suc, ◌+◌}
use Rattle.general.specs.Cases.{cases, coincide}
use Rattle.order_theory.specs.Settle.{run, step, changes, flips, flips-same, flips-differ}
use Rattle.book.specs.Text.{Snap}
use Rattle.book.specs.Book.{Book, rule_of}
use Rattle.book.specs.Firing.{fires}
use Rattle.rule_order.specs.Rules.{net_of, acts_of}

-- "A firing rule sets or clears its target."
unfoldable pub altered : Book → Snap → ℕ → Snap
altered b now r m = cond (eqb m (rule_of b r).target) (rule_of b r).effect (now m)

-- "Completing an open stage goes through a given order. A rule fires if its trigger holds and its condition holds in the snapshot as it now
-- stands.": from `now` through the order to `end`, where the call began at `start`
pub data Goes (b : Book) (start : Snap) (stage : ℕ) : Snap → List ℕ → Snap → Type 0 where
  ended : {now : Snap} → Goes b start stage now [] now
  fired : {now end : Snap} {r : ℕ} {order : List ℕ} → fires b start stage now r ≡ true → Goes b start stage (altered b now r) order end → Goes b start stage now (r ∷ order) end
  waited : {now end : Snap} {r : ℕ} {order : List ℕ} → fires b start stage now r ≡ false → Goes b start stage now order end → Goes b start stage now (r ∷ order) end

module _ (b : Book) (start : Snap) (stage : ℕ) where
  -- how often the mark m changes on the way
  unfoldable pub turns : {now end : Snap} {order : List ℕ} → Goes b start stage now order end → ℕ → ℕ
  turns ended m = 0
  turns (fired {now} {r = r} e g) m = flips (now m) (altered b now r m) + turns g m
  turns (waited e g) m = turns g m

  -- a change counts 1, and nothing else counts
  module _ (now : Snap) (r : ℕ) {end : Snap} {order : List ℕ} (e : fires b start stage now r ≡ true) (g : Goes b start stage (altered b now r) order end) (m : ℕ) where
    pub turn-counts : (now m ≡ altered b now r m → ⊥) → turns (fired {now = now} {r = r} e g) m ≡ 1 + turns g m
    unfolding turns
    turn-counts n = ap (λ (x : ℕ). x + turns g m) (flips-differ (now m) (altered b now r m) n)

    pub turn-stays : altered b now r m ≡ now m → turns (fired {now = now} {r = r} e g) m ≡ 0 + turns g m
    unfolding turns
    turn-stays s = ap (λ (x : ℕ). x + turns g m) (flips-same (now m) (altered b now r m) s)

  -- request (vi): "the length of the definition's own walk: one for each rule in the stage's order, fired or not"
  unfoldable pub looks : {now end : Snap} {order : List ℕ} → Goes b start stage now order end → ℕ
  looks ended = 0
  looks (fired e g) = suc (looks g)
  looks (waited e g) = suc (looks g)

  -- so it is the same for every walk of one order
  pub looks-length : {now end : Snap} {order : List ℕ} (g : Goes b start stage now order end) → looks g ≡ length order
  unfolding looks
  looks-length ended = refl
  looks-length (fired e g) = ap suc (looks-length g)
  looks-length (waited e g) = ap suc (looks-length g)

  -- ---- the walk in the words of the theorems on orders

  step-fired : (now : Snap) (r : ℕ) → fires b start stage now r ≡ true → step (net_of b stage) (acts_of b start stage) now r ≡ altered b now r
  unfolding step net_of acts_of altered
  step-fired now r e = fun_ext (λ m. cases (eqb m (rule_of b r).target) (λ x. rw (x, e)) (λ x. rw x))

  step-waited : (now : Snap) (r : ℕ) → fires b start stage now r ≡ false → step (net_of b stage) (acts_of b start stage) now r ≡ now
  unfolding step net_of acts_of
  step-waited now r e = fun_ext (λ m. cases (eqb m (rule_of b r).target) (λ x. rw (x, e)) (λ x. rw x))

  -- there is a walk
  pub goes-run : (order : List ℕ) (now : Snap) → Goes b start stage now order (run (net_of b stage) (acts_of b start stage) now order)
  unfolding run
  goes-run [] now = ended
  goes-run (r ∷ order) now =
      let on : Snap → Type 0 = λ u. Goes b start stage u order (run (net_of b stage) (acts_of b start stage) (step (net_of b stage) (acts_of b start stage) now r) order) in
      let g = goes-run order (step (net_of b stage) (acts_of b start stage) now r) in
      cases (fires b start stage now r) (λ e. fired e (subst on (step-fired now r e) g)) (λ e. waited e (subst on (step-waited now r e) g))

  -- it has one end
  pub goes_end : {now end : Snap} {order : List ℕ} → Goes b start stage now order end → end ≡ run (net_of b stage) (acts_of b start stage) now order
  unfolding run
  goes_end ended = refl
  goes_end (fired {now} {r = r} {order = l} e g) = goes_end g ∙ ap (λ (u : Snap). run (net_of b stage) (acts_of b start stage) u l) (sym (step-fired now r e))
  goes_end (waited {now} {r = r} {order = l} e g) = goes_end g ∙ ap (λ (u : Snap). run (net_of b stage) (acts_of b start stage) u l) (sym (step-waited now r e))

  pub goes_one : {now x y : Snap} {order : List ℕ} → Goes b start stage now order x → Goes b start stage now order y → x ≡ y
  goes_one g h = coincide (goes_end g) (goes_end h)

  -- and its changes are those of the run
  pub turns-run : {now end : Snap} {order : List ℕ} (g : Goes b start stage now order end) (m : ℕ) → turns g m ≡ changes (net_of b stage) (acts_of b start stage) now order m
  unfolding turns changes
  turns-run ended m = refl
  turns-run (fired {now} {r = r} {order = l} e g) m =
      subst (λ (u : Snap). turns (fired e g) m ≡ flips (now m) (u m) + changes (net_of b stage) (acts_of b start stage) u l m) (sym (step-fired now r e))
      (rw (turns-run g m))
  turns-run (waited {now} {r = r} {order = l} e g) m =
      subst (λ (u : Snap). turns g m ≡ flips (now m) (u m) + changes (net_of b stage) (acts_of b start stage) u l m) (sym (step-waited now r e))
      (rw (turns-run g m, flips-same (now m) (now m) refl) (omega arith))
