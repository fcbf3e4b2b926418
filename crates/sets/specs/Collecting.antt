-- A set that a loop collects, number by number. Assumes nothing.
use Rattle.std.specs.Prelude.{ℕ, zero, suc, ◌+◌, ◌≤◌, ◌<◌, ◌≡◌, refl, Bool}
use Rattle.std.proofs.Common.{sym, ◌∙◌, arith}
use Rattle.general.specs.Scan.{at-end}
use Rattle.sets.specs.Set.{put_if, collect}
use Rattle.sets.specs.Laws.{collect-step}

-- a set that a loop collects: nothing yet, one more, all
pub collect-none : (p : ℕ → Bool) → 0 ≡ collect 0 p
unfolding collect
collect-none p = refl

pub collect-more : (p : ℕ → Bool) (e s r : ℕ) (b : Bool) → s ≡ collect e p → b ≡ p e → r ≡ put_if s e b → r ≡ collect (e + 1) p
collect-more p e s r b h i j = j ∙ rw (h, i) (sym (collect-step e p))

pub collect-end : (p : ℕ → Bool) (e n s : ℕ) → e ≤ n → n ≤ e → s ≡ collect e p → s ≡ collect n p
collect-end p e n s h l i = at-end (λ (x : ℕ). s ≡ collect x p) h l i

-- tests that agree below n collect alike
pub collect-same : (n : ℕ) (p q : ℕ → Bool) → ((e : ℕ) → e < n → p e ≡ q e) → collect n p ≡ collect n q
unfolding collect
collect-same zero p q h = refl
collect-same (suc n) p q h = rw (collect-same n p q (λ e l. h e (omega arith)), h n (omega arith))
