-- The request's pair, "on completion of A if b, set c" beside "on completion of B if c, set b", as rules 0 and 1 over the marks b = 0 and c = 1.
-- Counted together they are a loop, for one stage they are none. Assumes nothing.
use Rattle.std.specs.Prelude.{◌≡◌, refl, Bool, true, false, cond, [], ◌∷◌, ℕ, eqb}
use Rattle.general.specs.Below.{every, some, first, tally}
use Rattle.closure.specs.Closure.{within}
use Rattle.order_theory.specs.Order.{Net, counted_rules}
use Rattle.order_theory.specs.Loops.{leads, loop_mark}
use Rattle.order_theory.specs.Running.{ready, greedy, running_order}
use Rattle.order_theory.specs.Pass.{fine, passes, fit_pass}

-- rule r refers to mark r and targets the other
abbrev pub pair : (ℕ → Bool) → Net
pair g = record { count = 2; counts = g; target = λ r. cond (eqb r 0) 1 0; refers = λ r m. eqb r m }

-- for A rule 0 counts, for B rule 1
abbrev pub for_a : Net
for_a = pair (λ r. eqb r 0)

abbrev pub for_b : Net
for_b = pair (λ r. eqb r 1)

abbrev pub together : Net
together = pair (λ r. true)

pub lowest-marks : (loop_mark together 2 ≡ 0) × (loop_mark for_a 2 ≡ 2) × (loop_mark for_b 2 ≡ 2)
unfolding leads some first within
lowest-marks = (refl, refl, refl)

pub counted-one : (counted_rules together ≡ 2) × (counted_rules for_a ≡ 1) × (counted_rules for_b ≡ 1)
unfolding tally
counted-one = (refl, refl, refl)

pub orders : (running_order together ≡ []) × (running_order for_a ≡ 0 ∷ []) × (running_order for_b ≡ 1 ∷ [])
unfolding running_order greedy ready first every tally
orders = (refl, refl, refl)

-- another stage's rule, no rule, or one too many does not pass; nor does another stage's rule that refers to nothing
pub orders-tested : (fit_pass for_a (0 ∷ []) ≡ true) × (fit_pass for_a (1 ∷ []) ≡ false) × (fit_pass for_a [] ≡ false) × (fit_pass for_a (0 ∷ 1 ∷ []) ≡ false)
    × (fit_pass (record { count = 2; counts = λ r. eqb r 0; target = λ r. r; refers = λ r m. false }) (1 ∷ []) ≡ false)
unfolding fit_pass passes fine ready every tally
orders-tested = (refl, refl, refl, refl, refl)
