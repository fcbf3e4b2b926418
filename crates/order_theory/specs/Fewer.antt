-- Where fewer rules count there are no more loops, rules that refer to nothing are on none, and a rule that cannot fire may be left out of an
-- order. Assumes nothing.
use Rattle.std.specs.Prelude.{◌≡◌, true, false, cond, eqb, ℕ}
use Rattle.std.proofs.Math.Path.{refl, fun_ext}
use Rattle.std.proofs.Common.{arith}
use Rattle.std.proofs.Math.Logic.{inl, inr}
use Rattle.std.proofs.Math.Bool.{and-false}
use mathlib.Core.List.{List, [], ◌∷◌}
use Rattle.general.specs.Cases.{cases}
use Rattle.general.specs.Below.{tally-all}
use Rattle.order_theory.specs.Order.{Net, Counted, counted_rules, Mem}
use Rattle.order_theory.specs.Settle.{Snap, Acts, flips-same, step, run, changes}

-- N has the rules of M, and what counts in N counts in M
pub record Fewer (N M : Net) : Type 0 where
  pub count : N.count ≡ M.count
  pub target : (r : ℕ) → N.target r ≡ M.target r
  pub refers : (r m : ℕ) → N.refers r m ≡ M.refers r m
  pub counts : (r : ℕ) → N.counts r ≡ true → M.counts r ≡ true

-- the whole book: every rule counts
abbrev pub all_counted : Net → Net
all_counted N = record { count = N.count; counts = λ r. true; target = N.target; refers = N.refers }

pub all-counted : (N : Net) → counted_rules (all_counted N) ≡ N.count
all-counted N = tally-all N.count (λ r. true) (λ r h. refl)

-- ---- rules that refer to nothing

-- what counts in M and not in N refers to no mark
abbrev pub RefersToNothing : Net → Net → Type 0
RefersToNothing N M = (r : ℕ) → Counted M r → N.counts r ≡ false → (m : ℕ) → M.refers r m ≡ false

-- ---- an order without the rules that do not count

module _ (N : Net) where
  -- the entries that count
  unfoldable pub counted_of : List ℕ → List ℕ
  counted_of [] = []
  counted_of (r ∷ l) = cond (N.counts r) (r ∷ counted_of l) (counted_of l)

  module _ (A : Acts N) where
    -- no entry that does not count fires, whatever the snapshot
    abbrev pub IdleIn : List ℕ → Type 0
    IdleIn l = (q : ℕ) → Mem q l → N.counts q ≡ false → (s : Snap) → A.fires s q ≡ false

    -- a rule that does not fire leaves the snapshot as it is
    pub idle-step : (s : Snap) (r : ℕ) → A.fires s r ≡ false → step N A s r ≡ s
    unfolding step
    idle-step s r e = fun_ext (λ m. rw (e, and-false (eqb m (N.target r))))

    -- so leaving such entries out changes no snapshot
    pub run-counted : (l : List ℕ) → IdleIn l → (s : Snap) → run N A s (counted_of l) ≡ run N A s l
    unfolding run counted_of
    run-counted [] h s = refl
    run-counted (r ∷ l) h s =
        cases (N.counts r) (λ e. rw e (run-counted l (λ q i. h q (inr i)) (step N A s r)))
        (λ e. rw (e, idle-step s r (h r (inl refl) e s)) (run-counted l (λ q i. h q (inr i)) s))

    -- and no mark changes more or less often on the way
    pub changes-counted : (l : List ℕ) → IdleIn l → (s : Snap) (m : ℕ) → changes N A s (counted_of l) m ≡ changes N A s l m
    unfolding changes counted_of
    changes-counted [] h s m = refl
    changes-counted (r ∷ l) h s m =
        cases (N.counts r) (λ e. rw (e, changes-counted l (λ q i. h q (inr i)) (step N A s r) m))
        (λ e. rw (e, idle-step s r (h r (inl refl) e s), flips-same (s m) (s m) refl) (omega (arith, changes-counted l (λ q i. h q (inr i)) s m)))

-- ---- rules that cannot fire may be left out

-- what A and B make of a rule is the same, and a rule that counts in M and not in N cannot fire
pub record LeavesOut (N M : Net) (A : Acts N) (B : Acts M) : Type 0 where
  pub fewer : Fewer N M
  pub effect : (r : ℕ) → A.effect r ≡ B.effect r
  pub fires : (s : Snap) (r : ℕ) → A.fires s r ≡ B.fires s r
  pub idle : (r : ℕ) → Counted M r → N.counts r ≡ false → (s : Snap) → A.fires s r ≡ false
