-- The running order. It lists every counted rule exactly if there is no loop, and is then a fit order. Assumes nothing.
use Rattle.std.specs.Prelude.{◌≡◌, ◌⊎◌, Bool, true, cond, ◌&&◌, ◌||◌, List, [], ◌∷◌, ◌++◌, eqb}
use Rattle.std.proofs.Math.Path.{refl}
use Rattle.std.proofs.Common.{sym, subst, ◌∙◌, append_assoc, add-one, arith}
use Rattle.std.proofs.Math.Logic.{inl, inr, ⊎_elim}
use Rattle.std.proofs.Math.Bool.{not}
use Prim.Native.Nat.{ℕ, zero, suc, ◌+◌, ◌<◌}
use borrow.Author.Tests.{eq-eqb, ne_eqb}
use Rattle.general.specs.Below.{every, first}
use Rattle.order_theory.specs.Order.{Net, Counted, counted_rules, before, Chain, link, more}
use Rattle.order_theory.specs.Written.{Written, none, write, left, left-first}

-- ---- the running order

module _ (N : Net) where
  -- how many counted rules are unwritten
  abbrev pub unwritten : Written → ℕ
  unwritten d = left N.counts d N.count

  pub unwritten_first : unwritten none ≡ counted_rules N
  unwritten_first = left-first N.counts N.count

  -- r counts and is unwritten, and all its counted predecessors are written
  unfoldable pub ready : Written → ℕ → Bool
  ready d r = N.counts r && not (d r) && every N.count (λ p. not (N.counts p && before N p r) || d p)

  -- the lowest-numbered such rule, or count
  abbrev pub next : Written → ℕ
  next d = first N.count (ready d)

  -- "always the lowest-numbered unwritten rule all of whose predecessors are written", of the counted rules, at most f times
  unfoldable pub greedy : ℕ → Written → List ℕ
  greedy zero d = []
  greedy (suc f) d = cond (eqb (next d) N.count) [] (next d ∷ greedy f (write d (next d)))

  unfoldable pub running_order : List ℕ
  running_order = greedy (counted_rules N) none

  -- ---- the order step by step

  -- the order goes on with r where r is next
  pub greedy-on : (f : ℕ) (d : Written) (r : ℕ) → r ≡ next d → r < N.count → greedy (suc f) d ≡ r ∷ greedy f (write d r)
  unfolding greedy
  greedy-on f d r e h = rw (← e, ne_eqb r N.count (λ x. omega arith))

  -- and stops where nothing is ready
  pub greedy-end : (f : ℕ) (d : Written) → next d ≡ N.count → greedy f d ≡ []
  unfolding greedy
  greedy-end zero d e = refl
  greedy-end (suc f) d e = rw (eq-eqb (next d) N.count e)

  -- the same where one more is written behind what is: `done` stands for the room's first entries
  pub running-on : (done : List ℕ) (d : Written) (f r : ℕ) → running_order ≡ done ++ greedy (f + 1) d → r ≡ next d → r < N.count → running_order ≡ (done ++ r ∷ []) ++ greedy f (write d r)
  running-on done d f r h e c = h ∙ rw (add-one, greedy-on f d r e c) (sym (append_assoc done (r ∷ []) (greedy f (write d r))))

  -- ---- a fit order leaves no loop

  -- the last link of a chain
  last : {p r : ℕ} → Chain N p r → (q : ℕ) × Counted N q × (before N q r ≡ true) × ((p ≡ q) ⊎ Chain N p q)
  last (link {p} {q} i j e) = (p, i, e, inl refl)
  last (more {p} {r} {q} i j e c) = let (x, h, f, s) = last c in (x, h, f, inr (⊎_elim (λ u. link i h (rw u at e)) (λ u. more i j e u) s))

  -- what comes before a rule on a loop, in that loop, is on a loop
  pub turn : (r : ℕ) → Counted N r → Chain N r r → (q : ℕ) × Counted N q × (before N q r ≡ true) × Chain N q q
  turn r j c = let (x, h, f, s) = last c in (x, h, f, ⊎_elim (λ u. subst (λ y. Chain N y y) u c) (λ u. more h j f u) s)
