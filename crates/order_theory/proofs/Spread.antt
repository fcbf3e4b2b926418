-- A loop without a table: what is reached from a mark, spread over the rules until nothing is added. A rule on a loop targets the mark exactly if
-- some rule that targets it refers to what is reached. Assumes nothing.
use Rattle.std.specs.Prelude.{◌≡◌, ◌↔◌, Bool, true, ℕ}
use Rattle.std.proofs.Common.{⊎_elim}
use Rattle.closure.specs.Closure.{Way, hop, via, join}
use Rattle.order_theory.specs.Order.{Net, Counted, OnLoop}
use Rattle.order_theory.specs.Loops.{leads}
use Rattle.order_theory.proofs.Loops.{leads-of, of-leads, loop-way}
use Rattle.order_theory.specs.Spread.{Leads, Spread, Back}

module _ (N : Net) where
  -- over one more rule
  pub leads-on : (a x r : ℕ) → Leads N a x → Counted N r → N.refers r x ≡ true → Way (leads N) a (N.target r)
  leads-on a x r w i e =
      let h = leads-of N r x i e in
      ⊎_elim (λ q. hop (rw q h)) (λ v. join (leads N) v (hop h)) w

  module _ (a : ℕ) where
    module _ {s : ℕ → Bool} (p : Spread N a s) where
      last : {x b : ℕ} → s x ≡ true → Way (leads N) x b → Back N a s b
      last t (hop {a = x} {b} e) = let (r, i, g, u) = of-leads N x b e in (r, x, i, u, g, t)
      last t (via {a = x} {c} {b} e w) = let (r, i, g, u) = of-leads N x c e in last (rw u at (p.closed r x i g t)) w

      pub spread-loop : OnLoop N a ↔ Back N a s a
      spread-loop = (
        λ o. last p.begun ((loop-way N a).0 o),
        λ o. let (r, x, i, u, g, t) = o in (loop-way N a).1 (rw u at (leads-on a x r (p.sound x t) i g)),
      )
