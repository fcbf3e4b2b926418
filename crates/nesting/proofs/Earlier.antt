-- Laws of earlier proofs, which stood in specs/: nothing cites them now, and they stand. Assumes nothing.
use Prim.Native.Nat.{ℕ, ◌≤◌, ◌<◌}
use Rattle.std.specs.Prelude.{◌≡◌, false, not, List, true, cond, set, Bool}
use Rattle.std.proofs.Math.Path.{sym}
use native.Mathlib.Omega.{arith}
use borrow.Author.Tests.{lt-ltb, le-ltb, not-true, not-false}
use Rattle.general.specs.Cases.{not_so}
use Rattle.records.specs.Image.{nodes, Whole}
use Rattle.nesting.specs.Nesting.{on_loop_at}
use Rattle.nesting.specs.Ahead.{Returning}
use Rattle.general.specs.Below.{first, first-is}
use Rattle.nesting.specs.Climbing.{Straight}
use Rattle.general.specs.Scan.{at-end}
use Rattle.nesting.specs.Tables.{mark_at, Marks, Groups, EventNodes}

-- ---- the search for a node on a loop

module _ {image : List ℕ} {n k a : ℕ} (w : Whole image n k) (h : a < n) {c i : ℕ} (m : Returning image n a c i) where
  pub returning-end : n ≤ i → false ≡ on_loop_at image a
  returning-end l = sym (not_so (λ t. let b = m.near t in omega arith))

module _ (image : List ℕ) where
  pub straight-is : {n r : ℕ} → n ≡ nodes image → r ≡ first n (on_loop_at image) → n ≤ r → Straight image
  straight-is {n} e f h a l = (first-is n (on_loop_at image)).lowest a (rw (← f) (omega arith))

-- ---- the tables that the reader fills

pub mark_on : (groups : List Bool) (n p : ℕ) → p < n → set groups p true ≡ mark_at groups n p
unfolding mark_at
mark_on groups n p h = rw (lt-ltb p n h)

pub mark-off : (groups : List Bool) (n p : ℕ) → n ≤ p → groups ≡ mark_at groups n p
unfolding mark_at
mark-off groups n p h = rw (le-ltb p n h)

pub marks-end : {image : List ℕ} {n a : ℕ} {groups : List Bool} → a ≤ n → n ≤ a → Marks image n a groups → Groups image n groups
marks-end {image} {n} {a} {groups} = at-end (λ (a : ℕ). Marks image n a groups)

pub put_on : (group : Bool) (old new : List ℕ) → not group ≡ true → new ≡ cond group old new
put_on group old new h = rw (not-true group h)

pub put-off : (group : Bool) (old new : List ℕ) → not group ≡ false → old ≡ cond group old new
put-off group old new h = rw (not-false group h)

pub numbered-end : {groups : List Bool} {nodes : List ℕ} {n i : ℕ} → i ≤ n → n ≤ i → EventNodes groups i nodes → EventNodes groups n nodes
numbered-end {groups} {nodes} = at-end (λ (i : ℕ). EventNodes groups i nodes)
