-- The groups that are left after the cuts: what their table holds, and what the writers have at hand. Assumes nothing.
use Rattle.std.specs.Prelude.{ℕ, ◌+◌, ◌≤◌, ◌<◌, ◌≡◌, Bool, true, false, not, ◌&&◌, List, length, get_or, set, replicate, eqb}
use Rattle.std.proofs.Common.{sym, ◌∙◌, arith, length-set, get_or-set_same, get_or-set_other}
use Rattle.std.proofs.Math.Bool.{or-false, or-true}
use Rattle.std.proofs.lemmas.List.{length-replicate, get_or-replicate}
use borrow.Author.Tests.{lt-ltb, eqb-true, eqb-false}
use Rattle.paper.specs.Limits.{max_nodes}
use Rattle.general.specs.Cases.{cases}
use Rattle.general.specs.Below.{some, some-step}
use Rattle.general.specs.Scan.{at-end}
use Rattle.records.specs.Image.{parent_of, Whole}
use Rattle.nesting.specs.Nesting.{parent}
use Rattle.mending.specs.Mending.{lowest_of_loop}
use Rattle.mending.specs.OfImage.{group_left}
use Rattle.loop_cuts.specs.Walking.{LowestCut}

-- node a has node i for a parent, and is not cut from it
abbrev pub parent_left : List ℕ → ℕ → ℕ → Bool
parent_left image i a = parent image a i && not (lowest_of_loop image a)

-- the groups that the first a nodes have for parents
pub record LeftMarks (image : List ℕ) (n a : ℕ) (groups : List Bool) : Type 0 where
  pub size : length groups ≡ max_nodes
  pub each : (i : ℕ) → i < n → get_or groups i false ≡ some a (parent_left image i)

pub record GroupsLeft (image : List ℕ) (n : ℕ) (groups : List Bool) : Type 0 where
  pub size : length groups ≡ max_nodes
  pub each : (i : ℕ) → i < n → get_or groups i false ≡ group_left image i

-- what the writers have at hand
pub record Ready (image : List ℕ) (n k : ℕ) (cut groups : List Bool) : Type 0 where
  pub whole : Whole image n k
  pub cuts : LowestCut image n cut
  pub left : GroupsLeft image n groups

pub left-none : (image : List ℕ) (n k : ℕ) → Whole image n k → LeftMarks image n 0 (replicate max_nodes false)
unfolding some
left-none image n k w = record { size = length-replicate max_nodes false; each = λ i h. get_or-replicate max_nodes i false false (omega arith) }

module _ {image : List ℕ} {n k a p : ℕ} {cut groups : List Bool}
    (w : Whole image n k) (c : LowestCut image n cut) (m : LeftMarks image n a groups) (h : a < n) (q : p ≡ parent_of image a) where
  link-is : (i : ℕ) → i < n → parent_left image i a ≡ (eqb p i && not (get_or cut a false))
  unfolding parent
  link-is i l = rw (← w.nodes, ← q, lt-ltb a n h, lt-ltb i n l, c.each a h)

  pub left-on : {next : List Bool} → p < n → get_or cut a false ≡ false → next ≡ set groups p true → LeftMarks image n (a + 1) next
  left-on l t e =
      rw e (record {
        size = length-set groups p true ∙ m.size;
        each = λ i j.
            rw (some-step a (parent_left image i), ← m.each i j, link-is i j, t) (cases (eqb p i)
            (λ s. rw (s, ← eqb-true p i s) (get_or-set_same groups p true false (let z = m.size in let f = w.few in omega arith) ∙ sym (or-true (get_or groups p false))))
            (λ s. rw s (get_or-set_other groups p i true false (λ z. eqb-false p i s (sym z)) ∙ sym (or-false (get_or groups i false)))));
      })

  pub left-off : {next : List Bool} → (p < n → get_or cut a false ≡ true) → next ≡ groups → LeftMarks image n (a + 1) next
  left-off t e =
      rw e (record {
        size = m.size;
        each = λ i j.
            let none : (eqb p i && not (get_or cut a false)) ≡ false = cases (eqb p i) (λ s. rw (s, t (rw (eqb-true p i s) j))) (λ s. rw s) in
            rw (some-step a (parent_left image i), ← m.each i j, link-is i j, none) (sym (or-false (get_or groups i false)));
      })

pub left_end : {image : List ℕ} {n k a : ℕ} {groups : List Bool} → Whole image n k → a ≤ n → n ≤ a → LeftMarks image n a groups → GroupsLeft image n groups
unfolding group_left
left_end {image} {n} {a} {groups} w l h m =
    let t : LeftMarks image n n groups = at-end (λ (a : ℕ). LeftMarks image n a groups) l h m in
    record { size = t.size; each = λ i j. rw (← w.nodes) (t.each i j) }
