-- Laws of earlier proofs, which stood in specs/: nothing cites them now, and they stand. Assumes nothing.
use Rattle.std.specs.Prelude.{ℕ, ◌+◌, ◌≤◌, ◌<◌, ◌≡◌, Bool, true, false, not, ◌&&◌, List, get_or, set, eqb, ltb, ◌*◌, ◌/◌, ◌%◌, refl, ◌||◌}
use Rattle.std.proofs.Common.{sym, ◌∙◌, arith, length-set, get_or-set_same, get_or-set_other, ap}
use Rattle.std.proofs.Math.Bool.{or-false, or-true}
use borrow.Author.Tests.{lt-ltb, ltb-true, eqb-true, eqb-false, eq-eqb, ne_eqb, le-leb, lt-leb}
use Rattle.paper.specs.Limits.{max_nodes, no_parent, flags_byte, mend_parent, mend_flags, mend_loop, mend_group}
use Rattle.general.specs.Cases.{cases, both}
use Rattle.general.specs.Below.{some-step, tally, tally-le}
use Rattle.records.specs.Image.{parent_of, Whole, flags_of}
use Rattle.nesting.specs.Nesting.{parent}
use Rattle.mending.specs.Mending.{lowest_of_loop, state_flags, known_flags}
use Rattle.loop_cuts.specs.Walking.{LowestCut}
use Rattle.mend_writer.specs.Groups.{parent_left, LeftMarks, GroupsLeft}
use Rattle.general.specs.Numbering.{tally-end}
use Rattle.general.specs.Lists.{total, total-step}
use Rattle.mending.specs.OfImage.{missing_at, unknown_at, flagged_at}
use Rattle.mend_writer.specs.Steps.{parent_before, flags_before, changed_at}
use Rattle.mend_writer.specs.Bytes.{step_count}

-- ---- the groups that are left, by one test of both

module _ {image : List ℕ} {n k a p : ℕ} {cut groups : List Bool}
    (w : Whole image n k) (c : LowestCut image n cut) (m : LeftMarks image n a groups) (h : a < n) (q : p ≡ parent_of image a) where
  link-is : (i : ℕ) → i < n → parent_left image i a ≡ (eqb p i && not (get_or cut a false))
  unfolding parent
  link-is i l = rw (← w.nodes, ← q, lt-ltb a n h, lt-ltb i n l, c.each a h)

  pub left-on : {next : List Bool} → (ltb p n && not (get_or cut a false)) ≡ true → next ≡ set groups p true → LeftMarks image n (a + 1) next
  left-on t e =
      let u = both (ltb p n) (not (get_or cut a false)) t in
      let l = ltb-true p n u.0 in
      rw e (record {
        size = length-set groups p true ∙ m.size;
        each = λ i j.
            rw (some-step a (parent_left image i), ← m.each i j, link-is i j, u.1) (cases (eqb p i)
            (λ s. rw (s, ← eqb-true p i s) (get_or-set_same groups p true false (let z = m.size in let f = w.few in omega arith) ∙ sym (or-true (get_or groups p false))))
            (λ s. rw s (get_or-set_other groups p i true false (λ z. eqb-false p i s (sym z)) ∙ sym (or-false (get_or groups i false)))));
      })

  pub left-off : {next : List Bool} → (ltb p n && not (get_or cut a false)) ≡ false → next ≡ groups → LeftMarks image n (a + 1) next
  left-off t e =
      rw e (record {
        size = m.size;
        each = λ i j.
            let none : (eqb p i && not (get_or cut a false)) ≡ false = cases (eqb p i) (λ s. rw s (rw (eqb-true p i s, lt-ltb i n j) at t)) (λ s. rw s) in
            rw (some-step a (parent_left image i), ← m.each i j, link-is i j, none) (sym (or-false (get_or groups i false)));
      })

pub left_in : (image : List ℕ) (n k p : ℕ) (b : Bool) → Whole image n k → (ltb p n && b) ≡ true → p < max_nodes
left_in image n k p b w t = let l = ltb-true p n (both (ltb p n) b t).0 in let f = w.few in omega arith

-- ---- how many nodes a step changes, and all four

pub count-all : (image : List ℕ) (step n i c : ℕ) → i ≤ n → n ≤ i → c ≡ tally i (changed_at image step) → (c ≡ tally n (changed_at image step)) × (c ≤ n)
count-all image step n i c h l e = let q = tally-end (changed_at image step) n i c h l e in (q, omega (arith, tally-le n (changed_at image step)))

pub steps-none : (image : List ℕ) (n : ℕ) → 0 ≡ total 0 (step_count image n)
unfolding total
steps-none image n = refl

pub steps-more : (image : List ℕ) (n d c r : ℕ) → c ≡ total d (step_count image n) → r ≡ tally n (changed_at image (d + 1)) → c + r ≡ total (d + 1) (step_count image n)
steps-more image n d c r e q = rw (total-step d (step_count image n), e, q)

pub steps_all : (image : List ℕ) (n d c : ℕ) → d ≤ mend_group → mend_group ≤ d → c ≡ total d (step_count image n) → c ≡ total mend_group (step_count image n)
steps_all image n d c h l e = let q : d ≡ mend_group = omega arith in e ∙ ap (λ (x : ℕ). total x (step_count image n)) q

-- ---- the returns of the functions that look at one node

module _ (image : List ℕ) (step i : ℕ) where
  pub changed-1 : {b : Bool} → step ≡ mend_parent → b ≡ missing_at image i → b ≡ changed_at image step i
  unfolding changed_at
  changed-1 p e = rw (eq-eqb step mend_parent p) e

  pub changed-2 : (f g : ℕ) → (step ≡ mend_parent → ⊥) → step ≡ mend_flags → f ≡ flags_of image i → g ≡ known_flags f → not (eqb g f) ≡ changed_at image step i
  unfolding changed_at unknown_at
  changed-2 f g m p e q = rw (ne_eqb step mend_parent m, eq-eqb step mend_flags p, q, e)

  pub changed-3 : (n : ℕ) (cut : List Bool) → LowestCut image n cut → i < n → (step ≡ mend_parent → ⊥) → (step ≡ mend_flags → ⊥) → step ≡ mend_loop
      → get_or cut i false ≡ changed_at image step i
  unfolding changed_at
  changed-3 n cut c h m l p = rw (ne_eqb step mend_parent m, ne_eqb step mend_flags l, eq-eqb step mend_loop p) (c.each i h)

  pub changed-4 : (n f : ℕ) (groups : List Bool) → GroupsLeft image n groups → i < n → (step ≡ mend_parent → ⊥) → (step ≡ mend_flags → ⊥) → (step ≡ mend_loop → ⊥)
      → f ≡ flags_of image i → (get_or groups i false && not (eqb (f % state_flags) 0)) ≡ changed_at image step i
  unfolding changed_at flagged_at
  changed-4 n f groups g h m l p e = rw (ne_eqb step mend_parent m, ne_eqb step mend_flags l, ne_eqb step mend_loop p, e, g.each i h)

module _ (image : List ℕ) (n step i : ℕ) (cut : List Bool) (c : LowestCut image n cut) (h : i < n) (m : Bool) (e : m ≡ missing_at image i) where
  abbrev gone : Bool
  gone = (ltb mend_parent step && m) || (ltb mend_loop step && get_or cut i false)

  gone-is : gone ≡ ((ltb mend_parent step && missing_at image i) || (ltb mend_loop step && lowest_of_loop image i))
  gone-is = rw (e, c.each i h)

  pub parent-gone : gone ≡ true → no_parent ≡ parent_before image step i
  unfolding parent_before
  parent-gone t = rw (← gone-is, t)

  pub parent-stays : gone ≡ false → {p : ℕ} → p ≡ parent_of image i → p ≡ parent_before image step i
  unfolding parent_before
  parent-stays t q = rw (← gone-is, t) q

module _ (image : List ℕ) (step i f : ℕ) (e : f ≡ flags_of image i) where
  pub flags-first : step ≤ mend_flags → f ≡ flags_before image step i
  unfolding flags_before
  flags-first h = rw (le-leb step mend_flags h) e

  module _ (h : mend_flags < step) {n : ℕ} {groups : List Bool} (g : GroupsLeft image n groups) (l : i < n) where
    pub flags-group : (ltb mend_group step && get_or groups i false) ≡ true → flags_byte * (f / flags_byte) ≡ flags_before image step i
    unfolding flags_before
    flags-group t = rw (lt-leb step mend_flags h, ← g.each i l, t, e)

    pub flags-known : (ltb mend_group step && get_or groups i false) ≡ false → {s : ℕ} → s ≡ known_flags f → s ≡ flags_before image step i
    unfolding flags_before
    flags-known t q = rw (lt-leb step mend_flags h, ← g.each i l, t) (q ∙ rw e)
