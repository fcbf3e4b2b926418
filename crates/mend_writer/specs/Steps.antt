-- A node before each of the steps, with the step as a number, and whether the step changes it: one form for the four lists of nodes and for the chart. Assumes nothing.
use Prim.Native.Nat.{ℕ, zero, suc, ◌+◌, ◌-◌, ◌*◌, ◌/◌}
use Rattle.std.specs.Prelude.{◌≡◌, Bool, cond, ◌&&◌, ◌||◌, eqb, leb, ltb}
use Rattle.std.proofs.Math.Path.{refl, sym}
use Rattle.std.proofs.Common.{ap, ◌∙◌, arith}
use Rattle.std.proofs.Math.Bool.{not, and-false, or-false}
use mathlib.Core.List.{List, ◌++◌, append_assoc}
use Rattle.std.proofs.Math.ListN.{length, length-append}
use borrow.Author.Tests.{lt-leb}
use Rattle.paper.specs.Limits.{no_parent, flags_byte, mend_parent, mend_flags, mend_loop, mend_group, mend_relation}
use Rattle.general.specs.Cases.{cases}
use Rattle.general.specs.Below.{tally}
use Rattle.general.specs.Lists.{total, total-same, flat, flat-same, length-flat, packed, packed-append}
use Rattle.general.specs.Packing.{packed-flat-parts}
use Rattle.records.specs.Image.{nodes, parent_of, flags_of, from_of, to_of, kind_of, bad_relation_at, Whole}
use Rattle.mending.specs.Mending.{Change, node_change, relation_change, change_bytes, known_flags, lowest_of_loop}
use Rattle.mending.specs.OfImage.{missing_at, unknown_at, existing_parent, last_parent, group_left, flagged_at, last_flags, node, relations_left, entry_if, entry_at1, entry_at2, entry_at3, entry_at4, entry_at5, entries}
use Rattle.mending.specs.StepByStep.{lowest-has}

module _ (image : List ℕ) where
  -- the parent of node i before the step
  unfoldable pub parent_before : ℕ → ℕ → ℕ
  parent_before step i = cond ((ltb mend_parent step && missing_at image i) || (ltb mend_loop step && lowest_of_loop image i)) no_parent (parent_of image i)

  -- its flags before the step
  unfoldable pub flags_before : ℕ → ℕ → ℕ
  flags_before step i =
      cond (leb step mend_flags) (flags_of image i)
      (cond (ltb mend_group step && group_left image i) (flags_byte * (flags_of image i / flags_byte)) (known_flags (flags_of image i)))

  -- whether the step changes it
  unfoldable pub changed_at : ℕ → ℕ → Bool
  changed_at step i =
      cond (eqb step mend_parent) (missing_at image i)
      (cond (eqb step mend_flags) (unknown_at image i) (cond (eqb step mend_loop) (lowest_of_loop image i) (flagged_at image i)))

  -- what the list then says of it
  unfoldable pub entry_at : ℕ → ℕ → List Change
  entry_at step i = entry_if image (changed_at step i) (node_change step i (node image (parent_before step i) (flags_before step i)))

  -- its bytes
  unfoldable pub entry_part : ℕ → ℕ → List ℕ
  entry_part step i = packed change_bytes (entry_at step i)

  unfoldable pub drop_part : ℕ → List ℕ
  drop_part k = packed change_bytes (entry_at5 image k)

  -- the four steps over the nodes
  abbrev pub steps_run : ℕ → List ℕ
  steps_run n = flat mend_group (λ s. flat n (entry_part (s + 1)))

  -- the whole list
  unfoldable pub list_runs : ℕ → ℕ → List ℕ
  list_runs n k = steps_run n ++ flat k drop_part

  -- ---- at each step

  entry-1 : (i : ℕ) → entry_at mend_parent i ≡ entry_at1 image i
  unfolding entry_at changed_at parent_before flags_before entry_at1
  entry-1 i = refl

  entry-2 : (i : ℕ) → entry_at mend_flags i ≡ entry_at2 image i
  unfolding entry_at changed_at parent_before flags_before entry_at2 existing_parent
  entry-2 i = rw (or-false (missing_at image i))

  entry-3 : (i : ℕ) → entry_at mend_loop i ≡ entry_at3 image i
  unfolding entry_at changed_at parent_before flags_before entry_at3 missing_at
  entry-3 i =
      cases (lowest_of_loop image i)
      (λ t. rw (t, lt-leb (nodes image) (parent_of image i) (lowest-has image i t), and-false (not (eqb (parent_of image i) no_parent))))
      (λ t. rw t)

  entry-4 : (i : ℕ) → entry_at mend_group i ≡ entry_at4 image i
  unfolding entry_at changed_at parent_before flags_before entry_at4 last_parent
  entry-4 i = refl

  pub last-part : (i : ℕ) (p s : ℕ) → p ≡ parent_before mend_relation i → s ≡ flags_before mend_relation i → (p ≡ last_parent image i) × (s ≡ last_flags image i)
  unfolding parent_before flags_before last_parent last_flags
  last-part i p s e f = (e, f)

  -- ---- the list

  four : {A : Type 0} (g : ℕ → List A) → flat mend_group g ≡ g 0 ++ (g 1 ++ (g 2 ++ g 3))
  unfolding flat
  four g = rw (append_assoc (g 0 ++ g 1) (g 2) (g 3), append_assoc (g 0) (g 1) (g 2 ++ g 3))

  length-if : (f : ℕ → Bool) (c : ℕ → Change) (m : ℕ) → length (flat m (λ i. entry_if image (f i) (c i))) ≡ tally m f
  unfolding flat tally
  length-if f c zero = refl
  length-if f c (suc m) =
      length-append (flat m (λ i. entry_if image (f i) (c i))) (entry_if image (f m) (c m)) ∙ rw (length-if f c m) (cases (f m) (λ t. rw t (omega arith)) (λ t. rw t (omega arith)))

  -- those that pass and those that do not are all
  both-are : (f : ℕ → Bool) (m : ℕ) → tally m f + tally m (λ i. not (f i)) ≡ m
  unfolding tally
  both-are f zero = refl
  both-are f (suc m) = cases (f m) (λ t. rw t (omega (arith, both-are f m))) (λ t. rw t (omega (arith, both-are f m)))

  module _ (n k : ℕ) (w : Whole image n k) where
    abbrev steps_of : List Change
    steps_of = flat mend_group (λ s. flat n (entry_at (s + 1)))

    entries-of : entries image ≡ steps_of ++ flat k (entry_at5 image)
    unfolding entries
    entries-of =
        let a : flat n (entry_at 1) ≡ flat n (entry_at1 image) = flat-same n (entry_at 1) (entry_at1 image) (λ i h. entry-1 i) in
        let b : flat n (entry_at 2) ≡ flat n (entry_at2 image) = flat-same n (entry_at 2) (entry_at2 image) (λ i h. entry-2 i) in
        let c : flat n (entry_at 3) ≡ flat n (entry_at3 image) = flat-same n (entry_at 3) (entry_at3 image) (λ i h. entry-3 i) in
        let d : flat n (entry_at 4) ≡ flat n (entry_at4 image) = flat-same n (entry_at 4) (entry_at4 image) (λ i h. entry-4 i) in
        rw (four (λ s. flat n (entry_at (s + 1))), ← w.nodes, ← w.relations, ← a, ← b, ← c, ← d)
        (sym (append_assoc (flat n (entry_at 1)) (flat n (entry_at 2) ++ (flat n (entry_at 3) ++ flat n (entry_at 4))) (flat k (entry_at5 image))
        ∙ rw (
          append_assoc (flat n (entry_at 2)) (flat n (entry_at 3) ++ flat n (entry_at 4)) (flat k (entry_at5 image)),
          append_assoc (flat n (entry_at 3)) (flat n (entry_at 4)) (flat k (entry_at5 image)),
        )))

    pub list-so : packed change_bytes (entries image) ≡ list_runs n k
    unfolding list_runs entry_part drop_part
    list-so =
        rw (
          entries-of,
          packed-append change_bytes steps_of (flat k (entry_at5 image)),
          packed-flat-parts change_bytes mend_group (λ s. flat n (entry_at (s + 1))),
          packed-flat-parts change_bytes k (entry_at5 image),
        )
        (ap (λ (l : List ℕ). l ++ flat k (λ i. packed change_bytes (entry_at5 image i))) (flat-same mend_group (λ s. packed change_bytes (flat n (entry_at (s + 1))))
        (λ s. flat n (entry_part (s + 1))) (λ s h. packed-flat-parts change_bytes n (entry_at (s + 1)))))

    -- ---- how many

    length-step : (s : ℕ) → length (flat n (entry_at (s + 1))) ≡ tally n (changed_at (s + 1))
    unfolding entry_at
    length-step s = length-if (changed_at (s + 1)) (λ i. node_change (s + 1) i (node image (parent_before (s + 1) i) (flags_before (s + 1) i))) n

    pub length-entries : {a l : ℕ} → a ≡ total mend_group (λ s. tally n (changed_at (s + 1))) → l ≡ relations_left image → a + (k - l) ≡ length (entries image)
    unfolding relations_left entry_at5
    length-entries {a} {l} e f =
        let b : length steps_of ≡ a = length-flat mend_group (λ s. flat n (entry_at (s + 1))) ∙ total-same mend_group _ _ (λ s h. length-step s) ∙ sym e in
        let d : length (flat k (entry_at5 image)) ≡ tally k (bad_relation_at image) = length-if (bad_relation_at image) (λ i. relation_change i (record { from = from_of image i; to = to_of image i; kind = kind_of image i })) k in
        let g : l ≡ tally k (λ i. not (bad_relation_at image i)) = f ∙ rw (← w.relations) in
        let h : tally k (bad_relation_at image) + tally k (λ i. not (bad_relation_at image i)) ≡ k = both-are (bad_relation_at image) k in
        rw (entries-of, length-append steps_of (flat k (entry_at5 image))) (omega arith)
