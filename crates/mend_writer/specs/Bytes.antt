-- What each writer leaves behind, and each return, in the form in which the code meets it. Assumes nothing.
use Rattle.std.specs.Prelude.{ℕ, ◌+◌, ◌-◌, ◌*◌, ◌/◌, ◌%◌, ◌≤◌, ◌<◌, ◌≡◌, refl, Bool, true, false, not, cond, ◌&&◌, ◌||◌, List, [], ◌∷◌, ◌++◌, eqb, leb, ltb, length, get_or}
use Rattle.std.proofs.Common.{sym, ◌∙◌, append-nil, add-one}
use native.Mathlib.Omega.{arith}
use borrow.Author.Tests.{ne_eqb, le-leb, lt-leb, ltb-true, ltb-false, not-true, not-false}
use mir.Val.{bool_byte}
use Rattle.paper.specs.Limits.{max_nodes, max_relations, chart_header, node_size, no_parent, flags_byte, mend_parent, mend_flags, mend_loop, mend_group, mend_relation}
use Rattle.general.specs.Below.{tally, tally-le}
use Rattle.general.specs.Numbering.{tally-more, tally-end}
use Rattle.general.specs.Lists.{total, flat, packed, packed-one}
use Rattle.general.specs.Writing.{Fits, Wrote, Runs, runs-start, runs-fits, runs-more, runs_done, wrote_none, then, fits-first, fits-then}
use Rattle.wire.specs.Wire.{put16, bytes16}
use Rattle.records.specs.Image.{flags_of, parent_of, from_of, to_of, kind_of, bad_relation_at, Whole}
use Rattle.loop_cuts.specs.Walking.{LowestCut}
use Rattle.mending.specs.Records.{Relation, node_bytes, relation_bytes, header_bytes}
use Rattle.mending.specs.Mending.{Change, change_bytes, state_flags, known_flags, lowest_of_loop}
use Rattle.mending.specs.OfImage.{missing_at, unknown_at, flagged_at, node_part, relation_part, relations_left, mended_runs, entry_at5, entries}
use Rattle.mending.specs.StepByStep.{length-change}
use Rattle.mend_writer.specs.Groups.{GroupsLeft}
use Rattle.mend_writer.specs.Steps.{parent_before, flags_before, changed_at, entry_at, entry_part, drop_part, last-part, steps_run, list_runs, length-entries}

-- ---- one number after another

word-wrote : {room after : List ℕ} (at next x : ℕ) → next ≡ at + 2 → after ≡ put16 room at x → Wrote room at (bytes16 x) next after
unfolding put16 bytes16
word-wrote at next x p q = record { place = p; holds = q ∙ rw add-one }

abbrev pub change : ℕ → ℕ → ℕ → ℕ → ℕ → Change
change step number first second third = record { step = step; number = number; first = first; second = second; third = third }

abbrev pub relation : ℕ → ℕ → ℕ → Relation
relation from to kind = record { from = from; to = to; kind = kind }

pub change-wrote : {room r₁ r₂ r₃ r₄ r₅ : List ℕ} (at a b c d e : ℕ)
    → r₁ ≡ put16 room at a → r₂ ≡ put16 r₁ (at + 2) b → r₃ ≡ put16 r₂ (at + 4) c → r₄ ≡ put16 r₃ (at + 6) d → r₅ ≡ put16 r₄ (at + 8) e
    → Wrote room at (change_bytes (change a b c d e)) (at + 10) r₅
unfolding change_bytes packed
change-wrote at a b c d e p q r s t =
    then (word-wrote at (at + 2) a refl p)
    (then (word-wrote (at + 2) (at + 4) b (omega arith) q)
    (then (word-wrote (at + 4) (at + 6) c (omega arith) r)
    (then (word-wrote (at + 6) (at + 8) d (omega arith) s) (rw append-nil (word-wrote (at + 8) (at + 10) e (omega arith) t)))))

pub relation-wrote : {room r₁ r₂ r₃ : List ℕ} (at f g h : ℕ) → r₁ ≡ put16 room at f → r₂ ≡ put16 r₁ (at + 2) g → r₃ ≡ put16 r₂ (at + 4) h
    → Wrote room at (relation_bytes (relation f g h)) (at + 6) r₃
unfolding relation_bytes
relation-wrote at f g h a b c =
    then (word-wrote at (at + 2) f refl a) (then (word-wrote (at + 2) (at + 4) g (omega arith) b) (word-wrote (at + 4) (at + 6) h (omega arith) c))

pub header-wrote : {room r₁ r₂ r₃ r₄ : List ℕ} (n l : ℕ)
    → r₁ ≡ put16 room 0 n → r₂ ≡ put16 r₁ 2 l → r₃ ≡ put16 r₂ 4 chart_header → r₄ ≡ put16 r₃ 6 (chart_header + node_size * n) → Wrote room 0 (header_bytes n l) chart_header r₄
unfolding header_bytes packed
header-wrote n l p q r s =
    then (word-wrote 0 2 n refl p)
    (then (word-wrote 2 4 l refl q) (then (word-wrote 4 6 chart_header refl r) (rw append-nil (word-wrote 6 8 (chart_header + node_size * n) refl s))))

pub header-fits : (room : List ℕ) (n l : ℕ) → Fits room 0 (header_bytes n l) → chart_header ≤ length room
unfolding header_bytes packed bytes16
header-fits room n l h = omega arith

-- ---- a step's entry, and that of a relation that is dropped

module _ (room : List ℕ) (at : ℕ) (b : Bool) (c : Change) where
  abbrev part : Bool → List ℕ
  part t = packed change_bytes (cond t (c ∷ []) [])

  if_none : b ≡ false → Wrote room at (part b) at room
  unfolding packed
  if_none t = rw t (wrote_none room at)

  if-fits : b ≡ true → Fits room at (part b) → at + 10 ≤ length room
  if-fits t h = let e = length-change c in let f : at + length (change_bytes c) ≤ length room = rw (packed-one change_bytes c) at (rw t at h) in omega arith

  if-wrote : {next : ℕ} {after : List ℕ} → b ≡ true → Wrote room at (change_bytes c) next after → Wrote room at (part b) next after
  if-wrote t w = rw (t, packed-one change_bytes c) w

module _ (image room : List ℕ) (at step i : ℕ) {b : Bool} (e : b ≡ changed_at image step i) where
  pub entry-none : not b ≡ true → Wrote room at (entry_part image step i) at room
  unfolding entry_part entry_at
  entry-none t = if_none room at (changed_at image step i) _ (sym e ∙ not-true b t)

  module _ (t : not b ≡ false) where
    pub entry-fits : Fits room at (entry_part image step i) → at + 10 ≤ length room
    unfolding entry_part entry_at
    entry-fits h = if-fits room at (changed_at image step i) _ (sym e ∙ not-false b t) h

    pub entry-wrote : (next p s : ℕ) (after : List ℕ) → p ≡ parent_before image step i → s ≡ flags_before image step i
        → Wrote room at (change_bytes (change step i p s 0)) next after → Wrote room at (entry_part image step i) next after
    unfolding entry_part entry_at
    entry-wrote next p s after q r w = if-wrote room at (changed_at image step i) _ (sym e ∙ not-false b t) (rw (← q, ← r) w)

module _ (image room : List ℕ) (at k : ℕ) {b : Bool} (e : b ≡ bad_relation_at image k) where
  pub drop-none : not b ≡ true → Wrote room at (drop_part image k) at room
  unfolding drop_part entry_at5
  drop-none t = if_none room at (bad_relation_at image k) _ (sym e ∙ not-true b t)

  pub keep-none : b ≡ true → Wrote room at (relation_part image k) at room
  unfolding relation_part
  keep-none t = rw (← e, t) (wrote_none room at)

  module _ (t : not b ≡ false) where
    pub drop-fits : Fits room at (drop_part image k) → at + 10 ≤ length room
    unfolding drop_part entry_at5
    drop-fits h = if-fits room at (bad_relation_at image k) _ (sym e ∙ not-false b t) h

    pub drop-wrote : (next f g h : ℕ) (after : List ℕ) → f ≡ from_of image k → g ≡ to_of image k → h ≡ kind_of image k
        → Wrote room at (change_bytes (change mend_relation k f g h)) next after → Wrote room at (drop_part image k) next after
    unfolding drop_part entry_at5
    drop-wrote next f g h after p q r w = if-wrote room at (bad_relation_at image k) _ (sym e ∙ not-false b t) (rw (← p, ← q, ← r) w)

  module _ (t : b ≡ false) where
    kept : relation_part image k ≡ relation_bytes (relation (from_of image k) (to_of image k) (kind_of image k))
    unfolding relation_part
    kept = rw (← e, t)

    pub keep-fits : Fits room at (relation_part image k) → at + 6 ≤ length room
    unfolding relation_bytes bytes16
    keep-fits h = let f = rw kept at h in omega arith

    pub keep-wrote : (next f g h : ℕ) (after : List ℕ) → f ≡ from_of image k → g ≡ to_of image k → h ≡ kind_of image k
        → Wrote room at (relation_bytes (relation f g h)) next after → Wrote room at (relation_part image k) next after
    keep-wrote next f g h after p q r w = rw (kept, ← p, ← q, ← r) w

-- ---- a node of the chart

pub node-fits : (image room : List ℕ) (at i : ℕ) → Fits room at (node_part image i) → at + 4 ≤ length room
unfolding node_part node_bytes bytes16
node-fits image room at i h = omega arith

pub node-wrote : (image : List ℕ) {room r₁ r₂ : List ℕ} (at i p s : ℕ) → p ≡ parent_before image mend_relation i → s ≡ flags_before image mend_relation i
    → r₁ ≡ put16 room at p → r₂ ≡ put16 r₁ (at + 2) s → Wrote room at (node_part image i) (at + 4) r₂
unfolding node_part node_bytes
node-wrote image at i p s e f a b =
    let t = last-part image i p s e f in
    rw (← t.0, ← t.1) (then (word-wrote at (at + 2) p refl a) (word-wrote (at + 2) (at + 4) s (omega arith) b))

-- ---- how many relations stay

pub left-more : (image : List ℕ) (i c : ℕ) (b : Bool) → c ≡ tally i (λ j. not (bad_relation_at image j)) → b ≡ bad_relation_at image i
    → c + bool_byte (not b) ≡ tally (i + 1) (λ j. not (bad_relation_at image j))
left-more image i c b e q = rw q (tally-more (λ j. not (bad_relation_at image j)) i c e)

pub left-all : {image : List ℕ} {n k i c : ℕ} → Whole image n k → i ≤ k → k ≤ i → c ≡ tally i (λ j. not (bad_relation_at image j)) → (c ≡ relations_left image) × (c ≤ k)
unfolding relations_left
left-all {image} {n} {k} {i} {c} w h l e =
    let q : c ≡ tally k (λ j. not (bad_relation_at image j)) = tally-end (λ j. not (bad_relation_at image j)) k i c h l e in
    (rw (← w.relations) q, omega (arith, tally-le k (λ j. not (bad_relation_at image j))))

-- ---- how many nodes a step changes, and all four

pub count-more : (image : List ℕ) (step i c : ℕ) (b : Bool) → c ≡ tally i (changed_at image step) → b ≡ changed_at image step i → c + bool_byte b ≡ tally (i + 1) (changed_at image step)
count-more image step i c b e q = rw q (tally-more (changed_at image step) i c e)

pub count-all : (image : List ℕ) (step n i c : ℕ) → n ≤ max_nodes → i ≤ n → n ≤ i → c ≡ tally i (changed_at image step) → (c ≡ tally n (changed_at image step)) × (c ≤ max_nodes)
count-all image step n i c m h l e = let q = tally-end (changed_at image step) n i c h l e in (q, omega (arith, tally-le n (changed_at image step)))

abbrev pub step_count : List ℕ → ℕ → ℕ → ℕ
step_count image n s = tally n (changed_at image (s + 1))

pub four-steps : (image : List ℕ) (n : ℕ) {a b c d : ℕ} → a ≡ step_count image n 0 → b ≡ step_count image n 1 → c ≡ step_count image n 2 → d ≡ step_count image n 3
    → a + b + c + d ≡ total mend_group (step_count image n)
unfolding total
four-steps image n p q r s = rw (p, q, r, s) (omega arith)

pub entries-all : (image : List ℕ) (n k a l : ℕ) → Whole image n k → a ≡ total mend_group (step_count image n) → a ≤ mend_group * max_nodes → l ≡ relations_left image
    → (a + (k - l) ≡ length (entries image)) × (a + (k - l) ≤ mend_group * max_nodes + max_relations)
entries-all image n k a l w e b f = let h = w.few_relations in (length-entries image n k w e f, omega arith)

-- ---- the returns of the functions that look at one node

module _ (image : List ℕ) (i : ℕ) where
  pub changed-parent : {b : Bool} → b ≡ missing_at image i → b ≡ changed_at image mend_parent i
  unfolding changed_at
  changed-parent e = e

  pub changed-flags : (f g : ℕ) → f ≡ flags_of image i → g ≡ known_flags f → not (eqb g f) ≡ changed_at image mend_flags i
  unfolding changed_at unknown_at
  changed-flags f g e q = rw (q, e)

  pub changed-loop : {n : ℕ} {cut : List Bool} → LowestCut image n cut → i < n → get_or cut i false ≡ changed_at image mend_loop i
  unfolding changed_at
  changed-loop c h = c.each i h

  pub changed-group : (step : ℕ) {n f : ℕ} {groups : List Bool} → mend_loop < step → GroupsLeft image n groups → i < n
      → f ≡ flags_of image i → (get_or groups i false && not (eqb (f % state_flags) 0)) ≡ changed_at image step i
  unfolding changed_at flagged_at
  changed-group step {n} {f} l g h e =
      rw (ne_eqb step mend_parent (λ z. omega arith), ne_eqb step mend_flags (λ z. omega arith), ne_eqb step mend_loop (λ z. omega arith), e, g.each i h)

module _ (image : List ℕ) (step i : ℕ) {n : ℕ} {cut : List Bool} (c : LowestCut image n cut) (h : i < n) {m a b : Bool}
    (e : m ≡ missing_at image i) (p : a ≡ ltb mend_parent step) (q : b ≡ ltb mend_loop step) where
  abbrev gone : Bool
  gone = (a && m) || (b && get_or cut i false)

  gone-is : gone ≡ ((ltb mend_parent step && missing_at image i) || (ltb mend_loop step && lowest_of_loop image i))
  gone-is = rw (p, q, e, c.each i h)

  pub parent-gone : gone ≡ true → no_parent ≡ parent_before image step i
  unfolding parent_before
  parent-gone t = rw (← gone-is, t)

  pub parent-stays : gone ≡ false → {x : ℕ} → x ≡ parent_of image i → x ≡ parent_before image step i
  unfolding parent_before
  parent-stays t r = rw (← gone-is, t) r

module _ (image : List ℕ) (step i f : ℕ) (e : f ≡ flags_of image i) {a : Bool} (p : a ≡ ltb mend_flags step) where
  pub flags-first : a ≡ false → f ≡ flags_before image step i
  unfolding flags_before
  flags-first t = rw (le-leb step mend_flags (ltb-false mend_flags step (sym p ∙ t))) e

  module _ (t : a ≡ true) {b : Bool} (q : b ≡ ltb mend_group step) {n : ℕ} {groups : List Bool} (g : GroupsLeft image n groups) (l : i < n) where
    after : leb step mend_flags ≡ false
    after = lt-leb step mend_flags (ltb-true mend_flags step (sym p ∙ t))

    pub flags-group : (b && get_or groups i false) ≡ true → flags_byte * (f / flags_byte) ≡ flags_before image step i
    unfolding flags_before
    flags-group u = rw (after, ← g.each i l, ← q, u, e)

    pub flags-known : (b && get_or groups i false) ≡ false → {s : ℕ} → s ≡ known_flags f → s ≡ flags_before image step i
    unfolding flags_before
    flags-known u r = rw (after, ← g.each i l, ← q, u) (r ∙ rw e)

-- ---- the chart and the list, run behind run

module _ (image room : List ℕ) (n k l : ℕ) (w : Whole image n k) (e : l ≡ relations_left image) (h : Fits room 0 (mended_runs image)) where
  abbrev node_run : List ℕ
  node_run = flat n (node_part image)

  abbrev relation_run : List ℕ
  relation_run = flat k (relation_part image)

  runs : mended_runs image ≡ header_bytes n l ++ (node_run ++ relation_run)
  unfolding mended_runs
  runs = rw (← w.nodes, ← w.relations, e)

  all : Fits room 0 (header_bytes n l ++ (node_run ++ relation_run))
  all = rw runs at h

  pub chart-fits-1 : chart_header ≤ length room
  chart-fits-1 = header-fits room n l (fits-first room 0 (header_bytes n l) (node_run ++ relation_run) all)

  module _ (p₁ : ℕ) (r₁ : List ℕ) (w₁ : Wrote room 0 (header_bytes n l) p₁ r₁) where
    pub chart-fits-2 : Fits r₁ p₁ node_run
    chart-fits-2 = fits-first r₁ p₁ node_run relation_run (fits-then w₁ (node_run ++ relation_run) all)

    module _ (p₂ : ℕ) (r₂ : List ℕ) (w₂ : Wrote r₁ p₁ node_run p₂ r₂) where
      pub chart-fits-3 : Fits r₂ p₂ relation_run
      chart-fits-3 = fits-then w₂ relation_run (fits-then w₁ (node_run ++ relation_run) all)

      pub chart-wrote : (p₃ : ℕ) (r₃ : List ℕ) → Wrote r₂ p₂ relation_run p₃ r₃ → Wrote room 0 (mended_runs image) p₃ r₃
      chart-wrote p₃ r₃ w₃ = rw runs (then w₁ (then w₂ w₃))

-- the four steps over the nodes, one behind another
module _ (image room : List ℕ) (n : ℕ) (h : Fits room 0 (steps_run image n)) where
  abbrev part_of : ℕ → List ℕ
  part_of s = flat n (entry_part image (s + 1))

  abbrev Ran : ℕ → ℕ → List ℕ → Type 0
  Ran = Runs part_of mend_group room 0

  ran-0 : Ran 0 0 room
  ran-0 = runs-start part_of mend_group room 0

  on : (k : ℕ) → k < mend_group → {p q : ℕ} {r t : List ℕ} → Ran k p r → Wrote r p (part_of k) q t → Ran (k + 1) q t
  on k l {p} {q} {r} {t} i w = runs-more part_of mend_group room 0 k p r i q t l w

  room-for : (k : ℕ) → k < mend_group → {p : ℕ} {r : List ℕ} → Ran k p r → Fits r p (part_of k)
  room-for k l {p} {r} i = runs-fits part_of mend_group room 0 k p r i l h

  pub step-fits-1 : Fits room 0 (part_of 0)
  step-fits-1 = room-for 0 (omega arith) ran-0

  module _ {p₁ : ℕ} {r₁ : List ℕ} (w₁ : Wrote room 0 (part_of 0) p₁ r₁) where
    pub step-fits-2 : Fits r₁ p₁ (part_of 1)
    step-fits-2 = room-for 1 (omega arith) (on 0 (omega arith) ran-0 w₁)

    module _ {p₂ : ℕ} {r₂ : List ℕ} (w₂ : Wrote r₁ p₁ (part_of 1) p₂ r₂) where
      pub step-fits-3 : Fits r₂ p₂ (part_of 2)
      step-fits-3 = room-for 2 (omega arith) (on 1 (omega arith) (on 0 (omega arith) ran-0 w₁) w₂)

      module _ {p₃ : ℕ} {r₃ : List ℕ} (w₃ : Wrote r₂ p₂ (part_of 2) p₃ r₃) where
        ran-3 : Ran 3 p₃ r₃
        ran-3 = on 2 (omega arith) (on 1 (omega arith) (on 0 (omega arith) ran-0 w₁) w₂) w₃

        pub step-fits-4 : Fits r₃ p₃ (part_of 3)
        step-fits-4 = room-for 3 (omega arith) ran-3

        pub steps-wrote : {p₄ : ℕ} {r₄ : List ℕ} → Wrote r₃ p₃ (part_of 3) p₄ r₄ → Wrote room 0 (steps_run image n) p₄ r₄
        steps-wrote {p₄} {r₄} w₄ = runs_done part_of mend_group room 0 4 p₄ r₄ (on 3 (omega arith) ran-3 w₄) (omega arith)

module _ (image room : List ℕ) (n k : ℕ) (h : Fits room 0 (list_runs image n k)) where
  pub list-fits-1 : Fits room 0 (steps_run image n)
  unfolding list_runs
  list-fits-1 = fits-first room 0 (steps_run image n) (flat k (drop_part image)) h

  module _ (p₁ : ℕ) (r₁ : List ℕ) (w₁ : Wrote room 0 (steps_run image n) p₁ r₁) where
    pub list-fits-2 : Fits r₁ p₁ (flat k (drop_part image))
    unfolding list_runs
    list-fits-2 = fits-then w₁ (flat k (drop_part image)) h

    pub list_wrote : (p₂ : ℕ) (r₂ : List ℕ) → Wrote r₁ p₁ (flat k (drop_part image)) p₂ r₂ → Wrote room 0 (list_runs image n k) p₂ r₂
    unfolding list_runs
    list_wrote p₂ r₂ w₂ = then w₁ w₂
