-- Sets in rows, each as one number: at a node the events at or below it, and what the relations of one kind gather there; at an event what it takes from its node and the
-- groups above. What each step of flattening makes of them. Assumes nothing.
use Rattle.std.specs.Prelude.{ℕ, ◌+◌, ◌*◌, ◌-◌, ◌≤◌, ◌<◌, ◌≡◌, Bool, true, false, cond, ◌&&◌, ◌||◌, List, length, get_or, set, replicate, eqb, leb, ltb}
use Rattle.std.proofs.Math.Path.{refl, sym}
use Rattle.std.proofs.Common.{ap, subst, ◌∙◌, arith, length-set, get_or-set_same, get_or-set_other}
use Rattle.std.proofs.Math.Bool.{and-false, or-false}
use Rattle.std.proofs.lemmas.List.{length-replicate}
use Rattle.std.proofs.Math.ListN.{get_or-eq_default}
use Rattle.std.proofs.Math.Seq.{set_out}
use borrow.Author.Tests.{eq-eqb, ne_eqb, eqb-true, eqb-false, leb-false, lt-ltb, le-ltb, ltb-true, ltb-false}
use Rattle.paper.specs.Limits.{max_nodes, max_events, max_roles, flags_byte, kinds}
use Rattle.general.specs.Cases.{cases, both, either, neither, or_left, or_right, same_test}
use Rattle.sets.specs.Set.{has, union, only, put_if, collect}
use Rattle.sets.specs.Laws.{has-union, has-only, has-empty, above}
use Rattle.general.specs.Below.{some, some_of, some_at, some-none, some-step}
use Rattle.general.specs.Tables.{length-tabulate, zeros-at}
use Rattle.general.specs.Scan.{at-end, ltb-more}
use Rattle.sets.specs.Collecting.{collect-more}
use Rattle.wide.specs.Number.{number, row_of, rows_in, rows_of, row_at, rows-put, put_row}
use Rattle.wide.specs.declared.Set.{Set}
use Rattle.records.specs.Image.{parent_of, from_of, to_of, kind_of, flags_of, roles_at, nodes, nodes as nodes-of, bad_relation_at, Whole}
use Rattle.nesting.specs.Nesting.{at_or_above}
use Rattle.nesting.specs.Climbing.{from_up, from-none, from_step}
use Rattle.flattening.specs.Flattening.{holds_back}
use Rattle.flattening.specs.Order.{stands_in, Ordered}

-- the numbers of a table with a row for each of n nodes
abbrev pub node_rows : ℕ → List ℕ → List ℕ
node_rows n t = rows_in n t

pub length-rows : (n : ℕ) (t : List ℕ) → length (rows_in n t) ≡ n
unfolding rows_in
length-rows n t = length-tabulate n (row_of t)

-- row i takes in s
abbrev pub take_in : List ℕ → ℕ → ℕ → List ℕ
take_in rows i s = set rows i (union (get_or rows i 0) s)

-- f is in row g
abbrev pub in_row : List ℕ → ℕ → ℕ → Bool
in_row rows f g = has (get_or rows g 0) f

pub take-has : (rows : List ℕ) (i s g f : ℕ) → has (get_or (take_in rows i s) g 0) f ≡ (has (get_or rows g 0) f || ((ltb i (length rows) && eqb i g) && has s f))
take-has rows i s g f =
    cases (eqb i g)
    (λ t. rw (t, ← eqb-true i g t) (cases (ltb i (length rows))
    (λ l. rw (l, get_or-set_same rows i (union (get_or rows i 0) s) 0 (ltb-true i (length rows) l)) (has-union (get_or rows i 0) s f))
    (λ l. rw (l, set_out rows i (union (get_or rows i 0) s) (ltb-false i (length rows) l)) (sym (or-false (has (get_or rows i 0) f))))))
    (λ t. rw (t, and-false (ltb i (length rows)), get_or-set_other rows i g (union (get_or rows i 0) s) 0 (λ z. eqb-false i g t (sym z))) (sym (or-false (has (get_or rows g 0) f))))

-- there is no row past the last
pub take_past : (rows : List ℕ) {i n : ℕ} (s : ℕ) → length rows ≡ n → n ≤ i → rows ≡ take_in rows i s
take_past rows {i} s e h = sym (set_out rows i (union (get_or rows i 0) s) (omega arith))

-- ---- rows that are cleared

-- the first i are empty
pub record Cleared (rows : List ℕ) (i : ℕ) : Type 0 where
  pub each : (g : ℕ) → g < i → get_or rows g 0 ≡ 0

abbrev pub Empty : List ℕ → Type 0
Empty rows = (g : ℕ) → get_or rows g 0 ≡ 0

pub clear-more : (t : List ℕ) {u : List ℕ} {n i : ℕ} (s : Set) → Cleared (node_rows n t) i → i < n → n * 4 ≤ length t → number s ≡ 0 → u ≡ put_row t i s → Cleared (node_rows n u) (i + 1)
clear-more t {u} {n} {i} s m h l z q =
    rw (q, rows-put t i s n l h, z) (record {
      each = λ g o.
          cases (eqb i g)
          (λ e. rw (← eqb-true i g e) (get_or-set_same (node_rows n t) i 0 0 (let r = length-rows n t in omega arith)))
          (λ e.
          let x = eqb-false i g e in
          get_or-set_other (node_rows n t) i g 0 0 (λ z. x (sym z)) ∙ m.each g (cases (ltb g i) (λ y. ltb-true g i y) (λ y. absurd (x (let v = ltb-false g i y in omega arith)))));
    })

pub clear-end : (t : List ℕ) {n i : ℕ} → n ≤ i → Cleared (node_rows n t) i → Empty (node_rows n t)
clear-end t {n} {i} h m g =
    cases (ltb g n) (λ y. m.each g (let v = ltb-true g n y in omega arith))
    (λ y. get_or-eq_default (node_rows n t) 0 (let v = ltb-false g n y in let r = length-rows n t in omega arith))

-- ---- the events at or below each node

-- the first e events have entered at their nodes and at the parents of these
pub record Entered (image nodes : List ℕ) (n e : ℕ) (all : List ℕ) : Type 0 where
  pub size : length all ≡ n
  pub each : (g f : ℕ) → has (get_or all g 0) f ≡ ((ltb f e && ltb g n) && (eqb (get_or nodes f 0) g || eqb (parent_of image (get_or nodes f 0)) g))

pub enter-none : {image nodes all : List ℕ} {n : ℕ} → length all ≡ n → Empty all → Entered image nodes n 0 all
enter-none s z = record { size = s; each = λ g f. rw (z g, le-ltb f 0 (omega arith)) (has-empty f) }

pub enter-more : {image nodes all next : List ℕ} {n e i p one : ℕ} → Entered image nodes n e all → i ≡ get_or nodes e 0 → p ≡ parent_of image i → one ≡ only e
    → next ≡ take_in (take_in all i one) p one → Entered image nodes n (e + 1) next
enter-more {image} {nodes} {all} {next} {n} {e} {i} {p} {one} m a b o q =
    rw (q, o) (record {
      size = length-set (take_in all i (only e)) p _ ∙ length-set all i _ ∙ m.size;
      each = λ g f.
          rw (take-has (take_in all i (only e)) p (only e) g f, take-has all i (only e) g f, has-only e f, length-set all i (union (get_or all i 0) (only e)), m.size, m.each g f, at i g, at p g)
          (cases (eqb e f)
          (λ t. rw (← eqb-true e f t, eq-eqb e e refl, le-ltb e e (omega arith), lt-ltb e (e + 1) (omega arith), ← a, ← b) (spread (ltb g n) (eqb i g) (eqb p g)))
          (λ t. rw (t, ltb-more f e (λ z. eqb-false e f t (sym z))) (none _ (ltb g n && eqb i g) (ltb g n && eqb p g))));
    })
  where
    at : (x g : ℕ) → (ltb x n && eqb x g) ≡ (ltb g n && eqb x g)
    at x g = cases (eqb x g) (λ t. rw (eqb-true x g t)) (λ t. rw (t, and-false (ltb x n), and-false (ltb g n)))

    spread : (l x y : Bool) → (((l && x) && true) || ((l && y) && true)) ≡ (l && (x || y))
    spread true true y = refl
    spread true false true = refl
    spread true false false = refl
    spread false x y = refl

    none : (a x y : Bool) → ((a || (x && false)) || (y && false)) ≡ a
    none a x y = rw (and-false x, and-false y, or-false a) (or-false a)

pub record Members (image nodes : List ℕ) (events : ℕ) (all : List ℕ) : Type 0 where
  pub each : (g f : ℕ) → has (get_or all g 0) f ≡ (ltb f events && from_up image (get_or nodes f 0) g)

-- what the groups among the first j still have to hand to g
abbrev pending : List ℕ → List ℕ → ℕ → List ℕ → ℕ → ℕ → Bool
pending image order j all g f = some j (λ i. from_up image (get_or order i 0) g && has (get_or all (get_or order i 0) 0) f)

-- the groups from the place j on have handed what they have to their parents: with what is still to come, it is the same
pub record Rising (image nodes order : List ℕ) (n events j : ℕ) (all : List ℕ) : Type 0 where
  pub size : length all ≡ n
  pub each : (g f : ℕ) → (has (get_or all g 0) f || pending image order j all g f) ≡ (ltb f events && from_up image (get_or nodes f 0) g)

from-self : (image : List ℕ) (c : ℕ) → c < nodes image → from_up image c c ≡ true
from-self image c h = from_step image c (parent_of image c) c h refl ∙ rw (eq-eqb c c refl)

from-node : (image : List ℕ) (c g : ℕ) → from_up image c g ≡ true → c < nodes image
unfolding from_up
from-node image c g t = ltb-true c (nodes image) (both (ltb c (nodes image)) (at_or_above image c g) t).0

-- what the parent or the node itself comes to, the node comes to
near_up : (image : List ℕ) (c x g : ℕ) → c < nodes image → (eqb c x || eqb (parent_of image c) x) ≡ true → from_up image x g ≡ true → from_up image c g ≡ true
near_up image c x g h t u =
    either (eqb c x) (eqb (parent_of image c) x) t (λ a. rw (eqb-true c x a) u)
    (λ a. from_step image c x g h (sym (eqb-true (parent_of image c) x a)) ∙ or_right (eqb c g) (from_up image x g) u)

module _ {image order nodes all : List ℕ} {n k groups events : ℕ} (w : Whole image n k) (d : Ordered image order groups) (placed : (e : ℕ) → e < events → get_or nodes e 0 < n)
    (m : Entered image nodes n events all) where
  entered_at : (g f : ℕ) → has (get_or all g 0) f ≡ true → (f < events) × (g < n) × ((eqb (get_or nodes f 0) g || eqb (parent_of image (get_or nodes f 0)) g) ≡ true)
  entered_at g f t =
      let x = both (ltb f events && ltb g n) (eqb (get_or nodes f 0) g || eqb (parent_of image (get_or nodes f 0)) g) (sym (m.each g f) ∙ t) in
      let y = both (ltb f events) (ltb g n) x.0 in
      (ltb-true f events y.0, ltb-true g n y.1, x.1)

  node-fits : (f : ℕ) → f < events → get_or nodes f 0 < nodes-of image
  node-fits f h = let e = w.nodes in let l = placed f h in omega arith

  pub rise-none : Rising image nodes order n events groups all
  rise-none = record { size = m.size; each = λ g f. same_test _ _ (right g f) (left g f) }
    where
      right : (g f : ℕ) → (has (get_or all g 0) f || pending image order groups all g f) ≡ true → (ltb f events && from_up image (get_or nodes f 0) g) ≡ true
      right g f t =
          either (has (get_or all g 0) f) (pending image order groups all g f) t
          (λ a.
          let (h, l, b) = entered_at g f a in
          rw (lt-ltb f events h) (near_up image (get_or nodes f 0) g g (node-fits f h) b (from-self image g (let e = w.nodes in omega arith))))
          (λ a.
          let (i, o, b) = some_at groups (λ i. from_up image (get_or order i 0) g && has (get_or all (get_or order i 0) 0) f) a in
          let z = both (from_up image (get_or order i 0) g) (has (get_or all (get_or order i 0) 0) f) b in
          let (h, l, y) = entered_at (get_or order i 0) f z.1 in
          rw (lt-ltb f events h) (near_up image (get_or nodes f 0) (get_or order i 0) g (node-fits f h) y z.0))

      left : (g f : ℕ) → (ltb f events && from_up image (get_or nodes f 0) g) ≡ true → (has (get_or all g 0) f || pending image order groups all g f) ≡ true
      left g f t =
          let c : ℕ = get_or nodes f 0 in
          let p : ℕ = parent_of image c in
          let z = both (ltb f events) (from_up image c g) t in
          let h = ltb-true f events z.0 in
          let l = placed f h in
          let e = w.nodes in
          either (eqb c g) (from_up image p g) (sym (from_step image c p g (node-fits f h) refl) ∙ z.1)
          (λ a. or_left _ _ (m.each g f ∙ rw (z.0, a, lt-ltb g n (let q = eqb-true c g a in omega arith))))
          (λ a.
          let v = from-node image p g a in
          let (i, o, b) = some_at groups (λ j. eqb (get_or order j 0) p) (d.all c (node-fits f h) v) in
          or_right (has (get_or all g 0) f) _ (some_of groups (λ i. from_up image (get_or order i 0) g && has (get_or all (get_or order i 0) 0) f) i o
          (rw (eqb-true (get_or order i 0) p b, a) (m.each p f ∙ rw (z.0, lt-ltb p n (omega arith), eq-eqb p p refl) (or_right (eqb c p) true refl)))))

module _ {image order nodes all next : List ℕ} {n k groups events j c p s : ℕ} (w : Whole image n k) (d : Ordered image order groups) (m : Rising image nodes order n events (j + 1) all)
    (h : j < groups) (a : c ≡ get_or order j 0) (b : p ≡ parent_of image c) (u : s ≡ get_or all c 0) (q : next ≡ take_in all p s) where
  next-has : (x f : ℕ) → has (get_or next x 0) f ≡ (has (get_or all x 0) f || ((ltb p n && eqb p x) && has (get_or all c 0) f))
  next-has x f = rw (q, u, ← m.size) (take-has all p (get_or all c 0) x f)

  kept : (x f : ℕ) → has (get_or all x 0) f ≡ true → has (get_or next x 0) f ≡ true
  kept x f t = next-has x f ∙ or_left _ _ t

  -- what x has now, it had, or it is the parent
  was : {C : Type 0} (x f : ℕ) → has (get_or next x 0) f ≡ true → (has (get_or all x 0) f ≡ true → C) → (p < n → p ≡ x → has (get_or all c 0) f ≡ true → C) → C
  was x f t y z =
      either (has (get_or all x 0) f) _ (sym (next-has x f) ∙ t) y
      (λ v.
      let o = both (ltb p n && eqb p x) (has (get_or all c 0) f) v in
      let r = both (ltb p n) (eqb p x) o.0 in
      z (ltb-true p n r.0) (eqb-true p x r.1) o.1)

  node-is : c < nodes-of image
  node-is = rw a (d.behind.fits j h)

  step : (g : ℕ) → from_up image c g ≡ (eqb c g || from_up image p g)
  step g = from_step image c p g node-is b

  abbrev given : ℕ → ℕ → ℕ → Bool
  given g f i = from_up image (get_or order i 0) g && has (get_or all (get_or order i 0) 0) f

  abbrev gives : ℕ → ℕ → ℕ → Bool
  gives g f i = from_up image (get_or order i 0) g && has (get_or next (get_or order i 0) 0) f

  -- c itself is among those that had still to hand on
  own : (g f : ℕ) → from_up image c g ≡ true → has (get_or all c 0) f ≡ true → some (j + 1) (given g f) ≡ true
  own g f x y = some_of (j + 1) (given g f) j (omega arith) (rw (← a, x, y))

  before : (g f : ℕ) → (has (get_or next g 0) f || some j (gives g f)) ≡ true → (has (get_or all g 0) f || some (j + 1) (given g f)) ≡ true
  before g f t =
      either (has (get_or next g 0) f) (some j (gives g f)) t
      (λ x. was g f x (or_left (has (get_or all g 0) f) _)
      (λ l e y. or_right (has (get_or all g 0) f) _ (own g f (step g ∙ or_right (eqb c g) _ (rw e (from-self image g (let v = w.nodes in omega arith)))) y)))
      (λ x.
      let (i, o, y) = some_at j (gives g f) x in
      let z = both (from_up image (get_or order i 0) g) (has (get_or next (get_or order i 0) 0) f) y in
      or_right (has (get_or all g 0) f) _ (was (get_or order i 0) f z.1
      (λ v. some_of (j + 1) (given g f) i (omega arith) (rw (z.0, v)))
      (λ l e v. own g f (step g ∙ or_right (eqb c g) _ (rw e z.0)) v)))

  after : (g f : ℕ) → (has (get_or all g 0) f || some (j + 1) (given g f)) ≡ true → (has (get_or next g 0) f || some j (gives g f)) ≡ true
  after g f t =
      either (has (get_or all g 0) f) (some (j + 1) (given g f)) t
      (λ x. or_left (has (get_or next g 0) f) _ (kept g f x))
      (λ x.
      either (some j (given g f)) (given g f j) (sym (some-step j (given g f)) ∙ x)
      (λ y.
      let (i, o, v) = some_at j (given g f) y in
      let z = both (from_up image (get_or order i 0) g) (has (get_or all (get_or order i 0) 0) f) v in
      or_right (has (get_or next g 0) f) _ (some_of j (gives g f) i o (rw (z.0, kept (get_or order i 0) f z.1))))
      (λ y.
      let z = both (from_up image c g) (has (get_or all c 0) f) (rw a y) in
      either (eqb c g) (from_up image p g) (sym (step g) ∙ z.0)
      (λ e. or_left (has (get_or next g 0) f) _ (kept g f (rw (eqb-true c g e) at z.1)))
      (λ e.
      let v = from-node image p g e in
      let (i, o, r) = some_at j (λ j. eqb (get_or order j 0) p) (rw (← a, ← b) at (d.behind.above j h (rw (← a, ← b) v))) in
      let has-it : has (get_or next p 0) f ≡ true =
      next-has p f ∙ or_right (has (get_or all p 0) f) _ (rw (lt-ltb p n (let l = w.nodes in omega arith), eq-eqb p p refl) z.1) in
      or_right (has (get_or next g 0) f) _ (some_of j (gives g f) i o (rw (eqb-true (get_or order i 0) p r, e, has-it))))))

  rise-more : Rising image nodes order n events j next
  rise-more = record { size = rw q (length-set all p _ ∙ m.size); each = λ g f. same_test _ _ (before g f) (after g f) ∙ m.each g f }

-- the group at the last place that is left, its row read out of the table t
pub rise-back : {image order nodes next : List ℕ} {n k groups events j p s : ℕ} (t : List ℕ) → Whole image n k → Ordered image order groups → 0 < j → j ≤ groups
    → Rising image nodes order n events j (node_rows n t) → p ≡ parent_of image (get_or order (j - 1) 0) → s ≡ row_of t (get_or order (j - 1) 0)
    → next ≡ take_in (node_rows n t) p s → Rising image nodes order n events (j - 1) next
rise-back {image} {order} {nodes} {next} {n} {k} {groups} {events} {j} t w d h l m b u q =
    let e : j ≡ (j - 1) + 1 = omega arith in
    let o = d.behind.fits (j - 1) (omega arith) in
    let v = w.nodes in
    rise-more w d (subst (λ (x : ℕ). Rising image nodes order n events x (node_rows n t)) e m) (omega arith) refl b (u ∙ sym (row_at n t (get_or order (j - 1) 0) (omega arith))) q

pub rise-end : {image nodes order all : List ℕ} {n events j : ℕ} → j ≤ 0 → Rising image nodes order n events j all → Members image nodes events all
unfolding some
rise-end {image} {nodes} {order} {all} {n} {events} {j} h m =
    let e : j ≡ 0 = omega arith in
    record { each = λ g f. sym (or-false (has (get_or all g 0) f)) ∙ rw e at (m.each g f) }

-- ---- every relation of a kind, at one of its nodes

-- where it is gathered, and whose events are: a condition or a milestone at the node that it holds back
abbrev pub near : ℕ → ℕ → ℕ → ℕ
near kind from to = cond (holds_back kind) to from

abbrev pub far : ℕ → ℕ → ℕ → ℕ
far kind from to = cond (holds_back kind) from to

-- a relation whose record is right
pub record Good (image : List ℕ) (n r : ℕ) : Type 0 where
  pub from : from_of image r < n
  pub to : to_of image r < n
  pub kind : kind_of image r < kinds

pub good_of : {image : List ℕ} {n k r : ℕ} → Whole image n k → bad_relation_at image r ≡ false → Good image n r
unfolding bad_relation_at
good_of {image} {n} {k} {r} w b =
    let t = neither (leb (nodes image) (from_of image r) || leb (nodes image) (to_of image r)) (leb kinds (kind_of image r)) b in
    let u = neither (leb (nodes image) (from_of image r)) (leb (nodes image) (to_of image r)) t.0 in
    let e = w.nodes in
    record { from = rw e (leb-false (nodes image) (from_of image r) u.0); to = rw e (leb-false (nodes image) (to_of image r) u.1); kind = leb-false kinds (kind_of image r) t.1 }

abbrev pub near_of : List ℕ → ℕ → ℕ
near_of image r = near (kind_of image r) (from_of image r) (to_of image r)

abbrev pub far_of : List ℕ → ℕ → ℕ
far_of image r = far (kind_of image r) (from_of image r) (to_of image r)

pub near_fits : {image : List ℕ} {n r : ℕ} → Good image n r → near_of image r < n
near_fits {image} {n} {r} o = cases (holds_back (kind_of image r)) (λ t. rw t o.to) (λ t. rw t o.from)

-- relation r, where it is of the kind
unfoldable pub add_to : List ℕ → List ℕ → ℕ → List ℕ → ℕ → List ℕ
add_to image members κ gathered r = cond (eqb (kind_of image r) κ) (take_in gathered (near_of image r) (get_or members (far_of image r) 0)) gathered

-- the members' rows are read out of their table t
module _ (image t old : List ℕ) (n κ r : ℕ) {kind : ℕ} (p : kind ≡ kind_of image r) where
  pub add-other : (kind ≡ κ → ⊥) → old ≡ add_to image (node_rows n t) κ old r
  unfolding add_to
  add-other u = rw (ne_eqb (kind_of image r) κ (λ z. u (p ∙ z)))

  of-kind : kind ≡ κ → eqb (kind_of image r) κ ≡ true
  of-kind same = eq-eqb (kind_of image r) κ (sym p ∙ same)

  module _ (same : kind ≡ κ) {from to s : ℕ} {new : List ℕ} (q : from ≡ from_of image r) (u : to ≡ to_of image r) where
    pub add_back : holds_back κ ≡ true → from < n → s ≡ row_of t from → new ≡ take_in old to s → new ≡ add_to image (node_rows n t) κ old r
    unfolding add_to
    add_back b h e z = z ∙ rw (of-kind same, sym p ∙ same, b, ← q, ← u, row_at n t from h, e)

    pub add-on : holds_back κ ≡ false → to < n → s ≡ row_of t to → new ≡ take_in old from s → new ≡ add_to image (node_rows n t) κ old r
    unfolding add_to
    add-on b h e z = z ∙ rw (of-kind same, sym p ∙ same, b, ← q, ← u, row_at n t to h, e)

-- relation r enters f at the node g
abbrev pub enters_at : List ℕ → List ℕ → ℕ → ℕ → ℕ → ℕ → Bool
enters_at image members κ g f r = eqb (kind_of image r) κ && (eqb (near_of image r) g && has (get_or members (far_of image r) 0) f)

-- what the first r relations gather
pub record Gathered (image members : List ℕ) (n κ r : ℕ) (gathered : List ℕ) : Type 0 where
  pub size : length gathered ≡ n
  pub each : (g f : ℕ) → has (get_or gathered g 0) f ≡ some r (enters_at image members κ g f)

pub gather_none : {image members gathered : List ℕ} {n κ : ℕ} → length gathered ≡ n → Empty gathered → Gathered image members n κ 0 gathered
unfolding some
gather_none s z = record { size = s; each = λ g f. rw (z g) (has-empty f) }

pub gather-more : {image members old new : List ℕ} {n κ r : ℕ} → Good image n r → Gathered image members n κ r old → new ≡ add_to image members κ old r
    → Gathered image members n κ (r + 1) new
unfolding add_to
gather-more {image} {members} {old} {new} {n} {κ} {r} o m e =
    rw e (cases (eqb (kind_of image r) κ)
    (λ t. rw t (record {
      size = length-set old (near_of image r) _ ∙ m.size;
      each = λ g f.
          rw (some-step r (enters_at image members κ g f), ← m.each g f, t)
          (take-has old (near_of image r) (get_or members (far_of image r) 0) g f ∙ rw (m.size, lt-ltb (near_of image r) n (near_fits o)));
    }))
    (λ t. rw t (record { size = m.size; each = λ g f. rw (some-step r (enters_at image members κ g f), ← m.each g f, t) (sym (or-false (has (get_or old g 0) f))) })))

-- ---- what an event takes from its node and the groups above it

-- some node at c or above it passes the test
unfoldable pub some_above : List ℕ → (ℕ → Bool) → ℕ → Bool
some_above image p c = some (nodes image) (λ g. from_up image c g && p g)

module _ (image : List ℕ) (p : ℕ → Bool) where
  above-none : (c : ℕ) → nodes image ≤ c → some_above image p c ≡ false
  unfolding some_above
  above-none c h = some-none (nodes image) _ (λ g l. rw (from-none image c g h))

  -- c itself, or its parent and above
  above_step : (c q : ℕ) → c < nodes image → q ≡ parent_of image c → some_above image p c ≡ (p c || some_above image p q)
  unfolding some_above
  above_step c q h e =
      same_test _ _
      (λ t.
      let (g, l, x) = some_at (nodes image) (λ g. from_up image c g && p g) t in
      let y = both (from_up image c g) (p g) x in
      either (eqb c g) (from_up image q g) (sym (from_step image c q g h e) ∙ y.0)
      (λ z. or_left (p c) _ (rw (eqb-true c g z) y.1))
      (λ z. or_right (p c) _ (some_of (nodes image) (λ g. from_up image q g && p g) g l (rw (z, y.1)))))
      (λ t.
      either (p c) _ t
      (λ x. some_of (nodes image) (λ g. from_up image c g && p g) c h (rw (from_step image c q c h e, eq-eqb c c refl, x)))
      (λ x.
      let (g, l, y) = some_at (nodes image) (λ g. from_up image q g && p g) x in
      let z = both (from_up image q g) (p g) y in
      some_of (nodes image) (λ g. from_up image c g && p g) g l (rw (from_step image c q g h e, or_right (eqb c g) (from_up image q g) z.0, z.1))))

-- what a row has, and what its node's parent has, where it has one
abbrev pub with_parent : List ℕ → ℕ → Bool → List ℕ → ℕ → ℕ → Bool
with_parent image n own rows p f = own || (ltb p n && has (get_or rows p 0) f)

-- s has f exactly if the test says so
pub record Has (s : ℕ) (test : ℕ → Bool) : Type 0 where
  pub each : (f : ℕ) → has s f ≡ test f

-- the set of node i and its parent, read out of their table t
module _ (image t : List ℕ) {n i p own : ℕ} (h : i < n) (q : p ≡ parent_of image i) (a : own ≡ row_of t i) where
  own_is : (f : ℕ) → has own f ≡ in_row (node_rows n t) f i
  own_is f = ap (λ (x : ℕ). has x f) (a ∙ sym (row_at n t i h))

  pub with-some : {r s : ℕ} → p < n → s ≡ row_of t p → r ≡ union own s → Has r (λ f. with_parent image n (in_row (node_rows n t) f i) (node_rows n t) (parent_of image i) f)
  with-some {r} {s} l b e =
      record { each = λ f. rw (e, has-union own s f, own_is f, ← q, lt-ltb p n l, b, row_at n t p l) }

  pub with_none : n ≤ p → Has own (λ f. with_parent image n (in_row (node_rows n t) f i) (node_rows n t) (parent_of image i) f)
  with_none l = record { each = λ f. rw (own_is f, ← q, le-ltb p n l) (sym (or-false (in_row (node_rows n t) f i))) }

-- the first j groups of the order have taken in what stands above them; node g has f exactly if the test says so
pub record Handed (image order : List ℕ) (test : ℕ → ℕ → Bool) (j : ℕ) (rows : List ℕ) : Type 0 where
  pub done : (i f : ℕ) → i < j → has (get_or rows (get_or order i 0) 0) f ≡ some_above image (test f) (get_or order i 0)

-- every row has what the test says of its node, and no more than the test says of the nodes from there upwards
pub record Between (image : List ℕ) (test : ℕ → ℕ → Bool) (rows : List ℕ) : Type 0 where
  pub low : (x f : ℕ) → test f x ≡ true → has (get_or rows x 0) f ≡ true
  pub high : (x f : ℕ) → x < nodes image → has (get_or rows x 0) f ≡ true → some_above image (test f) x ≡ true

module _ {image order : List ℕ} {test : ℕ → ℕ → Bool} where
  pub hand-none : (rows : List ℕ) → Handed image order test 0 rows
  hand-none rows = record { done = λ i f h. absurd (omega arith) }

  pub hand-more : {rows : List ℕ} {j c : ℕ} (s : ℕ) → Handed image order test j rows → c ≡ get_or order j 0 → c < length rows → ((f : ℕ) → has s f ≡ some_above image (test f) c)
      → Handed image order test (j + 1) (set rows c s)
  hand-more {rows} {j} {c} s m a h e =
      record {
        done = λ i f o.
            cases (eqb (get_or order i 0) c)
            (λ t. rw (eqb-true (get_or order i 0) c t, get_or-set_same rows c s 0 h) (e f))
            (λ t.
            let x = eqb-false (get_or order i 0) c t in
            get_or-has i f x ∙ m.done i f (cases (ltb i j) (λ y. ltb-true i j y) (λ y. absurd (x (let z : i ≡ j = (let v = ltb-false i j y in omega arith) in rw z (sym a))))));
      }
    where
      get_or-has : (i f : ℕ) → (get_or order i 0 ≡ c → ⊥) → has (get_or (set rows c s) (get_or order i 0) 0) f ≡ has (get_or rows (get_or order i 0) 0) f
      get_or-has i f x = rw (get_or-set_other rows c (get_or order i 0) s 0 x)

  module _ {n k : ℕ} (w : Whole image n k) {rows : List ℕ} {j : ℕ} (m : Handed image order test j rows) where
    -- the parent, if it has taken in what stands above it, has all that c takes from above
    parent-has : (p f : ℕ) → (p < nodes image → stands_in order j p ≡ true) → (ltb p n && has (get_or rows p 0) f) ≡ some_above image (test f) p
    parent-has p f o =
        cases (ltb p n)
        (λ t.
        let (i, l, e) = some_at j (λ j. eqb (get_or order j 0) p) (o (let v = w.nodes in let x = ltb-true p n t in omega arith)) in
        rw (t, ← eqb-true (get_or order i 0) p e) (m.done i f l))
        (λ t. rw t (sym (above-none image (test f) p (let v = w.nodes in let x = ltb-false p n t in omega arith))))

    pub with-above : {c p : ℕ} {own : Bool} (f : ℕ) → c < n → p ≡ parent_of image c → (p < nodes image → stands_in order j p ≡ true) → (test f c ≡ true → own ≡ true)
        → (own ≡ true → some_above image (test f) c ≡ true) → with_parent image n own rows p f ≡ some_above image (test f) c
    with-above {c} {p} {own} f h q o x y =
        let up : some_above image (test f) c ≡ (test f c || some_above image (test f) p) = above_step image (test f) c p (let v = w.nodes in omega arith) q in
        rw (parent-has p f o)
        (same_test _ _
        (λ t. either own (some_above image (test f) p) t y (λ z. up ∙ or_right (test f c) _ z))
        (λ t. either (test f c) (some_above image (test f) p) (sym up ∙ t) (λ z. or_left own _ (x z)) (or_right own _)))

    pub between_more : {c p : ℕ} (s : ℕ) → Between image test rows → c < n → n ≡ length rows → p ≡ parent_of image c → (p < nodes image → stands_in order j p ≡ true)
        → ((f : ℕ) → has s f ≡ with_parent image n (has (get_or rows c 0) f) rows p f) → Between image test (set rows c s)
    between_more {c} {p} s b h l q o e =
        record {
          low = λ x f t.
              cases (eqb x c)
              (λ u. rw (eqb-true x c u, here) (e f ∙ or_left _ _ (b.low c f (rw (← eqb-true x c u) t))))
              (λ u. rw (get_or-set_other rows c x s 0 (eqb-false x c u)) (b.low x f t));
          high = λ x f i.
              cases (eqb x c)
              (λ u. rw (eqb-true x c u, here) (λ t. sym (whole f) ∙ sym (e f) ∙ t))
              (λ u. rw (get_or-set_other rows c x s 0 (eqb-false x c u)) (b.high x f i));
        }
      where
        here : get_or (set rows c s) c 0 ≡ s
        here = get_or-set_same rows c s 0 (omega arith)

        whole : (f : ℕ) → with_parent image n (has (get_or rows c 0) f) rows p f ≡ some_above image (test f) c
        whole f = with-above f h q o (b.low c f) (b.high c f (let v = w.nodes in omega arith))

pub between_none : {image rows : List ℕ} → Between image (in_row rows) rows
between_none {image} {rows} =
    record {
      low = λ x f t. t;
      high = λ x f h t. above_step image (in_row rows f) x (parent_of image x) h refl ∙ or_left _ _ t;
    }

-- the group at the place j, its set stored in the table t
module _ {image order : List ℕ} {test : ℕ → ℕ → Bool} {n k groups j : ℕ} (w : Whole image n k) (d : Ordered image order groups) (h : j < groups) where
  pub down-more : (t : List ℕ) {u : List ℕ} (s : Set) → n * 4 ≤ length t → Handed image order test j (node_rows n t) → Between image test (node_rows n t)
      → Has (number s) (λ f. with_parent image n (in_row (node_rows n t) f (get_or order j 0)) (node_rows n t) (parent_of image (get_or order j 0)) f) → u ≡ put_row t (get_or order j 0) s
      → Handed image order test (j + 1) (node_rows n u) × Between image test (node_rows n u)
  down-more t s l m b a q =
      let c : ℕ = get_or order j 0 in
      let o = d.behind.fits j h in
      let e = w.nodes in
      let z = length-rows n t in
      let i : c < n = omega arith in
      let up = d.behind.above j h in
      rw (q, rows-put t c s n l i) (
        hand-more (number s) m refl (omega arith) (λ f. a.each f ∙ with-above w m f i refl up (b.low c f) (b.high c f o)),
        between_more w m (number s) b i (sym z) refl up a.each,
      )

-- node g names the role r
abbrev pub names_role : List ℕ → ℕ → ℕ → Bool
names_role image r g = ltb r max_roles && has (roles_at image g) r

-- a byte has no role past the last
pub role-in : (image : List ℕ) (c : ℕ) {own : ℕ} → (own ≡ roles_at image c) × (own < flags_byte) → (r : ℕ) → has own r ≡ names_role image r c
role-in image c {own} o r =
    cases (ltb r max_roles) (λ t. rw t (ap (λ (x : ℕ). has x r) o.0)) (λ t. rw t (above max_roles own r (let l = o.1 in omega arith) (ltb-false r max_roles t)))

-- the roles of node i and its parent, these read out of their bytes
module _ (image all : List ℕ) (i : ℕ) {n p own : ℕ} (q : p ≡ parent_of image i) (a : (own ≡ roles_at image i) × (own < flags_byte)) where
  pub roles-some : {r : ℕ} → p < n → r ≡ union own (get_or all p 0) → Has r (λ f. with_parent image n (names_role image f i) all (parent_of image i) f)
  roles-some {r} l e = record { each = λ f. rw (e, has-union own (get_or all p 0) f, role-in image i a f, ← q, lt-ltb p n l) }

  pub roles-none : n ≤ p → Has own (λ f. with_parent image n (names_role image f i) all (parent_of image i) f)
  roles-none l = record { each = λ f. rw (role-in image i a f, ← q, le-ltb p n l) (sym (or-false (names_role image f i))) }

-- a node and the groups above it name what it names, and what its parent has
module _ {image order all : List ℕ} {n k j : ℕ} (w : Whole image n k) (m : Handed image order (names_role image) j all) where
  pub roles-above : {i : ℕ} (f : ℕ) → i < n → (parent_of image i < nodes image → stands_in order j (parent_of image i) ≡ true)
      → with_parent image n (names_role image f i) all (parent_of image i) f ≡ some_above image (names_role image f) i
  roles-above {i} f h o =
      with-above w m f h refl o (λ t. t) (λ t. above_step image (names_role image f) i (parent_of image i) (let e = w.nodes in omega arith) refl ∙ or_left _ _ t)

  pub roles_more : {groups : ℕ} (s : ℕ) → Ordered image order groups → j < groups → length all ≡ max_nodes
      → Has s (λ f. with_parent image n (names_role image f (get_or order j 0)) all (parent_of image (get_or order j 0)) f)
      → Handed image order (names_role image) (j + 1) (set all (get_or order j 0) s)
  roles_more s d h l a =
      let o = d.behind.fits j h in
      let e = w.nodes in
      let g = w.few in
      hand-more s m refl (omega arith) (λ f. a.each f ∙ roles-above f (omega arith) (d.behind.above j h))

-- ---- the rows of the first events, and 0 past them

pub record Flat (value : ℕ → ℕ → Bool) (events : ℕ) (table : List ℕ) : Type 0 where
  pub size : length table ≡ max_events
  pub each : (e f : ℕ) → has (get_or table e 0) f ≡ (ltb e events && value e f)

module _ {value : ℕ → ℕ → Bool} where
  pub flat-none : {table : List ℕ} → table ≡ replicate max_events 0 → Flat value 0 table
  flat-none q = rw q (record { size = length-replicate {A = ℕ} max_events 0; each = λ e f. rw (zeros-at max_events e, le-ltb e 0 (omega arith)) (has-empty f) })

  pub flat-more : {table : List ℕ} {e : ℕ} (own : ℕ) → Flat value e table → e < max_events → ((f : ℕ) → has own f ≡ value e f) → Flat value (e + 1) (set table e own)
  flat-more {table} {e} own m h a =
      record {
        size = length-set table e own ∙ m.size;
        each = λ x f.
            cases (eqb e x)
            (λ t. rw (← eqb-true e x t, get_or-set_same table e own 0 (let l = m.size in omega arith), lt-ltb e (e + 1) (omega arith)) (a f))
            (λ t. rw (get_or-set_other table e x own 0 (λ z. eqb-false e x t (sym z)), ltb-more x e (λ z. eqb-false e x t (sym z))) (m.each x f));
      }

  -- a row of sets in words is stored
  pub flat-put : (t : List ℕ) {u : List ℕ} {e : ℕ} (s : Set) → Flat value e (rows_of t) → e < max_events → max_events * 4 ≤ length t → ((f : ℕ) → has (number s) f ≡ value e f)
      → u ≡ put_row t e s → Flat value (e + 1) (rows_of u)
  flat-put t {u} {e} s m h l a q = rw (q, rows-put t e s max_events l h) (flat-more (number s) m h a)

  pub flat-end : {table : List ℕ} {events e : ℕ} → e ≤ events → events ≤ e → Flat value e table → Flat value events table
  flat-end {table} = at-end (λ (e : ℕ). Flat value e table)

  pub flat-same : {other : ℕ → ℕ → Bool} {table : List ℕ} {events : ℕ} → Flat value events table → ((e f : ℕ) → e < events → value e f ≡ other e f) → Flat other events table
  flat-same {other} {table} {events} m a =
      record { size = m.size; each = λ e f. m.each e f ∙ cases (ltb e events) (λ t. rw t (a e f (ltb-true e events t))) (λ t. rw t) }

-- ---- the events whose flags have a digit

abbrev pub flagged_by : List ℕ → List ℕ → ℕ → ℕ → ℕ
flagged_by image nodes digit events = collect events (λ e. has (flags_of image (get_or nodes e 0)) digit)

pub flag-more : (image nodes : List ℕ) (digit e s r flags : ℕ) (b : Bool) → s ≡ flagged_by image nodes digit e → flags ≡ flags_of image (get_or nodes e 0) → b ≡ has flags digit → r ≡ put_if s e b
    → r ≡ flagged_by image nodes digit (e + 1)
flag-more image nodes digit e s r flags b h i j k = collect-more (λ e. has (flags_of image (get_or nodes e 0)) digit) e s r b h (j ∙ rw i) k
