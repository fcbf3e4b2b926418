-- "Repeats mean nothing more": images with the same nodes and the same relation records, however often and in whatever order, have the same reading. Assumes nothing.
use Rattle.std.specs.Prelude.{ℕ, zero, suc, ◌/◌, ◌<◌, ◌≡◌, Bool, true, cond, ◌||◌, List, ltb}
use Rattle.std.proofs.Common.{sym, ◌∙◌, arith}
use Rattle.std.proofs.Math.Path.{ap, ap₂}
use Rattle.std.proofs.Math.Bool.{not, ◌&&◌}
use Rattle.std.proofs.Math.Dec.{eqb}
use borrow.Author.Tests.{ltb-true}
use Rattle.general.specs.Cases.{cases, same_test}
use Rattle.sets.specs.Set.{has, collect}
use Rattle.general.specs.Below.{some, some_of, some_at, some_same, first, first-same, tally-same}
use Rattle.general.specs.Tables.{tabulate-same}
use Rattle.closure.specs.Closure.{within}
use Rattle.flat_chart.specs.Chart.{Kind, condition, response, milestone, include, exclude}
use Rattle.sets.specs.Collecting.{collect-same}
use Rattle.records.specs.Image.{nodes, relations, parent_of, flags_of, from_of, to_of, kind_of, bad_node_at, bad_relation_at}
use Rattle.nesting.specs.Nesting.{parent, nested, at_or_above, on_loop_at, is_group, is_event, number, event_count, event_node, flagged_group_at}
use Rattle.flattening.specs.Flattening.{kind_number, holds_back, leads, related, entered, flat_set, flat_table, flat_chart, flagged, start_marking}
use Rattle.flattening.specs.Flattening.{names_at, named, flat_roles, role_table}
use Rattle.paper.specs.Limits.{max_events, max_roles, flags_byte, bad_node, parents_loop, group_flags}
use Rattle.chart.specs.Flat.{Reading}
use Rattle.chart.specs.Reading.{refuse_first, reading_relations, reading_nodes, reading}
use Rattle.chart.specs.Conditions.{Never, BadRelation, relation-bad, never-none}
use Rattle.chart.specs.Outcome.{HeaderRight, header-on}
use Rattle.chart.specs.ReadingGives.{event-node}

-- the same node records
pub record SameNodes (a b : List ℕ) : Type 0 where
  pub count : nodes a ≡ nodes b
  pub parents : (i : ℕ) → i < nodes a → parent_of a i ≡ parent_of b i
  pub flags : (i : ℕ) → i < nodes a → flags_of a i ≡ flags_of b i

-- relation k of a is relation r of b
pub record SameRecord (a b : List ℕ) (k r : ℕ) : Type 0 where
  pub from : from_of a k ≡ from_of b r
  pub to : to_of a k ≡ to_of b r
  pub kind : kind_of a k ≡ kind_of b r

-- each relation of a is one of b
abbrev pub Among : List ℕ → List ℕ → Type 0
Among a b = (k : ℕ) → k < relations a → (r : ℕ) × (r < relations b) × SameRecord a b k r

within-ext : (E F : ℕ → ℕ → Bool) → ((x y : ℕ) → E x y ≡ F x y) → (k x y : ℕ) → within E k x y ≡ within F k x y
unfolding within
within-ext E F h zero x y = h x y
within-ext E F h (suc k) x y = ap₂ ◌||◌ (within-ext E F h k x y) (ap₂ ◌&&◌ (within-ext E F h k x k) (within-ext E F h k k y))

module _ {a b : List ℕ} (s : SameNodes a b) where
  same-parent : (x y : ℕ) → parent a x y ≡ parent b x y
  unfolding parent
  same-parent x y =
      rw s.count (cases (ltb x (nodes b)) (λ t. rw (t, s.parents x (let l = ltb-true x (nodes b) t in let c = s.count in omega arith))) (λ t. rw t))

  same-nested : (x y : ℕ) → nested a x y ≡ nested b x y
  unfolding nested
  same-nested x y = within-ext (parent a) (parent b) same-parent (nodes a) x y ∙ ap (λ (n : ℕ). within (parent b) n x y) s.count

  same_above : (x y : ℕ) → at_or_above a x y ≡ at_or_above b x y
  unfolding at_or_above
  same_above x y = ap (λ (t : Bool). eqb x y || t) (same-nested x y)

  same-group : (i : ℕ) → is_group a i ≡ is_group b i
  unfolding is_group
  same-group i = some_same (nodes a) (λ x. parent a x i) (λ x. parent b x i) (λ x l. same-parent x i) ∙ ap (λ (n : ℕ). some n (λ x. parent b x i)) s.count

  same_number : (i : ℕ) → number a i ≡ number b i
  same_number i = tally-same i (is_event a) (is_event b) (λ p l. ap not (same-group p))

  same_count : event_count a ≡ event_count b
  same_count = same_number (nodes a) ∙ ap (number b) s.count

  same-node : (e : ℕ) → event_node a e ≡ event_node b e
  unfolding event_node
  same-node e =
      first-same (nodes a) (λ i. is_event a i && eqb (number a i) e) (λ i. is_event b i && eqb (number b i) e) (λ i l. ap₂ ◌&&◌ (ap not (same-group i)) (ap (λ (n : ℕ). eqb n e) (same_number i)))
      ∙ ap (λ (n : ℕ). first n (λ i. is_event b i && eqb (number b i) e)) s.count

  leads-on : (κ e f k r : ℕ) → SameRecord a b k r → leads a κ e f k ≡ leads b κ e f r
  unfolding leads
  leads-on κ e f k r m =
      ap₂ ◌&&◌ (ap (λ (x : ℕ). eqb x κ) m.kind)
      (ap₂ ◌&&◌ (same_above (event_node a e) (from_of a k) ∙ ap₂ (at_or_above b) (same-node e) m.from) (same_above (event_node a f) (to_of a k) ∙ ap₂ (at_or_above b) (same-node f) m.to))

  same-named : (e r : ℕ) → named a e r ≡ named b e r
  unfolding named names_at
  same-named e r =
      some_same (nodes a) (names_at a e r) (names_at b e r)
      (λ g l. ap₂ ◌&&◌ (same_above (event_node a e) g ∙ ap (λ (x : ℕ). at_or_above b x g) (same-node e)) (ap (λ (x : ℕ). has (x / flags_byte) r) (s.flags g l)))
      ∙ ap (λ (n : ℕ). some n (names_at b e r)) s.count

  same_roles : role_table a ≡ role_table b
  unfolding role_table flat_roles
  same_roles = tabulate-same max_events (flat_roles a) (flat_roles b) (λ e l. rw (same_count, collect-same max_roles (named a e) (named b e) (λ r i. same-named e r)))

related-on : {a b : List ℕ} → SameNodes a b → Among a b → (κ e f : ℕ) → related a κ e f ≡ true → related b κ e f ≡ true
unfolding related
related-on {a} {b} s m κ e f h =
    let t = some_at (relations a) (leads a κ e f) h in
    let r = m t.0 t.1 in
    some_of (relations b) (leads b κ e f) r.0 r.1 (sym (leads-on s κ e f t.0 r.0 r.2) ∙ t.2)

turned : {a b : List ℕ} → SameNodes a b → SameNodes b a
turned s = let c = s.count in record { count = sym c; parents = λ i h. sym (s.parents i (omega arith)); flags = λ i h. sym (s.flags i (omega arith)) }

module _ {a b : List ℕ} (s : SameNodes a b) (m : Among a b) (o : Among b a) where
  same-related : (κ e f : ℕ) → related a κ e f ≡ related b κ e f
  same-related κ e f = same_test (related a κ e f) (related b κ e f) (related-on s m κ e f) (related-on (turned s) o κ e f)

  same-entered : (κ e f : ℕ) → entered a κ e f ≡ entered b κ e f
  unfolding entered
  same-entered κ e f = ap₂ (cond (holds_back κ)) (same-related κ f e) (same-related κ e f)

  same_set : (κ e : ℕ) → flat_set a κ e ≡ flat_set b κ e
  unfolding flat_set
  same_set κ e = rw (same_count s, collect-same (event_count b) (entered a κ e) (entered b κ e) (λ f l. same-entered κ e f))

  same-table : (κ : Kind) → flat_table a κ ≡ flat_table b κ
  unfolding flat_table
  same-table κ = tabulate-same max_events (flat_set a (kind_number κ)) (flat_set b (kind_number κ)) (λ e l. same_set (kind_number κ) e)

  pub same-chart : flat_chart a ≡ flat_chart b
  unfolding flat_chart
  same-chart = rw (same_count s, same-table condition, same-table response, same-table milestone, same-table include, same-table exclude, same_roles s)

module _ {a b : List ℕ} (s : SameNodes a b) where
  same-flagged : (digit : ℕ) → flagged a digit ≡ flagged b digit
  unfolding flagged
  same-flagged digit =
      collect-same (event_count a) (λ e. has (flags_of a (event_node a e)) digit) (λ e. has (flags_of b (event_node b e)) digit)
      (λ e l. ap (λ (x : ℕ). has x digit) (s.flags (event_node a e) (event-node a e l).fits ∙ ap (flags_of b) (same-node s e)))
      ∙ ap (λ (n : ℕ). collect n (λ e. has (flags_of b (event_node b e)) digit)) (same_count s)

  pub same-marking : start_marking a ≡ start_marking b
  unfolding start_marking
  same-marking = rw (same-flagged 0, same-flagged 1, same-flagged 2)

-- ---- the readings

first_cong : (code : ℕ) {n m : ℕ} {f g : ℕ → Bool} {x y : Reading} → n ≡ m → ((p : ℕ) → p < n → f p ≡ g p) → x ≡ y → refuse_first code n f x ≡ refuse_first code m g y
first_cong code {n} {m} {f} {g} {x} {y} e h q =
    rw (some_same n f g h, first-same n f g h, e, q)

module _ {a b : List ℕ} (s : SameNodes a b) (m : Among a b) (o : Among b a) where
  same-bad : (i : ℕ) → i < nodes a → bad_node_at a i ≡ bad_node_at b i
  unfolding bad_node_at
  same-bad i h = rw (s.parents i h, s.flags i h, s.count)

  same-loop : (i : ℕ) → i < nodes a → on_loop_at a i ≡ on_loop_at b i
  unfolding on_loop_at
  same-loop i h = same-nested s i i

  same-flagged_group : (i : ℕ) → i < nodes a → flagged_group_at a i ≡ flagged_group_at b i
  unfolding flagged_group_at
  same-flagged_group i h = rw (same-group s i, s.flags i h)

  same-record : (k r : ℕ) → SameRecord b a r k → bad_relation_at a k ≡ bad_relation_at b r
  unfolding bad_relation_at
  same-record k r e = rw (e.from, e.to, e.kind, s.count)

  module _ (p : Never (relations a) (BadRelation a)) where
    none-bad : Never (relations b) (BadRelation b)
    none-bad r h x =
        let t = o r h in
        let e = t.2 in
        p t.0 t.1 ((relation-bad a t.0).0 (same-record t.0 r e ∙ (relation-bad b r).1 x))

    same-relations : reading_relations a ≡ reading_relations b
    unfolding reading_relations
    same-relations =
        rw (
          never-none (relation-bad a) p,
          never-none (relation-bad b) none-bad,
          same-chart s m o,
          same-marking s,
        )

    same_nodes : reading_nodes a ≡ reading_nodes b
    unfolding reading_nodes
    same_nodes =
        first_cong bad_node s.count same-bad
        (first_cong parents_loop s.count same-loop
        (first_cong group_flags s.count same-flagged_group
        (rw (same_count s, same-relations))))

    pub same-reading : HeaderRight a → HeaderRight b → reading a ≡ reading b
    same-reading h k = header-on a h ∙ same_nodes ∙ sym (header-on b k)
