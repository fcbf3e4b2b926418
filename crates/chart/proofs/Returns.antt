-- The law for each return of the reader: the answer at hand is what the definition of reading gives, and so are the tables that are filled with it. Assumes nothing.
use Prim.Native.Nat.{ℕ, ◌≤◌, ◌<◌}
use mathlib.Core.Path.{◌≡◌, refl, sym, ap, ◌∙◌}
use mathlib.Core.Bool.{Bool, true, false}
use mathlib.Core.List.{List}
use native.Mathlib.Omega.{arith}
use lib.ListN.{length}
use lib.Dec.{ltb}
use borrow.Author.Tests.{lt-ltb, le-ltb}
use Rattle.paper.specs.Limits.{max_nodes, max_relations, max_events, chart_header, bad_node, parents_loop, group_flags, many_events, bad_relation}
use Rattle.paper.specs.Answers.{answer, granted}
use Rattle.paper.specs.declared.Answer.{Answer}
use Rattle.paper.specs.declared.Refusal.{Refusal}
use Rattle.paper.specs.declared.Refusal.TheVariants.{ChartShort, ChartCount, ChartLength, BadNode, ParentsLoop, GroupFlags, ManyEvents, BadRelation, Unfit, BookRoom, BookShort, BookCount, BookLength, BadRule, BadCondition, Loop, Clash, OrderUnfit, MarkAbove, NoSuchStage, StageClosed, OrderRoom, NotDerived, IndexUnfit, IndexRoom, MendRoom, LongList}
use Rattle.paper.specs.Refusals.{answer_of}
use Rattle.general.specs.Cases.{not_so}
use Rattle.general.specs.Below.{some, some_of, some-none, first, first-is, tally}
use Rattle.flat_chart.specs.Flat.{FlatChart}
use Rattle.graph.specs.Flat.{Marking}
use Rattle.records.specs.Image.{nodes, relations, out_of_range, misplaced, bad_node_at, bad_relation_at, Whole}
use Rattle.nesting.specs.Nesting.{is_event, on_loop_at, flagged_group_at}
use Rattle.nesting.specs.Climbing.{Straight}
use Rattle.nesting.specs.Tables.{Groups, is_event_in, flagged_in, EventNodes}
use Rattle.flattening.specs.Flattening.{flat_chart, start_marking}
use Rattle.flattening.specs.Rows.{good_of}
use Rattle.flattening.specs.Meaning.{Ground, flags-are, count-is, nodes-are}
use Rattle.chart.specs.Flat.{Reading}
use Rattle.chart.specs.Reading.{refused, granted_reading, refuse_if, refuse_first, reading_relations, reading_nodes, reading}
use Rattle.chart.specs.Conditions.{loop-so, relation-bad, range-right, laid-right}
use Rattle.chart.specs.Outcome.{HeaderRight, AllRight}
use Rattle.std.specs.Prelude.{Result}
use Rattle.std.specs.Result.{IsErrAnd}
use Rattle.std.proofs.lemmas.Result.{err_from_is_err_and}
use Rattle.records.specs.declared.ChartImage.{ChartImage}
use Rattle.chart.specs.Headed.{Judged, HeaderWrong, short, counted, laid}
use Rattle.chart.specs.ReadingGives.{refused-empty, granted-right}

-- ---- a scan that stops before n has found one, and one that comes to n has not

first_some : (n : ℕ) (f : ℕ → Bool) → first n f < n → some n f ≡ true
first_some n f h = some_of n f (first n f) h ((first-is n f).passes h)

first-not : (n : ℕ) (f : ℕ → Bool) → n ≤ first n f → some n f ≡ false
first-not n f h = some-none n f (λ p l. (first-is n f).lowest p (omega arith))

-- the answers of equal readings
of : {r s : Reading} → r ≡ s → r.answer ≡ s.answer
of e = ap (λ (r : Reading). r.answer) e

module _ (code n : ℕ) (f : ℕ → Bool) (rest : Reading) {r : ℕ} (e : r ≡ first n f) where
  refused-first : r < n → refused (answer code r 0) ≡ refuse_first code n f rest
  refused-first h = rw (first_some n f (rw (← e) h), e)

  passed_first : n ≤ r → rest ≡ refuse_first code n f rest
  passed_first h = rw (first-not n f (rw (← e) h))

module _ (code : ℕ) (rest : Reading) {limit r m : ℕ} (e : r ≡ m) where
  refused_over : limit < r → refused (answer code r 0) ≡ refuse_if (ltb limit m) (answer code m 0) rest
  refused_over h = rw (← e, lt-ltb limit r h)

  passed-under : r ≤ limit → rest ≡ refuse_if (ltb limit m) (answer code m 0) rest
  passed-under h = rw (← e, le-ltb limit r h)

-- ---- 1 to 3

module _ (image : List ℕ) where
  pub read_header : {a : Answer} → HeaderWrong image a → a ≡ (reading image).answer
  unfolding reading
  read_header (short h) = rw (lt-ltb (length image) chart_header h)
  read_header (counted l t) = rw (le-ltb (length image) chart_header l, t)
  read_header (laid l o t) = rw (le-ltb (length image) chart_header l, o, t)

  pub read_nodes : {a : Answer} → HeaderRight image → a ≡ (reading_nodes image).answer → a ≡ (reading image).answer
  unfolding reading
  read_nodes h e = e ∙ rw (le-ltb (length image) chart_header h.long, (range-right image).1 h.range, (laid-right image).1 h.laid)

  -- what a `?` hands on is what reading answers
  pub judged-thrown : (r : Result ChartImage Refusal) (e : Refusal) → IsErrAnd r (λ x. x ≡ e) → answer_of e ≡ (reading image).answer → Judged image r
  judged-thrown r e h f = let p = err_from_is_err_and r h in rw (p.1, p.2) f

  module _ (l : chart_header ≤ length image) {range : Bool} (o : range ≡ out_of_range image) (t : range ≡ false) where
    pub counts-in : (n k : ℕ) → n ≡ nodes image → k ≡ relations image → (n ≤ max_nodes) × (k ≤ max_relations)
    counts-in n k p q = let i = (range-right image).0 (sym o ∙ t) in (rw p i.few, rw q i.few_relations)

    pub header-right : {wrong : Bool} → wrong ≡ misplaced image → wrong ≡ false → HeaderRight image
    header-right m u = record { long = l; range = (range-right image).0 (sym o ∙ t); laid = (laid-right image).0 (sym m ∙ u) }

pub whole_is : {image : List ℕ} {n k : ℕ} → n ≡ nodes image → k ≡ relations image → HeaderRight image → Whole image n k
whole_is p q h =
    record { nodes = p; relations = q; some = rw p h.range.some; few = rw p h.range.few; few_relations = rw q h.range.few_relations; whole = rw (p, q) h.laid.exact }

-- ---- 4 to 7

module _ {image : List ℕ} {n k bad : ℕ} (w : Whole image n k) (b : bad ≡ first n (bad_node_at image)) where
  pub nodes-bad : {a : Answer} → a ≡ answer bad_node bad 0 → bad < n → a ≡ (reading_nodes image).answer
  unfolding reading_nodes
  nodes-bad e h =
      let q : refused (answer bad_node bad 0) ≡ reading_nodes image = rw (← w.nodes) (refused-first bad_node n (bad_node_at image) _ b h) in
      e ∙ of q

  module _ (good : n ≤ bad) {looped : ℕ} (l : looped ≡ first n (on_loop_at image)) where
    pub nodes-loop : {a : Answer} → a ≡ answer parents_loop looped 0 → looped < n → a ≡ (reading_nodes image).answer
    unfolding reading_nodes
    nodes-loop e h =
        let q : refused (answer parents_loop looped 0) ≡ reading_nodes image = rw (← w.nodes) (refused-first parents_loop n (on_loop_at image) _ l h ∙ passed_first bad_node n (bad_node_at image) _ b good) in
        e ∙ of q

    module _ (straight : n ≤ looped) {groups : List Bool} {flags : ℕ} (g : Groups image n groups) (f : flags ≡ first n (flagged_in image groups)) where
      pub nodes-flags : {a : Answer} → a ≡ answer group_flags flags 0 → flags < n → a ≡ (reading_nodes image).answer
      unfolding reading_nodes
      nodes-flags e h =
          let q : refused (answer group_flags flags 0) ≡ reading_nodes image = rw (← w.nodes) (refused-first group_flags n (flagged_group_at image) _ (flags-are w g f) h
          ∙ passed_first parents_loop n (on_loop_at image) _ l straight ∙ passed_first bad_node n (bad_node_at image) _ b good) in
          e ∙ of q

      module _ (plain : n ≤ flags) {events : ℕ} (e : events ≡ tally n (is_event_in groups)) where
        count : events ≡ tally n (is_event image)
        count = count-is w g e ∙ ap (λ (x : ℕ). tally x (is_event image)) (sym w.nodes)

        pub nodes-many : {a : Answer} → a ≡ answer many_events events 0 → max_events < events → a ≡ (reading_nodes image).answer
        unfolding reading_nodes
        nodes-many p h =
            let q : refused (answer many_events events 0) ≡ reading_nodes image = rw (← w.nodes) (refused_over many_events _ count h
            ∙ passed_first group_flags n (flagged_group_at image) _ (flags-are w g f) plain
            ∙ passed_first parents_loop n (on_loop_at image) _ l straight ∙ passed_first bad_node n (bad_node_at image) _ b good) in
            p ∙ of q

        pub nodes-on : {a : Answer} → events ≤ max_events → a ≡ (reading_relations image).answer → a ≡ (reading_nodes image).answer
        unfolding reading_nodes
        nodes-on h p =
            let q : reading_relations image ≡ reading_nodes image = rw (← w.nodes) (passed-under many_events _ count h
            ∙ passed_first group_flags n (flagged_group_at image) _ (flags-are w g f) plain
            ∙ passed_first parents_loop n (on_loop_at image) _ l straight ∙ passed_first bad_node n (bad_node_at image) _ b good) in
            p ∙ of q

-- ---- 8

module _ {image : List ℕ} {n k bad : ℕ} (w : Whole image n k) (b : bad ≡ first k (bad_relation_at image)) where
  pub relations-bad : {a : Answer} → a ≡ answer bad_relation bad 0 → bad < k → a ≡ (reading_relations image).answer
  unfolding reading_relations
  relations-bad e h =
      let q : refused (answer bad_relation bad 0) ≡ reading_relations image = rw (← w.relations) (refused-first bad_relation k (bad_relation_at image) _ b h) in
      e ∙ of q

  pub relations-on : {a : Answer} → a ≡ granted → k ≤ bad → a ≡ (reading_relations image).answer
  unfolding reading_relations
  relations-on e h =
      let q : granted_reading image ≡ reading_relations image = rw (← w.relations) (passed_first bad_relation k (bad_relation_at image) _ b h) in
      e ∙ of q

-- ---- what is known of an image that is accepted

pub accepted : (image : List ℕ) → granted ≡ (reading image).answer → AllRight image
accepted image e = (granted-right image (ap (λ (a : Answer). a.code) (sym e))).0

module _ {image : List ℕ} {n k : ℕ} (h : AllRight image) (w : Whole image n k) where
  pub straight-right : Straight image
  straight-right a l = not_so (λ t. h.nodes_right.straight a l ((loop-so image a).0 t))

  module _ {groups : List Bool} (m : Groups image n groups) where
    -- so many events have room
    pub room_for : tally n (is_event_in groups) ≤ max_events
    room_for = let e = count-is w m refl in let f = h.nodes_right.few in omega arith

    pub ground-right : {places : List ℕ} {events : ℕ} → events ≡ tally n (is_event_in groups) → EventNodes groups n places → Ground image n k places events
    ground-right e v =
        let c = count-is w m e in
        let f = h.nodes_right.few in
        let q = w.relations in
        record {
          whole = w;
          straight = straight-right;
          goods = λ r l. good_of w (not_so (λ t. h.records r (omega arith) ((relation-bad image r).0 t)));
          count = c;
          few = omega arith;
          placed = λ x l. nodes-are w m v x (omega arith);
        }

-- ---- what is filled in

pub reading-is : (r : Reading) {a : Answer} {c : FlatChart} {m : Marking} → a ≡ r.answer → c ≡ r.chart → m ≡ r.marking → record { answer = a; chart = c; marking = m } ≡ r
reading-is r p q s = rw (p, q, s)

module _ (image : List ℕ) {o : Reading} (p : o ≡ refused granted) where
  -- an empty reading stays so with a refusal
  pub reading-refused : (r : Refusal) {a : Answer} → a ≡ answer_of r → answer_of r ≡ (reading image).answer → record { answer = a; chart = o.chart; marking = o.marking } ≡ reading image
  reading-refused r x q =
      let e = refused-empty image (λ z. told r (ap (λ (a : Answer). a.code) q ∙ z)) in
      reading-is (reading image) (x ∙ q) (ap (λ (r : Reading). r.chart) (p) ∙ sym (ap (λ (r : Reading). r.chart) e))
      (ap (λ (r : Reading). r.marking) (p) ∙ sym (ap (λ (r : Reading). r.marking) e))
    where
      told : (r : Refusal) → (answer_of r).code ≡ 0 → ⊥
      told ChartShort e = omega arith
      told ChartCount e = omega arith
      told ChartLength e = omega arith
      told (BadNode _) e = omega arith
      told (ParentsLoop _) e = omega arith
      told (GroupFlags _) e = omega arith
      told (ManyEvents _) e = omega arith
      told (BadRelation _) e = omega arith
      told Unfit e = omega arith
      told (BookRoom _) e = omega arith
      told BookShort e = omega arith
      told BookCount e = omega arith
      told BookLength e = omega arith
      told (BadRule _) e = omega arith
      told (BadCondition _) e = omega arith
      told (Loop _) e = omega arith
      told (Clash _ _) e = omega arith
      told OrderUnfit e = omega arith
      told MarkAbove e = omega arith
      told NoSuchStage e = omega arith
      told StageClosed e = omega arith
      told (OrderRoom _) e = omega arith
      told NotDerived e = omega arith
      told IndexUnfit e = omega arith
      told (IndexRoom _) e = omega arith
      told (MendRoom _ _) e = omega arith
      told (LongList _) e = omega arith

  pub reading-granted : {c : FlatChart} {m : Marking} → granted ≡ (reading image).answer → c ≡ flat_chart image → m ≡ start_marking image
      → record { answer = o.answer; chart = c; marking = m } ≡ reading image
  reading-granted q u v =
      let e = (granted-right image (ap (λ (a : Answer). a.code) (sym q))).1 in
      reading-is (reading image) (ap (λ (r : Reading). r.answer) p ∙ q) (u ∙ sym (ap (λ (r : Reading). r.chart) e)) (v ∙ sym (ap (λ (r : Reading). r.marking) e))
