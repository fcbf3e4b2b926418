-- Each refusal is given exactly if the paper's condition for it holds and none before it does, with the lowest place and the lowest other. Assumes nothing.
use Rattle.std.specs.Prelude.{ℕ, ◌≤◌, ◌<◌, ◌≡◌, refl, ◌↔◌, ◌⊎◌, Bool, true, false, List, length, ltb}
use Rattle.std.proofs.Common.{sym, ap, ◌∙◌, inl, inr, ⊎_elim, arith, lt-ltb, le-ltb, ltb-true, ltb-false}
use Rattle.paper.specs.Limits.{max_events, chart_header, chart_short, chart_count, chart_length, bad_node, parents_loop, group_flags, many_events, bad_relation}
use Rattle.paper.specs.Answers.{answer, granted, refusal}
use Rattle.paper.specs.declared.Answer.{Answer}
use Rattle.general.specs.Cases.{contra, cases}
use Rattle.general.specs.Below.{some, first, Lowest}
use Rattle.chart.specs.Flat.{Reading}
use Rattle.records.specs.Image.{nodes, relations, out_of_range, misplaced, bad_node_at, bad_relation_at}
use Rattle.nesting.specs.Nesting.{OnLoop, on_loop_at, flagged_group_at, event_count}
use Rattle.chart.specs.Reading.{refused, granted_reading, reading_relations, reading_nodes, reading}
use Rattle.chart.specs.Conditions.{Never, InRange, Laid, BadNode, FlaggedGroup, BadRelation, range-right, laid-right, node-bad, relation-bad, loop-so}
use Rattle.chart.specs.Conditions.{flagged-so, lowest-of, never-of, lowest-some, lowest-first, never-none}

-- none of 1 to 3
pub record HeaderRight (image : List ℕ) : Type 0 where
  pub long : chart_header ≤ length image
  pub range : InRange image
  pub laid : Laid image

-- none of 1 to 7
pub record NodesRight (image : List ℕ) : Type 0 where
  pub header : HeaderRight image
  pub records : Never (nodes image) (BadNode image)
  pub straight : Never (nodes image) (OnLoop image)
  pub plain : Never (nodes image) (FlaggedGroup image)
  pub few : event_count image ≤ max_events

-- none of 1 to 8
pub record AllRight (image : List ℕ) : Type 0 where
  pub nodes_right : NodesRight image
  pub records : Never (relations image) (BadRelation image)

-- which answer is due, in the paper's words
pub data Outcome (image : List ℕ) (a : Answer) : Type 0 where
  short : length image < chart_header → a ≡ refusal chart_short → Outcome image a
  range : chart_header ≤ length image → (InRange image → ⊥) → a ≡ refusal chart_count → Outcome image a
  laid : chart_header ≤ length image → InRange image → (Laid image → ⊥) → a ≡ refusal chart_length → Outcome image a
  node : (i : ℕ) → HeaderRight image → Lowest (nodes image) (BadNode image) i → a ≡ answer bad_node i 0 → Outcome image a
  loop : (i : ℕ) → HeaderRight image → Never (nodes image) (BadNode image) → Lowest (nodes image) (OnLoop image) i → a ≡ answer parents_loop i 0 → Outcome image a
  flags : (i : ℕ) → HeaderRight image → Never (nodes image) (BadNode image) → Never (nodes image) (OnLoop image) → Lowest (nodes image) (FlaggedGroup image) i
      → a ≡ answer group_flags i 0 → Outcome image a
  many : HeaderRight image → Never (nodes image) (BadNode image) → Never (nodes image) (OnLoop image) → Never (nodes image) (FlaggedGroup image)
      → max_events < event_count image → a ≡ answer many_events (event_count image) 0 → Outcome image a
  relation : (k : ℕ) → NodesRight image → Lowest (relations image) (BadRelation image) k → a ≡ answer bad_relation k 0 → Outcome image a
  fine : AllRight image → a ≡ granted → Outcome image a

-- ---- what reading gives, test by test

module _ (image : List ℕ) where
  gives-short : ltb (length image) chart_header ≡ true → reading image ≡ refused (refusal chart_short)
  unfolding reading
  gives-short t = rw t

  module _ (t1 : ltb (length image) chart_header ≡ false) where
    gives-range : out_of_range image ≡ true → reading image ≡ refused (refusal chart_count)
    unfolding reading
    gives-range t = rw (t1, t)

    module _ (t2 : out_of_range image ≡ false) where
      gives-laid : misplaced image ≡ true → reading image ≡ refused (refusal chart_length)
      unfolding reading
      gives-laid t = rw (t1, t2, t)

      module _ (t3 : misplaced image ≡ false) where
        gives-node : some (nodes image) (bad_node_at image) ≡ true → reading image ≡ refused (answer bad_node (first (nodes image) (bad_node_at image)) 0)
        unfolding reading reading_nodes
        gives-node t = rw (t1, t2, t3, t)

        module _ (t4 : some (nodes image) (bad_node_at image) ≡ false) where
          gives-loop : some (nodes image) (on_loop_at image) ≡ true → reading image ≡ refused (answer parents_loop (first (nodes image) (on_loop_at image)) 0)
          unfolding reading reading_nodes
          gives-loop t = rw (t1, t2, t3, t4, t)

          module _ (t5 : some (nodes image) (on_loop_at image) ≡ false) where
            gives_flags : some (nodes image) (flagged_group_at image) ≡ true → reading image ≡ refused (answer group_flags (first (nodes image) (flagged_group_at image)) 0)
            unfolding reading reading_nodes
            gives_flags t = rw (t1, t2, t3, t4, t5, t)

            module _ (t6 : some (nodes image) (flagged_group_at image) ≡ false) where
              gives-many : ltb max_events (event_count image) ≡ true → reading image ≡ refused (answer many_events (event_count image) 0)
              unfolding reading reading_nodes
              gives-many t = rw (t1, t2, t3, t4, t5, t6, t)

              module _ (t7 : ltb max_events (event_count image) ≡ false) where
                gives-relation : some (relations image) (bad_relation_at image) ≡ true → reading image ≡ refused (answer bad_relation (first (relations image) (bad_relation_at image)) 0)
                unfolding reading reading_nodes reading_relations
                gives-relation t = rw (t1, t2, t3, t4, t5, t6, t7, t)

                gives-fine : some (relations image) (bad_relation_at image) ≡ false → reading image ≡ granted_reading image
                unfolding reading reading_nodes reading_relations
                gives-fine t = rw (t1, t2, t3, t4, t5, t6, t7, t)

-- ---- the answer that is given is due

module _ (image : List ℕ) where
  of : {r : Reading} → reading image ≡ r → (reading image).answer ≡ r.answer
  of e = ap (λ (r : Reading). r.answer) e

  pub outcome : Outcome image (reading image).answer
  outcome =
      cases (ltb (length image) chart_header) (λ t. short (ltb-true (length image) chart_header t) (of (gives-short image t)))
      (λ t1. let long = ltb-false (length image) chart_header t1 in
      cases (out_of_range image) (λ t. range long (λ r. contra t ((range-right image).1 r)) (of (gives-range image t1 t)))
      (λ t2. let in-range = (range-right image).0 t2 in
      cases (misplaced image) (λ t. laid long in-range (λ r. contra t ((laid-right image).1 r)) (of (gives-laid image t1 t2 t)))
      (λ t3. let h : HeaderRight image = record { long = long; range = in-range; laid = (laid-right image).0 t3 } in
      cases (some (nodes image) (bad_node_at image)) (λ t. node _ h (lowest-of (node-bad image) t) (of (gives-node image t1 t2 t3 t)))
      (λ t4. let good = never-of (node-bad image) t4 in
      cases (some (nodes image) (on_loop_at image)) (λ t. loop _ h good (lowest-of (loop-so image) t) (of (gives-loop image t1 t2 t3 t4 t)))
      (λ t5. let straight = never-of (loop-so image) t5 in
      cases (some (nodes image) (flagged_group_at image)) (λ t. flags _ h good straight (lowest-of (flagged-so image) t) (of (gives_flags image t1 t2 t3 t4 t5 t)))
      (λ t6. let plain = never-of (flagged-so image) t6 in
      cases (ltb max_events (event_count image)) (λ t. many h good straight plain (ltb-true max_events (event_count image) t) (of (gives-many image t1 t2 t3 t4 t5 t6 t)))
      (λ t7. let n : NodesRight image = record { header = h; records = good; straight = straight; plain = plain; few = ltb-false max_events (event_count image) t7 } in
      cases (some (relations image) (bad_relation_at image)) (λ t. relation _ n (lowest-of (relation-bad image) t) (of (gives-relation image t1 t2 t3 t4 t5 t6 t7 t)))
      (λ t. fine (record { nodes_right = n; records = never-of (relation-bad image) t }) (of (gives-fine image t1 t2 t3 t4 t5 t6 t7 t))))))))))

-- ---- and no other answer is

-- the two ways in which a reading ends
pub record Refused (image : List ℕ) (a : Answer) : Type 0 where
  pub some : 1 ≤ a.code
  pub known : a.code ≤ bad_relation
  pub gives : reading image ≡ refused a

pub record Granted (image : List ℕ) (a : Answer) : Type 0 where
  pub right : AllRight image
  pub none : a ≡ granted
  pub gives : reading image ≡ granted_reading image

module _ (image : List ℕ) where
  -- what has been ruled out says which tests fail
  tested-long : chart_header ≤ length image → ltb (length image) chart_header ≡ false
  tested-long h = le-ltb (length image) chart_header h

  refusal-at : {a : Answer} (code place other : ℕ) → 1 ≤ code → code ≤ bad_relation → reading image ≡ refused (answer code place other) → a ≡ answer code place other
      → Refused image a ⊎ Granted image a
  refusal-at code place other l h g e = inl (record { some = rw e l; known = rw e h; gives = g ∙ ap refused (sym e) })

  refusal-first : {a : Answer} (code n : ℕ) (f : ℕ → Bool) (i : ℕ) → 1 ≤ code → code ≤ bad_relation → reading image ≡ refused (answer code (first n f) 0)
      → i ≡ first n f → a ≡ answer code i 0 → Refused image a ⊎ Granted image a
  refusal-first code n f i l h g p e = refusal-at code i 0 l h (g ∙ ap (λ (x : ℕ). refused (answer code x 0)) (sym p)) e

  wrong : {A : Type 0} (b : Bool) → (b ≡ false → A) → (A → ⊥) → b ≡ true
  wrong true f n = refl
  wrong false f n = absurd (n (f refl))

  module _ (h : HeaderRight image) where
    l1 : ltb (length image) chart_header ≡ false
    l1 = tested-long h.long

    l2 : out_of_range image ≡ false
    l2 = (range-right image).1 h.range

    l3 : misplaced image ≡ false
    l3 = (laid-right image).1 h.laid

    pub header-on : reading image ≡ reading_nodes image
    unfolding reading
    header-on = rw (l1, l2, l3)

  module _ (n : NodesRight image) where
    l4 : some (nodes image) (bad_node_at image) ≡ false
    l4 = never-none (node-bad image) n.records

    l5 : some (nodes image) (on_loop_at image) ≡ false
    l5 = never-none (loop-so image) n.straight

    l6 : some (nodes image) (flagged_group_at image) ≡ false
    l6 = never-none (flagged-so image) n.plain

    l7 : ltb max_events (event_count image) ≡ false
    l7 = le-ltb max_events (event_count image) n.few

  pub ends : {a : Answer} → Outcome image a → Refused image a ⊎ Granted image a
  ends (short s e) = refusal-at chart_short 0 0 (omega arith) (omega arith) (gives-short image (lt-ltb (length image) chart_header s)) e
  ends (range l r e) = refusal-at chart_count 0 0 (omega arith) (omega arith) (gives-range image (tested-long l) (wrong (out_of_range image) (range-right image).0 r)) e
  ends (laid l i r e) =
      refusal-at chart_length 0 0 (omega arith) (omega arith) (gives-laid image (tested-long l) ((range-right image).1 i) (wrong (misplaced image) (laid-right image).0 r)) e
  ends (node i h l e) =
      refusal-first bad_node (nodes image) (bad_node_at image) i (omega arith) (omega arith)
      (gives-node image (l1 h) (l2 h) (l3 h) (lowest-some (node-bad image) l)) (lowest-first (node-bad image) l) e
  ends (loop i h g l e) =
      refusal-first parents_loop (nodes image) (on_loop_at image) i (omega arith) (omega arith)
      (gives-loop image (l1 h) (l2 h) (l3 h) (never-none (node-bad image) g) (lowest-some (loop-so image) l)) (lowest-first (loop-so image) l) e
  ends (flags i h g s l e) =
      refusal-first group_flags (nodes image) (flagged_group_at image) i (omega arith) (omega arith)
      (gives_flags image (l1 h) (l2 h) (l3 h) (never-none (node-bad image) g) (never-none (loop-so image) s) (lowest-some (flagged-so image) l)) (lowest-first (flagged-so image) l) e
  ends (many h g s p l e) =
      refusal-at many_events (event_count image) 0 (omega arith) (omega arith)
      (gives-many image (l1 h) (l2 h) (l3 h) (never-none (node-bad image) g) (never-none (loop-so image) s) (never-none (flagged-so image) p) (lt-ltb max_events (event_count image) l)) e
  ends (relation k n l e) =
      let h = n.header in
      refusal-first bad_relation (relations image) (bad_relation_at image) k (omega arith) (omega arith)
      (gives-relation image (l1 h) (l2 h) (l3 h) (l4 n) (l5 n) (l6 n) (l7 n) (lowest-some (relation-bad image) l)) (lowest-first (relation-bad image) l) e
  ends (fine a e) =
      let n = a.nodes_right in
      let h = n.header in
      inr (record {
        right = a;
        none = e;
        gives = gives-fine image (l1 h) (l2 h) (l3 h) (l4 n) (l5 n) (l6 n) (l7 n) (never-none (relation-bad image) a.records);
      })

  only : {a : Answer} → Outcome image a → (reading image).answer ≡ a
  only o = ⊎_elim (λ r. of image r.gives) (λ r. of image r.gives ∙ sym r.none) (ends o)

-- reading gives an answer exactly if it is the one that is due
pub judged : (image : List ℕ) (a : Answer) → Outcome image a ↔ ((reading image).answer ≡ a)
judged image a = (only image, λ e. rw (← e) (outcome image))
