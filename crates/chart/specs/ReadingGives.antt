-- What a reading gives: the flat chart relates two events exactly if the image's relations do, it is fit, the start marking is what the events' flags name,
-- and a refused reading is empty. Assumes nothing.
use Prim.Native.Nat.{ℕ, zero, suc, ◌-◌, ◌≤◌, ◌<◌}
use Rattle.std.specs.Prelude.{◌≡◌, ◌↔◌, ◌⊎◌, true, false, ltb}
use Rattle.std.proofs.Math.Path.{refl, ap, ap₂, subst}
use Rattle.std.proofs.Common.{sym, ◌∙◌, ⊎_elim, arith, lt-ltb, le-ltb, ltb-true, ltb-false}
use Rattle.std.proofs.Math.Bool.{Bool, ◌&&◌}
use mathlib.Core.List.{List}
use Rattle.std.proofs.Math.ListN.{get_or, get_or-eq_default}
use Rattle.std.proofs.Math.Dec.{eqb}
use Rattle.std.proofs.lemmas.Bool.{not-true}
use Rattle.paper.specs.Limits.{max_events, max_roles, flags_byte, bad_relation, include_exclude}
use Rattle.paper.specs.declared.Answer.{Answer}
use Rattle.general.specs.Cases.{contra, cases, both, not_so, lt-suc}
use Rattle.sets.specs.Set.{has}
use Rattle.sets.specs.Laws.{has-collect, has-empty, none-zero, above}
use Rattle.general.specs.Below.{first}
use Rattle.general.specs.Tables.{tabulate, length-tabulate, get_or-tabulate}
use Rattle.closure.specs.Closure.{hop, join}
use Rattle.flat_chart.specs.Chart.{Kind, condition, response, milestone, include, exclude, table, set_of, roles_of, In, Fit}
use Rattle.graph.specs.Fitness.{FitMarking}
use Rattle.chart.specs.Flat.{Reading}
use Rattle.general.specs.Numbering.{tally-lt, tally-find, first-numbered, tally-grows}
use Rattle.records.specs.Image.{nodes, flags_of, roles_at}
use Rattle.nesting.specs.Nesting.{parent, AtOrAbove, OnLoop, nested, is_group, is_event, number, event_count, event_node, nested-so}
use Rattle.flattening.specs.Flattening.{kind_number, Flattened, entered, flat_set, flat_table, NamesRole, named, flat_roles, role_table, flat_chart, flagged, start_marking}
use Rattle.flattening.specs.Meaning.{flat_has, roles-has}
use Rattle.chart.specs.Reading.{refused, granted_reading, reading}
use Rattle.chart.specs.Conditions.{Never, member-in, group-so, related-so, named-so}
use Rattle.chart.specs.Outcome.{AllRight, Refused, Granted, ends, outcome}

-- ---- a reading is refused and empty, or granted

module _ (image : List ℕ) where
  ended : Refused image (reading image).answer ⊎ Granted image (reading image).answer
  ended = ends image (outcome image)

  -- every byte string is answered, with one of 0 to 8
  pub answers : (reading image).answer.code ≤ bad_relation
  answers = ⊎_elim (λ r. r.known) (λ g. rw g.none (omega arith)) ended

  -- Request (xii): "Code 9 is never given any more, which is to be shown"
  pub never-nine : (reading image).answer.code ≡ include_exclude → ⊥
  never-nine e = let l = answers in omega arith

  -- "A refused reading gives an empty flat chart with count 0 and an empty marking"
  pub refused-empty : ((reading image).answer.code ≡ 0 → ⊥) → reading image ≡ refused (reading image).answer
  refused-empty n = ⊎_elim (λ r. r.gives) (λ g. absurd (n (ap (λ (a : Answer). a.code) g.none))) ended

  -- granted is given exactly if nothing is wrong
  pub granted-right : (reading image).answer.code ≡ 0 → AllRight image × (reading image ≡ granted_reading image)
  granted-right z = ⊎_elim (λ r. absurd (let l = r.some in omega arith)) (λ g. (g.right, g.gives)) ended

-- ---- what the sets of the flat chart hold

module _ (image : List ℕ) where
  -- f is in the set of e: for conditions and milestones f holds e back, for the others e reaches f
  abbrev pub Entered : Kind → ℕ → ℕ → Type 0
  Entered condition e f = Flattened image condition f e
  Entered milestone e f = Flattened image milestone f e
  Entered response e f = Flattened image response e f
  Entered include e f = Flattened image include e f
  Entered exclude e f = Flattened image exclude e f

  entered_so : (κ : Kind) (e f : ℕ) → (entered image (kind_number κ) e f ≡ true) ↔ Entered κ e f
  unfolding entered
  entered_so condition e f = related-so image condition f e
  entered_so milestone e f = related-so image milestone f e
  entered_so response e f = related-so image response e f
  entered_so include e f = related-so image include e f
  entered_so exclude e f = related-so image exclude e f

  table_of : (κ : Kind) → table (flat_chart image) κ ≡ flat_table image κ
  unfolding flat_chart
  table_of condition = refl
  table_of response = refl
  table_of milestone = refl
  table_of include = refl
  table_of exclude = refl

  set-of : (κ : Kind) (e : ℕ) → e < max_events → set_of (flat_chart image) κ e ≡ flat_set image (kind_number κ) e
  unfolding flat_table
  set-of κ e h = ap (λ (l : List ℕ). get_or l e 0) (table_of κ) ∙ get_or-tabulate max_events (flat_set image (kind_number κ)) e 0 h

  no-set : (κ : Kind) (e : ℕ) → max_events ≤ e → set_of (flat_chart image) κ e ≡ 0
  unfolding flat_table
  no-set κ e h =
      ap (λ (l : List ℕ). get_or l e 0) (table_of κ)
      ∙ get_or-eq_default (tabulate max_events (flat_set image (kind_number κ))) 0 (let l = length-tabulate max_events (flat_set image (kind_number κ)) in omega arith)

  -- "Event e has a relation to event f exactly if the image has one of that kind from e or a group above it to f or a group above it."
  pub record Related (κ : Kind) (e f : ℕ) : Type 0 where
    pub one : e < event_count image
    pub other : f < event_count image
    pub entered : Entered κ e f

  module _ (few : event_count image ≤ max_events) where
    pub flat-relates : (κ : Kind) (e f : ℕ) → In (set_of (flat_chart image) κ e) f ↔ Related κ e f
    flat-relates κ e f = (
      λ h. cases (ltb e max_events)
          (λ t.
          let u = both (ltb e (event_count image) && ltb f (event_count image)) (entered image (kind_number κ) e f)
          (sym (flat_has image (kind_number κ) e f) ∙ ap (λ (s : ℕ). has s f) (sym (set-of κ e (ltb-true e max_events t))) ∙ h) in
          let v = both (ltb e (event_count image)) (ltb f (event_count image)) u.0 in
          record { one = ltb-true e (event_count image) v.0; other = ltb-true f (event_count image) v.1; entered = (entered_so κ e f).0 u.1 })
          (λ t. contra h (ap (λ (s : ℕ). has s f) (no-set κ e (ltb-false e max_events t)) ∙ has-empty f)),
      λ r.
          let a = r.one in
          ap (λ (s : ℕ). has s f) (set-of κ e (omega arith)) ∙ flat_has image (kind_number κ) e f
          ∙ ap₂ ◌&&◌ (ap₂ ◌&&◌ (lt-ltb e (event_count image) r.one) (lt-ltb f (event_count image) r.other)) ((entered_so κ e f).1 r.entered),
    )

-- ---- what a role byte of the flat chart holds

module _ (image : List ℕ) where
  role-byte : (e : ℕ) → e < max_events → roles_of (flat_chart image) e ≡ flat_roles image e
  unfolding flat_chart role_table
  role-byte e h = get_or-tabulate max_events (flat_roles image) e 0 h

  -- an event names a role: r is one of those that open e
  pub record Names (e r : ℕ) : Type 0 where
    pub event : e < event_count image
    pub role : r < max_roles
    pub named : NamesRole image e r

  names-so : (e r : ℕ) → In (flat_roles image e) r ↔ Names e r
  names-so e r = (
    λ h.
        let t = both (ltb e (event_count image)) (ltb r max_roles && named image e r) (sym (roles-has image e r) ∙ h) in
        let u = both (ltb r max_roles) (named image e r) t.1 in
        record { event = ltb-true e (event_count image) t.0; role = ltb-true r max_roles u.0; named = (named-so image e r).0 u.1 },
    λ n.
        roles-has image e r
        ∙ ap₂ ◌&&◌ (lt-ltb e (event_count image) n.event) (ap₂ ◌&&◌ (lt-ltb r max_roles n.role) ((named-so image e r).1 n.named)),
  )

  -- "Document 001 gives a flattened event the roles of all groups above it as well."
  pub flat-names : (e r : ℕ) → e < max_events → In (roles_of (flat_chart image) e) r ↔ Names e r
  flat-names e r h = rw (role-byte e h) (names-so e r)

  -- "An event whose whole chain names no role stays open to everyone": its byte is 0
  pub chain-open : (e : ℕ) → ((g : ℕ) → g < nodes image → AtOrAbove image (event_node image e) g → roles_at image g ≡ 0) → flat_roles image e ≡ 0
  chain-open e h =
      none-zero (flat_roles image e)
      (λ r. not_so (λ i. let n = ((names-so e r).0 i).named in contra n.names (ap (λ (s : ℕ). has s r) (h n.node n.exists n.above) ∙ has-empty r)))

  -- and no other event's is: a byte that is 0 leaves no role on the chain
  pub open-chain : (e : ℕ) → e < event_count image → flat_roles image e ≡ 0 → (g : ℕ) → g < nodes image → AtOrAbove image (event_node image e) g → roles_at image g < flags_byte
      → roles_at image g ≡ 0
  open-chain e l z g h a b =
      none-zero (roles_at image g)
      (λ r. cases (ltb r max_roles)
      (λ t. not_so (λ i.
      let n : NamesRole image e r = record { node = g; exists = h; above = a; names = i } in
      contra ((names-so e r).1 (record { event = l; role = ltb-true r max_roles t; named = n })) (ap (λ (s : ℕ). has s r) z ∙ has-empty r)))
      (λ t. above max_roles (roles_at image g) r (omega arith) (ltb-false r max_roles t)))

  no-role : (e : ℕ) → event_count image ≤ e → e < max_events → roles_of (flat_chart image) e ≡ 0
  unfolding flat_roles
  no-role e h l = role-byte e l ∙ rw (le-ltb e (event_count image) h)

-- ---- nodes without a loop have an event among them

-- a relation that is transitive and never leads back has a least one below each count
module _ (R : ℕ → ℕ → Bool) (step : (a b c : ℕ) → R a b ≡ true → R b c ≡ true → R a c ≡ true) where
  pub least-one : (k : ℕ) → ((a : ℕ) → a < suc k → R a a ≡ false) → (m : ℕ) × (m < suc k) × ((x : ℕ) → x < suc k → R x m ≡ false)
  least-one zero n = (0, omega arith, λ x h. let z : x ≡ 0 = omega arith in rw z (n 0 (omega arith)))
  least-one (suc k) n =
      let l = least-one k (λ a h. n a (omega arith)) in
      let i = l.1 in
      cases (R (suc k) l.0)
      (λ t. (suc k, omega arith, λ x h. lt-suc h (λ z. rw z (n (suc k) (omega arith))) (λ g. not_so (λ e. contra (step x (suc k) l.0 e t) (l.2 x g)))))
      (λ t. (l.0, omega arith, λ x h. lt-suc h (λ z. rw z t) (λ g. l.2 x g)))

module _ (image : List ℕ) where
  nested-step : (a b c : ℕ) → nested image a b ≡ true → nested image b c ≡ true → nested image a c ≡ true
  nested-step a b c p q = (nested-so image a c).1 (join (parent image) ((nested-so image a b).0 p) ((nested-so image b c).0 q))

  pub some-event : 1 ≤ nodes image → Never (nodes image) (OnLoop image) → 1 ≤ event_count image
  some-event h straight =
      let k : ℕ = nodes image - 1 in
      let s : nodes image ≡ suc k = omega arith in
      let l = least-one (nested image) nested-step k (λ a i. not_so (λ e. straight a (omega arith) ((nested-so image a a).0 e))) in
      let i = l.1 in
      let event : is_event image l.0 ≡ true
      = rw (not_so
      (λ g. let t = (group-so image l.0).0 g in
      contra ((nested-so image t.member l.0).1 (hop t.inside)) (l.2 t.member (let o = member-in image t.member l.0 t.inside in omega arith)))) in
      let g = tally-lt (is_event image) l.0 (nodes image) (omega arith) event in
      omega arith

  -- ---- "the start marking, which the events' flags name"

  -- event e has the flag
  abbrev pub Flag : ℕ → ℕ → Type 0
  Flag digit e = has (flags_of image (event_node image e)) digit ≡ true

  flags-of : (digit e : ℕ) → In (flagged image digit) e ↔ ((e < event_count image) × Flag digit e)
  unfolding flagged
  flags-of digit e =
      let p : ℕ → Bool = λ e. has (flags_of image (event_node image e)) digit in (
        λ h. let t = both (ltb e (event_count image)) (p e) (sym (has-collect (event_count image) p e) ∙ h) in (ltb-true e (event_count image) t.0, t.1),
        λ r. has-collect (event_count image) p e ∙ ap₂ ◌&&◌ (lt-ltb e (event_count image) r.0) r.1,
      )

  -- ---- "what it gives is fit"

  module _ (r : AllRight image) where
    few : event_count image ≤ max_events
    few = r.nodes_right.few

    pub flat-fit : Fit (flat_chart image)
    unfolding flat_chart
    flat-fit =
        record {
          some = some-event r.nodes_right.header.range.some r.nodes_right.straight;
          few = few;
          inside = λ κ e f l h. ((flat-relates image few κ e f).0 h).other;
          past = λ κ e h l. none-zero (set_of (flat_chart image) κ e) (λ f. not_so (λ i. let o = ((flat-relates image few κ e f).0 i).one in absurd (omega arith)));
          unnamed = no-role image;
        }

    pub marking-fit : FitMarking (event_count image) (start_marking image)
    unfolding start_marking
    marking-fit = record { executed = λ f h. ((flags-of 0 f).0 h).0; pending = λ f h. ((flags-of 1 f).0 h).0; included = λ f h. ((flags-of 2 f).0 h).0 }

-- ---- the events: each is a node that is nobody's parent, they stand in node order, and there are no others

module _ (image : List ℕ) where
  pub record EventAt (e i : ℕ) : Type 0 where
    pub fits : i < nodes image
    pub atom : (a : ℕ) → parent image a i ≡ false
    pub numbered : number image i ≡ e

  pub is-event : (i : ℕ) → is_event image i ≡ true → (a : ℕ) → parent image a i ≡ false
  is-event i h a = not_so (λ e. contra ((group-so image i).1 (record { member = a; inside = e })) (not-true (is_group image i) h))

  pub event-is : (i : ℕ) → ((a : ℕ) → parent image a i ≡ false) → is_event image i ≡ true
  event-is i h = rw (not_so (λ g. let t = (group-so image i).0 g in contra t.inside (h t.member)))

  pub event-node : (e : ℕ) → e < event_count image → EventAt e (event_node image e)
  unfolding event_node
  event-node e h =
      let t = tally-find (is_event image) (nodes image) e h in
      let z : event_node image e ≡ t.0 = subst (λ (x : ℕ). first (nodes image) (λ j. is_event image j && eqb (number image j) x) ≡ t.0) t.3
      (first-numbered (is_event image) (nodes image) t.0 t.1 t.2) in
      rw z (record { fits = t.1; atom = is-event t.0 t.2; numbered = t.3 })

  -- an event's number is below the count, and its node is it
  pub node-event : (i : ℕ) → i < nodes image → ((a : ℕ) → parent image a i ≡ false) → (number image i < event_count image) × (event_node image (number image i) ≡ i)
  unfolding event_node
  node-event i h g = (tally-lt (is_event image) i (nodes image) h (event-is i g), first-numbered (is_event image) (nodes image) i h (event-is i g))

  pub node-order : (e f : ℕ) → e < f → f < event_count image → event_node image e < event_node image f
  node-order e f h l =
      let a = event-node e (omega arith) in
      let b = event-node f l in
      cases (ltb (event_node image e) (event_node image f)) (ltb-true (event_node image e) (event_node image f))
      (λ t. let o = ltb-false (event_node image e) (event_node image f) t in
      let g = tally-grows (is_event image) (event_node image f) (event_node image e) o in
      let p = a.numbered in
      let q = b.numbered in
      absurd (omega arith))

-- ---- the promises of a granted reading

module _ (image : List ℕ) (z : (reading image).answer.code ≡ 0) where
  all : AllRight image
  all = (granted-right image z).0

  chart-of : (reading image).chart ≡ flat_chart image
  chart-of = ap (λ (r : Reading). r.chart) (granted-right image z).1

  marking-of : (reading image).marking ≡ start_marking image
  marking-of = ap (λ (r : Reading). r.marking) (granted-right image z).1

  pub reading-relates : (κ : Kind) (e f : ℕ) → In (set_of (reading image).chart κ e) f ↔ Related image κ e f
  reading-relates κ e f = rw chart-of (flat-relates image all.nodes_right.few κ e f)

  pub reading-names : (e r : ℕ) → e < max_events → In (roles_of (reading image).chart e) r ↔ Names image e r
  reading-names e r h = rw chart-of (flat-names image e r h)

  pub reading-fit : Fit (reading image).chart × FitMarking (reading image).chart.count (reading image).marking
  unfolding flat_chart
  reading-fit = rw (chart-of, marking-of) (flat-fit image all, marking-fit image all)

  pub record Named : Type 0 where
    pub executed : (e : ℕ) → In (reading image).marking.executed e ↔ ((e < event_count image) × Flag image 0 e)
    pub pending : (e : ℕ) → In (reading image).marking.pending e ↔ ((e < event_count image) × Flag image 1 e)
    pub included : (e : ℕ) → In (reading image).marking.included e ↔ ((e < event_count image) × Flag image 2 e)

  pub reading-marking : Named
  unfolding start_marking
  reading-marking = record { executed = λ e. rw marking-of (flags-of image 0 e); pending = λ e. rw marking-of (flags-of image 1 e); included = λ e. rw marking-of (flags-of image 2 e) }
