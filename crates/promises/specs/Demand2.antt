-- Demand 2: from a marking and its matching snapshot, chart and derived book grant exactly the same events, and they match again after every
-- step of every sequence; by request (i) "for steps by a permitted role", by request (ii) in the order that the check writes for each completed stage.
-- Stated of what the calls give: derive, check, matching, execute and complete. Assumes nothing.
use Rattle.std.specs.Prelude.{ℕ, ◌*◌, ◌≤◌, ◌<◌, ◌≡◌, refl, Bool, true, ◌↔◌, List, [], ◌∷◌, length, take, drop, eqb}
use Rattle.std.proofs.Common.{sym, subst, ◌∙◌, take_at, le-leb, eqb-true}
use Rattle.std.proofs.Math.Path.{ap, fun_ext}
use Rattle.std.proofs.lemmas.Bool.{eqb-false}
use Rattle.paper.specs.Limits.{max_marks, not_permitted}
use Rattle.paper.specs.Answers.{granted}
use Rattle.paper.specs.declared.Answer.{Answer}
use Rattle.general.specs.Cases.{cases}
use Rattle.flat_chart.specs.Chart.{roles_of, Fit}
use Rattle.graph.specs.Fitness.{FitMarking}
use Rattle.flat_chart.specs.Roles.{Permits}
use Rattle.flat_chart.specs.Fitness.{fit-tested}
use Rattle.graph.specs.Steps.{is_open, after, executing, refusing, granting}
use Rattle.graph.specs.Execution.{Enabled, is_forbidden, is_done, open-enabled, granted-enabled, after-executed, executes-only, refused-kept, after-fit, step-fit}
use Rattle.flat_chart.specs.Flat.{FlatChart}
use Rattle.graph.specs.Flat.{Marking}
use Rattle.book.specs.Text.{Snap, snap_of}
use Rattle.book.specs.Book.{Book}
use Rattle.book.specs.Image.{book_of, stages_in, marks_in}
use Rattle.book.specs.ImageOf.{book-of-image}
use Rattle.book.specs.declared.Snapshot.{Snapshot}
use Rattle.order_theory.specs.Order as order
use Rattle.order_theory.specs.Order.{counted_rules}
use Rattle.order_theory.specs.Settle.{Settled}
use Rattle.order_theory.specs.Snapshots.{at_same}
use Rattle.rule_order.specs.Rules.{net_of, acts_of}
use Rattle.rule_order.specs.Nets.{rules_of}
use Rattle.judge.specs.Checking.{checking, checked_room}
use Rattle.judge.proofs.Checking.{is-passed}
use Rattle.derived.specs.Derived.{derived_book}
use Rattle.deriver.specs.Deriving.{derived_image, deriving_answer, derived_room}
use Rattle.deriver.specs.Formed.{derived-well}
use Rattle.deriver.specs.Matching.{matching_marks, matching_of, mark_of, marks-at}
use Rattle.runner.specs.Table.{Passes, Belongs}
use Rattle.runner.specs.Completing.{completing}
use Rattle.runner.specs.Completion.{Open, completes, completed-is, granted-only, refusal-hands-back}
use Rattle.agreement.specs.Matching.{match-stage, match-past}
use Rattle.agreement.specs.Settling.{derived-settled}
use Rattle.agreement.specs.Passing.{derived-calm, derived-no-loop}
use Rattle.promises.specs.Matching.{matched, marks-whole}

-- a granted derivation writes the image and leaves the room behind it as it was
pub granted_bytes : (c : FlatChart) → Fit c → (bytes : List ℕ) → length (derived_image c) ≤ length bytes
    → (deriving_answer c (length bytes) ≡ granted) × (take (length (derived_image c)) (derived_room c bytes) ≡ derived_image c)
unfolding deriving_answer derived_room
granted_bytes c t bytes h =
    rw (fit-tested c t, le-leb (length (derived_image c)) (length bytes) h)
    (refl, take_at (derived_image c) (drop (length (derived_image c)) bytes) (length (derived_image c)) refl)

-- ---- a book derived from a fit chart always passes, given room

module _ (c : FlatChart) (fit : Fit c) where
  -- the image says the derived book
  said : book_of (derived_image c) ≡ derived_book c
  said = book-of-image (derived_book c)

  pub passes : Passes (derived_image c)
  passes =
      record {
        formed = derived-well c fit;
        acyclic = λ stage h. rw said (derived-no-loop c fit.few stage);
        calm = rw said (derived-calm c);
      }

  pub derived-passes : (stage room : ℕ) → stage < stages_in (derived_image c) → counted_rules (rules_of (derived_image c) stage) ≤ room → checking (derived_image c) stage room ≡ granted
  derived-passes stage room k h =
      is-passed (derived_image c) stage room
      (record { formed = passes.formed; acyclic = passes.acyclic; calm = passes.calm; known = k; wide = h })

  pub stages-are : stages_in (derived_image c) ≡ c.count
  unfolding book_of derived_book
  stages-are = ap (λ (b : Book). b.stages) said

  -- ---- the matching snapshot is one that the derived book can be completed from

  module _ (m : Marking) (marked : FitMarking c.count m) where
    matches : matching_of c m ≡ record { answer = granted; snapshot = record { marks = matching_marks c m } }
    matches = matched c m fit marked

    matching-long : length (matching_marks c m) ≡ max_marks
    matching-long = marks-whole c fit.few m

    pub matching-whole : length (matching_of c m).snapshot.marks ≡ max_marks
    matching-whole = rw matches matching-long

    marks-are : marks_in (derived_image c) ≡ 4 * c.count
    unfolding book_of derived_book
    marks-are = ap (λ (b : Book). b.marks) said

    belongs : Belongs (derived_image c) (matching_marks c m)
    belongs k h l = marks-at c m k ∙ match-past c m k (rw marks-are at h)

    -- a stage of the matching snapshot is open exactly if its event is enabled
    stage-open : (e : ℕ) → e < c.count → snap_of (matching_marks c m) e ≡ is_open c m e
    stage-open e h = marks-at c m e ∙ match-stage c m e h

    opened : (e : ℕ) → e < c.count → Enabled c m e → Open (derived_image c) (matching_of c m).snapshot e
    opened e h t =
        rw matches (record {
          whole = matching-long;
          belongs = belongs;
          known = rw stages-are h;
          yes = stage-open e h ∙ (open-enabled c m e).1 t;
        })

    -- ---- one step

    -- the order may be any fit one of the completed stage; past the count there is none, and both refuse
    module _ (e r : ℕ) (l : List ℕ) (fit_order : e < c.count → order.Fit (rules_of (derived_image c) e) l) where
      -- chart and book grant the same event, if the role may
      pub same-grants : Permits (roles_of c e) r → ((executing c m e r).answer.code ≡ 0) ↔ ((completing (derived_image c) l (matching_of c m).snapshot e).answer.code ≡ 0)
      same-grants p = (
        λ g. let t = (granted-enabled c m e r).0 g in
            let h : e < c.count = t.0.stands.exists in
            ap (λ (a : Answer). a.code) (completes (derived_image c) passes (matching_of c m).snapshot e (opened e h t.1) l (fit_order h)).granted,
        λ g. let o = (granted-only (derived_image c) l (matching_of c m).snapshot e (rw matches matching-long) g).2 in
            let h : e < c.count = rw stages-are at o.known in
            let y : snap_of (matching_marks c m) e ≡ true = rw matches at o.yes in
            (granted-enabled c m e r).1 (
              record { stands = record { chart = fit; marking = marked; exists = h }; permitted = p },
              (open-enabled c m e).0 (sym (stage-open e h) ∙ y),
            ),
      )

      -- where both grant, the book's snapshot matches the chart's next marking
      matched-after : (executing c m e r).answer.code ≡ 0 → (completing (derived_image c) l (matching_of c m).snapshot e).snapshot.marks ≡ matching_marks c (after c m e)
      matched-after g =
          let t = (granted-enabled c m e r).0 g in
          let h : e < c.count = t.0.stands.exists in
          let o = opened e h t.1 in
          let k = completes (derived_image c) passes (matching_of c m).snapshot e o l (fit_order h) in
          at_same (completing (derived_image c) l (matching_of c m).snapshot e).snapshot.marks (matching_marks c (after c m e))
          (k.whole ∙ sym (matching-long-after h))
          (λ x. completed-is (derived_image c) passes (matching_of c m).snapshot e o l (fit_order h) (mark_of c (after c m e)) (settles h) x ∙ sym (marks-at c (after c m e) x))
        where
          matching-long-after : e < c.count → length (matching_marks c (after c m e)) ≡ max_marks
          matching-long-after h = marks-whole c fit.few (after c m e)

          start : Snap
          start = snap_of (matching_of c m).snapshot.marks

          settles : e < c.count → Settled (rules_of (derived_image c) e) (acts_of (book_of (derived_image c)) start e) start (mark_of c (after c m e))
          settles h =
              let D : Book = derived_book c in
              let F : Snap = mark_of c (after c m e) in
              let q : start ≡ mark_of c m = rw matches (fun_ext (marks-at c m)) in
              subst (λ (b : Book). Settled (net_of b e) (acts_of b start e) start F) (sym said)
              (subst (λ (S : Snap). Settled (net_of D e) (acts_of D S e) S F) (sym q) (derived-settled c fit m e h))

      -- after the step, granted or refused, they match again, and the marking is fit
      pub fit-again : FitMarking c.count (executing c m e r).marking
      fit-again =
          cases (eqb (executing c m e r).answer.code 0)
          (λ g. step-fit c m e r (eqb-true _ 0 g))
          (λ g. rw (refused-kept c m e r (eqb-false _ 0 g)) marked)

      pub match-again : Permits (roles_of c e) r → (completing (derived_image c) l (matching_of c m).snapshot e).snapshot ≡ (matching_of c (executing c m e r).marking).snapshot
      match-again p =
          cases (eqb (executing c m e r).answer.code 0)
          (λ g. let z = eqb-true _ 0 g in
          let t = (granted-enabled c m e r).0 z in
          let n : executing c m e r ≡ granting (after c m e) = sym (executes-only c m e (is_done t.0 t.1 (after-executed c m e))) in
          rw n (rw (matches-after t.0.stands.exists) (ap (λ (k : List Bool). whole k) (matched-after z))))
          (λ g. let z = eqb-false _ 0 g in
          rw (refused-kept c m e r z) (refusal-hands-back (derived_image c) l (matching_of c m).snapshot e (λ y. z ((same-grants p).1 y))))
        where
          whole : List Bool → Snapshot
          whole k = record { marks = k }

          matches-after : e < c.count → matching_of c (after c m e) ≡ record { answer = granted; snapshot = record { marks = matching_marks c (after c m e) } }
          matches-after h = matched c (after c m e) fit (after-fit c m e fit marked h)

      -- a role that may not is refused, and the marking stays
      pub forbids : (Permits (roles_of c e) r → ⊥) → e < c.count → executing c m e r ≡ refusing not_permitted 0 m
      forbids n h = sym (executes-only c m e (is_forbidden (record { chart = fit; marking = marked; exists = h }) n))

-- ---- every step of every sequence

-- one step by one role: where it is permitted, chart and book grant the same, and the book's snapshot matches the chart's next marking; where it is
-- not, the chart refuses an event that it has with 32 and the marking stays
pub record Agrees (c : FlatChart) (l : List ℕ) (m : Marking) (e r : ℕ) : Type 0 where
  pub grants : Permits (roles_of c e) r → ((executing c m e r).answer.code ≡ 0) ↔ ((completing (derived_image c) l (matching_of c m).snapshot e).answer.code ≡ 0)
  pub matches : Permits (roles_of c e) r → (completing (derived_image c) l (matching_of c m).snapshot e).snapshot ≡ (matching_of c (executing c m e r).marking).snapshot
  pub refuses : (Permits (roles_of c e) r → ⊥) → e < c.count → executing c m e r ≡ refusing not_permitted 0 m

-- along the steps, each an event and a role, from each marking to the next, where `l` gives the order of each stage
abbrev pub Alike : FlatChart → (ℕ → List ℕ) → Marking → List (ℕ × ℕ) → Type 0
Alike c l m [] = Unit {0}
Alike c l m (s ∷ steps) = Agrees c (l s.0) m s.0 s.1 × Alike c l (executing c m s.0 s.1).marking steps

pub alike : (c : FlatChart) → Fit c → (l : ℕ → List ℕ) → ((e : ℕ) → e < c.count → order.Fit (rules_of (derived_image c) e) (l e)) → (m : Marking) → FitMarking c.count m
    → (steps : List (ℕ × ℕ)) → Alike c l m steps
alike c t l f m k [] = tt
alike c t l f m k (s ∷ steps) = (
  record {
    grants = same-grants c t m k s.0 s.1 (l s.0) (f s.0);
    matches = match-again c t m k s.0 s.1 (l s.0) (f s.0);
    refuses = forbids c t m k s.0 s.1 (l s.0) (f s.0);
  },
  alike c t l f (executing c m s.0 s.1).marking (fit-again c t m k s.0 s.1 (l s.0) (f s.0)) steps,
)

-- ---- through the calls

-- The book that derive writes into room, and the order that check writes for it and a stage into more room, as far as they are written.
abbrev pub written : FlatChart → List ℕ → List ℕ
written c bytes = take (length (derived_image c)) (derived_room c bytes)

abbrev pub ordered : List ℕ → List ℕ → ℕ → List ℕ
ordered book room stage = take (counted_rules (rules_of book stage)) (checked_room book stage room)

pub record Demand2 (c : FlatChart) (bytes room : List ℕ) : Type 0 where
  -- deriving is granted, and what it writes is the derived book's image
  pub derives : deriving_answer c (length bytes) ≡ granted
  pub writes : written c bytes ≡ derived_image c
  -- the check passes it for the stage of each event
  pub passes : (e : ℕ) → e < c.count → checking (written c bytes) e (length room) ≡ granted
  -- from any fit marking and its matching snapshot, along any sequence of steps, each in the order that the check writes for its stage
  pub agrees : (m : Marking) → FitMarking c.count m → (steps : List (ℕ × ℕ)) → Alike c (ordered (written c bytes) room) m steps
