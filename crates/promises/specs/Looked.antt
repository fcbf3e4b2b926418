-- Request (vi): how many rules a completion looks at. What is reported is the length of the definition's own walk, a list's sum fits its bits, and for a derived book of n
-- events a completion evaluates at most 4n + 1, which the row `full` reaches. Assumes nothing.
use Prim.Native.Nat.{ℕ, zero, suc, ◌+◌, ◌*◌, ◌≤◌, ◌<◌, ◌^◌}
use Rattle.std.specs.Prelude.{◌≡◌, Bool, cond, length, get_or, set}
use Rattle.std.proofs.Math.Path.{refl, ap}
use Rattle.std.proofs.Common.{sym, ◌∙◌, inl}
use Rattle.std.proofs.Math.Bool.{false}
use mathlib.Core.List.{List, [], ◌∷◌, ◌++◌}
use native.Mathlib.Omega.{arith}
use Rattle.std.proofs.Math.Dec.{eqb}
use Rattle.std.specs.Int.Count.{count_trailing_zeros}
use borrow.Author.Tests.{eqb-true, eqb-false, ne_eqb}
use Rattle.general.specs.Cases.{cases}
use Rattle.general.specs.Below.{tally}
use Rattle.general.specs.Lists.{total, total-same, total-le, total-one, flat, All, all_append, all-flat}
use Rattle.sets.specs.Set.{has}
use Rattle.flat_chart.specs.Chart.{response, include, exclude, set_of, roles_of, Fit}
use Rattle.graph.specs.Fitness.{FitMarking, fit_marking, fit}
use Rattle.flat_chart.specs.Roles.{Permits, permits}
use Rattle.graph.specs.Steps.{unmet_of, awaited_of, after_with, stepping, stepping_by, testing, executing}
use Rattle.flat_chart.specs.Tests.{row_spill, spill_at, spill_of, roles_from, fit_tables, fit_chart}
use Rattle.graph.specs.Fitness.{fit-both}
use Rattle.graph.specs.Examples.{none, marking}
use Rattle.flat_chart.specs.Flat.{FlatChart}
use Rattle.order_theory.specs.Order.{counted_rules}
use Rattle.book.specs.Text.{Snap, snap_of}
use Rattle.book.specs.Book.{Book, no_rule}
use Rattle.book.specs.Image.{book_of}
use Rattle.book.specs.ImageOf.{book-of-image}
use Rattle.book.specs.declared.Rule.{Rule}
use Rattle.book.specs.declared.Snapshot.{Snapshot}
use Rattle.rule_order.specs.Rules.{counted, net_of}
use Rattle.judge.specs.Checking.{acyclic-at}
use Rattle.derived.specs.Derived.{inclusion, responding, answering, completion, stage_rules, event_rules, derived_rules, derived_book}
use Rattle.derived.specs.Sizes.{length-completion, completion-le, both-within, set-within}
use Rattle.deriver.specs.Deriving.{derived_image}
use Rattle.deriver.specs.Matching.{matching_of}
use Rattle.runner.specs.Walks.{Goes, looks, looks-length}
use Rattle.index.specs.Index.{order_of, order-length}
use Rattle.index_builder.specs.Building.{index_of}
use Rattle.indexed.specs.Indexed.{completing_indexed}
use Rattle.indexed.specs.IndexedTable.{indexed-known, indexed-none, indexed-looked, looked-count}
use Rattle.indexed_list.specs.InList.{completing_list}
use Rattle.indexed_list.specs.ListTable.{list-small}
use Rattle.indexed.specs.declared.IndexedCompletion.{IndexedCompletion}
use Rattle.promises.specs.Demand2.{passes, stages-are}
use Rattle.promises.specs.Lists.{grants-alike}

-- ---- how many of a list pass a test

tally-front : (k : ℕ) (f : ℕ → Bool) → tally (suc k) f ≡ cond (f 0) 1 0 + tally k (λ p. f (suc p))
unfolding tally
tally-front zero f = refl
tally-front (suc k) f = rw (tally-front k f) (omega arith)

total-at : (k b e : ℕ) (g : ℕ → ℕ) → ((d : ℕ) → (d ≡ e → ⊥) → g d ≡ 0) → g e ≤ b → total k g ≤ b
unfolding total
total-at zero b e g z l = omega arith
total-at (suc k) b e g z l =
    cases (eqb k e)
    (λ t. let q : k ≡ e = eqb-true k e t in
    let n : total k g ≡ 0 = total-same k g (λ d. 0) (λ d h. z d (λ x. absurd (omega arith))) ∙ total-one k 0 ∙ omega arith in
    omega (arith, n, ap g q))
    (λ t. omega (arith, z k (eqb-false k e t), total-at k b e g z l))

module _ {A : Type 0} (f : A → Bool) where
  unfoldable how_many : List A → ℕ
  how_many [] = 0
  how_many (x ∷ l) = cond (f x) 1 0 + how_many l

  many-tally : (d : A) (l : List A) → tally (length l) (λ r. f (get_or l r d)) ≡ how_many l
  unfolding how_many tally
  many-tally d [] = refl
  many-tally d (x ∷ l) = tally-front (length l) (λ r. f (get_or (x ∷ l) r d)) ∙ rw (many-tally d l)

  many-append : (k l : List A) → how_many (k ++ l) ≡ how_many k + how_many l
  unfolding how_many
  many-append [] l = omega arith
  many-append (x ∷ k) l = rw (many-append k l) (omega arith)

  many-flat : (k : ℕ) (g : ℕ → List A) → how_many (flat k g) ≡ total k (λ e. how_many (g e))
  unfolding how_many flat total
  many-flat zero g = refl
  many-flat (suc k) g = many-append (flat k g) (g k) ∙ rw (many-flat k g)

  many-le : (l : List A) → how_many l ≤ length l
  unfolding how_many
  many-le [] = omega arith
  many-le (x ∷ l) = cases (f x) (λ e. rw e (omega (arith, many-le l))) (λ e. rw e (omega (arith, many-le l)))

  many-none : (l : List A) → All (λ x. f x ≡ false) l → how_many l ≡ 0
  unfolding how_many
  many-none [] a = refl
  many-none (x ∷ l) a = rw (a.0, many-none l a.1)

-- ---- the rules of a derived book that count for a stage: those of its completion, and all that set or clear a stage

abbrev counts : ℕ → Rule → Bool
counts e r = counted e r.trigger

module _ (c : FlatChart) (fit : Fit c) (e : ℕ) (h : e < c.count) where
  -- another event's rules do not count
  others : (d : ℕ) → (d ≡ e → ⊥) → All (λ (r : Rule). counts e r ≡ false) (event_rules c d)
  unfolding event_rules completion inclusion responding answering counted
  others d n =
      let P : Rule → Type 0 = λ r. counts e r ≡ false in
      let z : eqb d e ≡ false = ne_eqb d e n in
      all_append P (flat c.count (inclusion c.count d (set_of c include d) (set_of c exclude d))) _
      (all-flat P c.count _ (λ f i. cases (has (set_of c include d) f) (λ t. rw t (z, tt)) (λ t. rw t (cases (has (set_of c exclude d) f) (λ u. rw u (z, tt)) (λ u. rw u tt)))))
      (all_append P (flat c.count (responding c.count d (set_of c response d))) _
      (all-flat P c.count _ (λ f i. cases (has (set_of c response d) f) (λ t. rw t (z, tt)) (λ t. rw t tt)))
      (all_append P (answering c.count d (set_of c response d)) _ (cases (has (set_of c response d) d) (λ t. rw t tt) (λ t. rw t (z, tt))) (z, tt)))

  own : how_many (counts e) (event_rules c e) ≤ 2 * c.count + 1
  unfolding event_rules
  own =
      let i = set_of c include e in
      let x = set_of c exclude e in
      let r = set_of c response e in
      omega (
        arith,
        many-le (counts e) (event_rules c e),
        length-completion c.count e h i x r (both-within c fit e h) (set-within c fit response e h),
        completion-le c.count e h i x r (both-within c fit e h) (set-within c fit response e h),
      )

  derived-few : how_many (counts e) (derived_rules c) ≤ 4 * c.count + 1
  unfolding derived_rules
  derived-few =
      let n : ℕ = c.count in
      let a : how_many (counts e) (flat n (event_rules c)) ≤ 2 * n + 1 =
      rw (many-flat (counts e) n (event_rules c)) (total-at n (2 * n + 1) e (λ d. how_many (counts e) (event_rules c d)) (λ d q. many-none (counts e) (event_rules c d) (others d q)) own) in
      let b : how_many (counts e) (flat n stage_rules) ≤ n * 2 =
      rw (many-flat (counts e) n stage_rules) (total-le n 2 (λ d. how_many (counts e) (stage_rules d)) (λ d i. many-le (counts e) (stage_rules d))) in
      omega (arith, many-append (counts e) (flat n (event_rules c)) (flat n stage_rules))

  -- the stage's order has as many as count
  order-counts : length (order_of (book_of (derived_image c)) e) ≡ how_many (counts e) (derived_rules c)
  unfolding net_of derived_book
  order-counts =
      let s : List ℕ = derived_image c in
      let p = passes c fit in
      order-length s e p.formed (acyclic-at s e p.acyclic (rw (stages-are c fit) h))
      ∙ ap (λ (b : Book). counted_rules (net_of b e)) (book-of-image (derived_book c))
      ∙ many-tally (counts e) no_rule (derived_rules c)

-- what a completion of a derived book reports
module _ (c : FlatChart) (fit : Fit c) (index : List ℕ) (s : Snapshot) (e : ℕ) where
  granted-counts : (completing_indexed (derived_image c) index s e).answer.code ≡ 0
      → (e < c.count) × ((completing_indexed (derived_image c) index s e).evaluated ≡ how_many (counts e) (derived_rules c))
  granted-counts z =
      let h : e < c.count = rw (stages-are c fit) at (indexed-known (derived_image c) index s e z) in
      (h, indexed-looked (derived_image c) index s e z ∙ looked-count (derived_image c) s.marks e ∙ order-counts c fit e h)

  pub derived-most : (completing_indexed (derived_image c) index s e).evaluated ≤ 4 * c.count + 1
  derived-most =
      cases (eqb (completing_indexed (derived_image c) index s e).answer.code 0)
      (λ t. let (h, n) = granted-counts (eqb-true (completing_indexed (derived_image c) index s e).answer.code 0 t) in omega (arith, derived-few c fit e h))
      (λ t. omega (arith, indexed-none (derived_image c) index s e (eqb-false (completing_indexed (derived_image c) index s e).answer.code 0 t)))

-- ---- a chart that reaches it

-- two events, and event 0 includes both and has both as responses
abbrev pub full_chart : FlatChart
full_chart = record { count = 2; conditions = none; responses = set none 0 3; milestones = none; includes = set none 0 3; excludes = none; roles = none }

full-fit : Fit full_chart × FitMarking 2 (marking 0 0 3)
unfolding fit fit_chart fit_marking fit_tables roles_from spill_of spill_at row_spill has
full-fit = fit-both full_chart (marking 0 0 3) refl

-- event 0 completed through the index, from the snapshot that matches both included
abbrev pub full_completion : IndexedCompletion
full_completion = completing_indexed (derived_image full_chart) (index_of (derived_image full_chart)) (matching_of full_chart (marking 0 0 3)).snapshot 0

pub full-granted : full_completion.answer.code ≡ 0
unfolding executing stepping_by stepping testing permits fit fit_chart fit_marking fit_tables roles_from spill_of spill_at row_spill has unmet_of awaited_of after_with count_trailing_zeros
full-granted =
    let p : Permits (roles_of full_chart 0) 0 = record { known = omega arith; open-or-named = inl refl } in
    (grants-alike full_chart full-fit.0 (marking 0 0 3) full-fit.1 0 0 p).0 refl

pub full-reaches : full_completion.evaluated ≡ 4 * full_chart.count + 1
unfolding how_many derived_rules event_rules completion inclusion responding answering flat has counted
full-reaches = (granted-counts full_chart full-fit.0 (index_of (derived_image full_chart)) (matching_of full_chart (marking 0 0 3)).snapshot 0 full-granted).1

pub record Looked : Type 0 where
  -- "the number of rules evaluated with each completion through the index. It is the length of the definition's own walk", whatever walk it is
  pub walk : (book index : List ℕ) (s : Snapshot) (stage : ℕ) → (completing_indexed book index s stage).answer.code ≡ 0 → (end : Snap)
      (g : Goes (book_of book) (snap_of s.marks) stage (snap_of s.marks) (order_of (book_of book) stage) end)
      → (completing_indexed book index s stage).evaluated ≡ looks (book_of book) (snap_of s.marks) stage g
  -- "one for each rule in the stage's order, fired or not"
  pub order : (book index : List ℕ) (s : Snapshot) (stage : ℕ) → (completing_indexed book index s stage).answer.code ≡ 0
      → (completing_indexed book index s stage).evaluated ≡ length (order_of (book_of book) stage)
  -- the sum over a list never exceeds 32 bits; that it is the sum stands with the lists, and that a refused completion reports 0 in demand 1
  pub fits : (book index : List ℕ) (s : Snapshot) (list : List ℕ) → (completing_list book index s list).evaluated < 2 ^ 32
  -- "For a derived book of n events it is at most 4n + 1.", whatever the index, the snapshot and the stage
  pub derived : (c : FlatChart) → Fit c → (index : List ℕ) (s : Snapshot) (stage : ℕ) → (completing_indexed (derived_image c) index s stage).evaluated ≤ 4 * c.count + 1

pub looked : Looked
looked =
    record {
      walk = λ book index s stage z end g.
          indexed-looked book index s stage z ∙ looked-count book s.marks stage ∙ sym (looks-length (book_of book) (snap_of s.marks) stage g);
      order = λ book index s stage z. indexed-looked book index s stage z ∙ looked-count book s.marks stage;
      fits = list-small;
      derived = derived-most;
    }
