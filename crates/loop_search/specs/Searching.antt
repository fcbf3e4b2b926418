-- Which stages need a search for loops of their own: those that have a completion rule with a condition. Assumes nothing.
use Rattle.std.specs.Prelude.{◌≡◌, refl, Bool, true, false, cond, ◌&&◌, ◌||◌, List, eqb, ltb, length}
use Rattle.std.proofs.Math.Path.{sym, fun_ext}
use Rattle.std.proofs.Common.{ap, ◌∙◌, add-one, eqb-true, ltb-true, ltb-false, lt-ltb}
use Rattle.std.proofs.Math.Bool.{and-true}
use Prim.Native.Nat.{ℕ, zero, suc, ◌+◌, ◌≤◌, ◌<◌}
use Rattle.std.proofs.Math.Nat.{le_antisymm}
use native.Mathlib.Omega.{arith}
use Rattle.std.proofs.Math.ListN.{get_or-eq_default}
use Rattle.general.specs.Cases.{contra, cases, both, not_so, lt-suc}
use Rattle.general.specs.Below.{some, some_of, some_at, first, find}
use Rattle.sets.specs.Set.{has, collect}
use Rattle.sets.specs.Laws.{has-collect, has-empty, none-zero}
use Rattle.closure.specs.Closure.{within}
use Rattle.order_theory.specs.Fewer.{Fewer, RefersToNothing}
use Rattle.order_theory.proofs.Fewer.{fewer-marks, nothing-leads}
use Rattle.book.specs.Book.{Book, no_rule, rule_of, text_of}
use Rattle.book.specs.Firing.{awaits, reads, refers}
use Rattle.book.specs.Image.{book_of}
use Rattle.book.specs.Read.{rules-count}
use Rattle.book.specs.WellFormed.{WellFormed}
use Rattle.book.specs.WellRead.{trigger_exists, rule-exists}
use Rattle.book.specs.declared.Rule.{Rule}
use Rattle.book.specs.declared.Trigger.{Trigger}
use Rattle.book.specs.declared.Trigger.TheVariants.{None, Completed, BecomeYes, BecomeNo}
use Rattle.book.specs.declared.Sense.{Sense}
use Rattle.book.specs.declared.Sense.TheVariants.{NoCondition, AsWritten, Negated}
use Rattle.rule_order.specs.Rules.{counted, net_of}
use Rattle.loop_search.specs.Places.{stage_place, lesser, lesser-one, lesser-fits, place_below, loop_place, stage-fits, below-least, stage-place}

-- the stage's completion triggers the rule
unfoldable pub completes : ℕ → Trigger → Bool
completes stage None = false
completes stage (Completed c) = eqb c stage
completes stage (BecomeYes m) = false
completes stage (BecomeNo m) = false

-- the rule has a condition
unfoldable pub asks : Sense → Bool
asks NoCondition = false
asks (AsWritten c) = true
asks (Negated c) = true

-- a completion rule of the stage has a condition
abbrev pub search_rule : Rule → ℕ → Bool
search_rule r stage = completes stage r.trigger && asks r.sense

unfoldable pub searches : Book → ℕ → Bool
searches b stage = some (length b.rules) (λ r. search_rule (rule_of b r) stage)

-- the set of the stages that have one
unfoldable pub searching : Book → ℕ
searching b = collect b.stages (searches b)

pub searching-has : (b : Book) (stage : ℕ) → stage < b.stages → has (searching b) stage ≡ searches b stage
unfolding searching
searching-has b stage h = has-collect b.stages (searches b) stage ∙ rw (lt-ltb stage b.stages h)

-- the set is empty, or it has a stage of the book
pub none-search : (b : Book) → searching b ≡ 0 → (stage : ℕ) → stage < b.stages → searches b stage ≡ false
none-search b e stage h = sym (searching-has b stage h) ∙ rw e (has-empty stage)

pub one-searches : (b : Book) → (searching b ≡ 0 → ⊥) → (stage : ℕ) × (stage < b.stages) × (searches b stage ≡ true)
unfolding searching
one-searches b n =
    find b.stages (searches b) (λ stage h e. (stage, h, e))
    (λ f. absurd (n (none-zero (collect b.stages (searches b)) (λ e. has-collect b.stages (searches b) e
    ∙ cases (ltb e b.stages) (λ t. rw t (f e (ltb-true e b.stages t))) (λ t. rw t)))))

-- ---- the rules that count for every stage are those that count for S, a stage that no rule names

-- counted for a stage that does not exist: counted for each
common-counts : (S M stage : ℕ) (t : Trigger) → trigger_exists S M t ≡ true → counted S t ≡ true → counted stage t ≡ true
unfolding trigger_exists counted
common-counts S M stage None k e = refl
common-counts S M stage (Completed c) k e = absurd (omega (arith, ltb-true c S k, eqb-true c S e))
common-counts S M stage (BecomeYes m) k e = refl
common-counts S M stage (BecomeNo m) k e = refl

-- a rule that counts for a stage and not for every one is a completion rule: without a condition it refers to nothing
refers-nothing : (text : ℕ → List ℕ) (S stage m : ℕ) (t : Trigger) (g : Sense) → counted stage t ≡ true → counted S t ≡ false → (completes stage t && asks g) ≡ false
    → (awaits t m || reads text g m) ≡ false
unfolding counted completes asks awaits reads
refers-nothing text S stage m None g c e n = contra refl e
refers-nothing text S stage m (Completed x) NoCondition c e n = refl
refers-nothing text S stage m (Completed x) (AsWritten y) c e n = contra c (sym (and-true (eqb x stage)) ∙ n)
refers-nothing text S stage m (Completed x) (Negated y) c e n = contra c (sym (and-true (eqb x stage)) ∙ n)
refers-nothing text S stage m (BecomeYes x) g c e n = contra refl e
refers-nothing text S stage m (BecomeNo x) g c e n = contra refl e

-- only a stage that exists is completed
completes-below : (S M stage : ℕ) (t : Trigger) → trigger_exists S M t ≡ true → completes stage t ≡ true → stage < S
unfolding trigger_exists completes
completes-below S M stage None k e = contra e refl
completes-below S M stage (Completed c) k e = omega (arith, ltb-true c S k, eqb-true c stage e)
completes-below S M stage (BecomeYes m) k e = contra e refl
completes-below S M stage (BecomeNo m) k e = contra e refl

-- "a completed stage below S"
abbrev pub Completable : Book → Type 0
Completable b = (r : ℕ) → r < length b.rules → trigger_exists b.stages b.marks (rule_of b r).trigger ≡ true

module _ (b : Book) (known : Completable b) where
  -- past the rules too
  known_past : (r : ℕ) → trigger_exists b.stages b.marks (rule_of b r).trigger ≡ true
  unfolding trigger_exists
  known_past r =
      cases (ltb r (length b.rules)) (λ e. known r (ltb-true r (length b.rules) e))
      (λ e. rw (get_or-eq_default b.rules no_rule (ltb-false r (length b.rules) e)))

  pub searches-below : (stage : ℕ) → searches b stage ≡ true → stage < b.stages
  unfolding searches
  searches-below stage e =
      let (r, h, x) = some_at (length b.rules) (λ r. search_rule (rule_of b r) stage) e in
      completes-below b.stages b.marks stage (rule_of b r).trigger (known r h) (both (completes stage (rule_of b r).trigger) (asks (rule_of b r).sense) x).0

  pub common-fewer : (stage : ℕ) → Fewer (net_of b b.stages) (net_of b stage)
  unfolding net_of
  common-fewer stage =
      record { count = refl; target = λ r. refl; refers = λ r m. refl; counts = λ r. common-counts b.stages b.marks stage (rule_of b r).trigger (known_past r) }

  pub common-only : (stage : ℕ) → searches b stage ≡ false → RefersToNothing (net_of b b.stages) (net_of b stage)
  unfolding searches net_of refers
  common-only stage n r c e m =
      refers-nothing (text_of b) b.stages stage m (rule_of b r).trigger (rule_of b r).sense c.1 e
      (not_so (λ x. contra (some_of (length b.rules) (λ q. search_rule (rule_of b q) stage) r c.0 x) n))

  -- a stage whose completion rules have no condition has the loops of the rules that count for every stage, and so their place
  pub common-place : (stage : ℕ) → searches b stage ≡ false → stage_place b stage ≡ stage_place b b.stages
  unfolding stage_place
  common-place stage n =
      sym (ap (λ (l : ℕ → ℕ → Bool). first b.marks (λ m. within l b.marks m m))
      (fun_ext (λ x. fun_ext (λ y. nothing-leads (common-fewer stage) (common-only stage n) x y))))

  module _ (small : (r : ℕ) → r < length b.rules → (rule_of b r).target < b.marks) where
    -- no stage has a higher place than they
    pub common-above : (stage : ℕ) → stage_place b stage ≤ stage_place b b.stages
    common-above stage =
        let C : ℕ = stage_place b b.stages in
        cases (ltb C (stage_place b stage))
        (λ e. let h = ltb-true C (stage_place b stage) e in let f = stage-fits b stage in
        absurd ((stage-place b small stage).0.1 C h (fewer-marks (common-fewer stage) C ((stage-place b small b.stages).0.0 (omega arith)))))
        (λ e. ltb-false C (stage_place b stage) e)

-- ---- the least place of the stages below k that have a search of their own, or M

unfoldable pub searched_below : Book → ℕ → ℕ
searched_below b zero = b.marks
searched_below b (suc k) = cond (searches b k) (lesser (searched_below b k) (stage_place b k)) (searched_below b k)

module _ (b : Book) where
  pub searched-on : (k : ℕ) → searches b k ≡ true → lesser (searched_below b k) (stage_place b k) ≡ searched_below b (k + 1)
  unfolding searched_below
  searched-on k e = rw (add-one, e)

  pub searched-past : (k : ℕ) → searches b k ≡ false → searched_below b k ≡ searched_below b (k + 1)
  unfolding searched_below
  searched-past k e = rw (add-one, e)

  -- it stands between the least place of all these stages and the place of each that is searched
  searched-above : (k : ℕ) → place_below b k ≤ searched_below b k
  unfolding searched_below place_below
  searched-above zero = omega arith
  searched-above (suc k) =
      let i = searched-above k in
      let (p, q) = lesser-fits (place_below b k) (stage_place b k) in
      cases (searches b k)
      (λ e. rw e (lesser-one (λ x. lesser (place_below b k) (stage_place b k) ≤ x) (searched_below b k) (stage_place b k) (λ j. omega arith) (λ j. q)))
      (λ e. rw e (omega arith))

  searched-fits : (k : ℕ) → searched_below b k ≤ b.marks
  unfolding searched_below
  searched-fits zero = omega arith
  searched-fits (suc k) =
      let i = searched-fits k in
      cases (searches b k) (λ e. rw e (omega (arith, (lesser-fits (searched_below b k) (stage_place b k)).0))) (λ e. rw e i)

  searched-least : (k stage : ℕ) → stage < k → searches b stage ≡ true → searched_below b k ≤ stage_place b stage
  unfolding searched_below
  searched-least zero stage h t = absurd (omega arith)
  searched-least (suc k) stage h t =
      let (p, q) = lesser-fits (searched_below b k) (stage_place b k) in
      lt-suc h (λ x. rw (← x, t) (rw (← x) at q))
      (λ i. let j = searched-least k stage i t in cases (searches b k) (λ e. rw e (omega arith)) (λ e. rw e j))

  -- what is above no place is not above the least one
  all_above : (x k : ℕ) → x ≤ b.marks → ((stage : ℕ) → stage < k → x ≤ stage_place b stage) → x ≤ place_below b k
  unfolding place_below
  all_above x zero m h = m
  all_above x (suc k) m h =
      let i = all_above x k m (λ stage l. h stage (omega arith)) in
      lesser-one (λ y. x ≤ y) (place_below b k) (stage_place b k) (λ j. i) (λ j. h k (omega arith))

  module _ (known : Completable b) where
    -- where no stage has a search of its own, the rules that count for every stage have the loops of each
    pub common-last : 0 < b.stages → ((stage : ℕ) → stage < b.stages → searches b stage ≡ false) → stage_place b b.stages ≡ loop_place b
    unfolding loop_place
    common-last h n =
        let C : ℕ = stage_place b b.stages in
        le_antisymm (all_above C b.stages (stage-fits b b.stages) (λ stage l. rw (common-place b known stage (n stage l)) (omega arith)))
        (rw (common-place b known 0 (n 0 h)) at (below-least b b.stages 0 h))

    -- and where one has, its rules are those and more: the searches of such stages serve the others too
    pub searched-last : ((r : ℕ) → r < length b.rules → (rule_of b r).target < b.marks) → (stage : ℕ) → stage < b.stages → searches b stage ≡ true
        → searched_below b b.stages ≡ loop_place b
    unfolding loop_place
    searched-last small stage h t =
        let L : ℕ = searched_below b b.stages in
        let i = searched-least b.stages stage h t in
        let j = common-above b known small stage in
        le_antisymm
        (all_above L b.stages (searched-fits b.stages) (λ k l. cases (searches b k) (λ e. searched-least b.stages k l e) (λ e. rw (common-place b known k e) (omega arith))))
        (searched-above b.stages)

pub no-stages : (b : Book) → b.stages ≡ 0 → b.marks ≡ loop_place b
unfolding loop_place place_below
no-stages b e = rw e

-- ---- the book of a well-formed image

module _ (s : List ℕ) (w : WellFormed s) where
  pub completable : Completable (book_of s)
  unfolding book_of
  completable r h = (rule-exists s w r (rw (rules-count s) at h)).trigger

  pub targets-exist : (r : ℕ) → r < length (book_of s).rules → (rule_of (book_of s) r).target < (book_of s).marks
  unfolding book_of
  targets-exist r h = (rule-exists s w r (rw (rules-count s) at h)).target
