-- Request (xi): the full book's next snapshot through the table settles the smaller book, so every fit order of it ends there. Assumes nothing.
use Prim.Native.Nat.{ℕ, ◌≤◌, ◌<◌}
use Rattle.std.specs.Prelude.{◌≡◌, Bool, ◌&&◌, ◌||◌, eqb, ltb, get_or}
use Rattle.std.proofs.Math.Path.{refl, sym, ap}
use Rattle.std.proofs.Common.{◌∙◌}
use Rattle.std.proofs.Math.Bool.{true, false, not, and-true, and-false, and_assoc, or-true}
use mathlib.Core.List.{List, [], ◌∷◌, ◌++◌}
use native.Mathlib.Omega.{arith}
use Rattle.std.proofs.Math.ListN.{length}
use borrow.Author.Tests.{ltb-true, ltb-false, eqb-true, not-false}
use Rattle.paper.specs.Limits.{max_events, and_word}
use Rattle.general.specs.Cases.{contra, cases}
use Rattle.general.specs.Below.{some_of}
use Rattle.general.specs.Lists.{flat, All, all_append, append-all, all-flat, all_map, all-at, at_all, packed, packed_all}
use Rattle.sets.specs.Set.{has}
use Rattle.flat_chart.specs.Chart.{condition, milestone, response, include, exclude, set_of, Fit}
use Rattle.graph.specs.Steps.{is_open, after}
use Rattle.flat_chart.specs.Flat.{FlatChart}
use Rattle.graph.specs.Flat.{Marking}
use Rattle.book.specs.Text.{Snap, holds}
use Rattle.book.specs.Book.{text_of, no_rule}
use Rattle.book.specs.Firing.{fires, triggered, allowed}
use Rattle.book.specs.declared.Rule.{Rule}
use Rattle.book.specs.declared.Trigger.{Trigger}
use Rattle.book.specs.declared.Trigger.TheVariants.{None, Completed, BecomeYes, BecomeNo}
use Rattle.book.specs.declared.Sense.{Sense}
use Rattle.book.specs.declared.Sense.TheVariants.{NoCondition, AsWritten, Negated}
use Rattle.order_theory.specs.Order.{Counted}
use Rattle.order_theory.specs.Settle.{Settled}
use Rattle.rule_order.specs.Rules.{counted, net_of, acts_of}
use Rattle.deriver.specs.Matching.{mark_of}
use Rattle.derived.specs.Derived.{executed_mark, included_mark, answered_mark, listed, inclusion, responding, answering, derived_text, derived_book, derived_rules, derived-text, join, parts}
use Rattle.agreement.specs.Matching.{match-included, match-answered}
use Rattle.agreement.specs.Texts.{text-open}
use Rattle.agreement.specs.Settling.{Fired, Writes, Idle, all-wrote, stayed}
use Rattle.smaller.specs.Staying.{named, executed_stays, stays, new_mark, smaller_marks}
use Rattle.smaller.specs.Numbering.{stays-executed, stays-included, stays-answered, new-low, old_mark, new-old}
use Rattle.smaller.specs.Clauses.{Clause, alone, guarded, words_of, spoken_from, spoken, clauses_for, text-spoken, lessened}
use Rattle.smaller.specs.Smaller.{smaller_clauses, smaller_text, has_text, new_condition, restated, reduced, smaller_rules, smaller_book}
use Rattle.smaller.specs.Numbers.{smaller-text}
use Rattle.smaller_agreement.specs.Through.{through, through-past, Quiet, quiet-after}
use Rattle.smaller_agreement.proofs.Through.{through-at, through-new}
use Rattle.smaller_agreement.specs.Settling.{said, all_said, Low, spoken-holds}

-- ---- lists: what holds of all parts holds of each part, and two statements together

module _ {A B : Type 0} (f : A → List B) (Q : B → Type 0) where
  all-packed : (l : List A) → All Q (packed f l) → All (λ x. All Q (f x)) l
  unfolding packed
  all-packed [] a = tt
  all-packed (x ∷ l) a = let t = append-all Q (f x) (packed f l) a in (t.0, all-packed l t.1)

all_both : {A : Type 0} (P Q : A → Type 0) (l : List A) → All P l → All Q l → All (λ x. P x × Q x) l
all_both P Q [] p q = tt
all_both P Q (x ∷ l) p q = ((p.0, q.0), all_both P Q l p.1 q.1)

said-append : (s : Snap) (k l : List Clause) → all_said s (k ++ l) ≡ (all_said s k && all_said s l)
unfolding all_said
said-append s [] l = refl
said-append s (x ∷ k) l = rw (said-append s k l) (sym (and_assoc (said s x) (all_said s k) (all_said s l)))

-- a mark that is asked for: a dropped one reads yes
module _ (stay : ℕ → Bool) (new : ℕ → ℕ) (s t : Snap) (kept : (k : ℕ) → stay k ≡ true → t (new k) ≡ s k) where
  abbrev Yes : ℕ → Type 0
  Yes k = stay k ≡ false → s k ≡ true

  abbrev Reads : Clause → Type 0
  Reads (alone k) = Yes k
  Reads (guarded i k) = Yes i × Yes k

  -- a clause says what becomes of it
  said-lessened : (x : Clause) → Reads x → all_said t (lessened stay new x) ≡ said s x
  unfolding all_said said lessened
  said-lessened (alone k) y = cases (stay k) (λ a. rw a (rw (kept k a) (and-true (s k)))) (λ a. rw a (sym (y a)))
  said-lessened (guarded i k) y =
      cases (stay k)
      (λ a. cases (stay i)
      (λ b. rw (a, b) (rw (kept i b, kept k a) (and-true (not (s i) || s k))))
      (λ b. rw (a, b) (rw (kept k a, y.0 b) (and-true (s k)))))
      (λ a. rw (a, y.1 a) (sym (or-true (not (s i)))))

  said_packed : (l : List Clause) → All Reads l → all_said t (packed (lessened stay new) l) ≡ all_said s l
  unfolding packed all_said
  said_packed [] h = refl
  said_packed (x ∷ l) h = said-append t (lessened stay new x) (packed (lessened stay new) l) ∙ rw (said-lessened x h.0, said_packed l h.1)

  low-lessened : ((k : ℕ) → new k ≤ k) → (x : Clause) → Low x → All Low (lessened stay new x)
  unfolding lessened
  low-lessened d (alone k) h = cases (stay k) (λ a. rw a (let z : new k ≤ k = d k in omega arith, tt)) (λ a. rw a tt)
  low-lessened d (guarded i k) h =
      let z : new k ≤ k = d k in
      let y : new i ≤ i = d i in
      let u : new k < and_word = omega (arith, h.1) in
      let v : new i < and_word = omega (arith, h.0) in
      cases (stay k) (λ a. cases (stay i) (λ b. rw (a, b) ((v, u), tt)) (λ b. rw (a, b) (u, tt))) (λ a. rw a tt)

-- no clause exactly if no word
some_words : (b : Bool) (x : Clause) (l : List Clause) → 1 ≤ length (spoken_from b (x ∷ l))
unfolding spoken_from words_of
some_words b (alone k) l = omega arith
some_words b (guarded i k) l = omega arith

module _ (c : FlatChart) (m : Marking) (fit : Fit c) (now : Marking) (quiet : Quiet c m now) (e : ℕ) (he : e < c.count) where
  abbrev n : ℕ
  n = c.count

  abbrev clauses : List Clause
  clauses = clauses_for n e (set_of c condition e) (set_of c milestone e)

  abbrev full : Snap
  full = mark_of c now

  few : n ≤ max_events
  few = fit.few

  listed-all : (P : Clause → Type 0) (g : ℕ → List Clause) (s : ℕ) → ((f : ℕ) → f < n → has s f ≡ true → All P (g f)) → All P (flat n (listed g s))
  listed-all P g s h = all-flat P n (listed g s) (λ f i. cases (has s f) (λ t. rw t (h f i t)) (λ t. rw t tt))

  clauses-low : All Low clauses
  unfolding clauses_for
  clauses-low =
      let b : n ≤ max_events = few in (
        omega arith,
        all_append Low (flat n (listed _ (set_of c condition e))) _
            (listed-all Low _ (set_of c condition e) (λ f i t. ((omega arith, omega arith), tt)))
            (listed-all Low _ (set_of c milestone e) (λ f i t. ((omega arith, omega arith), tt))),
      )

  -- ---- the marks of the clauses: a condition's executed mark stays, and a dropped included or answered mark reads yes

  included-yes : (f : ℕ) → f < n → stays c m (included_mark n f) ≡ false → full (included_mark n f) ≡ true
  included-yes f h z = match-included c now f h ∙ quiet.included f h (sym (stays-included c m f h) ∙ z)

  answered-yes : (f : ℕ) → f < n → stays c m (answered_mark n f) ≡ false → full (answered_mark n f) ≡ true
  answered-yes f h z = match-answered c now f h ∙ rw (quiet.answered f h (sym (stays-answered c m f h) ∙ z))

  executed-yes : (f : ℕ) → f < n → has (set_of c condition e) f ≡ true → stays c m (executed_mark n f) ≡ false → full (executed_mark n f) ≡ true
  unfolding executed_stays named
  executed-yes f h t z = contra (some_of n (λ g. has (set_of c condition g) f) e he t) (sym (stays-executed c m f h) ∙ z)

  abbrev Read : Clause → Type 0
  Read = Reads (stays c m) (new_mark c m) full (through c m full) (through-new c m full)

  clauses-read : All Read clauses
  unfolding clauses_for
  clauses-read = (
    included-yes e he,
    all_append Read (flat n (listed _ (set_of c condition e))) _
        (listed-all Read _ (set_of c condition e) (λ f i t. ((included-yes f i, executed-yes f i t), tt)))
        (listed-all Read _ (set_of c milestone e) (λ f i t. ((included-yes f i, answered-yes f i), tt))),
  )

  full-holds : holds full (derived_text c e) ≡ all_said full clauses
  unfolding derived_text clauses_for
  full-holds = rw (← text-spoken n e (set_of c condition e) (set_of c milestone e)) (spoken-holds full _ _ clauses-low)

  clauses-same : all_said (through c m full) (smaller_clauses c m e) ≡ all_said full clauses
  unfolding smaller_clauses
  clauses-same = said_packed (stays c m) (new_mark c m) full (through c m full) (through-new c m full) clauses clauses-read

  smaller-low : All Low (smaller_clauses c m e)
  unfolding smaller_clauses
  smaller-low =
      packed_all (lessened (stays c m) (new_mark c m)) Low Low
      (low-lessened (stays c m) (new_mark c m) full (through c m full) (through-new c m full) (new-low c m)) clauses clauses-low

  -- what is left of a text says what the text says
  pub text_same : has_text c m e ≡ true → holds (through c m full) (smaller_text c m e) ≡ holds full (derived_text c e)
  unfolding has_text smaller_text spoken_from
  text_same t = go (smaller_clauses c m e) t smaller-low ∙ clauses-same ∙ sym full-holds
    where
      go : (l : List Clause) → not (eqb (length (spoken l)) 0) ≡ true → All Low l → holds (through c m full) (spoken l) ≡ all_said (through c m full) l
      go [] z h = contra z refl
      go (x ∷ l) z h = spoken-holds (through c m full) x l h

  -- and a text of which nothing is left holds
  pub text-gone : has_text c m e ≡ false → holds full (derived_text c e) ≡ true
  unfolding has_text smaller_text all_said spoken_from
  text-gone t = full-holds ∙ sym clauses-same ∙ go (smaller_clauses c m e) t
    where
      go : (l : List Clause) → not (eqb (length (spoken l)) 0) ≡ false → all_said (through c m full) l ≡ true
      go [] z = refl
      go (x ∷ l) z = absurd (let q : length (spoken (x ∷ l)) ≡ 0 = eqb-true (length (spoken (x ∷ l))) 0 (not-false (eqb (length (spoken (x ∷ l))) 0) z) in omega (arith, some_words true x l))

  -- so it holds exactly if the event is open, and an event without a text is open
  pub smaller-open : has_text c m e ≡ true → holds (through c m full) (smaller_text c m e) ≡ is_open c now e
  smaller-open t = text_same t ∙ text-open c fit now e he

  pub gone-open : has_text c m e ≡ false → is_open c now e ≡ true
  gone-open t = sym (text-open c fit now e he) ∙ text-gone t

-- ---- one step

module _ (c : FlatChart) (m : Marking) (fit : Fit c) (now : Marking) (quiet : Quiet c m now) (e : ℕ) (he : e < c.count) where
  abbrev next : Marking
  next = after c now e

  abbrev begun : Snap
  begun = through c m (mark_of c now)

  abbrev ended : Snap
  ended = through c m (mark_of c next)

  -- fires in the full book, and in the smaller one
  abbrev full_fires : Rule → Bool
  full_fires r = Fired c fit now e he r

  abbrev small_fires : Rule → Bool
  small_fires x = triggered begun e x.trigger ended && allowed (text_of (smaller_book c m)) x.sense ended

  quiet_next : Quiet c m next
  quiet_next = quiet-after c m quiet e he

  -- ---- the full book's rules: no trigger or a completion, and conditions that the book has

  abbrev Plain : Trigger → Type 0
  Plain None = Unit {0}
  Plain (Completed d) = Unit {0}
  Plain (BecomeYes k) = ⊥
  Plain (BecomeNo k) = ⊥

  abbrev Asks : Sense → Type 0
  Asks NoCondition = Unit {0}
  Asks (AsWritten k) = k < c.count
  Asks (Negated k) = k < c.count

  abbrev Known : Rule → Type 0
  Known r = Plain r.trigger × Asks r.sense

  all_known : All Known (derived_rules c)
  unfolding inclusion responding answering
  all_known =
      join c Known (record {
        inclusions = λ d i f h. cases (has (set_of c include d) f) (λ x. rw x ((tt, tt), tt)) (λ x. cases (has (set_of c exclude d) f) (λ y. rw (x, y) ((tt, tt), tt)) (λ y. rw (x, y) tt));
        responses = λ d i f h. cases (has (set_of c response d) f) (λ x. rw x ((tt, tt), tt)) (λ x. rw x tt);
        answers = λ d i. cases (has (set_of c response d) d) (λ x. rw x tt) (λ x. rw x ((tt, tt), tt));
        executed = λ d i. (tt, tt);
        opened = λ d i. (tt, i);
        closed = λ d i. (tt, i);
      })

  -- ---- a rule that stays fires as it does in the full book

  trigger-same : (t : Trigger) → Plain t → triggered begun e t ended ≡ triggered (mark_of c now) e t (mark_of c next)
  unfolding triggered
  trigger-same None p = refl
  trigger-same (Completed d) p = refl
  trigger-same (BecomeYes k) p = absurd p
  trigger-same (BecomeNo k) p = absurd p

  as_written : (k : ℕ) → k < c.count → has_text c m k ≡ true → holds ended (text_of (smaller_book c m) (new_condition c m k)) ≡ holds (mark_of c next) (text_of (derived_book c) k)
  as_written k h t = rw (smaller-text c m k h t, derived-text c k h) (text_same c m fit next quiet_next k h t)

  unasked : (k : ℕ) → k < c.count → has_text c m k ≡ false → holds (mark_of c next) (text_of (derived_book c) k) ≡ true
  unasked k h t = rw (derived-text c k h) (text-gone c m fit next quiet_next k h t)

  -- x is r with its new numbers, and is allowed alike
  record Says (r : Rule) (g : Sense) (x : Rule) : Type 0 where
    trigger : x.trigger ≡ r.trigger
    sense : allowed (text_of (smaller_book c m)) x.sense ended ≡ allowed (text_of (derived_book c)) g (mark_of c next)
    effect : x.effect ≡ r.effect
    target : x.target ≡ new_mark c m r.target

  says : (r : Rule) (g : Sense) → Asks g → All (Says r g) (restated c m r g)
  unfolding restated allowed
  says r NoCondition a = (record { trigger = refl; sense = refl; effect = refl; target = refl }, tt)
  says r (AsWritten k) a =
      cases (has_text c m k)
      (λ t. rw t (record { trigger = refl; sense = as_written k a t; effect = refl; target = refl }, tt))
      (λ t. rw t (record { trigger = refl; sense = sym (unasked k a t); effect = refl; target = refl }, tt))
  says r (Negated k) a =
      cases (has_text c m k)
      (λ t. rw t (record { trigger = refl; sense = ap not (as_written k a t); effect = refl; target = refl }, tt))
      (λ t. rw t tt)

  fires-same : (r x : Rule) → Known r → Says r r.sense x → small_fires x ≡ full_fires r
  fires-same r x k s = rw (s.trigger, s.sense, trigger-same r.trigger k.0)

  -- ---- what fires has written

  abbrev SmallWrites : Rule → Type 0
  SmallWrites x = small_fires x ≡ true → ended x.target ≡ x.effect

  reduced-writes : (r : Rule) → Known r × Writes c fit now e he r → All SmallWrites (reduced c m r)
  unfolding reduced
  reduced-writes r k =
      cases (stays c m r.target)
      (λ t. rw t (all_map (Says r r.sense) SmallWrites
      (λ x s f. rw (s.target, s.effect) (through-new c m (mark_of c next) r.target t ∙ k.1 (sym (fires-same r x k.0 s) ∙ f)))
      (restated c m r r.sense) (says r r.sense k.0.1)))
      (λ t. rw t tt)

  small-wrote : All SmallWrites (smaller_rules c m)
  unfolding smaller_rules
  small-wrote =
      packed_all (reduced c m) (λ r. Known r × Writes c fit now e he r) SmallWrites reduced-writes (derived_rules c)
      (all_both Known (Writes c fit now e he) (derived_rules c) all_known (join c (Writes c fit now e he) (all-wrote c fit now e he)))

  -- ---- and what no firing rule targets is as it was

  abbrev SmallIdle : ℕ → Rule → Type 0
  SmallIdle j x = x.target ≡ j → small_fires x ≡ false

  idle-sense : (j : ℕ) (r : Rule) (g : Sense) → Plain r.trigger → Asks g → new_mark c m r.target ≡ j → All (SmallIdle j) (restated c m r g)
      → (triggered (mark_of c now) e r.trigger (mark_of c next) && allowed (text_of (derived_book c)) g (mark_of c next)) ≡ false
  unfolding restated allowed
  idle-sense j r NoCondition p a q h = rw (trigger-same r.trigger p) at (h.0 q)
  idle-sense j r (AsWritten k) p a q h =
      cases (has_text c m k)
      (λ t. rw (trigger-same r.trigger p, as_written k a t) at ((rw t at h).0 q))
      (λ t. rw (unasked k a t) (rw (trigger-same r.trigger p) at ((rw t at h).0 q)))
  idle-sense j r (Negated k) p a q h =
      cases (has_text c m k)
      (λ t. rw (trigger-same r.trigger p, as_written k a t) at ((rw t at h).0 q))
      (λ t. rw (unasked k a t) (and-false (triggered (mark_of c now) e r.trigger (mark_of c next))))

  reduced-idle : (j k : ℕ) → stays c m k ≡ true → new_mark c m k ≡ j → (r : Rule) → Known r × All (SmallIdle j) (reduced c m r) → Idle c fit now e he k r
  unfolding reduced
  reduced-idle j k t q r h u = idle-sense j r r.sense h.0.0 h.0.1 (rw u q) (rw (let s : stays c m r.target ≡ true = rw u t in s) at h.1)

  small-stayed : (j : ℕ) → All (SmallIdle j) (smaller_rules c m) → ended j ≡ begun j
  unfolding smaller_rules
  small-stayed j h =
      cases (ltb j (smaller_marks c m))
      (λ l. let i : j < smaller_marks c m = ltb-true j (smaller_marks c m) l in
      let (t, q) = new-old c m j i in
      let k : ℕ = old_mark c m j in
      let a : All (λ r. Known r × All (SmallIdle j) (reduced c m r)) (derived_rules c) =
      all_both Known (λ r. All (SmallIdle j) (reduced c m r)) (derived_rules c) all_known (all-packed (reduced c m) (SmallIdle j) (derived_rules c) h) in
      through-at c m (mark_of c next) j i
      ∙ stayed c fit now e he k (parts c (Idle c fit now e he k) (all_map (λ r. Known r × All (SmallIdle j) (reduced c m r)) (Idle c fit now e he k) (reduced-idle j k t q) (derived_rules c) a))
      ∙ sym (through-at c m (mark_of c now) j i))
      (λ l. let i : smaller_marks c m ≤ j = ltb-false j (smaller_marks c m) l in through-past c m (mark_of c next) j i ∙ sym (through-past c m (mark_of c now) j i))

  -- a rule that does not count for e waits for another completion, so it does not fire
  uncounted-idle : (x : Rule) → counted e x.trigger ≡ false → small_fires x ≡ false
  unfolding counted triggered
  uncounted-idle x h = go x.trigger h
    where
      go : (t : Trigger) → counted e t ≡ false → (triggered begun e t ended && allowed (text_of (smaller_book c m)) x.sense ended) ≡ false
      go None z = contra refl z
      go (Completed d) z = rw z
      go (BecomeYes k) z = contra refl z
      go (BecomeNo k) z = contra refl z

  pub smaller-settled : Settled (net_of (smaller_book c m) e) (acts_of (smaller_book c m) (through c m (mark_of c now)) e) (through c m (mark_of c now)) (through c m (mark_of c (after c now e)))
  unfolding net_of acts_of smaller_book fires
  smaller-settled =
      record {
        wrote = λ r h f. all-at SmallWrites no_rule (smaller_rules c m) small-wrote r h.0 f;
        stayed = λ j h. small-stayed j (at_all (SmallIdle j) no_rule (smaller_rules c m) (λ r i q. waits j h r i q));
      }
    where
      waits : (j : ℕ)
          → ((r : ℕ) → Counted (net_of (smaller_book c m) e) r → (net_of (smaller_book c m) e).target r ≡ j → (acts_of (smaller_book c m) begun e).fires ended r ≡ false)
          → (r : ℕ) → r < length (smaller_rules c m) → SmallIdle j (get_or (smaller_rules c m) r no_rule)
      waits j h r i q =
          cases (counted e (get_or (smaller_rules c m) r no_rule).trigger) (λ x. h r (i, x) q) (λ x. uncounted-idle (get_or (smaller_rules c m) r no_rule) x)
