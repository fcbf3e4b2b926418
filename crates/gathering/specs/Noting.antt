-- What the gathering loops make of the tables: a mark noted in a set, a rule taken into a table, and each loop's turn. Assumes nothing.
use Rattle.std.specs.Prelude.{ℕ, ◌+◌, ◌-◌, ◌*◌, ◌≤◌, ◌<◌, ◌≡◌, refl, Bool, false, not, ◌&&◌, ◌||◌, List, ltb, get_or, set, replicate}
use Rattle.std.proofs.Math.Path.{sym}
use Rattle.std.proofs.Common.{ap, ◌∙◌, arith, length-set, get_or-set_same, get_or-set_other, eqb-true, eq-eqb, ne_eqb, ltb-true, ltb-false, lt-ltb, le-ltb}
use Rattle.std.proofs.Math.Bool.{true, cond, and-false, or-false}
use Rattle.std.proofs.Math.Dec.{eqb}
use Rattle.std.proofs.Math.ListN.{length}
use Rattle.std.proofs.lemmas.List.{length-replicate}
use Rattle.std.proofs.Math.Seq.{ext_get_or}
use Rattle.std.proofs.lemmas.Bool.{eqb-false}
use Rattle.paper.specs.Limits.{max_events, rule_size, word_size}
use Rattle.general.specs.Cases.{cases, same_test, both}
use Rattle.general.specs.Below.{some, some-step, some-none}
use Rattle.general.specs.Scan.{at-end, ltb-more}
use Rattle.general.specs.Tables.{length-tabulate, get_or-tabulate, zeros-at}
use Rattle.wire.specs.Wire.{u16_at}
use Rattle.sets.specs.Set.{has, union, only, put_if, collect}
use Rattle.sets.specs.Laws.{ext, none-zero, has-union, has-only, has-collect}
use Rattle.sets.specs.Collecting.{collect-same}
use Rattle.book.specs.Book.{Book, rule_of, text_of}
use Rattle.book.specs.Image.{stages_in, rules_in, conditions_in, rule_place, condition_place, rule_from, book_of}
use Rattle.book.specs.Read.{words_from, length-words, get_or-words, rules-count, rule-read}
use Rattle.book.specs.Reading.{span_from}
use Rattle.book.specs.WellRead.{Opened, rule-inside, span-text, span-asks}
use Rattle.book.specs.declared.Counts.{Counts}
use Rattle.book.specs.declared.Rule.{Rule}
use Rattle.book.specs.declared.Span.{Span}
use Rattle.book.specs.declared.Trigger.{Trigger}
use Rattle.book.specs.declared.Trigger.TheVariants.{None, Completed, BecomeYes, BecomeNo}
use Rattle.derived.specs.Derived.{executed_mark, included_mark, answered_mark}
use Rattle.gathering.specs.Gathering.{completes, adds, passing, gathered_by, named_in, rows_below, gathered}
use Rattle.gathering.specs.Gathering.{gathered_includes, gathered_excludes, gathered_responses, gathered_conditions, gathered_milestones}

-- ---- a mark noted in a set: s, and where `on` the event whose mark m is, of n marks that begin at `from`

unfoldable pub noting : ℕ → ℕ → ℕ → ℕ → Bool → ℕ
noting n from s m on = union s (collect n (λ f. on && eqb (from + f) m))

module _ (n from s m : ℕ) (on : Bool) where
  has-noting : (f : ℕ) → has (noting n from s m on) f ≡ (has s f || (ltb f n && (on && eqb (from + f) m)))
  unfolding noting
  has-noting f = has-union s (collect n (λ f. on && eqb (from + f) m)) f ∙ rw (has-collect n (λ f. on && eqb (from + f) m) f)

  -- no event's
  noting-none : ((f : ℕ) → f < n → from + f ≡ m → ⊥) → s ≡ noting n from s m on
  noting-none h =
      ext s (noting n from s m on) (λ f. sym (has-noting f ∙ cases (ltb f n)
      (λ t. rw (t, ne_eqb (from + f) m (h f (ltb-true f n t)), and-false on) (or-false (has s f)))
      (λ t. rw t (or-false (has s f)))))

  pub noting-before : m < from → s ≡ noting n from s m on
  noting-before h = noting-none (λ f l e. omega arith)

  pub noting-behind : from ≤ m → n ≤ m - from → s ≡ noting n from s m on
  noting-behind h l = noting-none (λ f i e. omega arith)

  pub noting-at : (r : ℕ) → from ≤ m → m - from < n → r ≡ put_if s (m - from) on → r ≡ noting n from s m on
  noting-at r h l e = e ∙ ext (put_if s (m - from) on) (noting n from s m on) (λ f. put on f ∙ sym (has-noting f))
    where
      there : (f : ℕ) → eqb (m - from) f ≡ (ltb f n && eqb (from + f) m)
      there f = same_test (eqb (m - from) f) (ltb f n && eqb (from + f) m)
          (λ t. let z : m - from ≡ f = eqb-true (m - from) f t in rw (lt-ltb f n (omega arith), eq-eqb (from + f) m (omega arith)))
          (λ t. let u = both (ltb f n) (eqb (from + f) m) t in let z : from + f ≡ m = eqb-true (from + f) m u.1 in eq-eqb (m - from) f (omega arith))

      put : (b : Bool) (f : ℕ) → has (put_if s (m - from) b) f ≡ (has s f || (ltb f n && (b && eqb (from + f) m)))
      put true f = has-union s (only (m - from)) f ∙ rw (has-only (m - from) f, there f)
      put false f = sym (rw (and-false (ltb f n)) (or-false (has s f)))

  -- one turn more of a loop over what may name marks
  pub noting-more : (k : ℕ) (t : ℕ → ℕ → Bool) → s ≡ collect n (λ f. some k (t f)) → ((f : ℕ) → f < n → t f k ≡ (on && eqb (from + f) m))
      → noting n from s m on ≡ collect n (λ f. some (k + 1) (t f))
  noting-more k t e h =
      ext (noting n from s m on) (collect n (λ f. some (k + 1) (t f))) (λ f.
      has-noting f ∙ rw (e, has-collect n (λ f. some k (t f)) f, has-collect n (λ f. some (k + 1) (t f)) f, some-step k (t f))
      (cases (ltb f n) (λ l. rw (l, h f (ltb-true f n l))) (λ l. rw l)))

-- before the first turn
pub noting-start : (n : ℕ) (t : ℕ → ℕ → Bool) → 0 ≡ collect n (λ f. some 0 (t f))
noting-start n t =
    sym (none-zero _ (λ f. has-collect n (λ f. some 0 (t f)) f ∙ rw (some-none 0 (t f) (λ p l. absurd (omega arith))) (and-false (ltb f n))))

-- ---- rows put into a table of empty sets, one after another

module _ (row : ℕ → ℕ) where
  rows_at : (k e : ℕ) → e < max_events → get_or (rows_below k row) e 0 ≡ cond (ltb e k) (row e) 0
  unfolding rows_below
  rows_at k e h = get_or-tabulate max_events (λ e. cond (ltb e k) (row e) 0) e 0 h

  rows-size : (k : ℕ) → length (rows_below k row) ≡ max_events
  unfolding rows_below
  rows-size k = length-tabulate max_events (λ e. cond (ltb e k) (row e) 0)

  pub rows_none : (k : ℕ) → ((e : ℕ) → e < k → 0 ≡ row e) → replicate max_events 0 ≡ rows_below k row
  rows_none k empty =
      ext_get_or 0 (replicate max_events 0) (rows_below k row) (length-replicate {A = ℕ} max_events 0 ∙ sym (rows-size k))
      (λ e h. let i : e < max_events = rw (length-replicate {A = ℕ} max_events 0) at h in
      zeros-at max_events e ∙ sym (rows_at k e i ∙ cases (ltb e k) (λ t. rw t (sym (empty e (ltb-true e k t)))) (λ t. rw t)))

  pub rows_more : (k v : ℕ) (table : List ℕ) → k < max_events → table ≡ rows_below k row → v ≡ row k → set table k v ≡ rows_below (k + 1) row
  rows_more k v table l p q =
      ext_get_or 0 (set table k v) (rows_below (k + 1) row) (size ∙ sym (rows-size (k + 1)))
      (λ e h. let i : e < max_events = rw size at h in at e i ∙ sym (rows_at (k + 1) e i))
    where
      size : length (set table k v) ≡ max_events
      size = length-set table k v ∙ rw p (rows-size k)

      at : (e : ℕ) → e < max_events → get_or (set table k v) e 0 ≡ cond (ltb e (k + 1)) (row e) 0
      at e h =
          cases (eqb e k)
          (λ z. rw (eqb-true e k z, get_or-set_same table k v 0 (rw (p, rows-size k) l), lt-ltb k (k + 1) (omega arith), q))
          (λ z. rw (get_or-set_other table k e v 0 (eqb-false e k z), ltb-more e k (eqb-false e k z), p) (rows_at k e h))

  pub rows_end : (k n : ℕ) (table : List ℕ) → k ≤ n → n ≤ k → table ≡ rows_below k row → table ≡ rows_below n row
  rows_end k n table h l = at-end (λ (x : ℕ). table ≡ rows_below x row) h l

-- ---- a rule taken into a table

-- the stage whose completion a trigger waits for, or none
unfoldable pub stage_of : Trigger → ℕ
stage_of None = max_events
stage_of (Completed s) = s
stage_of (BecomeYes m) = max_events
stage_of (BecomeNo m) = max_events

completes-stage : (e : ℕ) (t : Trigger) → e < max_events → completes e t ≡ eqb e (stage_of t)
unfolding completes stage_of
completes-stage e None h = sym (ne_eqb e max_events (λ z. omega arith))
completes-stage e (Completed s) h = refl
completes-stage e (BecomeYes m) h = sym (ne_eqb e max_events (λ z. omega arith))
completes-stage e (BecomeNo m) h = sym (ne_eqb e max_events (λ z. omega arith))

-- whether a rule's effect is b
abbrev pub has_effect : Bool → Rule → Bool
has_effect b r = cond b r.effect (not r.effect)

unfoldable pub taking : ℕ → ℕ → Bool → Rule → List ℕ → List ℕ
taking n from b r table =
    cond (ltb (stage_of r.trigger) n) (set table (stage_of r.trigger) (noting n from (get_or table (stage_of r.trigger) 0) r.target (has_effect b r))) table

pub taking-past : (n from : ℕ) (b : Bool) (r : Rule) (table : List ℕ) (e : ℕ) → e ≡ stage_of r.trigger → n ≤ e → table ≡ taking n from b r table
unfolding taking
taking-past n from b r table e p h = rw (← p, le-ltb e n h)

pub taking-in : (n from : ℕ) (b : Bool) (r : Rule) (table next : List ℕ) (e : ℕ) → e ≡ stage_of r.trigger → e < n
    → next ≡ set table e (noting n from (get_or table e 0) r.target (has_effect b r)) → next ≡ taking n from b r table
unfolding taking
taking-in n from b r table next e p h q = q ∙ rw (← p, lt-ltb e n h)

-- ---- a table after the first k rules

module _ (mark : ℕ → ℕ → ℕ) (b : Bool) (n : ℕ) (book : Book) where
  abbrev row_after : ℕ → ℕ → ℕ
  row_after k e = collect n (λ f. some k (λ i. adds e b (mark n f) (rule_of book i)))

  unfoldable pub rows_after : ℕ → List ℕ
  rows_after k = rows_below n (row_after k)

  after-at : (k e : ℕ) → e < max_events → get_or (rows_after k) e 0 ≡ cond (ltb e n) (row_after k e) 0
  unfolding rows_after
  after-at k = rows_at (row_after k) n

  after-size : (k : ℕ) → length (rows_after k) ≡ max_events
  unfolding rows_after
  after-size k = rows-size (row_after k) n

  pub after_none : replicate max_events 0 ≡ rows_after 0
  unfolding rows_after
  after_none = rows_none (row_after 0) n (λ e h. noting-start n (λ f i. adds e b (mark n f) (rule_of book i)))

  module _ (few : n ≤ max_events) (k : ℕ) (r : Rule) (read : r ≡ rule_of book k) where
    abbrev stage : ℕ
    stage = stage_of r.trigger

    -- a rule on another completion, or on none, adds nothing
    kept : (e : ℕ) → e < max_events → eqb e stage ≡ false → row_after (k + 1) e ≡ row_after k e
    unfolding adds
    kept e h z =
        collect-same n _ _ (λ f l. some-step k (λ i. adds e b (mark n f) (rule_of book i))
        ∙ rw (← read, completes-stage e r.trigger h, z) (or-false (some k (λ i. adds e b (mark n f) (rule_of book i)))))

    pub after_more : (from : ℕ) → ((f : ℕ) → mark n f ≡ from + f) → (table : List ℕ) → table ≡ rows_after k → taking n from b r table ≡ rows_after (k + 1)
    unfolding taking adds
    after_more from place table p =
        ext_get_or 0 (taking n from b r table) (rows_after (k + 1)) (size ∙ sym (after-size (k + 1)))
        (λ e h. let i : e < max_events = rw size at h in row e i ∙ sym (after-at (k + 1) e i))
      where
        size : length (taking n from b r table) ≡ max_events
        size = cases (ltb stage n) (λ t. rw t (length-set table stage _ ∙ rw p (after-size k))) (λ t. rw (t, p) (after-size k))

        put : ℕ
        put = noting n from (get_or table stage 0) r.target (has_effect b r)

        -- the row of the completed stage
        noted : stage < n → noting n from (row_after k stage) r.target (has_effect b r) ≡ row_after (k + 1) stage
        noted l =
            noting-more n from (row_after k stage) r.target (has_effect b r) k (λ f i. adds stage b (mark n f) (rule_of book i)) refl
            (λ f h. rw (← read, completes-stage stage r.trigger (omega arith), eq-eqb stage stage refl, place f))

        row : (e : ℕ) → e < max_events → get_or (taking n from b r table) e 0 ≡ cond (ltb e n) (row_after (k + 1) e) 0
        row e h =
            cases (ltb stage n)
            (λ t. let l : stage < n = ltb-true stage n t in
            cases (eqb e stage)
            (λ z. let q : e ≡ stage = eqb-true e stage z in
            rw (t, q, get_or-set_same table stage put 0 (rw (p, after-size k) (omega arith)), p, after-at k stage (omega arith), lt-ltb stage n l) (noted l))
            (λ z. rw (t, get_or-set_other table stage e put 0 (eqb-false e stage z), p, after-at k e h, kept e h z)))
            (λ t. let l : n ≤ stage = ltb-false stage n t in
            rw (t, p, after-at k e h) (cases (ltb e n) (λ u. let i : e < n = ltb-true e n u in rw (u, kept e h (ne_eqb e stage (λ z. omega arith)))) (λ u. rw u)))

  pub after-end : (k : ℕ) (table : List ℕ) → k ≡ length book.rules → table ≡ rows_after k → table ≡ rows_below n (gathered_by mark b n book.rules)
  unfolding rows_after gathered_by passing
  after-end k table e p = p ∙ rw e

-- the three tables of a book of n stages, after its first k rules
pub record RulesTaken (n : ℕ) (book : Book) (k : ℕ) (includes excludes responses : List ℕ) : Type 0 where
  pub fits : k ≤ length book.rules
  pub included : includes ≡ rows_after included_mark true n book k
  pub excluded : excludes ≡ rows_after included_mark false n book k
  pub pending : responses ≡ rows_after answered_mark false n book k

module _ {n : ℕ} {book : Book} where
  pub taken_none : {i x r : List ℕ} → i ≡ replicate max_events 0 → x ≡ replicate max_events 0 → r ≡ replicate max_events 0 → RulesTaken n book 0 i x r
  taken_none p q s =
      record {
        fits = omega arith;
        included = p ∙ after_none included_mark true n book;
        excluded = q ∙ after_none included_mark false n book;
        pending = s ∙ after_none answered_mark false n book;
      }

  module _ {k : ℕ} {i x r : List ℕ} (t : RulesTaken n book k i x r) where
    pub taken_more : {rule : Rule} {i' x' r' : List ℕ} → n ≤ max_events → k < length book.rules → rule ≡ rule_of book k
        → i' ≡ taking n (2 * n) true rule i → x' ≡ taking n (2 * n) false rule x → r' ≡ taking n (3 * n) false rule r → RulesTaken n book (k + 1) i' x' r'
    taken_more {rule} few l e p q s =
        record {
          fits = omega arith;
          included = p ∙ after_more included_mark true n book few k rule e (2 * n) (λ f. refl) i t.included;
          excluded = q ∙ after_more included_mark false n book few k rule e (2 * n) (λ f. refl) x t.excluded;
          pending = s ∙ after_more answered_mark false n book few k rule e (3 * n) (λ f. refl) r t.pending;
        }

    pub taken-all : length book.rules ≤ k
        → (i ≡ rows_below n (gathered_includes n book.rules))
        × ((x ≡ rows_below n (gathered_excludes n book.rules)) × (r ≡ rows_below n (gathered_responses n book.rules)))
    taken-all l =
        let h = t.fits in
        let e : k ≡ length book.rules = omega arith in
        let u = after-end answered_mark false n book k r e t.pending in
        (after-end included_mark true n book k i e t.included, (after-end included_mark false n book k x e t.excluded, u))

-- ---- a text, word by word: the sets of the marks that its first i words name

unfoldable pub named_upto : (ℕ → ℕ → ℕ) → ℕ → List ℕ → ℕ → ℕ
named_upto mark n text i = collect n (λ f. some i (λ j. eqb (mark n f) (get_or text j 0)))

module _ (mark : ℕ → ℕ → ℕ) (n : ℕ) (text : List ℕ) where
  pub named_none : 0 ≡ named_upto mark n text 0
  unfolding named_upto
  named_none = noting-start n (λ f j. eqb (mark n f) (get_or text j 0))

  pub named_more : (from i s w : ℕ) → ((f : ℕ) → mark n f ≡ from + f) → s ≡ named_upto mark n text i → w ≡ get_or text i 0
      → noting n from s w true ≡ named_upto mark n text (i + 1)
  unfolding named_upto
  named_more from i s w place e q = noting-more n from s w true i (λ f j. eqb (mark n f) (get_or text j 0)) e (λ f h. rw (place f, q))

  pub named-all : (i s : ℕ) → i ≡ length text → s ≡ named_upto mark n text i → s ≡ named_in mark n text
  unfolding named_upto named_in passing
  named-all i s e p = p ∙ rw e

-- both sets of a text that lies in the image
pub record TextRead (s : List ℕ) (at count n i x y : ℕ) : Type 0 where
  pub fits : i ≤ count
  pub conditions : x ≡ named_upto executed_mark n (words_from s at count) i
  pub milestones : y ≡ named_upto answered_mark n (words_from s at count) i

module _ {s : List ℕ} {at count n : ℕ} where
  pub read_none : {x y : ℕ} → x ≡ 0 → y ≡ 0 → TextRead s at count n 0 x y
  read_none p q =
      record { fits = omega arith; conditions = p ∙ named_none executed_mark n (words_from s at count); milestones = q ∙ named_none answered_mark n (words_from s at count) }

  pub read_more : {i x y w x' y' : ℕ} → TextRead s at count n i x y → i < count → w ≡ u16_at s (at + word_size * i)
      → x' ≡ noting n n x w true → y' ≡ noting n (3 * n) y w true → TextRead s at count n (i + 1) x' y'
  read_more {i} {x} {y} {w} t l e p q =
      let z : w ≡ get_or (words_from s at count) i 0 = e ∙ sym (get_or-words s at count i l) in
      record {
        fits = omega arith;
        conditions = p ∙ named_more executed_mark n (words_from s at count) n i x w (λ f. refl) t.conditions z;
        milestones = q ∙ named_more answered_mark n (words_from s at count) (3 * n) i y w (λ f. refl) t.milestones z;
      }

  pub read_all : {i x y : ℕ} → TextRead s at count n i x y → count ≤ i
      → (x ≡ gathered_conditions n (words_from s at count)) × (y ≡ gathered_milestones n (words_from s at count))
  read_all {i} {x} {y} t l =
      let f = t.fits in
      let z : i ≡ count = omega arith in
      let e : i ≡ length (words_from s at count) = z ∙ sym (length-words s at count) in
      (named-all executed_mark n (words_from s at count) i x e t.conditions, named-all answered_mark n (words_from s at count) i y e t.milestones)

-- ---- of a well-formed image beside its counts

module _ {s : List ℕ} {h : Counts} (o : Opened s h) where
  pub stages-few : h.stages ≤ max_events
  stages-few = rw o.counts o.formed.headed.counted.stages

  pub rule-there : {k : ℕ} → k < h.rules → rule_place k + rule_size ≤ length s
  rule-there {k} l = rule-inside s o.formed k (rw o.counts at l)

  pub rules-more : {k : ℕ} {i x r i' x' r' : List ℕ} {rule : Rule} → RulesTaken h.stages (book_of s) k i x r → k < h.rules → rule ≡ rule_from s (rule_place k)
      → i' ≡ taking h.stages (2 * h.stages) true rule i → x' ≡ taking h.stages (2 * h.stages) false rule x
      → r' ≡ taking h.stages (3 * h.stages) false rule r → RulesTaken h.stages (book_of s) (k + 1) i' x' r'
  rules-more {k} t l e =
      let m : k < rules_in s = rw o.counts at l in
      taken_more t stages-few (rw (rules-count s) m) (e ∙ sym (rule-read s k m))

  -- the text of condition e, as its span says
  module _ {e : ℕ} (l : e < conditions_in s) {span : Span} {from : ℕ} (a : span ≡ span_from s (condition_place h.rules e))
      (b : from ≡ condition_place h.rules h.conditions) where
    pub text-asks : (from + word_size * span.start + word_size * span.count ≤ length s) × (h.stages ≤ max_events)
    text-asks = ((span-asks s h o e l span from a b).0, stages-few)

    pub text-named : {x y : ℕ} → x ≡ gathered_conditions h.stages (words_from s (from + word_size * span.start) span.count)
        → y ≡ gathered_milestones h.stages (words_from s (from + word_size * span.start) span.count)
        → (x ≡ gathered_conditions (stages_in s) (text_of (book_of s) e)) × (y ≡ gathered_milestones (stages_in s) (text_of (book_of s) e))
    text-named p q =
        let z : h.stages ≡ stages_in s = ap (λ (k : Counts). k.stages) o.counts in
        (p ∙ rw (z, span-text s h o e l span from a b), q ∙ rw (z, span-text s h o e l span from a b))

  pub rules-all : {k : ℕ} {i x r : List ℕ} → RulesTaken h.stages (book_of s) k i x r → h.rules ≤ k
      → (i ≡ rows_below (stages_in s) (gathered_includes (stages_in s) (book_of s).rules))
      × ((x ≡ rows_below (stages_in s) (gathered_excludes (stages_in s) (book_of s).rules)) × (r ≡ rows_below (stages_in s) (gathered_responses (stages_in s) (book_of s).rules)))
  rules-all t l = rw o.counts at (taken-all t (rw (rules-count s) (rw o.counts at l)))

-- both tables, after the texts of the events below e
pub record TextsRead (s : List ℕ) (e : ℕ) (x y : List ℕ) : Type 0 where
  pub fits : e ≤ stages_in s
  pub conditions : x ≡ rows_below e (λ f. gathered_conditions (stages_in s) (text_of (book_of s) f))
  pub milestones : y ≡ rows_below e (λ f. gathered_milestones (stages_in s) (text_of (book_of s) f))

pub texts-none : {s x y : List ℕ} → x ≡ replicate max_events 0 → y ≡ replicate max_events 0 → TextsRead s 0 x y
texts-none {s} p q =
    record { fits = omega arith; conditions = p ∙ rows_none _ 0 (λ e h. absurd (omega arith)); milestones = q ∙ rows_none _ 0 (λ e h. absurd (omega arith)) }

module _ {s : List ℕ} {h : Counts} (o : Opened s h) {e : ℕ} {x y : List ℕ} (t : TextsRead s e x y) where
  pub text-there : stages_in s ≤ conditions_in s → e < h.stages → e < conditions_in s
  text-there l i = let j : e < stages_in s = rw o.counts at i in omega arith

  pub texts-more : {c m : ℕ} {x' y' : List ℕ} → e < h.stages → c ≡ gathered_conditions (stages_in s) (text_of (book_of s) e) → m ≡ gathered_milestones (stages_in s) (text_of (book_of s) e)
      → x' ≡ set x e c → y' ≡ set y e m → TextsRead s (e + 1) x' y'
  texts-more {c} {m} i p q a b =
      let l : h.stages ≤ max_events = stages-few o in
      let j : e < stages_in s = rw o.counts at i in
      record {
        fits = omega arith;
        conditions = a ∙ rows_more _ e c x (omega arith) t.conditions p;
        milestones = b ∙ rows_more _ e m y (omega arith) t.milestones q;
      }

  pub texts-all : h.stages ≤ e
      → (x ≡ rows_below (stages_in s) (λ f. gathered_conditions (stages_in s) (text_of (book_of s) f)))
      × (y ≡ rows_below (stages_in s) (λ f. gathered_milestones (stages_in s) (text_of (book_of s) f)))
  texts-all i =
      let j : stages_in s ≤ e = rw o.counts at i in
      (rows_end _ e (stages_in s) x t.fits j t.conditions, rows_end _ e (stages_in s) y t.fits j t.milestones)

-- ---- the whole

pub gathered-whole : {s : List ℕ} {h : Counts} {c r m i x : List ℕ} → Opened s h
    → c ≡ rows_below (stages_in s) (λ e. gathered_conditions (stages_in s) (text_of (book_of s) e))
    → r ≡ rows_below (stages_in s) (gathered_responses (stages_in s) (book_of s).rules)
    → m ≡ rows_below (stages_in s) (λ e. gathered_milestones (stages_in s) (text_of (book_of s) e))
    → i ≡ rows_below (stages_in s) (gathered_includes (stages_in s) (book_of s).rules)
    → x ≡ rows_below (stages_in s) (gathered_excludes (stages_in s) (book_of s).rules)
    → record { count = h.stages; conditions = c; responses = r; milestones = m; includes = i; excludes = x; roles = replicate max_events 0 } ≡ gathered (book_of s)
unfolding gathered book_of
gathered-whole o p q u v w = rw (p, q, u, v, w, o.counts)
