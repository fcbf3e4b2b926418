-- Request (xi): smaller books. What derive_smaller writes, the table it hands back, which marks go, that the book runs as the full one does, and that it is never larger.
-- Stated of what the calls give. Assumes nothing.
use Rattle.std.specs.Prelude.{ℕ, ◌*◌, ◌≤◌, ◌<◌, ◌≡◌, ◌↔◌, Bool, true, false, List, ltb, length, get_or}
use Rattle.std.proofs.Common.{sym, subst, ◌∙◌, arith, ltb-true, ltb-false}
use Rattle.std.proofs.Math.Path.{ap}
use Rattle.std.proofs.Math.ListN.{get_or-eq_default}
use Rattle.paper.specs.Limits.{max_events, max_marks, no_mark}
use Rattle.paper.specs.Answers.{granted}
use Rattle.paper.specs.declared.Answer.{Answer}
use Rattle.general.specs.Cases.{contra, cases, not_so}
use Rattle.general.specs.Lists.{All, length-each}
use Rattle.flat_chart.specs.Chart.{Fit}
use Rattle.graph.specs.Fitness.{FitMarking}
use Rattle.flat_chart.specs.Flat.{FlatChart}
use Rattle.graph.specs.Flat.{Marking}
use Rattle.book.specs.Book.{Book}
use Rattle.book.specs.Image.{book_of, stages_in, marks_in}
use Rattle.book.specs.declared.Snapshot.{Snapshot}
use Rattle.order_theory.specs.Order.{counted_rules}
use Rattle.rule_order.specs.Nets.{rules_of}
use Rattle.judge.specs.Checking.{checking}
use Rattle.judge.proofs.Checking.{is-passed}
use Rattle.derived.specs.Derived.{executed_mark, included_mark, answered_mark, derived_condition, derived_book}
use Rattle.smaller.specs.Staying.{executed-goes, included-goes, answered-goes, stays, new_mark, smaller_marks, mark_table}
use Rattle.smaller.specs.Numbering.{tally-rises, stays-stage, stays-executed, stays-included, stays-answered, stays-below, new-stage, new-below, new-low, old_mark, new-old, marks-fewer, table-length, table_at, table_stays}
use Rattle.smaller.specs.Numbers.{conditions-left}
use Rattle.smaller.specs.Smaller.{smaller_book}
use Rattle.smaller.specs.Formed.{rules-fewer, conditions-fewer}
use Rattle.smaller.proofs.Formed.{words-fewer, image-fewer}
use Rattle.smaller.specs.Whole.{same_bytes, all_stay}
use Rattle.deriver.specs.Matching.{matching_of, mark_of}
use Rattle.smaller_deriver.specs.Calling.{smaller_image, deriving_smaller}
use Rattle.smaller_agreement.specs.Through.{through-past}
use Rattle.smaller_agreement.specs.Passing.{said, smaller-passes}
use Rattle.runner.specs.Completion.{written-fit}
use Rattle.index_builder.specs.Building.{build-granted}
use Rattle.promises.specs.Smaller.{Ordered, Alongside, smaller_snapshot, small_one, small-long, small_at, small-new, full_at}
use Rattle.promises.proofs.Smaller.{alongside}
use Rattle.promises.specs.SmallerBooks.{granted-smaller, Starts, written_smaller, SmallerBooks}

-- ---- the table, of the numbers that stay

module _ (c : FlatChart) (m : Marking) (few : c.count ≤ max_events) where
  abbrev at : ℕ → ℕ
  at k = get_or (mark_table c m) k no_mark

  past : (k : ℕ) → max_marks ≤ k → at k ≡ no_mark
  past k h = get_or-eq_default (mark_table c m) no_mark (rw (table-length c m) h)

  dropped : (k : ℕ) → stays c m k ≡ false → at k ≡ no_mark
  dropped k z = cases (ltb k max_marks) (λ l. table_at c m k no_mark (ltb-true k max_marks l) ∙ rw z) (λ l. past k (ltb-false k max_marks l))

  kept : (k : ℕ) → stays c m k ≡ true → at k ≡ new_mark c m k
  kept k t = table_stays c m few k no_mark t

  -- no new number is 65,535
  none-goes : (k : ℕ) → at k ≡ no_mark → stays c m k ≡ false
  none-goes k q = not_so (λ t. let h : k < 4 * c.count = stays-below c m k t in let l : new_mark c m k ≤ k = new-low c m k in let z : new_mark c m k ≡ no_mark = sym (kept k t) ∙ q in absurd (omega arith))

  some-stays : (k : ℕ) → (at k ≡ no_mark → ⊥) → stays c m k ≡ true
  some-stays k n = cases (stays c m k) (λ t. t) (λ z. absurd (n (dropped k z)))

  stays-some : (k : ℕ) → stays c m k ≡ true → at k ≡ no_mark → ⊥
  stays-some k t q = contra t (none-goes k q)

  goes : (k : ℕ) (b : Bool) {P : Type 0} → stays c m k ≡ b → ((b ≡ false) ↔ P) → (at k ≡ no_mark) ↔ P
  goes k b q s = (λ z. s.0 (sym q ∙ none-goes k z), λ p. dropped k (q ∙ s.1 p))

  rises : (j k : ℕ) → j < k → stays c m j ≡ true → new_mark c m j < new_mark c m k
  unfolding new_mark
  rises j k h t = tally-rises (stays c m) j k h t

-- given room for the book, and for the order of each stage
module _ (c : FlatChart) (m : Marking) (fits : Fit c) (marked : FitMarking c.count m) (bytes room : List ℕ) (wide : length (smaller_image c m) ≤ length bytes)
    (long : (e : ℕ) → e < c.count → counted_rules (rules_of (smaller_image c m) e) ≤ length room) where
  abbrev n : ℕ
  n = c.count

  few : n ≤ max_events
  few = fits.few

  gives : deriving_smaller c m (length bytes) ≡ record { answer = granted; table = mark_table c m }
  gives = (granted-smaller c m fits marked bytes wide).0

  writes : written_smaller c m bytes ≡ smaller_image c m
  writes = (granted-smaller c m fits marked bytes wide).1

  stages-are : stages_in (smaller_image c m) ≡ n
  unfolding book_of smaller_book
  stages-are = ap (λ (b : Book). b.stages) (said c m)

  marks-are : marks_in (smaller_image c m) ≡ smaller_marks c m
  unfolding book_of smaller_book
  marks-are = ap (λ (b : Book). b.marks) (said c m)

  check-passes : (e : ℕ) → e < n → checking (smaller_image c m) e (length room) ≡ granted
  check-passes e h =
      let p = smaller-passes c m fits in
      is-passed (smaller_image c m) e (length room) (record { formed = p.formed; acyclic = p.acyclic; calm = p.calm; known = rw stages-are h; wide = long e h })

  starting : Starts (mark_table c m) (smaller_image c m) (matching_of c m).snapshot (smaller_snapshot c m m)
  starting =
      record {
        whole = small-long c fits m m;
        kept = λ k a. let t = some-stays c m few k a in rw (kept c m few k t) (small-new c fits m m k t ∙ sym (full_at c fits m m marked k));
        past = λ j h. small_at c fits m m j ∙ through-past c m (mark_of c m) j (rw marks-are at h);
      }

  one-start : (t : Snapshot) → Starts (mark_table c m) (smaller_image c m) (matching_of c m).snapshot t → t ≡ smaller_snapshot c m m
  one-start t w =
      small_one c fits m m marked t w.whole
      (record { kept = λ k s. rw (kept c m few k s) at (w.kept k (stays-some c m few k s)); past = λ j h. w.past j (rw marks-are h) })

  along : (t : Snapshot) → Starts (mark_table c m) (smaller_image c m) (matching_of c m).snapshot t → (steps : List (ℕ × (List ℕ × List ℕ))) → All (Ordered c m) steps
      → Alongside c m m (matching_of c m).snapshot t steps
  along t w steps o = subst (λ (x : Snapshot). Alongside c m m (matching_of c m).snapshot x steps) (sym (one-start t w)) (alongside c fits m marked steps o)

  fewer-rules : length (smaller_book c m).rules ≤ length (derived_book c).rules
  unfolding smaller_book derived_book
  fewer-rules = rules-fewer c m

  fewer-words : length (smaller_book c m).words ≤ length (derived_book c).words
  unfolding smaller_book derived_book
  fewer-words = words-fewer c m

  fewer-marks : (smaller_book c m).marks ≤ (derived_book c).marks
  unfolding smaller_book derived_book
  fewer-marks = marks-fewer c m

  fewer-conditions : length (smaller_book c m).conditions ≤ length (derived_book c).conditions
  unfolding derived_book
  fewer-conditions = rw (conditions-left c m, length-each n (derived_condition c)) (conditions-fewer c m)

  pub smaller-books : SmallerBooks c m bytes room
  smaller-books =
      record {
        derives = rw gives;
        writes = writes;
        reads = rw writes (said c m);
        places = rw gives (table-length c m);
        absent = λ k h. rw gives (dropped c m few k (not_so (λ t. let l : k < 4 * n = stays-below c m k t in omega arith)));
        stages = λ e h. rw gives (kept c m few e (stays-stage c m e h) ∙ new-stage c m e h);
        executed = λ e h. rw gives (goes c m few (executed_mark n e) _ (stays-executed c m e h) (executed-goes c m e));
        included = λ e h. rw gives (goes c m few (included_mark n e) _ (stays-included c m e h) (included-goes c m e));
        answered = λ e h. rw gives (goes c m few (answered_mark n e) _ (stays-answered c m e h) (answered-goes c m e));
        rising = rw gives (λ j k h a b. let s = some-stays c m few j a in rw (kept c m few j s, kept c m few k (some-stays c m few k b)) (rises c m few j k h s));
        below = rw (gives, writes) (λ k a. let s = some-stays c m few k a in rw (kept c m few k s, marks-are) (new-below c m k s));
        each = rw (gives, writes) (λ j h. let (s, q) = new-old c m j (rw marks-are at h) in (old_mark c m j, kept c m few (old_mark c m j) s ∙ q));
        passes = rw writes check-passes;
        orders = λ e h. rw writes (written-fit (smaller_image c m) e room (ap (λ (a : Answer). a.code) (check-passes e h)));
        indexed = rw writes (λ lent h. build-granted (smaller_image c m) lent (smaller-passes c m fits) h);
        starts = rw (gives, writes) starting;
        alongside = rw (gives, writes) along;
        rules = rw (writes, said c m) fewer-rules;
        words = rw (writes, said c m) fewer-words;
        marks = rw (writes, said c m) fewer-marks;
        conditions = rw (writes, said c m) fewer-conditions;
        image = rw writes (image-fewer c m);
        whole = rw (gives, writes) (λ q k h. stays-some c m few k (all_stay c m q k h), λ a. same_bytes c m (λ k h. some-stays c m few k (a k h)));
      }
