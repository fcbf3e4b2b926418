-- The smaller book never has more than the full one, and of a fit chart its image is well-formed. Assumes nothing.
use Prim.Native.Nat.{ℕ, ◌≤◌, ◌<◌}
use Rattle.std.specs.Prelude.{◌≡◌, Bool}
use Rattle.std.proofs.Math.Path.{subst}
use Rattle.std.proofs.Math.Bool.{true, false}
use mathlib.Core.List.{List, [], ◌∷◌}
use native.Mathlib.Omega.{arith}
use Rattle.std.proofs.Math.ListN.{length, length-append}
use Rattle.paper.specs.Limits.{and_word, or_word, not_word}
use Rattle.general.specs.Cases.{cases}
use Rattle.general.specs.Below.{tally-le}
use Rattle.general.specs.Lists.{packed, packed_all, All}
use Rattle.sets.specs.Set.{has}
use Rattle.flat_chart.specs.Chart.{response, include, exclude, set_of}
use Rattle.flat_chart.specs.Flat.{FlatChart}
use Rattle.graph.specs.Flat.{Marking}
use Rattle.book.specs.declared.Rule.{Rule}
use Rattle.book.specs.declared.Sense.{Sense}
use Rattle.book.specs.declared.Sense.TheVariants.{NoCondition, AsWritten, Negated}
use Rattle.derived.specs.Derived.{executed_mark, included_mark, answered_mark, on, opens, closes, inclusion, responding, answering}
use Rattle.derived.specs.Derived.{derived_rules, join}
use Rattle.smaller.specs.Staying.{stays, smaller_marks}
use Rattle.smaller.specs.Clauses.{Clause, alone, guarded, words_of, spoken_from}
use Rattle.smaller.specs.Smaller.{has_text, new_condition, restated, reduced, smaller_rules, smaller_book}
use Rattle.smaller.specs.Numbering.{tally-reach}
use Rattle.smaller.specs.Numbers.{conditions-left}

packed-fewer : {A B : Type 0} (f : A → List B) → ((x : A) → length (f x) ≤ 1) → (l : List A) → length (packed f l) ≤ length l
unfolding packed
packed-fewer f s [] = omega arith
packed-fewer f s (x ∷ l) = rw (length-append (f x) (packed f l)) (omega (arith, s x, packed-fewer f s l))

-- ---- a statement about the full book's rules, by their three kinds

pub by-kinds : (c : FlatChart) (P : Rule → Type 0) → ((e : ℕ) → e < c.count → (b : Bool) (k : ℕ) → P (on e b k))
    → ((e : ℕ) → e < c.count → P (opens e)) → ((e : ℕ) → e < c.count → P (closes e)) → All P (derived_rules c)
unfolding inclusion responding answering
by-kinds c P o p q =
    let n : ℕ = c.count in
    join c P
    (record {
      inclusions = λ e h f i. cases (has (set_of c include e) f) (λ x. rw x (o e h true (included_mark n f), tt))
          (λ x. cases (has (set_of c exclude e) f) (λ y. rw (x, y) (o e h false (included_mark n f), tt)) (λ y. rw (x, y) tt));
      responses = λ e h f i. cases (has (set_of c response e) f) (λ x. rw x (o e h false (answered_mark n f), tt)) (λ x. rw x tt);
      answers = λ e h. cases (has (set_of c response e) e) (λ x. rw x tt) (λ x. rw x (o e h true (answered_mark n e), tt));
      executed = λ e h. o e h true (executed_mark n e);
      opened = p;
      closed = q;
    })

-- ---- the marks that a clause names

unfoldable pub Names : (ℕ → Type 0) → Clause → Type 0
Names P (alone k) = P k
Names P (guarded i k) = P i × P k

pub names-less : (P Q : ℕ → Type 0) → ((k : ℕ) → P k → Q k) → (x : Clause) → Names P x → Names Q x
unfolding Names
names-less P Q h (alone k) a = h k a
names-less P Q h (guarded i k) a = (h i a.0, h k a.1)

-- a text's words are operators and the marks that its clauses name
pub spoken-names : (P : ℕ → Type 0) → P and_word → P or_word → P not_word → (b : Bool) (l : List Clause) → All (Names P) l → All P (spoken_from b l)
unfolding spoken_from words_of Names
spoken-names P x y z b [] a = tt
spoken-names P x y z true (alone k ∷ l) a = (a.0, spoken-names P x y z false l a.1)
spoken-names P x y z false (alone k ∷ l) a = (a.0, (x, spoken-names P x y z false l a.1))
spoken-names P x y z true (guarded i k ∷ l) a = (a.0.0, (z, (a.0.1, (y, spoken-names P x y z false l a.1))))
spoken-names P x y z false (guarded i k ∷ l) a = (a.0.0, (z, (a.0.1, (y, (x, spoken-names P x y z false l a.1)))))

module _ (c : FlatChart) (m : Marking) where
  abbrev n : ℕ
  n = c.count

  -- ---- never more than the full book

  restated-fewer : (r : Rule) (s : Sense) → length (restated c m r s) ≤ 1
  unfolding restated
  restated-fewer r NoCondition = omega arith
  restated-fewer r (AsWritten k) = omega arith
  restated-fewer r (Negated k) = cases (has_text c m k) (λ t. rw t (omega arith)) (λ t. rw t (omega arith))

  pub reduced-fewer : (r : Rule) → length (reduced c m r) ≤ 1
  unfolding reduced
  reduced-fewer r = cases (stays c m r.target) (λ t. rw t (restated-fewer r r.sense)) (λ t. rw t (omega arith))

  pub rules-fewer : length (smaller_rules c m) ≤ length (derived_rules c)
  unfolding smaller_rules
  rules-fewer = packed-fewer (reduced c m) reduced-fewer (derived_rules c)

  pub conditions-fewer : new_condition c m n ≤ n
  unfolding new_condition
  conditions-fewer = tally-le n (has_text c m)

  -- ---- what a smaller text names: marks that are there and are no stages

  abbrev pub There : ℕ → Type 0
  There w = (n ≤ w) × (w < smaller_marks c m)

  -- ---- a statement about the smaller book's rules: about what is left of each kind

  pub of-kinds : (P : Rule → Type 0) → ((e : ℕ) → e < n → (b : Bool) (k : ℕ) → All P (reduced c m (on e b k)))
      → ((e : ℕ) → e < n → All P (reduced c m (opens e))) → ((e : ℕ) → e < n → All P (reduced c m (closes e))) → All P (smaller_rules c m)
  unfolding smaller_rules
  of-kinds P o p q = packed_all (reduced c m) (λ r. All P (reduced c m r)) P (λ r a. a) (derived_rules c) (by-kinds c (λ r. All P (reduced c m r)) o p q)

  -- every condition's number is the new one of a text that is left
  pub condition-old : (P : ℕ → Type 0) → ((e : ℕ) → e < n → has_text c m e ≡ true → P (new_condition c m e)) → (q : ℕ) → q < length (smaller_book c m).conditions → P q
  unfolding new_condition
  condition-old P h q l = let (e, i, t, z) = tally-reach (has_text c m) n q (rw (conditions-left c m) at l) in subst P z (h e i t)
