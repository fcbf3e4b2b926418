-- How many rules and words a derived book has, and how many bytes its image. Assumes nothing.
use Rattle.std.specs.Prelude.{ℕ, ◌+◌, ◌*◌, ◌≤◌, ◌<◌, ◌≡◌, refl, true, List, [], ◌∷◌, eqb, get_or}
use Rattle.std.proofs.Common.{sym, ◌∙◌, eq-eqb, ne_eqb, eqb-true}
use Rattle.std.proofs.Math.Path.{ap}
use Rattle.std.proofs.Math.Bool.{cond, or-false, or-true}
use native.Mathlib.Omega.{arith}
use Rattle.std.proofs.Math.ListN.{length, length-append}
use Rattle.paper.specs.Limits.{max_events, max_rules, book_header, rule_size, condition_size, word_size}
use Rattle.general.specs.Cases.{cases, either}
use Rattle.general.specs.Below.{tally, tally-le}
use Rattle.sets.specs.Set.{has, union, only, size, within}
use Rattle.sets.specs.Laws.{has-union, has-only, has-empty, within-lt, lt-within}
use Rattle.flat_chart.specs.Chart.{Kind, response, include, exclude, set_of, Fit}
use Rattle.flat_chart.specs.Flat.{FlatChart}
use Rattle.general.specs.Lists.{total, total-same, total-le, total-one, flat, flat-same, length-flat, length-each}
use Rattle.book.specs.declared.Rule.{Rule}
use Rattle.derived.specs.Derived.{listed, on, inclusion, responding, answering, completion, clause, stage_rules, event_rules, derived_rules}
use Rattle.derived.specs.Derived.{derived_condition, derived_book}
use Rattle.derived.specs.Members.{size-within, tally-more, length-listed}

-- ---- one event

-- rules on the completion of e: one for each event that e includes or excludes, one for e and each of its responses, and one for executed
unfoldable pub completion_size : ℕ → ℕ → ℕ → ℕ → ℕ
completion_size e i x r = size (union i x) + size (union r (only e)) + 1

-- words of the text of an event with the conditions c and the milestones m
unfoldable pub text_size : ℕ → ℕ → ℕ
text_size c m = 5 * (size c + size m) + 1

-- ---- rules on a completion, as one run: for each f of among, set base + f where f is in raise, and else clear it

unfoldable pub effect : ℕ → ℕ → ℕ → ℕ → List Rule
effect e raise base f = on e (has raise f) (base + f) ∷ []

abbrev pub effects : ℕ → ℕ → ℕ → ℕ → ℕ → List Rule
effects n e raise among base = flat n (listed (effect e raise base) among)

pub inclusion-effects : (n e i x : ℕ) → flat n (inclusion n e i x) ≡ effects n e i (union i x) (2 * n)
unfolding inclusion effect
inclusion-effects n e i x =
    flat-same n (inclusion n e i x) (listed (effect e i (2 * n)) (union i x))
    (λ f h. rw (has-union i x f) (cases (has i f) (λ t. rw t) (λ t. rw t (cases (has x f) (λ u. rw u) (λ u. rw u)))))

pub responding-effects : (n e r : ℕ) → flat n (responding n e r) ≡ effects n e 0 r (3 * n)
unfolding responding effect
responding-effects n e r =
    flat-same n (responding n e r) (listed (effect e 0 (3 * n)) r) (λ f h. rw (has-empty f))

length-effects : (n e raise among base : ℕ) → length (effects n e raise among base) ≡ tally n (has among)
unfolding effect
length-effects n e raise among base = length-listed (effect e raise base) 1 n among (λ f. refl) ∙ omega arith

-- ---- the sizes, for sets within n events

module _ (n e : ℕ) (h : e < n) where
  pub own-within : (r : ℕ) → within n r ≡ true → within n (union r (only e)) ≡ true
  own-within r k = lt-within n (union r (only e)) (λ f m.
      either (has r f) (eqb e f) (sym (has-union r (only e) f ∙ rw (has-only e f)) ∙ m) (within-lt n r f k) (λ t. rw (← eqb-true e f t) h))

  own-size : (r : ℕ) → within n r ≡ true → size (union r (only e)) ≡ tally n (has r) + cond (has r e) 0 1
  own-size r k =
      size-within n (union r (only e)) (own-within r k)
      ∙ tally-more n e (has r) (has (union r (only e))) h (has-union r (only e) e ∙ rw (has-only e e, eq-eqb e e refl) (or-true (has r e)))
      (λ f q. has-union r (only e) f ∙ rw (has-only e f, ne_eqb e f (λ p. q (sym p))) (or-false (has r f)))

  pub length-completion : (i x r : ℕ) → within n (union i x) ≡ true → within n r ≡ true → length (completion n e i x r) ≡ completion_size e i x r
  unfolding completion completion_size answering
  length-completion i x r k l =
      let a : length (flat n (inclusion n e i x)) ≡ tally n (has (union i x)) = ap length (inclusion-effects n e i x) ∙ length-effects n e i (union i x) (2 * n) in
      let b : length (flat n (responding n e r)) ≡ tally n (has r) = ap length (responding-effects n e r) ∙ length-effects n e 0 r (3 * n) in
      let p : size (union i x) ≡ tally n (has (union i x)) = size-within n (union i x) k in
      let q : size (union r (only e)) ≡ tally n (has r) + cond (has r e) 0 1 = own-size r l in
      rw (p, q, length-append (flat n (inclusion n e i x)), length-append (flat n (responding n e r)), a, b)
      (cases (has r e) (λ t. rw t (omega arith)) (λ t. rw t (omega arith)))

  pub completion-le : (i x r : ℕ) → within n (union i x) ≡ true → within n r ≡ true → completion_size e i x r ≤ 2 * n + 1
  unfolding completion_size
  completion-le i x r k l =
      let p : size (union i x) ≡ tally n (has (union i x)) = size-within n (union i x) k in
      let q : size (union r (only e)) ≡ tally n (has (union r (only e))) = size-within n (union r (only e)) (own-within r l) in
      let a : tally n (has (union i x)) ≤ n = tally-le n (has (union i x)) in
      let b : tally n (has (union r (only e))) ≤ n = tally-le n (has (union r (only e))) in
      omega arith

pub length-clauses : (n : ℕ) (mark : ℕ → ℕ) (s : ℕ) → within n s ≡ true → length (flat n (listed (clause n mark) s)) ≡ 5 * size s
length-clauses n mark s h = length-listed (clause n mark) 5 n s (λ f. refl) ∙ rw (size-within n s h)

pub text-le : (n c m : ℕ) → within n c ≡ true → within n m ≡ true → text_size c m ≤ 10 * n + 1
unfolding text_size
text-le n c m h k =
    let p : size c ≡ tally n (has c) = size-within n c h in
    let q : size m ≡ tally n (has m) = size-within n m k in
    let a : tally n (has c) ≤ n = tally-le n (has c) in
    let b : tally n (has m) ≤ n = tally-le n (has m) in
    omega arith

-- ---- the whole book, by the tables

unfoldable pub completions_size : ℕ → List ℕ → List ℕ → List ℕ → ℕ
completions_size n i x r = total n (λ e. completion_size e (get_or i e 0) (get_or x e 0) (get_or r e 0))

unfoldable pub texts_size : ℕ → List ℕ → List ℕ → ℕ
texts_size n c m = total n (λ e. text_size (get_or c e 0) (get_or m e 0))

-- the same of a chart: rules of the completion of e, and of all completions; words of the text of e, and of all texts
module _ (c : FlatChart) where
  abbrev pub completion_rules : ℕ → ℕ
  completion_rules e = completion_size e (get_or c.includes e 0) (get_or c.excludes e 0) (get_or c.responses e 0)

  abbrev pub completions_rules : ℕ
  completions_rules = completions_size c.count c.includes c.excludes c.responses

  abbrev pub text_words : ℕ → ℕ
  text_words e = text_size (get_or c.conditions e 0) (get_or c.milestones e 0)

  abbrev pub texts_words : ℕ
  texts_words = texts_size c.count c.conditions c.milestones

module _ (c : FlatChart) where
  unfoldable pub rules_needed : ℕ
  rules_needed = completions_size c.count c.includes c.excludes c.responses + 2 * c.count

  unfoldable pub words_needed : ℕ
  words_needed = texts_size c.count c.conditions c.milestones

  -- "Length is exactly 32 + 10R + 8Q + 2W."
  unfoldable pub bytes_needed : ℕ
  bytes_needed = book_header + rule_size * rules_needed + condition_size * c.count + word_size * words_needed

  module _ (fit : Fit c) where
    abbrev n : ℕ
    n = c.count

    pub set-within : (k : Kind) (e : ℕ) → e < c.count → within c.count (set_of c k e) ≡ true
    set-within k e h = lt-within c.count (set_of c k e) (λ f m. fit.inside k e f h m)

    pub both-within : (e : ℕ) → e < c.count → within c.count (union (set_of c include e) (set_of c exclude e)) ≡ true
    both-within e h =
        lt-within c.count (union (set_of c include e) (set_of c exclude e)) (λ f m.
        either (has (set_of c include e) f) (has (set_of c exclude e) f) (sym (has-union (set_of c include e) (set_of c exclude e) f) ∙ m)
        (fit.inside include e f h) (fit.inside exclude e f h))

    pub rules-length : length (derived_book c).rules ≡ rules_needed
    unfolding derived_book derived_rules event_rules rules_needed completions_size
    rules-length =
        length-append (flat n (event_rules c)) (flat n stage_rules)
        ∙ rw (
          length-flat n (event_rules c),
          length-flat n stage_rules,
          total-one n 2,
          total-same n (λ e. length (event_rules c e)) (λ e. completion_size e (set_of c include e) (set_of c exclude e) (set_of c response e))
              (λ e h. length-completion n e h (set_of c include e) (set_of c exclude e) (set_of c response e) (both-within e h) (set-within response e h)),
        )

    pub conditions-length : length (derived_book c).conditions ≡ c.count
    unfolding derived_book
    conditions-length = length-each n (derived_condition c)

    -- request (xiv): "131,840 rules", "655,616 words"
    pub rules-most : length (derived_book c).rules ≤ max_rules
    unfolding rules_needed completions_size
    rules-most =
        let few : n ≤ max_events = fit.few in
        let b : total n (λ e. completion_size e (set_of c include e) (set_of c exclude e) (set_of c response e)) ≤ n * (2 * max_events + 1) =
        total-le n (2 * max_events + 1) _ (λ e h.
        let l : completion_size e (set_of c include e) (set_of c exclude e) (set_of c response e) ≤ 2 * n + 1 =
        completion-le n e h (set_of c include e) (set_of c exclude e) (set_of c response e) (both-within e h) (set-within response e h) in omega arith) in
        rw rules-length (omega arith)
