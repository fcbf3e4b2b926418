-- The largest derived book: the chart of as many events as there may be, each of them in every set, reaches each limit exactly. Assumes nothing.
use Rattle.std.specs.Prelude.{ℕ, ◌+◌, ◌*◌, ◌<◌, ◌≡◌, refl, Bool, true, false, ◌||◌, List, get_or, replicate}
use Rattle.std.proofs.Math.Path.{sym}
use Rattle.std.proofs.Common.{ap, ◌∙◌, lt-ltb, ltb-true}
use native.Mathlib.Omega.{arith}
use Rattle.paper.specs.Limits.{max_events, max_rules, max_words}
use Rattle.general.specs.Below.{tally-all}
use Rattle.general.specs.Lists.{total-same, total-one}
use Rattle.sets.specs.Set.{has, union, only, size, all_below, within}
use Rattle.sets.specs.Laws.{ext, has-union, has_all, lt-within}
use Rattle.derived.specs.Members.{size-within}
use Rattle.derived.specs.Sizes.{completion_size, own-within, text_size, completions_size, texts_size, rules_needed, words_needed, bytes_needed}
use Rattle.derived.specs.Sizes.{rules-length, rules-most}
use Rattle.derived.proofs.Sizes.{words-length, bytes-length, words-most, bytes_most}
use Rattle.derived.specs.Largest.{largest_chart, full-set, largest-fit, Largest}

-- ---- one event whose every set is all n events

module _ (n : ℕ) where
  all-within : within n (all_below n) ≡ true
  all-within = lt-within n (all_below n) (λ f m. ltb-true f n (sym (has_all n f) ∙ m))

  -- with any other set within n it is n events
  all-size : (s : ℕ) → within n (union (all_below n) s) ≡ true → size (union (all_below n) s) ≡ n
  all-size s h =
      size-within n (union (all_below n) s) h
      ∙ tally-all n (has (union (all_below n) s)) (λ f l. has-union (all_below n) s f ∙ rw (has_all n f, lt-ltb f n l))

  both-same : union (all_below n) (all_below n) ≡ all_below n
  both-same = ext (union (all_below n) (all_below n)) (all_below n) (λ f. has-union (all_below n) (all_below n) f ∙ same (has (all_below n) f))
    where
      same : (b : Bool) → (b || b) ≡ b
      same true = refl
      same false = refl

  completion-full : (e : ℕ) → e < n → completion_size e (all_below n) (all_below n) (all_below n) ≡ 2 * n + 1
  unfolding completion_size
  completion-full e h =
      let a : size (union (all_below n) (all_below n)) ≡ n = all-size (all_below n) (rw both-same all-within) in
      let b : size (union (all_below n) (only e)) ≡ n = all-size (only e) (own-within n e h (all_below n) all-within) in
      omega arith

  text-full : text_size (all_below n) (all_below n) ≡ 10 * n + 1
  unfolding text_size
  text-full =
      let a : size (all_below n) ≡ n = sym (ap size both-same) ∙ all-size (all_below n) (rw both-same all-within) in
      omega arith

-- ---- the chart

abbrev full_table : List ℕ
full_table = replicate max_events (all_below max_events)

-- ---- its book: 131,840 rules, 655,616 words and 2,631,712 bytes, and no fit chart's has more

rules-full : rules_needed largest_chart ≡ max_rules
unfolding rules_needed completions_size largest_chart
rules-full =
    let a = total-same max_events (λ e. completion_size e (get_or full_table e 0) (get_or full_table e 0) (get_or full_table e 0)) (λ e. 2 * max_events + 1)
    (λ e h. rw (full-set e h) (completion-full max_events e h)) in
    let b = total-one max_events (2 * max_events + 1) in
    rw (a, b)

words-full : words_needed largest_chart ≡ max_words
unfolding words_needed texts_size largest_chart
words-full =
    let a = total-same max_events (λ e. text_size (get_or full_table e 0) (get_or full_table e 0)) (λ e. 10 * max_events + 1) (λ e h. rw (full-set e h) (text-full max_events)) in
    let b = total-one max_events (10 * max_events + 1) in
    rw (a, b)

count-full : largest_chart.count ≡ max_events
unfolding largest_chart
count-full = refl

bytes-full : bytes_needed largest_chart ≡ 2631712
unfolding bytes_needed
bytes-full = rw (rules-full, words-full, count-full)

pub largest : Largest
largest =
    record {
      fits = largest-fit;
      rules = rules-length largest_chart largest-fit ∙ rules-full;
      words = words-length largest_chart largest-fit ∙ words-full;
      bytes = bytes-length largest_chart largest-fit ∙ bytes-full;
      most-rules = rules-most;
      most-words = words-most;
      most_bytes = λ c fit. rw (bytes-length c fit) (bytes_most c fit);
    }
