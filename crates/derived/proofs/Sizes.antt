-- How many rules and words a derived book has, and how many bytes its image. Assumes nothing.
use Rattle.std.specs.Prelude.{ℕ, ◌+◌, ◌*◌, ◌≤◌, ◌≡◌, true}
use Rattle.std.proofs.Common.{◌∙◌}
use native.Mathlib.Omega.{arith}
use Rattle.std.proofs.Math.ListN.{length, length-append}
use Rattle.paper.specs.Limits.{max_events, max_rules, max_words, book_header, rule_size, condition_size, word_size}
use Rattle.sets.specs.Set.{size, within}
use Rattle.flat_chart.specs.Chart.{condition, milestone, set_of, Fit}
use Rattle.flat_chart.specs.Flat.{FlatChart}
use Rattle.general.specs.Lists.{total, total-same, total-le, flat, length-flat}
use Rattle.book.specs.ImageOf.{image_of, image-length}
use Rattle.derived.specs.Derived.{listed, executed_mark, answered_mark, clause, text_for}
use Rattle.derived.specs.Derived.{derived_text, derived_book}
use Rattle.derived.specs.Sizes.{text_size, length-clauses, text-le, texts_size, rules_needed, words_needed, bytes_needed, set-within, rules-length, conditions-length, rules-most}

pub length-text : (n e c m : ℕ) → within n c ≡ true → within n m ≡ true → length (text_for n e c m) ≡ text_size c m
unfolding text_for text_size
length-text n e c m h k =
    let a : length (flat n (listed (clause n (executed_mark n)) c)) ≡ 5 * size c = length-clauses n (executed_mark n) c h in
    let b : length (flat n (listed (clause n (answered_mark n)) m)) ≡ 5 * size m = length-clauses n (answered_mark n) m k in
    rw (length-append (flat n (listed (clause n (executed_mark n)) c)), a, b) (omega arith)

module _ (c : FlatChart) where
  module _ (fit : Fit c) where
    abbrev n : ℕ
    n = c.count

    pub words-length : length (derived_book c).words ≡ words_needed c
    unfolding derived_book derived_text words_needed texts_size
    words-length =
        length-flat n (derived_text c)
        ∙ total-same n (λ e. length (derived_text c e)) (λ e. text_size (set_of c condition e) (set_of c milestone e))
        (λ e h. length-text n e (set_of c condition e) (set_of c milestone e) (set-within c fit condition e h) (set-within c fit milestone e h))

    -- the exact count of bytes
    pub bytes-length : length (image_of (derived_book c)) ≡ bytes_needed c
    unfolding bytes_needed
    bytes-length = image-length (derived_book c) ∙ rw (rules-length c fit, conditions-length c fit, words-length)

    pub words-most : length (derived_book c).words ≤ max_words
    unfolding words_needed texts_size
    words-most =
        let few : n ≤ max_events = fit.few in
        let b : total n (λ e. text_size (set_of c condition e) (set_of c milestone e)) ≤ n * (10 * max_events + 1) =
        total-le n (10 * max_events + 1) _ (λ e h.
        let l : text_size (set_of c condition e) (set_of c milestone e) ≤ 10 * n + 1 =
        text-le n (set_of c condition e) (set_of c milestone e) (set-within c fit condition e h) (set-within c fit milestone e h) in omega arith) in
        rw words-length (omega arith)

    -- 2,631,712
    pub bytes_most : bytes_needed c ≤ book_header + rule_size * max_rules + condition_size * max_events + word_size * max_words
    unfolding bytes_needed
    bytes_most =
        let few : n ≤ max_events = fit.few in
        let r : rules_needed c ≤ max_rules = rw (rules-length c fit) at (rules-most c fit) in
        let w : words_needed c ≤ max_words = rw words-length at words-most in
        omega arith
