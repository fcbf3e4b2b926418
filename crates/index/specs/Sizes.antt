-- How many rules count for each stage, by a table of those that wait for its completion and the number of those that wait for none; and what
-- that says of the image: where each order begins, what the stages' entries are, how long it is. Assumes nothing.
use Rattle.std.specs.Prelude.{◌≡◌, refl, List, ◌++◌, ℕ, ◌+◌, ◌*◌, ◌≤◌, ◌<◌, eqb, get_or, set, replicate}
use Rattle.std.proofs.Math.Path.{sym}
use Rattle.std.proofs.Common.{◌∙◌, length-set, get_or-set_same, get_or-set_other, eqb-true}
use native.Mathlib.Omega.{arith}
use Rattle.std.proofs.Math.ListN.{length}
use Rattle.std.proofs.lemmas.Bool.{eqb-false}
use Rattle.paper.specs.Limits.{max_events, max_rules, index_header, index_stage, index_rule}
use Rattle.general.specs.Cases.{cases}
use Rattle.general.specs.Below.{tally, tally-step, tally-le}
use Rattle.general.specs.Tables.{zeros-at}
use Rattle.general.specs.Lists.{total, total-same, total-step, flat, flat-same}
use Rattle.wire.specs.Wire.{bytes32}
use Rattle.book.specs.Image.{stages_in, rules_in, rule_place, kind_at, number_at, book_of}
use Rattle.book.specs.WellFormed.{WellFormed}
use Rattle.order_theory.specs.Order.{counted_rules}
use Rattle.rule_order.specs.Nets.{rules_of, count-is, few-counted, rules-few, counts-other, counts-completed}
use Rattle.index.specs.Index.{order_of, offset_of, entry_bytes, index_image, offset-is, index-ends, NoLoops, order-length}

-- ---- by the table

abbrev pub order_size : List ℕ → ℕ → ℕ → ℕ
order_size table common stage = common + get_or table stage 0

unfoldable pub start_from : ℕ → List ℕ → ℕ → ℕ → ℕ
start_from stages table common stage = index_header + index_stage * stages + index_rule * total stage (order_size table common)

unfoldable pub entry_from : ℕ → List ℕ → ℕ → ℕ → List ℕ
entry_from stages table common stage = bytes32 (start_from stages table common stage) ++ bytes32 (order_size table common stage)

-- within the limits
pub record Sized (stages : ℕ) (table : List ℕ) (common : ℕ) : Type 0 where
  pub few : stages ≤ max_events
  pub each : (t : ℕ) → t < stages → order_size table common t ≤ max_rules

-- the table is the book's
pub record StageCounts (s table : List ℕ) (common : ℕ) : Type 0 where
  pub each : (t : ℕ) → t < stages_in s → order_size table common t ≡ counted_rules (rules_of s t)

-- ---- the image by the table

module _ (s table : List ℕ) (common : ℕ) (g : WellFormed s) (c : StageCounts s table common) where
  pub counts-sized : Sized (stages_in s) table common
  counts-sized = record { few = g.headed.counted.stages; each = λ t h. omega (arith, c.each t h, few-counted s t, rules-few s g) }

  module _ (n : NoLoops (book_of s)) where
    pub size_is : (t : ℕ) → t < stages_in s → order_size table common t ≡ length (order_of (book_of s) t)
    unfolding book_of
    size_is t h = c.each t h ∙ sym (order-length s t g (n t h))

    pub start_is : (t : ℕ) → t ≤ stages_in s → start_from (stages_in s) table common t ≡ offset_of (book_of s) t
    unfolding start_from book_of
    start_is t h = sym (offset-is (book_of s) t ∙ rw (total-same t (λ u. length (order_of (book_of s) u)) (order_size table common) (λ u l. sym (size_is u (omega arith)))))

    pub entry-is : (t : ℕ) → t < stages_in s → entry_from (stages_in s) table common t ≡ entry_bytes (book_of s) t
    unfolding entry_from entry_bytes
    entry-is t h = rw (start_is t (omega arith), size_is t h)

    pub entries-are : flat (stages_in s) (entry_from (stages_in s) table common) ≡ flat (stages_in s) (entry_bytes (book_of s))
    entries-are = flat-same (stages_in s) (entry_from (stages_in s) table common) (entry_bytes (book_of s)) entry-is

    pub bytes-needed : start_from (stages_in s) table common (stages_in s) ≡ length (index_image (book_of s))
    unfolding book_of
    bytes-needed = start_is (stages_in s) (omega arith) ∙ index-ends (book_of s)

-- ---- the first k stages summed

module _ (stages : ℕ) (table : List ℕ) (common : ℕ) where
  pub record Summed (sum k : ℕ) : Type 0 where
    pub few : k ≤ stages
    pub so : sum ≡ total k (order_size table common)
    pub small : sum ≤ max_rules * k

  pub summed-first : Summed 0 0
  unfolding total
  summed-first = record { few = omega arith; so = refl; small = omega arith }

  pub summed-more : (sum k n : ℕ) → Sized stages table common → Summed sum k → k < stages → n ≡ order_size table common k → Summed (sum + n) (k + 1)
  summed-more sum k n z i h e =
      let l = i.small in
      let q = z.each k h in
      record { few = omega arith; so = rw (total-step k (order_size table common), e, i.so); small = omega arith }

  pub summed-last : (sum k : ℕ) → Summed sum k → stages ≤ k → index_header + index_stage * stages + index_rule * sum ≡ start_from stages table common stages
  unfolding start_from
  summed-last sum k i h = let l = i.few in let q : k ≡ stages = omega arith in rw (i.so, q)

-- ---- the first k rules asked

pub record Tabled (s table : List ℕ) (common k : ℕ) : Type 0 where
  pub within : k ≤ rules_in s
  pub size : length table ≡ max_events
  pub few : common ≤ k
  pub each : (t : ℕ) → t < stages_in s → order_size table common t ≡ tally k (rules_of s t).counts

module _ (s : List ℕ) (rules : ℕ) (g : WellFormed s) (many : rules ≡ rules_in s) where
  pub tabled-first : (table : List ℕ) → table ≡ replicate max_events 0 → Tabled s table 0 0
  unfolding tally
  tabled-first table e = rw e (record { within = omega arith; size = refl; few = omega arith; each = λ t h. omega (arith, zeros-at max_events t) })

  module _ (table : List ℕ) (common k : ℕ) (a : Tabled s table common k) (h : k < rules) where
    below : k < rules_in s
    below = omega arith

    pub tabled-few : common < max_rules
    tabled-few = let l = a.few in omega (arith, rules-few s g)

    -- a rule that waits for no completion counts for every stage
    pub tabled-other : (kind_at s (rule_place k) ≡ 1 → ⊥) → (table' : List ℕ) (common' : ℕ) → table' ≡ table → common' ≡ common + 1 → Tabled s table' common' (k + 1)
    tabled-other n table' common' p q =
        rw (p, q) (record {
          within = omega (arith, below);
          size = a.size;
          few = let l = a.few in omega arith;
          each = λ t l. rw (tally-step k (rules_of s t).counts, ← counts-other s t k below n) (omega (arith, a.each t l));
        })

    module _ (c : ℕ) (e : kind_at s (rule_place k) ≡ 1) (q : c ≡ number_at s (rule_place k)) where
      known : c < stages_in s
      known = rw q ((g.rules k below).completed e)

      pub tabled-stage : c < max_events
      tabled-stage = omega (arith, known, g.headed.counted.stages)

      pub tabled-small : get_or table c 0 < max_rules
      tabled-small = omega (arith, a.each c known, tally-le k (rules_of s c).counts, below, rules-few s g)

      -- one that waits for the completion of c counts for c alone
      pub tabled-completed : (table' : List ℕ) (common' : ℕ) → table' ≡ set table c (get_or table c 0 + 1) → common' ≡ common → Tabled s table' common' (k + 1)
      tabled-completed table' common' u v =
          rw (u, v) (record {
            within = omega (arith, below);
            size = length-set table c (get_or table c 0 + 1) ∙ a.size;
            few = let l = a.few in omega arith;
            each = λ t l. rw (tally-step k (rules_of s t).counts, ← counts-completed s t k c below e q)
                (cases (eqb c t)
                (λ x. let y : c ≡ t = eqb-true c t x in
                let i = a.size in
                let j : c < max_events = tabled-stage in
                rw (x, ← y) (omega (arith, get_or-set_same table c (get_or table c 0 + 1) 0 (omega arith), rw (← y) at (a.each t l))))
                (λ x. rw x (omega (arith, get_or-set_other table c t (get_or table c 0 + 1) 0 (λ y. eqb-false c t x (sym y)), a.each t l))));
          })

  pub tabled-last : (table : List ℕ) (common k : ℕ) → Tabled s table common k → rules ≤ k → StageCounts s table common
  tabled-last table common k a h =
      record { each = λ t l. a.each t l ∙ (let e : k ≡ (rules_of s t).count = (let i = a.within in omega (arith, count-is s t)) in rw e) }
