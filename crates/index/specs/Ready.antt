-- What an index is written and compared from, and the image run by run in those numbers. Assumes nothing.
use Rattle.std.specs.Prelude.{◌≡◌, List, ◌++◌, ℕ, ◌<◌, length}
use Rattle.std.proofs.Common.{ap}
use Rattle.general.specs.Lists.{flat}
use Rattle.wire.specs.Wire.{bytes32}
use Rattle.book.specs.Image.{stages_in, rules_in, book_of}
use Rattle.book.specs.Read.{rules-count}
use Rattle.book.specs.WellRead.{Opened}
use Rattle.book.specs.declared.Counts.{Counts}
use Rattle.order_theory.specs.Order.{NoLoop}
use Rattle.rule_order.specs.Nets.{rules_of}
use Rattle.index.specs.Index.{order_bytes, index_image, NoLoops}
use Rattle.index.specs.Sizes.{start_from, entry_from, Sized, StageCounts, counts-sized, entries-are, bytes-needed}

-- a book without a loop for any stage, its counts, and how many rules count for each stage
pub record IndexReady (s : List ℕ) (h : Counts) (table : List ℕ) (common : ℕ) : Type 0 where
  pub opened : Opened s h
  pub acyclic : NoLoops (book_of s)
  pub counted : StageCounts s table common

module _ (s : List ℕ) (h : Counts) (table : List ℕ) (common : ℕ) (g : IndexReady s h table common) where
  pub ready-stages : h.stages ≡ stages_in s
  ready-stages = ap (λ (k : Counts). k.stages) g.opened.counts

  pub ready-rules : h.rules ≡ rules_in s
  ready-rules = ap (λ (k : Counts). k.rules) g.opened.counts

  pub ready-acyclic : (t : ℕ) → t < h.stages → NoLoop (rules_of s t)
  unfolding book_of
  ready-acyclic t l = g.acyclic t (rw ready-stages at l)

  pub ready-sized : Sized h.stages table common
  ready-sized = rw ready-stages (counts-sized s table common g.opened.formed g.counted)

  pub ready-length : start_from h.stages table common h.stages ≡ length (index_image (book_of s))
  ready-length = rw ready-stages (bytes-needed s table common g.opened.formed g.counted g.acyclic)

  pub image-runs :
      index_image (book_of s) ≡ ((bytes32 h.stages ++ bytes32 h.rules) ++ flat h.stages (entry_from h.stages table common)) ++ flat h.stages (order_bytes (book_of s))
  unfolding index_image book_of
  image-runs = rw (rules-count s, ready-stages, ready-rules, entries-are s table common g.opened.formed g.counted g.acyclic)
