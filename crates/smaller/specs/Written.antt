-- The smaller book's parts are the runs that the code makes: by the table of new mark numbers, the kept sets and the texts' sizes. Assumes nothing.
use Prim.Native.Nat.{ℕ, zero, suc, ◌-◌, ◌<◌}
use Rattle.std.specs.Prelude.{◌≡◌, refl, ◌≢◌, length, replicate}
use Rattle.std.proofs.Math.Path.{sym}
use Rattle.std.proofs.Common.{◌∙◌, arith}
use Rattle.std.proofs.Math.Bool.{false}
use mathlib.Core.List.{List, [], ◌++◌, append-nil}
use borrow.Author.Tests.{eq-eqb, ne_eqb}
use Rattle.paper.specs.Limits.{max_events}
use Rattle.general.specs.Cases.{lt-suc}
use Rattle.general.specs.Lists.{flat, flat-none, each}
use Rattle.sets.specs.Set.{has, inter, only}
use Rattle.sets.specs.Laws.{has-inter, has-only}
use Rattle.flat_chart.specs.Chart.{Fit, include, set_of}
use Rattle.flat_chart.specs.Flat.{FlatChart}
use Rattle.graph.specs.Flat.{Marking}
use Rattle.book.specs.declared.Rule.{Rule}
use Rattle.derived.specs.Derived.{listed}
use Rattle.smaller.specs.Staying.{mark_table}
use Rattle.smaller.specs.Runs.{completions_by, texts_by}
use Rattle.smaller.specs.Kept.{executed_kept, included_kept, answered_kept}

-- ---- one part alone

module _ {A : Type 0} where
  -- where every part but one is empty
  flat-one : (n e : ℕ) (g : ℕ → List A) → e < n → ((f : ℕ) → f < n → f ≢ e → g f ≡ []) → flat n g ≡ g e
  unfolding flat
  flat-one zero e g h s = absurd (omega arith)
  flat-one (suc n) e g h s =
      lt-suc h (λ q. rw (q, flat-none n g (λ f l. s f (omega arith) (λ a. omega arith))))
      (λ l. rw (flat-one n e g l (λ f i. s f (omega arith)), s n (omega arith) (λ a. omega arith)) (append-nil (g e)))

  -- the members of s, where there is none but e
  pub listed-one : (g : ℕ → List A) (n e s : ℕ) → e < n → ((f : ℕ) → f ≢ e → has s f ≡ false) → flat n (listed g s) ≡ listed g s e
  listed-one g n e s h q = flat-one n e (listed g s) h (λ f l a. rw (q f a))

  -- e alone, if s has it
  pub listed-own : (g : ℕ → List A) (n e s : ℕ) → e < n → flat n (listed g (inter (only e) s)) ≡ listed g s e
  listed-own g n e s h =
      listed-one g n e (inter (only e) s) h (λ f a. has-inter (only e) s f ∙ rw (has-only e f, ne_eqb e f (λ p. a (sym p))))
      ∙ rw (has-inter (only e) s e, has-only e e, eq-eqb e e refl)

module _ (c : FlatChart) (m : Marking) where
  abbrev n : ℕ
  n = c.count

  abbrev t : List ℕ
  t = mark_table c m

  -- what the code writes for e
  abbrev pub completions_of : ℕ → List Rule
  completions_of = completions_by t n (executed_kept c m) (included_kept c m) (answered_kept c m) c.includes c.excludes c.responses

  abbrev pub texts_of : ℕ → List ℕ
  texts_of = texts_by t n (included_kept c m) (answered_kept c m) c.conditions c.milestones

  -- the sizes that the code hands on
  abbrev pub sizes_of : List ℕ
  sizes_of = each n (λ e. length (texts_of e)) ++ replicate (max_events - n) 0

  module _ (fit : Fit c) where
    -- ---- the rules on a completion

    module _ (e : ℕ) (h : e < n) where
      abbrev i : ℕ
      i = set_of c include e
