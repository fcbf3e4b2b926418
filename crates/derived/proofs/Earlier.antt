-- Laws of earlier proofs, which stood in specs/: nothing cites them now, and they stand. Assumes nothing.
use Rattle.std.specs.Prelude.{ℕ, ◌≤◌, ◌<◌, ◌≡◌, true, get_or}
use Rattle.std.proofs.Math.Path.{ap}
use Rattle.std.proofs.Common.{◌∙◌}
use mathlib.Core.List.{List}
use native.Mathlib.Omega.{arith}
use Rattle.sets.specs.Set.{union, within}
use Rattle.wire.specs.Wire.{bytes16}
use Rattle.general.specs.Lists.{packed}
use Rattle.book.specs.ImageOf.{rule_bytes}
use Rattle.derived.specs.Derived.{completion, text_for}
use Rattle.derived.specs.Sizes.{completion_size, completions_size, text_size, texts_size}
use Rattle.derived.specs.Parts.{completion_at, CompletionsIn, text_at, TextsIn}
use Rattle.general.specs.Writing.{Fits, Wrote}

-- ---- e's own sets out of the tables

module _ {n : ℕ} {i x r : List ℕ} (ok : CompletionsIn n i x r) (e : ℕ) {a b d : ℕ} (pa : a ≡ get_or i e 0) (pb : b ≡ get_or x e 0) (pd : d ≡ get_or r e 0) where
  pub completion-rows : {v : ℕ} → v ≡ completion_size e a b d → v ≡ completion_size e (get_or i e 0) (get_or x e 0) (get_or r e 0)
  completion-rows p = p ∙ rw (pa, pb, pd)

  pub completion-rows-inclusions : e < n → within n (union a b) ≡ true
  completion-rows-inclusions h = rw (pa, pb) (ok.inclusions e h)

  pub completion-rows-responses : e < n → within n d ≡ true
  completion-rows-responses h = rw pd (ok.responses e h)

  pub completion-rows-fit : (room : List ℕ) (at : ℕ) → Fits room at (packed rule_bytes (completion_at n i x r e)) → Fits room at (packed rule_bytes (completion n e a b d))
  unfolding completion_at
  completion-rows-fit room at f = rw (pa, pb, pd) f

  pub completion-rows-wrote : {room after : List ℕ} {at next : ℕ} → Wrote room at (packed rule_bytes (completion n e a b d)) next after
      → Wrote room at (packed rule_bytes (completion_at n i x r e)) next after
  unfolding completion_at
  completion-rows-wrote w = rw (← pa, ← pb, ← pd) w

module _ {n : ℕ} {t m : List ℕ} (ok : TextsIn n t m) (e : ℕ) {a b : ℕ} (pa : a ≡ get_or t e 0) (pb : b ≡ get_or m e 0) where
  pub text-rows : {v : ℕ} → v ≡ text_size a b → v ≡ text_size (get_or t e 0) (get_or m e 0)
  text-rows p = p ∙ rw (pa, pb)

  pub text-rows-conditions : e < n → within n a ≡ true
  text-rows-conditions h = rw pa (ok.conditions e h)

  pub text-rows-milestones : e < n → within n b ≡ true
  text-rows-milestones h = rw pb (ok.milestones e h)

  pub text-rows-fit : (room : List ℕ) (at : ℕ) → Fits room at (packed bytes16 (text_at n t m e)) → Fits room at (packed bytes16 (text_for n e a b))
  unfolding text_at
  text-rows-fit room at f = rw (pa, pb) f

  pub text-rows-wrote : {room after : List ℕ} {at next : ℕ} → Wrote room at (packed bytes16 (text_for n e a b)) next after
      → Wrote room at (packed bytes16 (text_at n t m e)) next after
  unfolding text_at
  text-rows-wrote w = rw (← pa, ← pb) w

pub completions-all : (n : ℕ) (i x r : List ℕ) (e s : ℕ) → e ≤ n → n ≤ e → s ≡ completions_size e i x r → s ≡ completions_size n i x r
completions-all n i x r e s h l p = let z : e ≡ n = omega arith in p ∙ ap (λ (k : ℕ). completions_size k i x r) z

pub texts-all : (n : ℕ) (t m : List ℕ) (e s : ℕ) → e ≤ n → n ≤ e → s ≡ texts_size e t m → s ≡ texts_size n t m
texts-all n t m e s h l p = let z : e ≡ n = omega arith in p ∙ ap (λ (k : ℕ). texts_size k t m) z
