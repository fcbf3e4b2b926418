-- The conditions that stay, and their new numbers: what a condition's text is in the smaller book. Assumes nothing.
use Prim.Native.Nat.{ℕ, zero, suc, ◌<◌}
use Rattle.std.specs.Prelude.{◌≡◌, Bool, true, cond, take, drop, get_or}
use Rattle.std.proofs.Math.Path.{refl}
use Rattle.std.proofs.Common.{◌∙◌, arith}
use mathlib.Core.List.{List, [], ◌∷◌, append-nil}
use Rattle.std.proofs.Math.ListN.{length, length-append, get_or-append}
use Rattle.std.proofs.lemmas.List.{get_or_at}
use Rattle.general.specs.Cases.{cases, lt-suc}
use Rattle.general.specs.Below.{tally}
use Rattle.general.specs.Lists.{flat, cut-flat}
use Rattle.flat_chart.specs.Flat.{FlatChart}
use Rattle.graph.specs.Flat.{Marking}
use Rattle.book.specs.Book.{no_condition, condition_of, text_of}
use Rattle.smaller.specs.Numbering.{tally-rises}
use Rattle.smaller.specs.Smaller.{smaller_text, has_text, new_condition, smaller_condition, smaller_book}

-- ---- one element for each number that passes

module _ {A : Type 0} (p : ℕ → Bool) (g : ℕ → A) where
  abbrev part : ℕ → List A
  part e = cond (p e) (g e ∷ []) []

  pub length-passing : (k : ℕ) → length (flat k part) ≡ tally k p
  unfolding flat tally
  length-passing zero = refl
  length-passing (suc k) =
      let i : length (flat k part) ≡ tally k p = length-passing k in
      length-append (flat k part) (part k) ∙ cases (p k) (λ t. rw (t, i) (omega arith)) (λ t. rw (t, i) (omega arith))

  pub get_or-passing : (k e : ℕ) (d : A) → e < k → p e ≡ true → get_or (flat k part) (tally e p) d ≡ g e
  unfolding flat
  get_or-passing zero e d h t = absurd (omega arith)
  get_or-passing (suc k) e d h t =
      lt-suc h
      (λ q. rw (q, rw q at t) (get_or_at (flat k part) (g k) [] d (tally k p) (length-passing k)))
      (λ l. let a : length (flat k part) ≡ tally k p = length-passing k in
      let b : tally e p < tally k p = tally-rises p e k l t in
      get_or-append (flat k part) (part k) d (tally e p) (omega arith) ∙ get_or-passing k e d l t)

module _ (c : FlatChart) (m : Marking) where
  pub conditions-left : length (smaller_book c m).conditions ≡ new_condition c m c.count
  unfolding smaller_book smaller_condition new_condition
  conditions-left = length-passing (has_text c m) (λ e. record { start = length (flat e (smaller_text c m)); count = length (smaller_text c m e) }) c.count

  module _ (e : ℕ) (h : e < c.count) (t : has_text c m e ≡ true) where
    pub condition-is : condition_of (smaller_book c m) (new_condition c m e) ≡ record { start = length (flat e (smaller_text c m)); count = length (smaller_text c m e) }
    unfolding smaller_book smaller_condition new_condition
    condition-is = get_or-passing (has_text c m) (λ e. record { start = length (flat e (smaller_text c m)); count = length (smaller_text c m e) }) c.count e no_condition h t

    words-cut : take (length (smaller_text c m e)) (drop (length (flat e (smaller_text c m))) (smaller_book c m).words) ≡ smaller_text c m e
    unfolding smaller_book
    words-cut = rw (← append-nil (flat c.count (smaller_text c m))) (cut-flat c.count e (smaller_text c m) [] h)

    pub smaller-text : text_of (smaller_book c m) (new_condition c m e) ≡ smaller_text c m e
    unfolding text_of
    smaller-text = rw condition-is words-cut
