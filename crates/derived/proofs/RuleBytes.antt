-- What each writer leaves behind, in the form in which the code meets it. Assumes nothing.
use Rattle.std.specs.Prelude.{ℕ, ◌+◌, ◌*◌, ◌≤◌, ◌<◌, ◌≡◌, refl, get_or}
use Rattle.std.proofs.Math.Path.{sym, ap}
use Rattle.std.proofs.Common.{◌∙◌}
use mathlib.Core.List.{List, [], ◌∷◌, ◌++◌}
use native.Mathlib.Omega.{arith}
use Rattle.std.proofs.Math.ListN.{length}
use Rattle.paper.specs.Limits.{condition_size}
use Rattle.wire.specs.Wire.{put16, bytes16}
use Rattle.book.specs.Book.{Condition}
use Rattle.general.specs.Lists.{total-same, flat, length-flat, packed, packed-append, length-packed}
use Rattle.book.specs.ImageOf.{condition_bytes, length-condition}
use Rattle.derived.specs.Derived.{listed, text_for}
use Rattle.derived.specs.Sizes.{text_size, texts_size}
use Rattle.derived.proofs.Sizes.{length-text}
use Rattle.derived.specs.Parts.{text_at, TextsIn, condition_made, condition_part, clause_from}
use Rattle.general.specs.Writing.{Fits, Wrote, then, fits-first, fits-then}
use Rattle.derived.specs.RuleBytes.{word-wrote}

-- ---- one text: the mark included e, and two runs of clauses

module _ (n e c m : ℕ) (room : List ℕ) (at : ℕ) where
  abbrev first : List ℕ
  first = bytes16 (2 * n + e)

  abbrev held : List ℕ
  held = packed bytes16 (flat n (listed (clause_from (2 * n) n) c))

  abbrev answers : List ℕ
  answers = packed bytes16 (flat n (listed (clause_from (2 * n) (3 * n)) m))

  text-bytes : packed bytes16 (text_for n e c m) ≡ first ++ (held ++ answers)
  unfolding text_for clause_from packed
  text-bytes = ap (λ (l : List ℕ). first ++ l) (packed-append bytes16 (flat n (listed (clause_from (2 * n) n) c)) (flat n (listed (clause_from (2 * n) (3 * n)) m)))

  module _ (fits : Fits room at (packed bytes16 (text_for n e c m))) where
    whole-text : Fits room at (first ++ (held ++ answers))
    whole-text = rw text-bytes at fits

    pub text-fits-1 : at + 2 ≤ length room
    unfolding bytes16
    text-fits-1 = let h : Fits room at first = fits-first room at first (held ++ answers) whole-text in omega arith

    module _ (r₁ : List ℕ) (w₁ : r₁ ≡ put16 room at (2 * n + e)) where
      pub text-fits-2 : Fits r₁ (at + 2) held
      text-fits-2 = fits-first r₁ (at + 2) held answers (fits-then (word-wrote at (at + 2) (2 * n + e) refl w₁) _ whole-text)

      module _ (p₂ : ℕ) (r₂ : List ℕ) (w₂ : Wrote r₁ (at + 2) held p₂ r₂) where
        pub text-fits-3 : Fits r₂ p₂ answers
        text-fits-3 = fits-then w₂ _ (fits-then (word-wrote at (at + 2) (2 * n + e) refl w₁) _ whole-text)

        pub text-wrote : (p₃ : ℕ) (r₃ : List ℕ) → Wrote r₂ p₂ answers p₃ r₃ → Wrote room at (packed bytes16 (text_for n e c m)) p₃ r₃
        text-wrote p₃ r₃ w₃ = rw text-bytes (then (word-wrote at (at + 2) (2 * n + e) refl w₁) (then w₂ w₃))

module _ (n : ℕ) (t m : List ℕ) (ok : TextsIn n t m) (e start count : ℕ) (h : e < n) (p : start ≡ texts_size e t m) (q : count ≡ text_size (get_or t e 0) (get_or m e 0)) where
  part-made : condition_part n t m e ≡ condition_made start count ∷ []
  unfolding condition_part texts_size text_at
  part-made =
      let a : length (flat e (text_at n t m)) ≡ start =
      length-flat e (text_at n t m)
      ∙ total-same e (λ k. length (text_at n t m k)) (λ k. text_size (get_or t k 0) (get_or m k 0))
      (λ k l. let i : k < n = omega arith in length-text n k (get_or t k 0) (get_or m k 0) (ok.conditions k i) (ok.milestones k i))
      ∙ sym p in
      let b : length (text_at n t m e) ≡ count = length-text n e (get_or t e 0) (get_or m e 0) (ok.conditions e h) (ok.milestones e h) ∙ sym q in
      rw (a, b)

  pub part-fits : (room : List ℕ) (at : ℕ) → Fits room at (packed condition_bytes (condition_part n t m e)) → at + 8 ≤ length room
  part-fits room at f =
      let l : length (packed condition_bytes (condition_part n t m e)) ≡ 8 =
      ap (λ (c : List Condition). length (packed condition_bytes c)) part-made ∙ length-packed condition_bytes condition_size length-condition (condition_made start count ∷ []) in
      omega arith

  pub part-wrote : {room after : List ℕ} (at next : ℕ) → Wrote room at (packed condition_bytes (condition_made start count ∷ [])) next after
      → Wrote room at (packed condition_bytes (condition_part n t m e)) next after
  part-wrote at next w = rw part-made w
