-- The derived book at the front of the room, as the code meets it. Assumes nothing.
use Prim.Native.Nat.{ℕ, ◌+◌, ◌*◌, ◌≤◌}
use mathlib.Core.Path.{◌≡◌, sym, ◌∙◌}
use mathlib.Core.List.{List, ◌++◌}
use native.Mathlib.Omega.{arith}
use lib.Dec.{leb}
use lib.ListN.{length, take, drop, length-append}
use lib.Seq.{take-append_seam}
use Rattle.paper.specs.declared.Answer.{Answer}
use Rattle.general.specs.Cases.{cases}
use Rattle.wire.specs.Laws.{u32-first}
use Rattle.flat_chart.specs.Flat.{FlatChart}
use Rattle.flat_chart.specs.Chart.{Fit}
use Rattle.flat_chart.specs.Tests.{fit_chart}
use Rattle.flat_chart.specs.Fitness.{tested-fit}
use Rattle.book.specs.Image.{rules_in, conditions_in, words_in, condition_place, word_place}
use Rattle.book.specs.Judging.{counts_of}
use Rattle.book.specs.declared.Counts.{Counts}
use Rattle.deriver.specs.Deriving.{derived_image, deriving_answer, derived_room}
use Rattle.deriver.specs.Formed.{derived-well}

granted-room : (c : FlatChart) (room : List ℕ) → (deriving_answer c (length room)).code ≡ 0
    → Fit c × (derived_room c room ≡ derived_image c ++ drop (length (derived_image c)) room)
unfolding deriving_answer derived_room
granted-room c room e =
    cases (fit_chart c)
    (λ f. cases (leb (length (derived_image c)) (length room)) (λ l. (tested-fit c f, rw (f, l))) (λ l. absurd (omega (arith, rw (f, l) at e))))
    (λ f. absurd (omega (arith, rw f at e)))

module _ (c : FlatChart) (room after : List ℕ) (a : Answer) (p : a ≡ deriving_answer c (length room)) (z : a.code ≡ 0) (q : after ≡ derived_room c room) where
  abbrev rest : List ℕ
  rest = drop (length (derived_image c)) room

  front : Fit c × (after ≡ derived_image c ++ rest)
  front = let (f, e) = granted-room c room (rw p at z) in (f, q ∙ e)

  length-is : (n : ℕ) → n ≡ word_place (rules_in after) (conditions_in after) (words_in after) → n ≡ length (derived_image c)
  length-is n s =
      let (f, e) = front in
      let w = (derived-well c f).headed in
      let l = w.long in
      let x = u32-first (derived_image c) rest 8 (omega arith) in
      let y = u32-first (derived_image c) rest 12 (omega arith) in
      let v = u32-first (derived_image c) rest 16 (omega arith) in
      s ∙ rw (e, x, y, v) (sym w.laid_out.whole)

  pub book-whole : (n : ℕ) → n ≡ word_place (rules_in after) (conditions_in after) (words_in after)
      → (a ≡ deriving_answer c (length room)) × ((a.code ≡ 0 → take n after ≡ derived_image c) × (n ≤ length after))
  book-whole n s =
      let e = front.1 in
      let l = length-is n s in
      (p, (λ _. rw (l, e) (take-append_seam (derived_image c) rest), rw (l, e, length-append (derived_image c) rest) (omega arith)))

pub book-ends : (s : List ℕ) (h : Counts) (w : ℕ) → h ≡ counts_of s → w ≡ condition_place h.rules h.conditions
    → w + 2 * h.words ≡ word_place (rules_in s) (conditions_in s) (words_in s)
book-ends s h w p q = rw (q, p) (omega arith)
