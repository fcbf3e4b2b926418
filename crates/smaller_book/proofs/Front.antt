-- The smaller book at the front of the room, as the code meets it. Assumes nothing.
use Prim.Native.Nat.{ℕ, ◌+◌, ◌*◌, ◌≤◌}
use mathlib.Core.Path.{◌≡◌, sym, ap, ◌∙◌}
use mathlib.Core.List.{List, ◌++◌}
use native.Mathlib.Omega.{arith}
use lib.Dec.{leb}
use lib.ListN.{length, take, drop, length-append}
use lib.Seq.{take-append_seam}
use Rattle.general.specs.Cases.{cases}
use Rattle.wire.specs.Laws.{u32-first}
use Rattle.flat_chart.specs.Flat.{FlatChart}
use Rattle.graph.specs.Flat.{Marking}
use Rattle.flat_chart.specs.Chart.{Fit}
use Rattle.graph.specs.Fitness.{fit}
use Rattle.graph.specs.Fitness.{fit-both}
use Rattle.book.specs.Image.{rules_in, conditions_in, words_in, condition_place, word_place}
use Rattle.book.specs.Judging.{counts_of}
use Rattle.book.specs.declared.Counts.{Counts}
use Rattle.smaller.proofs.Formed.{smaller-well}
use Rattle.smaller_deriver.specs.Calling.{smaller_image, deriving_smaller, smaller_room}
use Rattle.smaller_deriver.specs.declared.Smaller.{Smaller}

granted-room : (c : FlatChart) (m : Marking) (room : List ℕ) → (deriving_smaller c m (length room)).answer.code ≡ 0
    → Fit c × (smaller_room c m room ≡ smaller_image c m ++ drop (length (smaller_image c m)) room)
unfolding deriving_smaller smaller_room
granted-room c m room e =
    cases (fit c m)
    (λ f. cases (leb (length (smaller_image c m)) (length room)) (λ l. ((fit-both c m f).0, rw (f, l))) (λ l. absurd (omega (arith, rw (f, l) at e))))
    (λ f. absurd (omega (arith, rw f at e)))

pub answer-given : (c : FlatChart) (m : Marking) (n : ℕ) (s : Smaller) → s ≡ deriving_smaller c m n → s.answer ≡ (deriving_smaller c m n).answer
answer-given c m n s p = ap (λ (x : Smaller). x.answer) p

module _ (c : FlatChart) (m : Marking) (room after : List ℕ) (s : Smaller) (p : s ≡ deriving_smaller c m (length room)) (z : s.answer.code ≡ 0) (q : after ≡ smaller_room c m room) where
  abbrev rest : List ℕ
  rest = drop (length (smaller_image c m)) room

  front : Fit c × (after ≡ smaller_image c m ++ rest)
  front = let (f, e) = granted-room c m room (rw p at z) in (f, q ∙ e)

  length-is : (n : ℕ) → n ≡ word_place (rules_in after) (conditions_in after) (words_in after) → n ≡ length (smaller_image c m)
  length-is n k =
      let (f, e) = front in
      let w = (smaller-well c m f).headed in
      let l = w.long in
      let x = u32-first (smaller_image c m) rest 8 (omega arith) in
      let y = u32-first (smaller_image c m) rest 12 (omega arith) in
      let v = u32-first (smaller_image c m) rest 16 (omega arith) in
      k ∙ rw (e, x, y, v) (sym w.laid_out.whole)

  pub book-whole : (n : ℕ) → n ≡ word_place (rules_in after) (conditions_in after) (words_in after)
      → (s.answer ≡ (deriving_smaller c m (length room)).answer) × ((s.answer.code ≡ 0 → take n after ≡ smaller_image c m) × (n ≤ length after))
  book-whole n k =
      let e = front.1 in
      let l = length-is n k in (
        answer-given c m (length room) s p,
        (λ _. rw (l, e) (take-append_seam (smaller_image c m) rest), rw (l, e, length-append (smaller_image c m) rest) (omega arith)),
      )

pub book-ends : (s : List ℕ) (h : Counts) (w : ℕ) → h ≡ counts_of s → w ≡ condition_place h.rules h.conditions
    → w + 2 * h.words ≡ word_place (rules_in s) (conditions_in s) (words_in s)
book-ends s h w p q = rw (q, p) (omega arith)
