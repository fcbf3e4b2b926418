-- What request (xiii) has the call answer, row by row, that it answers this and nothing else, and what it leaves in the two rooms. Assumes nothing.
use Prim.Native.Nat.{ℕ, ◌≤◌}
use Rattle.std.specs.Prelude.{◌≡◌, refl, ◌↔◌, false, ◌||◌, List}
use Rattle.std.proofs.Common.{sym, ap, inl, inr, arith}
use Rattle.std.proofs.Math.Logic.{⊎_elim}
use Rattle.std.proofs.Math.Bool.{true}
use Rattle.std.proofs.Math.Dec.{ltb}
use Rattle.std.proofs.Math.ListN.{length}
use borrow.Author.Tests.{ltb-true, ltb-false, lt-ltb, le-ltb}
use Rattle.paper.specs.Limits.{max_events, chart_header, chart_short, chart_count, chart_length, many_events, mend_room}
use Rattle.paper.specs.Answers.{answer, granted, refusal}
use Rattle.paper.specs.declared.Answer.{Answer}
use Rattle.general.specs.Cases.{contra, cases, either, neither, or_left, or_right}
use Rattle.general.specs.Refusals.{Refusals, when, otherwise, first_row, Told, first-told, told-only}
use Rattle.records.specs.Image.{out_of_range, misplaced}
use Rattle.nesting.specs.Nesting.{event_count}
use Rattle.chart.specs.Conditions.{InRange, range-right, laid-right}
use Rattle.chart.specs.Outcome.{HeaderRight}
use Rattle.mend.specs.Calling.{mended_image, list_bytes, room_answer, mend_answer}
use Rattle.mend.specs.Table.{Mendable, Mends, is_short, is_out_of_range, is_misplaced, is_many, is_narrow, is_mended}

module _ (image : List ℕ) (chart list : ℕ) where
  unfoldable mend_rows : Refusals (Mends image chart list) (Unit {0})
  mend_rows =
      let n : ℕ = length (mended_image image) in
      let l : ℕ = length (list_bytes image) in
      when {N = chart_header ≤ length image} (ltb (length image) chart_header) (refusal chart_short) (λ _ h. is_short (ltb-true (length image) chart_header h))
      (λ k. ltb-false (length image) chart_header k.1, λ h. (tt, le-ltb (length image) chart_header h))
      (when {B = chart_header ≤ length image} {N = (chart_header ≤ length image) × InRange image} (out_of_range image) (refusal chart_count)
      (λ k h. is_out_of_range k (λ r. contra h ((range-right image).1 r)))
      (λ k. (k.0, (range-right image).0 k.1), λ k. (k.0, (range-right image).1 k.1))
      (when {B = (chart_header ≤ length image) × InRange image} {N = HeaderRight image} (misplaced image) (refusal chart_length)
      (λ k h. is_misplaced k.0 k.1 (λ r. contra h ((laid-right image).1 r)))
      (λ k. record { long = k.0.0; range = k.0.1; laid = (laid-right image).0 k.1 }, λ k. ((k.long, k.range), (laid-right image).1 k.laid))
      (when {B = HeaderRight image} {N = Mendable image} (ltb max_events (event_count (mended_image image))) (answer many_events (event_count (mended_image image)) 0)
      (λ k h. is_many k (ltb-true max_events _ h))
      (λ k. record { header = k.0; few = ltb-false max_events _ k.1 }, λ k. (k.header, le-ltb max_events _ k.few))
      (when {B = Mendable image} (ltb chart n || ltb list l) (answer mend_room n l)
      (λ k h. is_narrow k (either (ltb chart n) (ltb list l) h (λ t. inl (ltb-true chart n t)) (λ t. inr (ltb-true list l t)))) (λ k. k, λ k. k)
      (otherwise {B = Mendable image × ((ltb chart n || ltb list l) ≡ false)} granted
      (λ k. let t = neither (ltb chart n) (ltb list l) k.1 in is_mended k.0 (ltb-false chart n t.0) (ltb-false list l t.1)))))))

  pub mends : Mends image chart list (mend_answer image chart list)
  unfolding mend_answer room_answer mend_rows first_row
  mends = first-told mend_rows tt

  pub mends-only : {a : Answer} → Mends image chart list a → a ≡ mend_answer image chart list
  unfolding mend_answer room_answer mend_rows first_row Told
  mends-only (is_short h) = told-only mend_rows (inl (tt, lt-ltb (length image) chart_header h, refl))
  mends-only (is_out_of_range l r) = told-only mend_rows (inr (inl (l, cases (out_of_range image) (λ t. t) (λ t. absurd (r ((range-right image).0 t))), refl)))
  mends-only (is_misplaced l i r) = told-only mend_rows (inr (inr (inl ((l, i), cases (misplaced image) (λ t. t) (λ t. absurd (r ((laid-right image).0 t))), refl))))
  mends-only (is_many h m) = told-only mend_rows (inr (inr (inr (inl (h, lt-ltb max_events _ m, refl)))))
  mends-only (is_narrow k s) =
      let n : ℕ = length (mended_image image) in
      let l : ℕ = length (list_bytes image) in
      let t : (ltb chart n || ltb list l) ≡ true =
      ⊎_elim (λ h. or_left (ltb chart n) (ltb list l) (lt-ltb chart n h)) (λ h. or_right (ltb chart n) (ltb list l) (lt-ltb list l h)) s in
      told-only mend_rows (inr (inr (inr (inr (inl (k, t, refl))))))
  mends-only (is_mended k a b) =
      told-only mend_rows (inr (inr (inr (inr (inr ((k, rw (le-ltb chart (length (mended_image image)) a, le-ltb list (length (list_bytes image)) b)), refl))))))

module _ (image chart list : List ℕ) where
  abbrev code : ℕ
  code = (mend_answer image (length chart) (length list)).code

  -- granted exactly if the chart is mendable and both rooms are long enough
  pub mend-granted : (code ≡ 0) ↔ (Mendable image × (length (mended_image image) ≤ length chart) × (length (list_bytes image) ≤ length list))
  mend-granted = (
    go (mends image (length chart) (length list)),
    λ t. ap (λ (a : Answer). a.code) (sym (mends-only image (length chart) (length list) (is_mended t.0 t.1 t.2))),
  )
    where
      go : {a : Answer} → Mends image (length chart) (length list) a → a.code ≡ 0
          → Mendable image × (length (mended_image image) ≤ length chart) × (length (list_bytes image) ≤ length list)
      go (is_short h) e = absurd (omega arith)
      go (is_out_of_range l r) e = absurd (omega arith)
      go (is_misplaced l i r) e = absurd (omega arith)
      go (is_many h m) e = absurd (omega arith)
      go (is_narrow k s) e = absurd (omega arith)
      go (is_mended k a b) e = (k, a, b)
