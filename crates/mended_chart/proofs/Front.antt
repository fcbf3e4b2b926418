-- The mended chart and the list at the front of their rooms, as the code meets them. Assumes nothing.
use Prim.Native.Nat.{ℕ, ◌*◌, ◌≤◌}
use mathlib.Core.Path.{◌≡◌, sym, ap, ◌∙◌}
use mathlib.Core.List.{List, ◌++◌}
use native.Mathlib.Omega.{arith}
use lib.ListN.{length, take, drop, length-append}
use lib.Seq.{take-append_seam}
use Rattle.paper.specs.Limits.{change_size}
use Rattle.general.specs.Lists.{length-packed}
use Rattle.wire.specs.Laws.{u16-first}
use Rattle.records.specs.Image.{nodes, relations, relation_at}
use Rattle.mending.specs.Records.{records_of}
use Rattle.mending.specs.Mending.{change_bytes, mended}
use Rattle.mending.specs.Images.{image-nodes, image-relations, image-length}
use Rattle.mending.specs.StepByStep.{length-change}
use Rattle.mend.specs.declared.Mended.{Mended}
use Rattle.mend.specs.Calling.{mended_image, list_bytes, changes_of, mend_answer, mending, mended_room, changes_room}
use Rattle.mend.specs.Table.{mend-written}

module _ (image chart list : List ℕ) where
  -- the answer is the one that the call gives
  pub answer-is : (m : Mended) → m ≡ mending image (length chart) (length list) → m.answer ≡ mend_answer image (length chart) (length list)
  unfolding mending
  answer-is m e = rw e

  module _ (m : Mended) (e : m ≡ mending image (length chart) (length list)) (z : m.answer.code ≡ 0) where
    code_is : (mend_answer image (length chart) (length list)).code ≡ 0
    code_is = rw (answer-is m e) at z

    entries-are : change_size * m.entries ≡ length (list_bytes image)
    entries-are = rw (ap (λ (x : Mended). x.entries) e, (mend-written image chart list code_is).entries) (sym (length-packed change_bytes change_size length-change (changes_of image)))

    pub list-front : {l : List ℕ} → l ≡ changes_room image chart list → (take (change_size * m.entries) l ≡ list_bytes image) × (change_size * m.entries ≤ length l)
    list-front {l} q =
        let w : l ≡ list_bytes image ++ drop (length (list_bytes image)) list = q ∙ (mend-written image chart list code_is).list_room in
        (rw (entries-are, w) (take-append_seam (list_bytes image) _), rw (entries-are, w, length-append (list_bytes image) (drop (length (list_bytes image)) list)) (omega arith))

    pub chart-front : {n : ℕ} {c : List ℕ} → c ≡ mended_room image chart list → n ≡ relation_at (nodes c) (relations c)
        → (take n c ≡ mended_image image) × (n ≤ length c)
    chart-front {n} {c} q s =
        let rest : List ℕ = drop (length (mended_image image)) chart in
        let w : c ≡ mended_image image ++ rest = q ∙ (mend-written image chart list code_is).chart_room in
        let r = mended (records_of image) in
        let l : length (mended_image image) ≡ relation_at (nodes (mended_image image)) (relations (mended_image image)) = image-length r ∙ rw (image-nodes r, image-relations r) in
        let a = u16-first (mended_image image) rest 0 (omega arith) in
        let b = u16-first (mended_image image) rest 2 (omega arith) in
        let t : n ≡ length (mended_image image) = s ∙ rw (w, a, b) (sym l) in
        (rw (t, w) (take-append_seam (mended_image image) rest), rw (t, w, length-append (mended_image image) rest) (omega arith))
