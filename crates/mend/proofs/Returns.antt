-- The law for each return of the call: what is at hand is what the definition of mending gives. Assumes nothing.
use Rattle.std.specs.Prelude.{ℕ, ◌+◌, ◌*◌, ◌≤◌, ◌<◌, ◌≡◌, Bool, List, ◌++◌, length, drop}
use Rattle.std.proofs.Math.Path.{sym}
use Rattle.std.proofs.Common.{ap, ◌∙◌, inl, inr, arith}
use borrow.Author.Tests.{ne_eqb}
use Rattle.paper.specs.Limits.{max_events, chart_header, many_events, mend_room, change_size}
use Rattle.paper.specs.Answers.{answer, granted}
use Rattle.paper.specs.declared.Answer.{Answer}
use Rattle.general.specs.Cases.{contra}
use Rattle.general.specs.Below.{tally}
use Rattle.general.specs.Writing.{Wrote, wrote-whole}
use Rattle.records.specs.Image.{Whole}
use Rattle.nesting.specs.Tables.{is_event_in}
use Rattle.mending.specs.OfImage.{relations_left, mended_runs, entries}
use Rattle.mending.proofs.StepByStep.{mended-runs, entries-so}
use Rattle.mend_writer.specs.Groups.{GroupsLeft}
use Rattle.mend_writer.specs.Steps.{list_runs}
use Rattle.chart.specs.Conditions.{range-right, laid-right}
use Rattle.chart.specs.Outcome.{HeaderRight}
use Rattle.chart.specs.Headed.{HeaderWrong, short, counted, laid}
use Rattle.std.specs.Prelude.{Result, refl, ◌⊎◌}
use Rattle.std.specs.Result.{IsErrAnd}
use Rattle.std.proofs.lemmas.Result.{err_from_is_err_and}
use Rattle.std.proofs.Math.Logic.{⊎_elim}
use Rattle.paper.specs.Refusals.{answer_of}
use Rattle.paper.specs.declared.Refusal.{Refusal}
use Rattle.mend.specs.declared.Mended.{Mended}
use Rattle.mend.specs.Calling.{mended_image, changes_of, list_bytes, mend_answer, mending}
use Rattle.mend.specs.Table.{Mendable, Mends, is_short, is_out_of_range, is_misplaced, is_many, is_narrow, is_mended, mend-written, mend-kept, refused_by}
use Rattle.mend.proofs.Table.{mends-only}
use Rattle.mend.specs.Returns.{Gives, mended_of, events-are, chart-bytes, list-bytes, list-runs, chart-long, list-long, chart-fits, list-fits}

module _ (image chart list : List ℕ) where
  refused-so : {a : Answer} {r : Mended} → Mends image (length chart) (length list) a → (a.code ≡ 0 → ⊥) → r ≡ refused_by a → Gives image chart list r chart list
  unfolding mending
  refused-so {a} m z e =
      let q = mends-only image (length chart) (length list) m in
      let n : (mend_answer image (length chart) (length list)).code ≡ 0 → ⊥ = λ y. z (rw q y) in
      let k = mend-kept image chart list n in
      (e ∙ rw (← q, ne_eqb a.code 0 z), sym k.chart_room, sym k.list_room)

  granted-so : {n : ℕ} {r : Mended} {c l : List ℕ} → Mends image (length chart) (length list) granted → r ≡ record { answer = granted; entries = n } → n ≡ length (changes_of image)
      → c ≡ mended_image image ++ drop (length (mended_image image)) chart → l ≡ list_bytes image ++ drop (length (list_bytes image)) list → Gives image chart list r c l
  unfolding mending
  granted-so m e f g h =
      let q = mends-only image (length chart) (length list) m in
      let k = mend-written image chart list (ap (λ (a : Answer). a.code) (sym q)) in
      (e ∙ rw (← q, f), g ∙ sym k.chart_room, h ∙ sym k.list_room)

  -- ---- 1 to 3

  pub mend_header : {a : Answer} → HeaderWrong image a → Gives image chart list (refused_by a) chart list
  mend_header (short h) = refused-so (is_short h) (λ z. omega arith) refl
  mend_header (counted l t) = refused-so (is_out_of_range l (λ i. contra t ((range-right image).1 i))) (λ z. omega arith) refl
  mend_header (laid l o t) = refused-so (is_misplaced l ((range-right image).0 o) (λ i. contra t ((laid-right image).1 i))) (λ z. omega arith) refl

  -- what a `?` hands on is told as it was
  pub mend-thrown : (r : Result ℕ Refusal) (e : Refusal) → IsErrAnd r (λ x. x ≡ e) → {c l : List ℕ} → Gives image chart list (refused_by (answer_of e)) c l → Gives image chart list (mended_of r) c l
  mend-thrown r e h g = let p = err_from_is_err_and r h in rw (p.1, p.2) g

-- ---- 7

module _ {image : List ℕ} {n k e : ℕ} {groups : List Bool} (w : Whole image n k) (g : GroupsLeft image n groups) (q : e ≡ tally n (is_event_in groups)) where
  pub mend-many : (chart list : List ℕ) → HeaderRight image → max_events < e → Gives image chart list (refused_by (answer many_events e 0)) chart list
  mend-many chart list h m = refused-so image chart list (is_many h (rw (← (events-are w g q)) m)) (λ z. omega arith) (rw (events-are w g q))

-- ---- 37, and what is granted

module _ (image : List ℕ) (n k l m : ℕ) (w : Whole image n k) (e : l ≡ relations_left image) (f : m ≡ length (entries image)) where
  abbrev chart_need : ℕ
  chart_need = chart_header + 4 * n + 6 * l

  abbrev list_need : ℕ
  list_need = change_size * m

  module _ (chart list : List ℕ) (ok : Mendable image) where
    pub mend-narrow : (length chart < chart_need) ⊎ (length list < list_need) → Gives image chart list (refused_by (answer mend_room chart_need list_need)) chart list
    mend-narrow t =
        refused-so image chart list (is_narrow ok (⊎_elim (λ u. inl (rw (chart-bytes image n k l m w e f) u)) (λ u. inr (rw (list-bytes image n k l m w e f) u)) t))
        (λ z. omega arith) (rw (chart-bytes image n k l m w e f, list-bytes image n k l m w e f))

    module _ (a : chart_need ≤ length chart) (b : list_need ≤ length list) where
      pub mend-done : {p q : ℕ} {c d : List ℕ} → Wrote chart 0 (mended_runs image) p c → Wrote list 0 (list_runs image n k) q d → Gives image chart list (record { answer = granted; entries = m }) c d
      mend-done u v =
          granted-so image chart list (is_mended ok (chart-long image n k l m w e f chart list ok a b) (list-long image n k l m w e f chart list ok a b)) refl (f ∙ ap length (sym (entries-so image w)))
          (rw (mended-runs image w) (wrote-whole u (chart-fits image n k l m w e f chart list ok a b))) (rw (list-runs image n k l m w e f) (wrote-whole v (list-fits image n k l m w e f chart list ok a b)))
