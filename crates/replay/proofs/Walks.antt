-- What the loop over a record keeps, and where it stops. Assumes nothing.
use Prim.Native.Nat.{ℕ, zero, suc, ◌+◌, ◌*◌, ◌/◌, ◌≤◌, ◌<◌}
use mathlib.Core.Path.{◌≡◌, refl, sym, ◌∙◌}
use mathlib.Core.Bool.{Bool, true, false}
use mathlib.Core.List.{List, [], ◌∷◌}
use native.Mathlib.Omega.{arith}
use native.Mathlib.Nat.{add-zero, add-suc, suc-add}
use native.Mathlib.Numerals.{add-one}
use lib.Dec.{eqb}
use lib.ListN.{length, get_or}
use lib.Seq.{slice, slice-cons, slice_empty}
use borrow.Author.Tests.{eqb-true}
use Rattle.std.proofs.lemmas.Bool.{eqb-false}
use Rattle.paper.specs.Limits.{max_events}
use Rattle.graph.specs.Fitness.{fit}
use Rattle.graph.specs.Fitness.{fit-both, both-fit}
use Rattle.graph.specs.Steps.{after, granting, fit_few}
use Rattle.graph.specs.Execution.{step-fit, granted-enabled, executes-only, is_done, after-executed}
use Rattle.flat_chart.specs.Flat.{FlatChart}
use Rattle.graph.specs.Flat.{Marking, Step}
use Rattle.replay.specs.Recorded.{Entry, record_of, taking, reaching, reach-then, reach-until}
use Rattle.replay.specs.Replaying.{walking}

-- ---- the record, by position

abbrev pub entry_at : List ℕ → ℕ → Entry
entry_at l i = record { event = get_or l (i * 2) 0; role = get_or l (i * 2 + 1) 0 }

pub entry-at : (l : List ℕ) (i : ℕ) (d : Entry) → i * 2 + 1 < length l → get_or (record_of l) i d ≡ entry_at l i
unfolding record_of
entry-at [] i d h = absurd (omega arith)
entry-at (e ∷ []) i d h = absurd (omega arith)
entry-at (e ∷ r ∷ rest) zero d h = refl
entry-at (e ∷ r ∷ rest) (suc i) d h =
    let z : suc i * 2 ≡ suc (suc (i * 2)) = omega arith in
    let y : suc (suc (i * 2)) + 1 ≡ suc (suc (i * 2 + 1)) = omega arith in
    rw (z, y) (entry-at rest i d (omega arith))

pub record-length : (l : List ℕ) → length (record_of l) ≡ length l / 2
unfolding record_of
record-length [] = refl
record-length (e ∷ []) = refl
record-length (e ∷ r ∷ rest) = omega (arith, record-length rest)

pub record-holds : (l : List ℕ) (k : ℕ) → k * 2 ≤ length l → k ≤ length (record_of l)
record-holds l k h = omega (arith, record-length l)

-- ---- an allowed step: its event exists, and behind it stands the marking after the event

module _ (c : FlatChart) (m : Marking) (x : Entry) (h : (taking c m x).answer.code ≡ 0) where
  entry-there : x.event < c.count
  entry-there = ((granted-enabled c m x.event x.role).0 h).0.stands.exists

  entry-taken : taking c m x ≡ granting (after c m x.event)
  entry-taken = let t = (granted-enabled c m x.event x.role).0 h in sym (executes-only c m x.event (is_done t.0 t.1 (after-executed c m x.event)))

-- ---- the loop

-- at position i with marking m: what the rest gives from here is what the whole gives from the start
pub record Going (c : FlatChart) (numbers : List ℕ) (start : Marking) (from end : ℕ) (m : Marking) (i : ℕ) : Type 0 where
  pub fits : fit c m ≡ true
  pub same : walking c m (record_of numbers) i end ≡ walking c start (record_of numbers) from end

pub going_start : (c : FlatChart) (numbers : List ℕ) (m : Marking) (from end i : ℕ) → fit c m ≡ true → i ≡ from → Going c numbers m from end m i
going_start c numbers m from end i f e = rw e (record { fits = f; same = refl })

module _ (c : FlatChart) (numbers : List ℕ) (start : Marking) (from end : ℕ) (m : Marking) (i : ℕ) (g : Going c numbers start from end m i) where
  module _ (b : Bool) (a : b ≡ eqb (taking c m (entry_at numbers i)).answer.code 0) where
    pub going_index : b ≡ true → get_or numbers (i * 2) 0 < max_events
    going_index z =
        let l : get_or numbers (i * 2) 0 < c.count = entry-there c m (entry_at numbers i) (eqb-true _ 0 (sym a ∙ z)) in
        let k : c.count ≤ max_events = fit_few c m g.fits in
        omega arith

    module _ (l : end * 2 ≤ length numbers) (h : i < end) where
      next-entry : slice i end (record_of numbers) ≡ entry_at numbers i ∷ slice (suc i) end (record_of numbers)
      next-entry = slice-cons i end (record_of numbers) (entry_at numbers i) h (record-holds numbers end l) ∙ rw (entry-at numbers i (entry_at numbers i) (omega arith))

      pub going_more : b ≡ true → (n : Marking) → n ≡ after c m (get_or numbers (i * 2) 0) → Going c numbers start from end n (i + 1)
      unfolding walking
      going_more z n q =
          let e : (taking c m (entry_at numbers i)).answer.code ≡ 0 = eqb-true _ 0 (sym a ∙ z) in
          let k : taking c m (entry_at numbers i) ≡ granting n = entry-taken c m (entry_at numbers i) e ∙ rw q in
          let s : walking c m (record_of numbers) i end ≡ walking c n (record_of numbers) (i + 1) end =
          rw (next-entry, reach-then c m (entry_at numbers i) (slice (suc i) end (record_of numbers)) e, k, add-one i, add-suc i _, suc-add i _) in
          record { fits = rw k at (both-fit c _ (fit-both c m g.fits).0 (step-fit c m _ _ e)); same = sym s ∙ g.same }

      pub going_stop : b ≡ false → (s : Step) → s ≡ taking c m (entry_at numbers i) → record { at = i; stop = s } ≡ walking c start (record_of numbers) from end
      unfolding walking
      going_stop z s p =
          let e : walking c m (record_of numbers) i end ≡ record { at = i; stop = taking c m (entry_at numbers i) } =
          rw (next-entry, reach-until c m (entry_at numbers i) (slice (suc i) end (record_of numbers)) (eqb-false _ 0 (sym a ∙ z)), add-zero) in
          rw p (sym e ∙ g.same)

  pub going_end : i ≡ end → (s : Step) → s ≡ granting m → record { at = end; stop = s } ≡ walking c start (record_of numbers) from end
  unfolding walking reaching
  going_end z s p =
      let e : walking c m (record_of numbers) i end ≡ record { at = end; stop = granting m } = rw (z, slice_empty end (record_of numbers), add-zero) in
      rw p (sym e ∙ g.same)
