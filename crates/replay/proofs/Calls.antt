-- The returns of replay and strike, in the form in which the code meets them. Assumes nothing.
use Prim.Native.Nat.{ℕ, suc, ◌+◌, ◌/◌, ◌<◌}
use mathlib.Core.Path.{◌≡◌, ◌∙◌}
use mathlib.Core.Bool.{Bool, true, false, not}
use mathlib.Core.List.{List}
use native.Mathlib.Omega.{arith}
use native.Mathlib.Nat.{zero-add, suc-add}
use native.Mathlib.Numerals.{add-one}
use lib.ListN.{length, take, drop}
use lib.Seq.{slice, take_all, length-take-le}
use lib.Dec.{eqb, ltb, leb}
use Rattle.std.specs.Prelude.{cond}
use borrow.Author.Tests.{lt-leb, ne_eqb, lt-ltb, le-ltb}
use Rattle.paper.specs.Limits.{unfit, no_such_position}
use Rattle.paper.specs.Answers.{place_of}
use Rattle.sets.specs.Set.{inter}
use Rattle.graph.specs.Fitness.{fit}
use Rattle.graph.specs.Steps.{finish_told, finishing}
use Rattle.flat_chart.specs.Flat.{FlatChart}
use Rattle.graph.specs.Flat.{Marking}
use Rattle.replay.specs.Recorded.{Entry, record_of, reaching, reach-fit, reach-whole, reach-short, reach-stopped, reach-append}
use Rattle.replay.specs.Replaying.{without, old_position, not_struck, struck, stopped_by, struck_by, striking, walking, walking_without}
use Rattle.replay.specs.Flat.{Struck, Walked}
use Rattle.replay.proofs.Walks.{record-length}

-- ---- replay

pub walk_whole : (c : FlatChart) (m : Marking) (numbers : List ℕ)
    → walking c m (record_of numbers) 0 (length numbers / 2) ≡ record { at = (reaching c m (record_of numbers)).steps; stop = (reaching c m (record_of numbers)).stop }
unfolding walking
walk_whole c m numbers = rw (take_all (length numbers / 2) (record_of numbers) (omega (arith, record-length numbers)), zero-add)

pub told_finished : (c : FlatChart) (m : Marking) (l : List Entry) → fit c m ≡ true
    → (finishing c (reaching c m l).stop.marking).yes ≡ eqb (inter (reaching c m l).stop.marking.included (reaching c m l).stop.marking.pending) 0
told_finished c m l f = finish_told c (reaching c m l).stop.marking (reach-fit c l m f)

-- ---- strike

pub walk_fit : (c : FlatChart) (m : Marking) (l : List Entry) (from end : ℕ) (w : Walked) → w ≡ walking c m l from end → fit c m ≡ true → fit c w.stop.marking ≡ true
unfolding walking
walk_fit c m l from end w h f = rw h (reach-fit c (slice from end l) m f)

module _ (c : FlatChart) (m : Marking) (numbers : List ℕ) (p : ℕ) (w : Walked) (h : w ≡ walking c m (record_of numbers) 0 p) (l : p < length numbers / 2) where
  pub without_stopped : (w.stop.answer.code ≡ 0 → ⊥) → w ≡ walking_without c m (record_of numbers) p
  unfolding walking walking_without without old_position
  without_stopped n =
      let k : (reaching c m (take p (record_of numbers))).stop.answer.code ≡ 0 → ⊥ = rw h at n in
      let t : length (take p (record_of numbers)) ≡ p = length-take-le p (record_of numbers) (omega (arith, record-length numbers)) in
      let b : (reaching c m (take p (record_of numbers))).steps < p = omega (arith, reach-short c m (take p (record_of numbers)) k) in
      h ∙ rw (reach-stopped c (take p (record_of numbers)) (drop (suc p) (record_of numbers)) m k, lt-ltb _ _ b, zero-add)

  pub without_went : w.stop.answer.code ≡ 0 → (v : Walked) → v ≡ walking c w.stop.marking (record_of numbers) (p + 1) (length numbers / 2) → v ≡ walking_without c m (record_of numbers) p
  unfolding walking walking_without without old_position
  without_went z v q =
      let k : (reaching c m (take p (record_of numbers))).stop.answer.code ≡ 0 = rw h at z in
      let a = (reach-whole c m (take p (record_of numbers)) k).0 in
      let t : length (take p (record_of numbers)) ≡ p = length-take-le p (record_of numbers) (omega (arith, record-length numbers)) in
      q ∙ rw (h, take_all (length numbers / 2) (record_of numbers) (omega (arith, record-length numbers)), reach-append c (drop (suc p) (record_of numbers)) a, t, add-one, later p, suc-add)
    where
      later : (p k : ℕ) → ltb (p + k) p ≡ false
      later p k = le-ltb (p + k) p (omega arith)

-- a strike by what the walk without p gives
pub strike_walked : (c : FlatChart) (m : Marking) (numbers : List ℕ) (p : ℕ)
    → striking c m numbers p ≡ cond (not (fit c m)) (not_struck unfit 0 m)
    (cond (leb (length numbers / 2) p) (not_struck no_such_position 0 m)
    (let w = walking_without c m (record_of numbers) p in
    cond (eqb w.stop.answer.code 0) (struck w.stop.marking) (stopped_by w.stop (place_of w.at) m)))
unfolding striking struck_by walking_without
strike_walked c m numbers p = rw (record-length numbers)

pub strike_stopped : (c : FlatChart) (m : Marking) (numbers : List ℕ) (p : ℕ) (r : Bool) (w : Walked) → r ≡ fit c m → r ≡ true → p < length numbers / 2
    → w ≡ walking_without c m (record_of numbers) p → (w.stop.answer.code ≡ 0 → ⊥) → (k : ℕ) (s : Struck) → k ≡ place_of w.at → s ≡ stopped_by w.stop k m → s ≡ striking c m numbers p
strike_stopped c m numbers p r w e f l h n k s x z = z ∙ rw (strike_walked, x, ← e, f, lt-leb _ _ l, ← h, ne_eqb _ 0 n)
