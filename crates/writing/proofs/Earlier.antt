-- Laws of earlier proofs, which stood in specs/: nothing cites them now, and they stand. Assumes nothing.
use Rattle.std.specs.Prelude.{ℕ, ◌+◌, ◌≤◌, ◌<◌, ◌≡◌, refl, length, set, get_or, drop}
use Rattle.std.proofs.Common.{sym, ◌∙◌, add-suc, add-zero, add-one, arith, drop-cons}
use Rattle.std.proofs.Math.Path.{ap}
use mathlib.Core.List.{List}
use Rattle.std.proofs.lemmas.List.Edits.{sets}
use Rattle.std.proofs.Math.Seq.{length-sets, drop-length}
use Rattle.general.specs.Writing.{Wrote}
use Rattle.writing.specs.Writers.{Space}

-- ---- a text, byte by byte: what is left of it, written from here, gives what the whole gives from the start

module _ (room₀ : List ℕ) (at : ℕ) (s : List ℕ) where
  pub record Copied (i : ℕ) (room : List ℕ) : Type 0 where
    pub few : i ≤ length s
    pub holds : sets room (at + i) (drop i s) ≡ sets room₀ at s

  pub copied-start : Copied 0 room₀
  copied-start = record { few = omega arith; holds = rw (add-zero at) }

  module _ (i : ℕ) (room : List ℕ) (inv : Copied i room) where
    pub copied-length : length room ≡ length room₀
    copied-length = sym (length-sets room (at + i) (drop i s)) ∙ ap length inv.holds ∙ length-sets room₀ at s

    pub copied-place : Space room₀ at s → i < length s → at + i < length room
    copied-place f h = let l : length room ≡ length room₀ = copied-length in omega arith

    pub copied_more : i < length s → Copied (i + 1) (set room (at + i) (get_or s i 0))
    copied_more h = record { few = omega arith; holds = rw (add-one i, add-suc at i) (rw (drop-cons s i 0 h) at inv.holds) }

    pub copied-done : length s ≤ i → Wrote room₀ at s (at + length s) room
    copied-done h =
        let l : i ≤ length s = inv.few in
        let e : i ≡ length s = omega arith in
        record { place = refl; holds = rw (e, drop-length s) at inv.holds }
