-- A loop over the members of a set, and one over the events that counts or writes. Assumes nothing.
use Rattle.std.specs.Prelude.{ℕ, ◌+◌, ◌≤◌, ◌<◌, ◌≡◌, Bool, true, false, List, eqb, length}
use Rattle.std.proofs.Common.{sym, ◌∙◌, arith, eqb-true}
use Rattle.std.proofs.lemmas.Bool.{eqb-false}
use Rattle.general.specs.Lists.{flat, flat_step, packed, packed-append}
use Rattle.general.specs.Writing.{Ran, ran-none, ran_then}
use Rattle.derived.specs.WritingLoops.{packed-part}
use Rattle.smaller.specs.Runs.{Under}

-- ---- a loop over the members of a set, while the test says that it is not empty

module _ (s : ℕ) (r : Bool) (p : r ≡ eqb s 0) where
  pub rest_some : r ≡ false → s ≡ 0 → ⊥
  rest_some t = eqb-false s 0 (sym p ∙ t)

  pub rest-none : r ≡ true → s ≡ 0
  rest-none t = eqb-true s 0 (sym p ∙ t)

-- ---- a loop over the numbers below n: the parts of those passed are run

pub record Upto {A : Type 0} (f : A → List ℕ) (g : ℕ → List A) (n : ℕ) (room₀ : List ℕ) (at k next : ℕ) (room : List ℕ) : Type 0 where
  pub few : k ≤ n
  pub ran : Ran room₀ at (packed f (flat k g)) next room

module _ {A : Type 0} {f : A → List ℕ} {g : ℕ → List A} {n : ℕ} {room₀ : List ℕ} {at : ℕ} where
  pub upto-start : Upto f g n room₀ at 0 at room₀
  unfolding flat packed
  upto-start = record { few = omega arith; ran = ran-none room₀ at }

  module _ {k next : ℕ} {room : List ℕ} (inv : Upto f g n room₀ at k next room) where
    pub upto-under : k < n → Under at (packed f (flat n g)) → Under next (packed f (g k))
    upto-under h u =
        let b : next ≡ at + length (packed f (flat k g)) = inv.ran.place in
        let d : length (packed f (flat k g)) + length (packed f (g k)) ≤ length (packed f (flat n g)) = packed-part f g n k h in
        omega arith

    pub upto-more : {next' : ℕ} {room' : List ℕ} → k < n → Ran room next (packed f (g k)) next' room' → Upto f g n room₀ at (k + 1) next' room'
    upto-more h w =
        record { few = omega arith; ran = rw (flat_step k g, packed-append f (flat k g) (g k)) (ran_then inv.ran w) }
