-- The two loops that write: over the members of a set, and over the events. Assumes nothing.
use Rattle.std.specs.Prelude.{ℕ, zero, suc, ◌+◌, ◌≤◌, ◌<◌, ◌≡◌, true, List, ◌++◌, length}
use Rattle.std.proofs.Common.{ap, ◌∙◌, arith, length-append}
use Rattle.general.specs.Cases.{lt-suc}
use Rattle.sets.specs.Set.{minus, only, lowest, within}
use Rattle.general.specs.Lists.{flat, flat_step, packed, packed-append}
use Rattle.derived.specs.Derived.{listed}
use Rattle.derived.specs.Members.{listed-none, low-lt, low-within, low-falls, low_first}
use Rattle.general.specs.Writing.{Fits, Wrote, wrote_none, wrote-length, then, Left, left-whole, left-length, left-fits, left_less, left-none}

-- ---- a loop over the members of a set within n, the lowest first: what is left to write is what the rest of the set gives

module _ {A : Type 0} (f : A → List ℕ) (g : ℕ → List A) (n among : ℕ) (room₀ : List ℕ) (at : ℕ) where
  abbrev pub run : ℕ → List ℕ
  run s = packed f (flat n (listed g s))

  pub record Turn (s next : ℕ) (room : List ℕ) : Type 0 where
    pub inside : within n s ≡ true
    pub left : Left room₀ at (run among) room next (run s)

  pub turn-start : within n among ≡ true → Turn among at room₀
  turn-start h = record { inside = h; left = left-whole room₀ at (run among) }

  module _ {w : ℕ} (s next : ℕ) (room : List ℕ) (few : n ≤ w) (inv : Turn s next room) where
    pub turn-length : length room ≡ length room₀
    turn-length = left-length inv.left

    pub turn-done : s ≡ 0 → Wrote room₀ at (run among) next room
    unfolding packed
    turn-done z = left-none inv.left (rw (z, listed-none g n))

    module _ (m : ℕ) (some : s ≡ 0 → ⊥) (low : m ≡ lowest w s) where
      pub turn-lt : m < n
      turn-lt = low-lt n s m few inv.inside some low

      pub turn-fits : Fits room₀ at (run among) → Fits room next (packed f (g m))
      turn-fits = left-fits inv.left (packed f (g m)) (run (minus s (only m))) (low_first n s m few inv.inside some low f g)

      pub turn-falls : (o s' : ℕ) → o ≡ only m → s' ≡ minus s o → s' < s
      turn-falls o s' q r = rw (r, q) (low-falls n s m few inv.inside some low)

      pub turn_more : (o s' next' : ℕ) (room' : List ℕ) → o ≡ only m → s' ≡ minus s o → Wrote room next (packed f (g m)) next' room' → Turn s' next' room'
      turn_more o s' next' room' q r v =
          rw (r, q) (record {
            inside = low-within n s m few inv.inside some low;
            left = left_less inv.left (low_first n s m few inv.inside some low f g) v;
          })

-- what stands before part k, and part k, lie in the whole
pub packed-part : {A : Type 0} (f : A → List ℕ) (g : ℕ → List A) (n k : ℕ) → k < n → length (packed f (flat k g)) + length (packed f (g k)) ≤ length (packed f (flat n g))
unfolding flat
packed-part f g zero k h = absurd (omega arith)
packed-part f g (suc n) k h =
    let a : length (packed f (flat n g ++ g n)) ≡ length (packed f (flat n g)) + length (packed f (g n)) =
    ap length (packed-append f (flat n g) (g n)) ∙ length-append (packed f (flat n g)) (packed f (g n)) in
    lt-suc h (λ q. rw q (omega arith))
    (λ l. let i : length (packed f (flat k g)) + length (packed f (g k)) ≤ length (packed f (flat n g)) = packed-part f g n k l in omega arith)

-- ---- a loop over the numbers below n: the parts of those passed are written

module _ {A : Type 0} (f : A → List ℕ) (g : ℕ → List A) (n : ℕ) (room₀ : List ℕ) (at : ℕ) where
  pub record Upto (k next : ℕ) (room : List ℕ) : Type 0 where
    pub few : k ≤ n
    pub wrote : Wrote room₀ at (packed f (flat k g)) next room

  pub upto-start : Upto 0 at room₀
  unfolding flat packed
  upto-start = record { few = omega arith; wrote = wrote_none room₀ at }

  module _ (k next : ℕ) (room : List ℕ) (inv : Upto k next room) where
    pub upto-length : length room ≡ length room₀
    upto-length = wrote-length inv.wrote

    pub upto-fits : k < n → Fits room₀ at (packed f (flat n g)) → Fits room next (packed f (g k))
    upto-fits h l =
        let a : length room ≡ length room₀ = upto-length in
        let b : next ≡ at + length (packed f (flat k g)) = inv.wrote.place in
        let d : length (packed f (flat k g)) + length (packed f (g k)) ≤ length (packed f (flat n g)) = packed-part f g n k h in
        omega arith

    pub upto-more : (next' : ℕ) (room' : List ℕ) → k < n → Wrote room next (packed f (g k)) next' room' → Upto (k + 1) next' room'
    upto-more next' room' h w =
        record { few = omega arith; wrote = rw (flat_step k g, packed-append f (flat k g) (g k)) (then inv.wrote w) }

    pub upto_done : n ≤ k → Wrote room₀ at (packed f (flat n g)) next room
    upto_done h = let l : k ≤ n = inv.few in let q : k ≡ n = omega arith in rw (← q) inv.wrote
