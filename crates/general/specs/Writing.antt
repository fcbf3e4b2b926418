-- Bytes written into a room one run after another: where the next run goes, and what the room then holds. Assumes nothing.
use Rattle.std.specs.Prelude.{ℕ, suc, ◌+◌, ◌≤◌, ◌<◌, ◌≡◌, refl, List, [], ◌∷◌, ◌++◌, length, set, drop}
use Rattle.std.proofs.Common.{sym, ap, ◌∙◌, add-suc, suc-add, add-zero, zero-add, arith, length-append}
use Rattle.std.proofs.lemmas.List.Edits.{sets, sets-eq}
use Rattle.std.proofs.Math.Seq.{length-sets}
use Rattle.general.specs.Lists.{flat, flat_step, flat-part}

-- two runs are one
pub sets-append : {A : Type 0} (k l room : List A) (at : ℕ) → sets room at (k ++ l) ≡ sets (sets room at k) (at + length k) l
sets-append [] l room at = rw add-zero
sets-append (x ∷ k) l room at = sets-append k l (set room at x) (suc at) ∙ rw (suc-add at (length k), add-suc at (length k))

-- the run fits behind the place at
abbrev pub Fits : List ℕ → ℕ → List ℕ → Type 0
Fits room at bytes = at + length bytes ≤ length room

-- the run stands at the place at, and nothing else was changed
pub record Wrote (room : List ℕ) (at : ℕ) (bytes : List ℕ) (next : ℕ) (after : List ℕ) : Type 0 where
  pub place : next ≡ at + length bytes
  pub holds : after ≡ sets room at bytes

module _ {room : List ℕ} {at next : ℕ} {a after : List ℕ} (w : Wrote room at a next after) where
  pub wrote-length : length after ≡ length room
  wrote-length = ap length w.holds ∙ length-sets room at a

  -- ---- one run, and then another

  pub then : {last : ℕ} {b end : List ℕ} → Wrote after next b last end → Wrote room at (a ++ b) last end
  then {last} {b} {end} v =
      record {
        place = v.place ∙ rw (w.place, length-append a b) (omega arith);
        holds = v.holds ∙ rw (w.holds, w.place) (sym (sets-append a b room at));
      }

  pub fits-then : (b : List ℕ) → Fits room at (a ++ b) → Fits after next b
  fits-then b h =
      let l : length after ≡ length room = wrote-length in
      let n : length (a ++ b) ≡ length a + length b = length-append a b in
      let p : next ≡ at + length a = w.place in
      omega arith

pub fits-first : (room : List ℕ) (at : ℕ) (a b : List ℕ) → Fits room at (a ++ b) → Fits room at a
fits-first room at a b h = let n : length (a ++ b) ≡ length a + length b = length-append a b in omega arith

pub wrote_none : (room : List ℕ) (at : ℕ) → Wrote room at [] at room
wrote_none room at = record { place = rw add-zero; holds = refl }

-- a whole book from the start of the room
pub wrote-whole : {room bytes after : List ℕ} {next : ℕ} → Wrote room 0 bytes next after → Fits room 0 bytes → after ≡ bytes ++ drop (length bytes) room
wrote-whole {room} {bytes} w h = w.holds ∙ sets-eq bytes room 0 h ∙ rw (zero-add (length bytes))

-- ---- what is left to write: writing it from here gives what the whole gives from the start

pub record Left (room : List ℕ) (at : ℕ) (whole after : List ℕ) (next : ℕ) (rest : List ℕ) : Type 0 where
  pub place : next + length rest ≡ at + length whole
  pub holds : sets after next rest ≡ sets room at whole

pub left-whole : (room : List ℕ) (at : ℕ) (whole : List ℕ) → Left room at whole room at whole
left-whole room at whole = record { place = refl; holds = refl }

module _ {room whole after rest : List ℕ} {at next : ℕ} (l : Left room at whole after next rest) where
  pub left-length : length after ≡ length room
  left-length = sym (length-sets after next rest) ∙ ap length l.holds ∙ length-sets room at whole

  pub left-fits : (a b : List ℕ) → rest ≡ a ++ b → Fits room at whole → Fits after next a
  left-fits a b e h =
      let n : length rest ≡ length a + length b = ap length e ∙ length-append a b in
      let p : next + length rest ≡ at + length whole = l.place in
      let q : length after ≡ length room = left-length in
      omega arith

  pub left_less : {a b end : List ℕ} {last : ℕ} → rest ≡ a ++ b → Wrote after next a last end → Left room at whole end last b
  left_less {a} {b} {end} {last} e w =
      let n : length rest ≡ length a + length b = ap length e ∙ length-append a b in
      let p : next + length rest ≡ at + length whole = l.place in
      let q : last ≡ next + length a = w.place in
      record {
        place = omega arith;
        holds = rw (w.holds, w.place) (sym (sets-append a b after next) ∙ rw (← e) l.holds);
      }

  pub left-none : rest ≡ [] → Wrote room at whole next after
  left-none e = record { place = sym (ap (λ (r : List ℕ). next + length r) e ∙ rw add-zero) ∙ l.place; holds = ap (λ (r : List ℕ). sets after next r) (sym e) ∙ l.holds }

-- ---- a loop over the numbers below n: the runs of those passed are written

module _ (g : ℕ → List ℕ) (n : ℕ) (room₀ : List ℕ) (at : ℕ) where
  pub record Runs (k next : ℕ) (room : List ℕ) : Type 0 where
    pub few : k ≤ n
    pub wrote : Wrote room₀ at (flat k g) next room

  pub runs-start : Runs 0 at room₀
  unfolding flat
  runs-start = record { few = omega arith; wrote = wrote_none room₀ at }

  module _ (k next : ℕ) (room : List ℕ) (inv : Runs k next room) where
    pub runs-length : length room ≡ length room₀
    runs-length = wrote-length inv.wrote

    pub runs-fits : k < n → Fits room₀ at (flat n g) → Fits room next (g k)
    runs-fits h l =
        let a : length room ≡ length room₀ = runs-length in
        let b : next ≡ at + length (flat k g) = inv.wrote.place in
        let d : length (flat k g) + length (g k) ≤ length (flat n g) = flat-part n k g h in
        omega arith

    pub runs-more : (next' : ℕ) (room' : List ℕ) → k < n → Wrote room next (g k) next' room' → Runs (k + 1) next' room'
    runs-more next' room' h w = record { few = omega arith; wrote = rw (flat_step k g) (then inv.wrote w) }

    pub runs_done : n ≤ k → Wrote room₀ at (flat n g) next room
    runs_done h = let l : k ≤ n = inv.few in let q : k ≡ n = omega arith in rw (← q) inv.wrote

-- ---- a run that counts or writes: the place behind it is always right, and where the room holds it, it is written

pub record Ran (room : List ℕ) (at : ℕ) (bytes : List ℕ) (next : ℕ) (after : List ℕ) : Type 0 where
  pub place : next ≡ at + length bytes
  pub long : length after ≡ length room
  pub holds : Fits room at bytes → after ≡ sets room at bytes

pub ran-none : (room : List ℕ) (at : ℕ) → Ran room at [] at room
ran-none room at = record { place = rw add-zero; long = refl; holds = λ h. refl }

-- where the room holds it, what was written; where not, the room as it was
pub ran-wrote : {room bytes after : List ℕ} {at next : ℕ} → Wrote room at bytes next after → Ran room at bytes next after
ran-wrote w = record { place = w.place; long = wrote-length w; holds = λ h. w.holds }

pub ran-short : {room bytes : List ℕ} {at next : ℕ} → next ≡ at + length bytes → length room < next → Ran room at bytes next room
ran-short p h = record { place = p; long = refl; holds = λ f. absurd (omega arith) }

-- one run, and then another
pub ran_then : {room a b after end : List ℕ} {at next last : ℕ} → Ran room at a next after → Ran after next b last end → Ran room at (a ++ b) last end
ran_then {room} {a} {b} {after} {end} {at} {next} {last} w v =
    let n : length (a ++ b) ≡ length a + length b = length-append a b in
    let p : next ≡ at + length a = w.place in
    let q : last ≡ next + length b = v.place in
    let l : length after ≡ length room = w.long in
    record {
      place = omega arith;
      long = v.long ∙ l;
      holds = λ h. v.holds (omega arith) ∙ rw (w.holds (omega arith), p) (sym (sets-append a b room at));
    }

pub ran-holds : {room bytes after : List ℕ} {at next : ℕ} → Ran room at bytes next after → Fits room at bytes → Wrote room at bytes next after
ran-holds r h = record { place = r.place; holds = r.holds h }
