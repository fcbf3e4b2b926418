-- Records in the numbers that a call is lent: every record has its numbers, and leaving out a step leaves out two of them. Assumes nothing.
use Rattle.std.specs.Prelude.{ℕ, zero, suc, ◌+◌, ◌-◌, ◌*◌, ◌<◌, ◌≡◌, refl, List, [], ◌∷◌, ◌++◌, length, get_or, take, drop, ltb}
use Rattle.std.proofs.Common.{ap, ◌∙◌, arith, length-take-le, get_or-take, get_or-drop, get_or-append-add, lt-ltb, ltb-true, ltb-false}
use Rattle.std.proofs.Math.ListN.{get_or-append}
use Rattle.paper.specs.Answers.{last_place, place_of}
use Rattle.general.specs.Cases.{cases}
use Rattle.replay.specs.Recorded.{Entry, record_of}
use Rattle.replay.specs.Replaying.{without, old_position}

-- the numbers of a record
unfoldable pub numbers_of : List Entry → List ℕ
numbers_of [] = []
numbers_of (x ∷ rest) = x.event ∷ x.role ∷ numbers_of rest

pub record-numbers : (l : List Entry) → record_of (numbers_of l) ≡ l
unfolding record_of numbers_of
record-numbers [] = refl
record-numbers (x ∷ rest) = ap (λ (t : List Entry). x ∷ t) (record-numbers rest)

-- the record without p, in the old one's numbers
unfoldable pub numbers_without : ℕ → List ℕ → List ℕ
numbers_without p l = take (p * 2) l ++ drop (p * 2 + 2) l

pub record-without : (p : ℕ) (l : List ℕ) → record_of (numbers_without p l) ≡ without p (record_of l)
unfolding record_of numbers_without without
record-without zero [] = refl
record-without zero (e ∷ []) = refl
record-without zero (e ∷ r ∷ rest) = refl
record-without (suc p) [] = let z : suc p * 2 ≡ suc (suc (p * 2)) = omega arith in let y : suc (suc (p * 2)) + 2 ≡ suc (suc (p * 2 + 2)) = omega arith in rw (z, y)
record-without (suc p) (e ∷ []) = let z : suc p * 2 ≡ suc (suc (p * 2)) = omega arith in let y : suc (suc (p * 2)) + 2 ≡ suc (suc (p * 2 + 2)) = omega arith in rw (z, y)
record-without (suc p) (e ∷ r ∷ rest) =
    let z : suc p * 2 ≡ suc (suc (p * 2)) = omega arith in
    let y : suc (suc (p * 2)) + 2 ≡ suc (suc (p * 2 + 2)) = omega arith in
    rw (z, y) (ap (λ (t : List Entry). record { event = e; role = r } ∷ t) (record-without p rest))

-- step k of the record without p is the step of the old record at its old position, which is not p
pub old-step : (p k : ℕ) (l : List Entry) (d : Entry) → p < length l → get_or (without p l) k d ≡ get_or l (old_position p k) d
unfolding without old_position
old-step p k l d h =
    let t : length (take p l) ≡ p = length-take-le p l (omega arith) in
    cases (ltb k p)
    (λ e. let b = ltb-true k p e in rw (e, get_or-append (take p l) (drop (suc p) l) d k (omega arith), get_or-take p l k d b))
    (λ e.
    let b = ltb-false k p e in
    let q : k ≡ length (take p l) + (k - p) = omega arith in
    let o : suc p + (k - p) ≡ suc k = omega arith in
    rw e (ap (λ (n : ℕ). get_or (take p l ++ drop (suc p) l) n d) q ∙ get_or-append-add (take p l) (drop (suc p) l) (k - p) d ∙ get_or-drop (suc p) l (k - p) d ∙ ap (λ (n : ℕ). get_or l n d) o))

pub old-other : (p k : ℕ) → old_position p k ≡ p → ⊥
unfolding old_position
old-other p k h = cases (ltb k p) (λ e. let l = ltb-true k p e in let q = rw e at h in omega arith) (λ e. let l = ltb-false k p e in let q = rw e at h in omega arith)

-- a position that 32 bits hold is named as it is
pub place-exact : (k : ℕ) → k < last_place → place_of k ≡ k
unfolding place_of
place-exact k h = rw (lt-ltb k last_place h)
