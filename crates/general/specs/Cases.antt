-- Case splits as functions with a continuation for each case, so that a proof needs no helper of its own. Assumes nothing.
use Rattle.std.specs.Prelude.{◌≡◌, refl, Bool, true, false, ◌&&◌, ◌||◌, ℕ, suc, ◌<◌}
use Rattle.std.proofs.Common.{sym, ◌∙◌, arith}
use Rattle.std.proofs.Math.Decide.{ℕ_discrete}

-- no test is both true and false
pub contra : {C : Type 0} {b : Bool} → b ≡ true → b ≡ false → C
contra {b} p q = absurd (let z : ◌≡◌ {A = ℕ} 0 1 = cc in omega arith)

pub cases : {C : Type 0} (b : Bool) → (b ≡ true → C) → (b ≡ false → C) → C
cases true f g = f refl
cases false f g = g refl

pub both : (x y : Bool) → (x && y) ≡ true → (x ≡ true) × (y ≡ true)
both true y e = (refl, e)
both false y e = (e, contra e refl)

pub all3 : (x y z : Bool) → (x && y && z) ≡ true → (x ≡ true) × (y ≡ true) × (z ≡ true)
all3 x y z e =
    let s = both (x && y) z e in
    let r = both x y s.0 in
    (r.0, r.1, s.1)

pub either : {C : Type 0} (x y : Bool) → (x || y) ≡ true → (x ≡ true → C) → (y ≡ true → C) → C
either true y e f g = f refl
either false y e f g = g e

pub neither : (x y : Bool) → (x || y) ≡ false → (x ≡ false) × (y ≡ false)
neither true y e = (contra refl e, contra refl e)
neither false y e = (refl, e)

pub or_left : (x y : Bool) → x ≡ true → (x || y) ≡ true
or_left x y e = rw e

pub or_right : (x y : Bool) → y ≡ true → (x || y) ≡ true
or_right true y e = refl
or_right false y e = e

-- what is not true is false
pub not_so : {b : Bool} → (b ≡ true → ⊥) → b ≡ false
not_so {b = true} h = absurd (h refl)
not_so {b = false} h = refl

-- two tests that imply each other are one
pub same_test : (a b : Bool) → (a ≡ true → b ≡ true) → (b ≡ true → a ≡ true) → a ≡ b
same_test true b f g = sym (f refl)
same_test false b f g = sym (not_so (λ e. contra (g e) refl))

pub lt-suc : {C : Type 0} {p k : ℕ} → p < suc k → (p ≡ k → C) → (p < k → C) → C
lt-suc {C} {p} {k} h f g = go (ℕ_discrete p k)
  where
    go : Dec (p ≡ k) → C
    go (yes e) = f e
    go (no n) = g (omega arith)

-- two results that meet one equation coincide
pub coincide : {A : Type 0} {x y z : A} → x ≡ z → y ≡ z → x ≡ y
coincide p q = p ∙ sym q
