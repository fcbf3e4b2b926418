-- Request (i): who may execute an event. Assumes nothing.
use Rattle.std.specs.Prelude.{ℕ, ◌<◌, ◌≡◌, Bool, true, ◌&&◌, ◌||◌, ◌↔◌, ◌⊎◌, eqb, ltb}
use Rattle.std.proofs.Common.{inl, inr, ⊎_elim, eq-eqb, eqb-true, lt-ltb, ltb-true}
use Rattle.paper.specs.Limits.{max_roles}
use Rattle.general.specs.Cases.{both, either, or_right}
use Rattle.sets.specs.Set.{has}
use Rattle.flat_chart.specs.Chart.{In}

-- "32, role not permitted or not 0 to 7"; "An event whose whole chain names no role stays open to everyone"
pub record Permits (roles r : ℕ) : Type 0 where
  pub known : r < max_roles
  pub open-or-named : (roles ≡ 0) ⊎ In roles r

-- the test of it
unfoldable pub permits : ℕ → ℕ → Bool
permits roles r = ltb r max_roles && (eqb roles 0 || has roles r)

pub permits-so : (roles r : ℕ) → (permits roles r ≡ true) ↔ Permits roles r
unfolding permits
permits-so roles r = (
  λ h. let t = both (ltb r max_roles) (eqb roles 0 || has roles r) h in
      record { known = ltb-true r max_roles t.0; open-or-named = either (eqb roles 0) (has roles r) t.1 (λ z. inl (eqb-true roles 0 z)) inr },
  λ p. rw (lt-ltb r max_roles p.known) (⊎_elim (λ z. rw (eq-eqb roles 0 z)) (λ i. or_right (eqb roles 0) (has roles r) i) p.open-or-named),
)
