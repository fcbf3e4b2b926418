-- Where one can get to: the ways over a table of links, and the closure of the table, which finds exactly these. Assumes nothing.
use Rattle.std.specs.Prelude.{◌≡◌, ◌↔◌, Bool, true, ◌&&◌, ◌||◌}
use Prim.Native.Nat.{ℕ, zero, suc, ◌<◌}
use Rattle.std.proofs.Common.{arith}
use Rattle.general.specs.Cases.{both, either, or_left, or_right, lt-suc}

module _ (E : ℕ → ℕ → Bool) where
  pub data Way : ℕ → ℕ → Type 0 where
    hop : {a b : ℕ} → E a b ≡ true → Way a b
    via : {a c b : ℕ} → E a c ≡ true → Way c b → Way a b

  -- there is a way from a to b whose stops in between are all below k
  unfoldable pub within : ℕ → ℕ → ℕ → Bool
  within zero a b = E a b
  within (suc k) a b = within k a b || (within k a k && within k k b)

  pub join : {a c b : ℕ} → Way a c → Way c b → Way a b
  join (hop e) w = via e w
  join (via e v) w = via e (join v w)

  pub sound : (k a b : ℕ) → within k a b ≡ true → Way a b
  unfolding within
  sound zero a b e = hop e
  sound (suc k) a b e =
      either (within k a b) (within k a k && within k k b) e (sound k a b)
      (λ x. let t = both (within k a k) (within k k b) x in join (sound k a k t.0) (sound k k b t.1))

  pub wider : (k a b : ℕ) → E a b ≡ true → within k a b ≡ true
  unfolding within
  wider zero a b e = e
  wider (suc k) a b e = rw (wider k a b e)

  -- the stop k adds nothing to a way that ends or begins there
  ends : (k a : ℕ) → within (suc k) a k ≡ true → within k a k ≡ true
  unfolding within
  ends k a e = either (within k a k) (within k a k && within k k k) e (λ x. x) (λ x. (both (within k a k) (within k k k) x).0)

  starts : (k b : ℕ) → within (suc k) k b ≡ true → within k k b ≡ true
  unfolding within
  starts k b e = either (within k k b) (within k k k && within k k b) e (λ x. x) (λ x. (both (within k k k) (within k k b) x).1)

  through : (k a b : ℕ) → within k a k ≡ true → within k k b ≡ true → within (suc k) a b ≡ true
  unfolding within
  through k a b e f = or_right (within k a b) (within k a k && within k k b) (rw (e, f))

  pub trans : (k a c b : ℕ) → c < k → within k a c ≡ true → within k c b ≡ true → within k a b ≡ true
  unfolding within
  trans zero a c b h e f = absurd (omega arith)
  trans (suc k) a c b h e f =
      lt-suc h (λ q. through k a b (ends k a (rw q at e)) (starts k b (rw q at f)))
      (λ l. either (within k a c) (within k a k && within k k c) e
      (λ x. either (within k c b) (within k c k && within k k b) f
      (λ y. or_left (within k a b) (within k a k && within k k b) (trans k a c b l x y))
      (λ y. let t = both (within k c k) (within k k b) y in through k a b (trans k a c k l x t.0) t.1))
      (λ x. let t = both (within k a k) (within k k c) x in
      either (within k c b) (within k c k && within k k b) f
      (λ y. through k a b t.0 (trans k k c b l t.1 y))
      (λ y. through k a b t.0 (both (within k c k) (within k k b) y).1)))

  pub complete : (n : ℕ) → ((a b : ℕ) → E a b ≡ true → b < n) → {a b : ℕ} → Way a b → within n a b ≡ true
  complete n h {a} {b} (hop e) = wider n a b e
  complete n h (via {a} {c} {b} e w) = trans n a c b (h a c e) (wider n a c e) (complete n h w)

  -- what can be reached is what the closure has
  pub reached : (n : ℕ) → ((a b : ℕ) → E a b ≡ true → b < n) → (a b : ℕ) → Way a b ↔ (within n a b ≡ true)
  reached n h a b = (complete n h, sound n a b)
