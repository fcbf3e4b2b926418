-- Where each node has one parent, what lies above a node on a loop is its loop; and what is left of the loops where some nodes lose their parents. Assumes nothing.
use Rattle.std.specs.Prelude.{◌≡◌, Bool, true, false, not, ◌&&◌, ◌⊎◌, ℕ}
use Rattle.std.proofs.Common.{sym, ◌∙◌, inl, inr, ⊎_elim}
use Rattle.std.proofs.lemmas.Bool.{not-true}
use Rattle.general.specs.Cases.{both}
use Rattle.closure.specs.Closure.{Way, hop, via, join}

module _ (E : ℕ → ℕ → Bool) (one : (a b c : ℕ) → E a b ≡ true → E a c ≡ true → b ≡ c) where
  -- the rest of a way of G, whose links are links of E, behind its first node's parent
  pub behind : (G : ℕ → ℕ → Bool) → ((a b : ℕ) → G a b ≡ true → E a b ≡ true) → {a b d : ℕ} → Way G a d → E a b ≡ true → (b ≡ d) ⊎ Way G b d
  behind G s {b} (hop {a} {b = d} e) f = inl (one a b d f (s a d e))
  behind G s {b} (via {a} {c} {b = d} e w) f = inr (rw (one a b c f (s a c e)) w)

  next-back : {a b : ℕ} → Way E a a → E a b ≡ true → Way E b a
  next-back l e = ⊎_elim (λ q. rw q l) (λ w. w) (behind E (λ a b h. h) l e)

  -- what lies above a node on a loop has the node above it
  pub loop-back : {a b : ℕ} → Way E a a → Way E a b → Way E b a
  loop-back l (hop e) = next-back l e
  loop-back l (via e w) = let t = next-back l e in join E (loop-back (join E t (hop e)) w) t

  -- and lies on the loop
  pub loop-on : {a b : ℕ} → Way E a a → Way E a b → Way E b b
  loop-on l w = join E (loop-back l w) w

  -- F: the nodes that m names have lost their parents
  module _ (F : ℕ → ℕ → Bool) (m : ℕ → Bool) (so : (a b : ℕ) → F a b ≡ (E a b && not (m a))) where
    parts : {a b : ℕ} → F a b ≡ true → (E a b ≡ true) × (m a ≡ false)
    parts {a} {b} e = let t = both (E a b) (not (m a)) (sym (so a b) ∙ e) in (t.0, not-true (m a) t.1)

    pub left-was : {a b : ℕ} → Way F a b → Way E a b
    left-was (hop e) = hop (parts e).0
    left-was (via e w) = via (parts e).0 (left-was w)

    left-first : {a b : ℕ} → Way F a b → m a ≡ false
    left-first (hop e) = (parts e).1
    left-first (via e w) = (parts e).1

    left-next : {a b : ℕ} → Way F a a → E a b ≡ true → Way F b b
    left-next {a} {b} l e = ⊎_elim (λ q. rw q l) (λ w. join F w (hop (so a b ∙ rw (e, left-first l)))) (behind F (λ a b h. (parts h).0) l e)

    -- a loop that is left has lost none
    pub left-whole : {a b : ℕ} → Way F a a → Way E a b → m b ≡ false
    left-whole l (hop e) = left-first (left-next l e)
    left-whole l (via e w) = left-whole (left-next l e) w

    -- a way that has lost none is left
    pub whole-left : {a b : ℕ} → m a ≡ false → ((j : ℕ) → Way E a j → m j ≡ false) → Way E a b → Way F a b
    whole-left {a} {b} n h (hop e) = hop (so a b ∙ rw (e, n))
    whole-left n h (via {a} {c} {b} e w) = via (so a c ∙ rw (e, n)) (whole-left (h c (hop e)) (λ j v. h j (via e v)) w)
