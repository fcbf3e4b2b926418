-- "Text is postfix": what a text says in a snapshot, as a fold with a list for a stack. Assumes nothing.
use Rattle.std.specs.Prelude.{◌≡◌, refl, Bool, true, false, not, cond, ◌&&◌, ◌||◌, List, [], ◌∷◌, ℕ, eqb}
use Rattle.std.proofs.Common.{eq-eqb}
pub use Rattle.paper.specs.Snapshots.{Snap, snap_of}
use Rattle.paper.specs.Limits.{and_word, or_word, not_word}
use Rattle.general.specs.Cases.{or_right}

-- ---- what a text says

unfoldable pub top1 : (Bool → Bool) → List Bool → List Bool
top1 f [] = []
top1 f (a ∷ st) = f a ∷ st

unfoldable pub top2 : (Bool → Bool → Bool) → List Bool → List Bool
top2 f [] = []
top2 f (a ∷ []) = []
top2 f (a ∷ (b ∷ st)) = f b a ∷ st

-- "Words 65,533, 65,534 and 65,535 stand for and, or, not": what the word w does to the stack, where mark w has the value v
unfoldable pub push : Bool → ℕ → List Bool → List Bool
push v w st = cond (eqb w and_word) (top2 ◌&&◌ st) (cond (eqb w or_word) (top2 ◌||◌ st) (cond (eqb w not_word) (top1 not st) (v ∷ st)))

unfoldable pub eval : Snap → List ℕ → List Bool → List Bool
eval s [] st = st
eval s (w ∷ ws) st = eval s ws (push (s w) w st)

unfoldable pub top : List Bool → Bool
top [] = false
top (a ∷ st) = a

unfoldable pub holds : Snap → List ℕ → Bool
holds s ws = top (eval s ws [])

-- ---- the marks that a text names

unfoldable pub elem : ℕ → List ℕ → Bool
elem x [] = false
elem x (y ∷ l) = eqb x y || elem x l

-- two snapshots that agree on a text's marks give it one value
pub eval-local : (s t : Snap) (ws : List ℕ) (st : List Bool) → ((m : ℕ) → elem m ws ≡ true → s m ≡ t m) → eval s ws st ≡ eval t ws st
unfolding eval elem
eval-local s t [] st h = refl
eval-local s t (w ∷ ws) st h = rw (h w (rw (eq-eqb w w refl))) (eval-local s t ws (push (t w) w st) (λ m e. h m (or_right (eqb m w) (elem m ws) e)))

pub holds-local : (s t : Snap) (ws : List ℕ) → ((m : ℕ) → elem m ws ≡ true → s m ≡ t m) → holds s ws ≡ holds t ws
unfolding holds
holds-local s t ws h = rw (eval-local s t ws [] h)
