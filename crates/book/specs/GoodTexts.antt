-- Which texts are good, and what the stack does along a good text. Assumes nothing.
use Rattle.std.specs.Prelude.{◌≡◌, refl, Bool, false, not, cond, ◌&&◌, ◌||◌, List, [], ◌∷◌, ℕ, zero, suc, ◌+◌, ◌-◌, ◌≤◌, ◌<◌, length, get_or, take, eqb, leb}
use Rattle.std.proofs.Math.Bool.{true}
use Rattle.std.proofs.Common.{arith}
use Rattle.std.proofs.Math.Dec.{ltb}
use borrow.Author.Tests.{eqb-true, eq-eqb, ltb-true, lt-ltb, leb-true, le-leb}
use Rattle.paper.specs.Limits.{and_word, or_word, not_word, max_stack}
use Rattle.general.specs.Cases.{cases, both}
use Rattle.book.specs.Text.{Snap, top1, top2, push, eval}

-- ---- "Words 65,533, 65,534 and 65,535 stand for and, or, not; a word below M is that mark; no other word."

-- how many values the word w takes from the stack
unfoldable pub takes : ℕ → ℕ
takes w = cond (eqb w and_word) 2 (cond (eqb w or_word) 2 (cond (eqb w not_word) 1 0))

unfoldable pub is_operator : ℕ → Bool
is_operator w = eqb w and_word || eqb w or_word || eqb w not_word

-- ---- "It never takes from an empty stack, never holds more than 16 values, and ends with one."

pub record Sound (M : ℕ) (s : Snap) (ws : List ℕ) (st : List Bool) : Type 0 where
  pub known : (k : ℕ) → k < length ws → (is_operator (get_or ws k 0) || ltb (get_or ws k 0) M) ≡ true
  pub taken : (k : ℕ) → k < length ws → takes (get_or ws k 0) ≤ length (eval s (take k ws) st)
  pub held : (k : ℕ) → k ≤ length ws → length (eval s (take k ws) st) ≤ max_stack
  pub one : length (eval s ws st) ≡ 1

-- whatever the marks say, from the empty stack
unfoldable pub GoodText : ℕ → List ℕ → Type 0
GoodText M ws = (s : Snap) → Sound M s ws []

-- ---- the same as a test: the depth of the stack says all

-- how deep the stack of depth d is depth_after the word w
unfoldable pub depth_after : ℕ → ℕ → ℕ
depth_after w d = cond (eqb w and_word) (d - 1) (cond (eqb w or_word) (d - 1) (cond (eqb w not_word) d (d + 1)))

-- whether the word w may follow at the depth d, where marks are below M
unfoldable pub follows : ℕ → ℕ → ℕ → Bool
follows M w d = cond (eqb w and_word) (leb 2 d) (cond (eqb w or_word) (leb 2 d) (cond (eqb w not_word) (leb 1 d) (ltb w M && ltb d max_stack)))

unfoldable pub good_from : ℕ → List ℕ → ℕ → Bool
good_from M [] d = eqb d 1
good_from M (w ∷ ws) d = follows M w d && good_from M ws (depth_after w d)

unfoldable pub good : ℕ → List ℕ → Bool
good M ws = good_from M ws 0

-- how deep the stack is depth_after the word w, or too deep where w may not follow
unfoldable pub next_depth : ℕ → ℕ → ℕ → ℕ
next_depth M w d = cond (follows M w d) (depth_after w d) (max_stack + 1)

-- ---- the test says what the propositions say

-- the four kinds of word
pub on_word : {C : Type 0} (w : ℕ) → (w ≡ and_word → C) → (w ≡ or_word → C) → (w ≡ not_word → C)
    → (eqb w and_word ≡ false → eqb w or_word ≡ false → eqb w not_word ≡ false → C) → C
on_word w f g h m =
    cases (eqb w and_word) (λ a. f (eqb-true w and_word a))
    (λ a. cases (eqb w or_word) (λ b. g (eqb-true w or_word b))
    (λ b. cases (eqb w not_word) (λ c. h (eqb-true w not_word c)) (λ c. m a b c)))

module _ (M w d : ℕ) where
  pub record Legal : Type 0 where
    pub ands : w ≡ and_word → 2 ≤ d
    pub ors : w ≡ or_word → 2 ≤ d
    pub nots : w ≡ not_word → 1 ≤ d
    pub marks : eqb w and_word ≡ false → eqb w or_word ≡ false → eqb w not_word ≡ false → (w < M) × (d < max_stack)

  pub legal : follows M w d ≡ true → Legal
  unfolding follows
  legal h =
      record {
        ands = λ e. leb-true 2 d (rw e at h);
        ors = λ e. leb-true 2 d (rw e at h);
        nots = λ e. leb-true 1 d (rw e at h);
        marks = λ a b c. let t = both (ltb w M) (ltb d max_stack) (rw (a, b, c) at h) in (ltb-true w M t.0, ltb-true d max_stack t.1);
      }

  -- what a word that may follow says
  pub follows-known : follows M w d ≡ true → (is_operator w || ltb w M) ≡ true
  unfolding is_operator
  follows-known h =
      on_word w (λ e. rw e) (λ e. rw e) (λ e. rw e) (λ a b c. rw (a, b, c) (lt-ltb w M ((legal h).marks a b c).0))

  pub follows-takes : follows M w d ≡ true → takes w ≤ d
  unfolding takes
  follows-takes h =
      on_word w (λ e. rw e ((legal h).ands e)) (λ e. rw e ((legal h).ors e)) (λ e. rw e ((legal h).nots e)) (λ a b c. rw (a, b, c) (omega arith))

  pub follows-after : follows M w d ≡ true → d ≤ max_stack → depth_after w d ≤ max_stack
  unfolding depth_after
  follows-after h l =
      on_word w (λ e. rw e (omega arith)) (λ e. rw e (omega arith)) (λ e. rw e l) (λ a b c. rw (a, b, c) (let t = (legal h).marks a b c in omega arith))

  pub may-follow : (is_operator w || ltb w M) ≡ true → takes w ≤ d → depth_after w d ≤ max_stack → follows M w d ≡ true
  unfolding is_operator takes depth_after follows
  may-follow k t h =
      on_word w (λ e. rw e (le-leb 2 d (rw e at t))) (λ e. rw e (le-leb 2 d (rw e at t))) (λ e. rw e (le-leb 1 d (rw e at t)))
      (λ a b c. let z : d + 1 ≤ max_stack = rw (a, b, c) at h in let y : ltb w M ≡ true = rw (a, b, c) at k in rw (a, b, c, y) (lt-ltb d max_stack (omega arith)))

pub length_push : (v : Bool) (w : ℕ) (st : List Bool) → length (push v w st) ≡ depth_after w (length st)
unfolding push depth_after top1 top2
length_push v w st =
    on_word w (λ e. rw e (two ◌&&◌ st)) (λ e. rw e (two ◌||◌ st)) (λ e. rw e (one not st)) (λ a b c. rw (a, b, c) (omega arith))
  where
    two : (f : Bool → Bool → Bool) (st : List Bool) → length (top2 f st) ≡ length st - 1
    two f [] = refl
    two f (a ∷ []) = refl
    two f (a ∷ (b ∷ st)) = omega arith

    one : (f : Bool → Bool) (st : List Bool) → length (top1 f st) ≡ length st
    one f [] = refl
    one f (a ∷ st) = refl

pub good-sound : (M : ℕ) (s : Snap) (ws : List ℕ) (st : List Bool) → good_from M ws (length st) ≡ true → length st ≤ max_stack → Sound M s ws st
unfolding good_from eval
good-sound M s [] st h l =
    record {
      known = λ k i. absurd (omega arith);
      taken = λ k i. absurd (omega arith);
      held = held st l;
      one = eqb-true (length st) 1 h;
    }
  where
    held : (st : List Bool) → length st ≤ max_stack → (k : ℕ) → k ≤ 0 → length (eval s (take k []) st) ≤ max_stack
    held st l zero i = l
    held st l (suc k) i = absurd (omega arith)
good-sound M s (w ∷ ws) st h l =
    let t = both (follows M w (length st)) (good_from M ws (depth_after w (length st))) h in
    let e : length (push (s w) w st) ≡ depth_after w (length st) = length_push (s w) w st in
    let r : Sound M s ws (push (s w) w st) = good-sound M s ws (push (s w) w st) (rw e t.1) (rw e (follows-after M w (length st) t.0 l)) in
    record {
      known = known (follows-known M w (length st) t.0) r.known;
      taken = taken (follows-takes M w (length st) t.0) r.taken;
      held = held l r.held;
      one = r.one;
    }
  where
    known : (is_operator w || ltb w M) ≡ true → ((k : ℕ) → k < length ws → (is_operator (get_or ws k 0) || ltb (get_or ws k 0) M) ≡ true)
        → (k : ℕ) → k < suc (length ws) → (is_operator (get_or (w ∷ ws) k 0) || ltb (get_or (w ∷ ws) k 0) M) ≡ true
    known p q zero i = p
    known p q (suc k) i = q k (omega arith)

    taken : takes w ≤ length st → ((k : ℕ) → k < length ws → takes (get_or ws k 0) ≤ length (eval s (take k ws) (push (s w) w st)))
        → (k : ℕ) → k < suc (length ws) → takes (get_or (w ∷ ws) k 0) ≤ length (eval s (take k (w ∷ ws)) st)
    taken p q zero i = p
    taken p q (suc k) i = q k (omega arith)

    held : length st ≤ max_stack → ((k : ℕ) → k ≤ length ws → length (eval s (take k ws) (push (s w) w st)) ≤ max_stack)
        → (k : ℕ) → k ≤ suc (length ws) → length (eval s (take k (w ∷ ws)) st) ≤ max_stack
    held p q zero i = p
    held p q (suc k) i = q k (omega arith)

pub sound-good : (M : ℕ) (s : Snap) (ws : List ℕ) (st : List Bool) → Sound M s ws st → good_from M ws (length st) ≡ true
unfolding good_from eval
sound-good M s [] st h = eq-eqb (length st) 1 h.one
sound-good M s (w ∷ ws) st h =
    let e : length (push (s w) w st) ≡ depth_after w (length st) = length_push (s w) w st in
    let i : depth_after w (length st) ≤ max_stack = rw e at (h.held 1 (omega arith)) in
    let r : good_from M ws (length (push (s w) w st)) ≡ true =
    sound-good M s ws (push (s w) w st)
    (record {
      known = λ k l. h.known (suc k) (omega arith);
      taken = λ k l. h.taken (suc k) (omega arith);
      held = λ k l. h.held (suc k) (omega arith);
      one = h.one;
    }) in
    rw (may-follow M w (length st) (h.known 0 (omega arith)) (h.taken 0 (omega arith)) i) (rw e at r)

-- a text is good exactly if the test says so
pub good-text : (M : ℕ) (ws : List ℕ) → good M ws ≡ true → GoodText M ws
unfolding good GoodText
good-text M ws h s = good-sound M s ws [] h (omega arith)

pub text-good : (M : ℕ) (ws : List ℕ) → GoodText M ws → good M ws ≡ true
unfolding good GoodText
text-good M ws h = sound-good M (λ m. false) ws [] (h (λ m. false))

-- what is good for M marks is good for more
pub good-wider : (M N : ℕ) (ws : List ℕ) → M ≤ N → good M ws ≡ true → good N ws ≡ true
unfolding good good_from follows
good-wider M N ws l h = from ws 0 h
  where
    from : (ws : List ℕ) (d : ℕ) → good_from M ws d ≡ true → good_from N ws d ≡ true
    from [] d h = h
    from (w ∷ ws) d h =
        let t = both (follows M w d) (good_from M ws (depth_after w d)) h in
        let e : follows N w d ≡ true =
        on_word w (λ e. rw e (le-leb 2 d ((legal M w d t.0).ands e))) (λ e. rw e (le-leb 2 d ((legal M w d t.0).ors e))) (λ e. rw e (le-leb 1 d ((legal M w d t.0).nots e)))
        (λ a b c. let m = (legal M w d t.0).marks a b c in rw (a, b, c, lt-ltb w N (omega arith), lt-ltb d max_stack m.1)) in
        rw e (from ws (depth_after w d) t.1)
