-- A derived text holds in a matching snapshot exactly if its event is open. Assumes nothing.
use Prim.Native.Nat.{ℕ, zero, suc, ◌≤◌, ◌<◌}
use Rattle.std.specs.Prelude.{◌≡◌, refl, true, false, ◌&&◌, ◌||◌, eqb}
use Rattle.std.proofs.Common.{sym, ◌∙◌, arith, ne_eqb, eq-eqb, eqb-true}
use Rattle.std.proofs.Math.Path.{ap}
use Rattle.std.proofs.Math.Bool.{Bool, not, and-true, and_assoc}
use mathlib.Core.List.{List, [], ◌∷◌, ◌++◌}
use Rattle.paper.specs.Limits.{max_events, and_word, or_word, not_word}
use Rattle.general.specs.Cases.{contra, cases, all3, not_so, same_test}
use Rattle.general.specs.Below.{every, every-at, every_of, every-same}
use Rattle.sets.specs.Set.{has, inter}
use Rattle.sets.specs.Laws.{has-inter, has-minus, has-empty, none-zero}
use Rattle.flat_chart.specs.Chart.{set_of, condition, milestone, In, Fit}
use Rattle.graph.specs.Steps.{is_open, open_with, unmet_of, awaited_of}
use Rattle.flat_chart.specs.Flat.{FlatChart}
use Rattle.graph.specs.Flat.{Marking}
use Rattle.book.specs.Text.{Snap, push, top1, top2, eval, top, holds}
use Rattle.general.specs.Lists.{flat}
use Rattle.deriver.specs.Matching.{mark_of}
use Rattle.derived.specs.Derived.{executed_mark, included_mark, answered_mark, listed, clause, text_for, derived_text}
use Rattle.agreement.specs.Matching.{match-executed, match-included, match-answered}

-- ---- what the words do

pub eval-append : (s : Snap) (k l : List ℕ) (st : List Bool) → eval s (k ++ l) st ≡ eval s l (eval s k st)
unfolding eval
eval-append s [] l st = refl
eval-append s (w ∷ k) l st = eval-append s k l (push (s w) w st)

pub push-mark : (v : Bool) (w : ℕ) (st : List Bool) → w < and_word → push v w st ≡ v ∷ st
unfolding push
push-mark v w st h = rw (ne_eqb w and_word (λ e. omega arith), ne_eqb w or_word (λ e. omega arith), ne_eqb w not_word (λ e. omega arith))

pub push-not : (v a : Bool) (st : List Bool) → push v not_word (a ∷ st) ≡ not a ∷ st
unfolding push top1
push-not v a st = refl

pub push-or : (v a b : Bool) (st : List Bool) → push v or_word (a ∷ (b ∷ st)) ≡ (b || a) ∷ st
unfolding push top2
push-or v a b st = refl

pub push-and : (v a b : Bool) (st : List Bool) → push v and_word (a ∷ (b ∷ st)) ≡ (b && a) ∷ st
unfolding push top2
push-and v a b st = refl

-- parts that each take in a test take in the test of all
eval-flat : (s : Snap) (g : ℕ → List ℕ) (t : ℕ → Bool) (k : ℕ) → ((f : ℕ) → f < k → (b : Bool) → eval s (g f) (b ∷ []) ≡ (b && t f) ∷ []) → (b : Bool)
    → eval s (flat k g) (b ∷ []) ≡ (b && every k t) ∷ []
unfolding flat eval every
eval-flat s g t zero h b = rw (and-true b)
eval-flat s g t (suc k) h b =
    eval-append s (flat k g) (g k) (b ∷ []) ∙ rw (eval-flat s g t k (λ f i. h f (omega arith)) b) (h k (omega arith) (b && every k t) ∙ rw (and_assoc b (every k t) (t k)))

-- f is no member of s, or is not included, or has its mark
abbrev pub asks : ℕ → (ℕ → ℕ) → ℕ → Snap → ℕ → Bool
asks n mark s snap f = not (has s f) || (not (snap (included_mark n f)) || snap (mark f))

module _ (n : ℕ) (few : n ≤ max_events) where
  eval-clause : (s : Snap) (set f : ℕ) (mark : ℕ → ℕ) → mark f < and_word → f < n → (b : Bool) → eval s (listed (clause n mark) set f) (b ∷ []) ≡ (b && asks n mark set s f) ∷ []
  unfolding eval
  eval-clause s set f mark i h b =
      cases (has set f)
      (λ e. rw (
        e,
        push-mark (s (included_mark n f)) (included_mark n f) (b ∷ []) (omega arith),
        push-not,
        push-mark (s (mark f)) (mark f) (not (s (included_mark n f)) ∷ (b ∷ [])) i,
        push-or,
        push-and,
      ))
      (λ e. rw (e, and-true b))

  -- the value of a text in any snapshot
  pub text-value : (s : Snap) (e t m : ℕ) → e < n
      → holds s (text_for n e t m) ≡ ((s (included_mark n e) && every n (asks n (executed_mark n) t s)) && every n (asks n (answered_mark n) m s))
  unfolding holds text_for eval top
  text-value s e t m h =
      let A : List ℕ = flat n (listed (clause n (executed_mark n)) t) in
      let B : List ℕ = flat n (listed (clause n (answered_mark n)) m) in
      let v : Bool = s (included_mark n e) in
      ap top (ap (λ st. eval s (A ++ B) st) (push-mark v (included_mark n e) [] (omega arith))
      ∙ eval-append s A B (v ∷ [])
      ∙ ap (λ st. eval s B st) (eval-flat s (listed (clause n (executed_mark n)) t) (asks n (executed_mark n) t s) n (λ f i b. eval-clause s t f (executed_mark n) (omega arith) i b) v)
      ∙ eval-flat s (listed (clause n (answered_mark n)) m) (asks n (answered_mark n) m s) n (λ f i b. eval-clause s m f (answered_mark n) (omega arith) i b) (v && every n (asks n (executed_mark n) t s)))

-- ---- the open rule, event by event

bits : (a b x : Bool) → ((a && b) && x) ≡ false → (not b || (not a || not x)) ≡ true
bits true true true h = contra refl h
bits true true false h = refl
bits true false x h = refl
bits false true x h = refl
bits false false x h = refl

not-not : (x : Bool) → not (not x) ≡ x
not-not true = refl
not-not false = refl

-- w is what s has of the included events that pass a test: it is empty exactly if none of the first n is such a one
module _ (m : Marking) (n s : ℕ) (inside : (f : ℕ) → In s f → f < n) where
  none-every : (w : ℕ) (test : ℕ → Bool) → ((f : ℕ) → has w f ≡ ((has m.included f && has s f) && test f))
      → eqb w 0 ≡ every n (λ f. not (has s f) || (not (has m.included f) || not (test f)))
  none-every w test has-w =
      same_test (eqb w 0) (every n (λ f. not (has s f) || (not (has m.included f) || not (test f))))
      (λ z. every_of n _ (λ f h. bits (has m.included f) (has s f) (test f) (sym (has-w f) ∙ ap (λ (x : ℕ). has x f) (eqb-true w 0 z) ∙ has-empty f)))
      (λ t. eq-eqb w 0 (none-zero w (λ f. not_so (λ i.
      let u = all3 (has m.included f) (has s f) (test f) (sym (has-w f) ∙ i) in
      contra (every-at n (λ f. not (has s f) || (not (has m.included f) || not (test f))) f t (inside f u.1)) (rw (u.0, u.1, u.2))))))

  unmet-every : eqb (unmet_of m s) 0 ≡ every n (λ f. not (has s f) || (not (has m.included f) || has m.executed f))
  unfolding unmet_of
  unmet-every =
      none-every (unmet_of m s) (λ f. not (has m.executed f)) (λ f. has-minus (inter m.included s) m.executed f ∙ rw (has-inter m.included s f))
      ∙ every-same n (λ f. not (has s f) || (not (has m.included f) || not (not (has m.executed f))))
      (λ f. not (has s f) || (not (has m.included f) || has m.executed f)) (λ f h. rw (not-not (has m.executed f)))

  awaited-every : eqb (awaited_of m s) 0 ≡ every n (λ f. not (has s f) || (not (has m.included f) || not (has m.pending f)))
  unfolding awaited_of
  awaited-every =
      none-every (awaited_of m s) (has m.pending) (λ f. has-inter (inter m.included s) m.pending f ∙ rw (has-inter m.included s f))

-- ---- a text holds in a matching snapshot exactly if its event is open

pub text-open : (c : FlatChart) → Fit c → (m : Marking) (e : ℕ) → e < c.count → holds (mark_of c m) (derived_text c e) ≡ is_open c m e
unfolding derived_text open_with
text-open c t m e h =
    let n : ℕ = c.count in
    text-value n t.few (mark_of c m) e (set_of c condition e) (set_of c milestone e) h
    ∙ rw (
      match-included c m e h,
      every-same n (asks n (executed_mark n) (set_of c condition e) (mark_of c m)) (λ f. not (has (set_of c condition e) f) || (not (has m.included f) || has m.executed f))
          (λ f i. rw (match-included c m f i, match-executed c m f i)),
      every-same n (asks n (answered_mark n) (set_of c milestone e) (mark_of c m)) (λ f. not (has (set_of c milestone e) f) || (not (has m.included f) || not (has m.pending f)))
          (λ f i. rw (match-included c m f i, match-answered c m f i)),
      ← unmet-every m n (set_of c condition e) (λ f i. t.inside condition e f h i),
      ← awaited-every m n (set_of c milestone e) (λ f i. t.inside milestone e f h i),
    )
