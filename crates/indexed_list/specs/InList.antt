-- What completing a list of stages gives, in the request's order of refusals, and that it is one call through the index after another. Assumes nothing.
use Rattle.std.specs.Prelude.{◌≡◌, refl, true, cond, ℕ, suc, ◌+◌, ◌*◌, ◌≤◌, ◌<◌, ◌^◌, eqb, ltb, length}
use Rattle.std.proofs.Common.{sym, ap, subst, ◌∙◌}
use Rattle.std.proofs.Math.Bool.{Bool}
use mathlib.Core.List.{List, [], ◌∷◌}
use native.Mathlib.Omega.{arith}
use borrow.Author.Tests.{eqb-true, eqb-false, ltb-true, ltb-false}
use Rattle.paper.specs.Limits.{max_marks, max_rules, max_list, mark_above, long_list}
use Rattle.paper.specs.Answers.{answer, granted, refusal, place_of}
use Rattle.paper.specs.declared.Answer.{Answer}
use Rattle.general.specs.Cases.{cases, contra}
use Rattle.order_theory.specs.Order.{Fit}
use Rattle.book.specs.Text.{snap_of}
use Rattle.book.specs.Image.{stages_in, marks_in, book_of}
use Rattle.book.specs.WellFormed.{WellFormed}
use Rattle.book.specs.declared.Snapshot.{Snapshot}
use Rattle.rule_order.specs.Nets.{rules_of}
use Rattle.judge.specs.Checking.{order-fit, acyclic-at}
use Rattle.runner.specs.Completing.{any_from, through}
use Rattle.runner.specs.Table.{Passes, Belongs}
use Rattle.runner.specs.Completion.{Open, completes, completed-marks}
use Rattle.runner.specs.declared.Completion.{Completion}
use Rattle.index.specs.Index.{order_of, NoLoops}
use Rattle.index_builder.specs.Building.{index_of}
use Rattle.indexed.specs.Indexed.{index_answer, open_answer, looked_at, completing_indexed}
use Rattle.indexed.specs.IndexedTable.{then-open, indexed-hands-back, looked-most}
use Rattle.indexed_list.specs.declared.ListCompletion.{ListCompletion}

-- ---- within the list

module _ (s : List ℕ) where
  -- the marks after one completion along the stage's running order
  abbrev pub completed_marks : List Bool → ℕ → List Bool
  completed_marks marks stage = through s marks stage marks (order_of (book_of s) stage)

  -- the stage is one of the book's and open
  abbrev pub opens : List Bool → ℕ → Bool
  opens marks stage = eqb (open_answer s marks stage).code 0

  -- how many of the list are granted before the first that is not
  unfoldable pub granted_of : List Bool → List ℕ → ℕ
  granted_of marks [] = 0
  granted_of marks (t ∷ list) = cond (opens marks t) (suc (granted_of (completed_marks marks t) list)) 0

  -- the marks reached
  unfoldable pub reached : List Bool → List ℕ → List Bool
  reached marks [] = marks
  reached marks (t ∷ list) = cond (opens marks t) (reached (completed_marks marks t) list) marks

  -- request (vi): "The call for a list reports the sum over the granted ones."
  unfoldable pub looked_in : List Bool → List ℕ → ℕ
  looked_in marks [] = 0
  looked_in marks (t ∷ list) = cond (opens marks t) (looked_at s marks t + looked_in (completed_marks marks t) list) 0

  -- 29 or 30 of the first that is not granted, or 0
  unfoldable pub stopping : List Bool → List ℕ → ℕ
  stopping marks [] = 0
  stopping marks (t ∷ list) = cond (opens marks t) (stopping (completed_marks marks t) list) (open_answer s marks t).code

-- an entry that is granted is a stage of the book
pub opens-known : (s : List ℕ) (marks : List Bool) (stage : ℕ) → opens s marks stage ≡ true → stage < stages_in s
unfolding open_answer
opens-known s marks stage e = cases (ltb stage (stages_in s)) (λ h. ltb-true stage (stages_in s) h) (λ h. contra (rw h at e) refl)

-- the sum is at most as many for each entry as a book may have rules, and so never exceeds 32 bits
module _ (s : List ℕ) (g : WellFormed s) (n : NoLoops (book_of s)) where
  pub looked-in-most : (list : List ℕ) (marks : List Bool) → looked_in s marks list ≤ length list * max_rules
  unfolding looked_in
  looked-in-most [] marks = omega arith
  looked-in-most (t ∷ list) marks =
      cases (opens s marks t)
      (λ e. rw e (omega (arith, looked-most s g n marks t (opens-known s marks t e), looked-in-most list (completed_marks s marks t))))
      (λ e. rw e (omega arith))

  pub looked-in-small : (list : List ℕ) (marks : List Bool) → length list ≤ max_list → looked_in s marks list < 2 ^ 32
  looked-in-small list marks l = omega (arith, looked-in-most list marks)

-- "The refused one is named by its place in the list."
unfoldable pub placed : ℕ → ℕ → Answer
placed code place = cond (eqb code 0) granted (answer code place 0)

-- ---- "20 to 26, 34, 28 and then 38, a list over 4,096 (place its length), before the list, with 0 granted; 29 and 30 within it"

unfoldable pub before_list : List ℕ → List ℕ → List Bool → ℕ → Answer
before_list s index marks n =
    cond (eqb (index_answer s index).code 0)
    (cond (any_from (marks_in s) marks) (refusal mark_above) (cond (ltb max_list n) (answer long_list (place_of n) 0) granted))
    (index_answer s index)

-- what is ruled out where nothing is refused before the list
pub before-passes : (s index : List ℕ) (marks : List Bool) (many : ℕ) → (before_list s index marks many).code ≡ 0 → ((index_answer s index).code ≡ 0) × (many ≤ max_list)
unfolding before_list
before-passes s index marks many e =
    cases (eqb (index_answer s index).code 0)
    (λ x. cases (any_from (marks_in s) marks) (λ y. let w : mark_above ≡ 0 = rw (x, y) at e in absurd (omega arith))
    (λ y. cases (ltb max_list many) (λ v. let w : long_list ≡ 0 = rw (x, y, v) at e in absurd (omega arith))
    (λ v. (eqb-true (index_answer s index).code 0 x, ltb-false max_list many v))))
    (λ x. let w : (index_answer s index).code ≡ 0 = rw x at e in absurd (eqb-false (index_answer s index).code 0 x w))

unfoldable pub list_answer : List ℕ → List ℕ → List Bool → List ℕ → Answer
list_answer s index marks list =
    cond (eqb (before_list s index marks (length list)).code 0) (placed (stopping s marks list) (granted_of s marks list)) (before_list s index marks (length list))

-- "a refusal within the list hands back the snapshot reached"; one before it the snapshot that was given
unfoldable pub completing_list : List ℕ → List ℕ → Snapshot → List ℕ → ListCompletion
completing_list s index snapshot list =
    cond (eqb (before_list s index snapshot.marks (length list)).code 0)
    (record {
      answer = placed (stopping s snapshot.marks list) (granted_of s snapshot.marks list);
      granted = granted_of s snapshot.marks list;
      snapshot = record { marks = reached s snapshot.marks list };
      evaluated = looked_in s snapshot.marks list;
    })
    (record { answer = before_list s index snapshot.marks (length list); granted = 0; snapshot = snapshot; evaluated = 0 })

-- ---- "The end snapshot and the number granted are the same as one call after another, stopping at the first that is refused."; the rules evaluated are the sum of
-- what the granted calls report

pub data InTurn (s index : List ℕ) : Snapshot → List ℕ → ℕ → Snapshot → ℕ → Type 0 where
  ended : {x : Snapshot} → InTurn s index x [] 0 x 0
  goes : {x y : Snapshot} {t n k : ℕ} {list : List ℕ} → (completing_indexed s index x t).answer.code ≡ 0 → InTurn s index (completing_indexed s index x t).snapshot list n y k
      → InTurn s index x (t ∷ list) (suc n) y ((completing_indexed s index x t).evaluated + k)
  stops : {x : Snapshot} {t : ℕ} {list : List ℕ} → ((completing_indexed s index x t).answer.code ≡ 0 → ⊥) → InTurn s index x (t ∷ list) 0 (completing_indexed s index x t).snapshot 0

module _ (s index : List ℕ) (p : Passes s) (q : index ≡ index_of s) where
  -- a completion of an open stage keeps as many marks, and they belong to the book
  module _ (x : Snapshot) (t : ℕ) (o : Open s x t) where
    order-fits : Fit (rules_of s t) (order_of (book_of s) t)
    order-fits = order-fit s p.formed t (acyclic-at s t p.acyclic o.known)

    pub kept : (length (completed_marks s x.marks t) ≡ max_marks) × Belongs s (completed_marks s x.marks t)
    kept =
        let c = completes s p x t o (order_of (book_of s) t) order-fits in
        let z = completed-marks s p x t o (order_of (book_of s) t) order-fits in
        (sym (ap (λ (r : Completion). length r.snapshot.marks) z) ∙ c.whole, λ m l h. sym (ap (λ (r : Completion). snap_of r.snapshot.marks m) z) ∙ c.belongs m l h)

  module _ (x : Snapshot) (w : length x.marks ≡ max_marks) (b : Belongs s x.marks) (t : ℕ) where
    asked : (completing_indexed s index x t).answer ≡ open_answer s x.marks t
    unfolding completing_indexed
    asked = then-open s index x.marks t p q b

    pub is_open : opens s x.marks t ≡ true → Open s x t
    unfolding open_answer
    is_open e =
        cases (ltb t (stages_in s))
        (λ h. cases (snap_of x.marks t) (λ y. record { whole = w; belongs = b; known = ltb-true t (stages_in s) h; yes = y }) (λ y. contra (rw (h, y) at e) refl))
        (λ h. contra (rw h at e) refl)

    code_is : (completing_indexed s index x t).answer.code ≡ (open_answer s x.marks t).code
    code_is = ap (λ (a : Answer). a.code) asked

    next : opens s x.marks t ≡ true → (completing_indexed s index x t).snapshot ≡ record { marks = completed_marks s x.marks t }
    unfolding completing_indexed
    next e = rw (asked, e)

    looked : opens s x.marks t ≡ true → (completing_indexed s index x t).evaluated ≡ looked_at s x.marks t
    unfolding completing_indexed
    looked e = rw (asked, e)

  -- from marks that belong to the book, the walk is one call after another
  pub in-turn : (list : List ℕ) (x : Snapshot) → length x.marks ≡ max_marks → Belongs s x.marks
      → InTurn s index x list (granted_of s x.marks list) (record { marks = reached s x.marks list }) (looked_in s x.marks list)
  unfolding granted_of reached looked_in
  in-turn [] x w b = ended
  in-turn (t ∷ list) x w b =
      let u : List Bool = completed_marks s x.marks t in
      cases (opens s x.marks t)
      (λ e. let k = kept x t (is_open x w b t e) in
      rw (e, ← looked x w b t e) (goes (code_is x w b t ∙ eqb-true (open_answer s x.marks t).code 0 e)
      (subst (λ (y : Snapshot). InTurn s index y list (granted_of s u list) (record { marks = reached s u list }) (looked_in s u list)) (sym (next x w b t e))
      (in-turn list (record { marks = u }) k.0 k.1))))
      (λ e. let n : (completing_indexed s index x t).answer.code ≡ 0 → ⊥ = λ z. eqb-false (open_answer s x.marks t).code 0 e (sym (code_is x w b t) ∙ z) in
      rw e (subst (λ (y : Snapshot). InTurn s index x (t ∷ list) 0 y 0) (indexed-hands-back s index x t n) (stops n)))
