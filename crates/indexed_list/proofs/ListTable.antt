-- The rows of the request's table for a list of completions, in the order 20 to 26, 34, 28, 38, and 29 or 30 within the list; that the answer is given exactly as they say; what a refusal
-- before and within the list hands back; and the list as one call after another. Assumes nothing.
use Rattle.std.specs.Prelude.{◌≡◌, eqb, length}
use Rattle.std.proofs.Math.Path.{ap}
use Rattle.std.proofs.Common.{subst, arith}
use mathlib.Core.List.{List, [], ◌∷◌}
use Prim.Native.Nat.{ℕ, ◌≤◌}
use borrow.Author.Tests.{eqb-true, eqb-false, eq-eqb, le-ltb}
use Rattle.paper.specs.Limits.{max_marks, max_list, mark_above}
use Rattle.paper.specs.Answers.{refusal}
use Rattle.paper.specs.declared.Answer.{Answer}
use Rattle.general.specs.Cases.{cases}
use Rattle.book.specs.Image.{marks_in}
use Rattle.book.specs.declared.Snapshot.{Snapshot}
use Rattle.runner.specs.Completing.{any_from}
use Rattle.runner.specs.Table.{none-belongs}
use Rattle.indexed.specs.Indexed.{index_answer, marks_answer, indexed_answer, completing_indexed}
use Rattle.indexed.specs.IndexedTable.{index-passes, indexed-hands-back}
use Rattle.indexed_list.specs.InList.{completed_marks, granted_of, reached, looked_in, stopping, placed, before_list, list_answer, completing_list, looked-in-small, before-passes, InTurn, in-turn}
use Rattle.indexed_list.specs.InList as turn
use Rattle.indexed_list.specs.ListTable.{before-hands-back}

-- ---- what the call gives

module _ (s index : List ℕ) (snapshot : Snapshot) (list : List ℕ) where
  -- within it: the number granted, which is the place of the refused one, the snapshot reached, and the rules evaluated by the granted ones
  pub within-hands-back : (before_list s index snapshot.marks (length list)).code ≡ 0
      → completing_list s index snapshot list ≡ record {
        answer = placed (stopping s snapshot.marks list) (granted_of s snapshot.marks list);
        granted = granted_of s snapshot.marks list;
        snapshot = record { marks = reached s snapshot.marks list };
        evaluated = looked_in s snapshot.marks list;
      }
  unfolding completing_list
  within-hands-back e = rw (eq-eqb (before_list s index snapshot.marks (length list)).code 0 e)

  refused-first : (list : List ℕ) → ((t : ℕ) → (completing_indexed s index snapshot t).answer.code ≡ 0 → ⊥) → InTurn s index snapshot list 0 snapshot 0
  refused-first [] n = turn.InTurn.ended
  refused-first (t ∷ l) n = subst (λ (y : Snapshot). InTurn s index snapshot (t ∷ l) 0 y 0) (indexed-hands-back s index snapshot t (n t)) (turn.InTurn.stops (n t))

  -- "The end snapshot and the number granted are the same as one call after another, stopping at the first that is refused.", and "the sum over the granted ones"
  pub list-in-turn : length snapshot.marks ≡ max_marks → length list ≤ max_list
      → InTurn s index snapshot list (completing_list s index snapshot list).granted (completing_list s index snapshot list).snapshot (completing_list s index snapshot list).evaluated
  unfolding before_list completing_indexed indexed_answer marks_answer
  list-in-turn w l =
      cases (eqb (index_answer s index).code 0)
      (λ e. let (p, q) = index-passes s index (eqb-true (index_answer s index).code 0 e) in
      cases (any_from (marks_in s) snapshot.marks)
      (λ u. let z : before_list s index snapshot.marks (length list) ≡ refusal mark_above = rw (e, u) in
      rw (before-hands-back s index snapshot list (λ y. absurd (omega (arith, ap (λ (a : Answer). a.code) z)))) (refused-first list (λ t y. absurd (omega (arith, rw (e, u) at y)))))
      (λ u. rw (within-hands-back (rw (e, u, le-ltb max_list (length list) l))) (in-turn s index p q list snapshot w (none-belongs s snapshot.marks u))))
      (λ e. let n = eqb-false (index_answer s index).code 0 e in
      rw (before-hands-back s index snapshot list (λ y. n (rw e at y))) (refused-first list (λ t y. n (rw e at y))))
