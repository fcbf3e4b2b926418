-- The rows of the request's table for a list of completions, in the order 20 to 26, 34, 28, 38, and 29 or 30 within the list; that the answer is given exactly as they say; what a refusal
-- before and within the list hands back; and the list as one call after another. Assumes nothing.
use Rattle.std.specs.Prelude.{◌≡◌, Bool, true, false, eqb, ltb, length}
use Rattle.std.proofs.Math.Path.{refl, ap}
use Rattle.std.proofs.Common.{subst, arith}
use mathlib.Core.List.{List, [], ◌∷◌}
use Prim.Native.Nat.{ℕ, suc, ◌+◌, ◌≤◌, ◌<◌, ◌^◌}
use borrow.Author.Tests.{eqb-true, eqb-false, ne_eqb, ltb-true, ltb-false, lt-ltb, le-ltb}
use Rattle.paper.specs.Limits.{max_marks, max_list, clash, mark_above, no_such_stage, stage_closed, index_unfit, long_list}
use Rattle.paper.specs.Answers.{answer, granted, refusal, place_of}
use Rattle.paper.specs.declared.Answer.{Answer}
use Rattle.general.specs.Cases.{cases, contra, coincide}
use Rattle.general.specs.Comparing.{same_bytes, same-so, so-same}
use Rattle.book.specs.Text.{snap_of}
use Rattle.book.specs.Image.{stages_in, marks_in, rules_in}
use Rattle.book.specs.declared.Snapshot.{Snapshot}
use Rattle.judge.specs.Checking.{book_answer, Checked, book-is}
use Rattle.judge.proofs.Checking.{book-passes, is-book}
use Rattle.runner.specs.Completing.{any_from}
use Rattle.runner.specs.Table.{Passes, Belongs, belongs-none, none-belongs, some-above, above-some}
use Rattle.index_builder.specs.Building.{index_of}
use Rattle.indexed.specs.Indexed.{index_answer, open_answer, looked_at, completing_indexed}
use Rattle.indexed.specs.IndexedTable.{index-granted, index-unfit, index-refused, index-passes}
use Rattle.indexed_list.specs.InList.{completed_marks, granted_of, reached, looked_in, stopping, placed, before_list, list_answer, completing_list, looked-in-small, before-passes, InTurn, in-turn}
use Rattle.indexed_list.specs.InList as turn
use Rattle.indexed_list.specs.declared.ListCompletion.{ListCompletion}

-- the walk along a list: how many are granted, where it ends, how many rules it looks at, and the code of the first that is not granted, 0 if all are
pub data Walk (s : List ℕ) : List Bool → List ℕ → ℕ → List Bool → ℕ → ℕ → Type 0 where
  ended : {marks : List Bool} → Walk s marks [] 0 marks 0 0
  goes : {marks end : List Bool} {t n k code : ℕ} {list : List ℕ} → t < stages_in s → snap_of marks t ≡ true → Walk s (completed_marks s marks t) list n end k code
      → Walk s marks (t ∷ list) (suc n) end (looked_at s marks t + k) code
  nowhere : {marks : List Bool} {t : ℕ} {list : List ℕ} → stages_in s ≤ t → Walk s marks (t ∷ list) 0 marks 0 no_such_stage
  closed : {marks : List Bool} {t : ℕ} {list : List ℕ} → t < stages_in s → snap_of marks t ≡ false → Walk s marks (t ∷ list) 0 marks 0 stage_closed

module _ (s : List ℕ) where
  pub walks : (list : List ℕ) (marks : List Bool) → Walk s marks list (granted_of s marks list) (reached s marks list) (looked_in s marks list) (stopping s marks list)
  unfolding granted_of reached looked_in stopping open_answer
  walks [] marks = ended
  walks (t ∷ list) marks =
      cases (ltb t (stages_in s))
      (λ h. cases (snap_of marks t) (λ y. rw (h, y) (goes (ltb-true t (stages_in s) h) y (walks list (completed_marks s marks t)))) (λ y. rw (h, y) (closed (ltb-true t (stages_in s) h) y)))
      (λ h. rw h (nowhere (ltb-false t (stages_in s) h)))

  -- it is the only one
  pub walks-only : {list : List ℕ} {marks end : List Bool} {n k code : ℕ} → Walk s marks list n end k code
      → (n ≡ granted_of s marks list) × (end ≡ reached s marks list) × (k ≡ looked_in s marks list) × (code ≡ stopping s marks list)
  unfolding granted_of reached looked_in stopping open_answer
  walks-only ended = (refl, refl, refl, refl)
  walks-only (goes {marks} {t = t} h y w) = let (a, b, c, d) = walks-only w in rw (lt-ltb t (stages_in s) h, y) (ap suc a, b, ap (λ (k : ℕ). looked_at s marks t + k) c, d)
  walks-only (nowhere {marks} {t} h) = rw (le-ltb t (stages_in s) h) (refl, refl, refl, refl)
  walks-only (closed {marks} {t} h y) = rw (lt-ltb t (stages_in s) h, y) (refl, refl, refl, refl)

pub data Lists (s index : List ℕ) (marks : List Bool) (list : List ℕ) : Answer → Type 0 where
  -- 20 to 26, of the book alone
  refused : (a : Answer) → Checked s 0 (rules_in s) a → (a.code ≡ 0 → ⊥) → a.code ≤ clash → Lists s index marks list a
  unfit : Passes s → (index ≡ index_of s → ⊥) → Lists s index marks list (refusal index_unfit)
  above : Passes s → index ≡ index_of s → (m : ℕ) → marks_in s ≤ m → m < max_marks → snap_of marks m ≡ true → Lists s index marks list (refusal mark_above)
  long : Passes s → index ≡ index_of s → Belongs s marks → max_list < length list → Lists s index marks list (answer long_list (place_of (length list)) 0)
  -- 0, or 29 or 30 with the position
  within : Passes s → index ≡ index_of s → Belongs s marks → length list ≤ max_list → {n k code : ℕ} {end : List Bool} → Walk s marks list n end k code → Lists s index marks list (placed code n)

module _ (s index : List ℕ) (marks : List Bool) (list : List ℕ) where
  begins : Passes s → index ≡ index_of s → Belongs s marks → length list ≤ max_list → before_list s index marks (length list) ≡ granted
  unfolding before_list
  begins p e b l = rw (index-granted s index p e, belongs-none s marks b, le-ltb max_list (length list) l)

  -- at most one row holds
  pub lists-is : (a : Answer) → Lists s index marks list a → a ≡ list_answer s index marks list
  unfolding list_answer before_list
  lists-is a (refused b c n l) = let z : index_answer s index ≡ a = index-refused s index (book-is s 0 (rules_in s) a c n l) n in rw (z, ne_eqb a.code 0 n, ne_eqb a.code 0 n)
  lists-is a (unfit p n) = rw (index-unfit s index p n)
  lists-is a (above p e m l i x) = rw (index-granted s index p e, above-some s marks m l i x)
  lists-is a (long p e b l) = rw (index-granted s index p e, belongs-none s marks b, lt-ltb max_list (length list) l)
  lists-is a (within p e b l w) = let (x, y, v, z) = walks-only s w in rw (begins p e b l, x, z)

  -- some row holds
  row-fit : Passes s → index ≡ index_of s → (a : Answer) × Lists s index marks list a
  row-fit p e =
      cases (any_from (marks_in s) marks)
      (λ u. let (m, l, i, x) = some-above s marks u in (refusal mark_above, above p e m l i x))
      (λ u. let b : Belongs s marks = none-belongs s marks u in
      cases (ltb max_list (length list)) (λ v. (answer long_list (place_of (length list)) 0, long p e b (ltb-true max_list (length list) v)))
      (λ v. (placed (stopping s marks list) (granted_of s marks list), within p e b (ltb-false max_list (length list) v) (walks s list marks))))

  row : (a : Answer) × Lists s index marks list a
  row =
      cases (eqb (book_answer s).code 0)
      (λ e. let p = book-passes s (eqb-true (book_answer s).code 0 e) in
      cases (same_bytes index (index_of s)) (λ t. row-fit p (same-so index (index_of s) t)) (λ t. (refusal index_unfit, unfit p (λ q. contra (rw q (so-same (index_of s))) t))))
      (λ e. let n = eqb-false (book_answer s).code 0 e in let (c, l) = is-book s 0 (rules_in s) n in (book_answer s, refused (book_answer s) c n l))

  -- the answer's row holds: with `lists-is`, every answer of a list is given exactly as the table says
  pub lists : Lists s index marks list (list_answer s index marks list)
  lists = let t = row in subst (λ (a : Answer). Lists s index marks list a) (lists-is t.0 t.1) t.1

-- ---- what the call gives

module _ (s index : List ℕ) (snapshot : Snapshot) (list : List ℕ) where
  pub list-answer : (completing_list s index snapshot list).answer ≡ list_answer s index snapshot.marks list
  unfolding completing_list list_answer
  list-answer = cases (eqb (before_list s index snapshot.marks (length list)).code 0) (λ e. rw e) (λ e. rw e)

  -- a refusal before the list: 0 granted, the snapshot that was given, and no rule evaluated
  pub before-hands-back : ((before_list s index snapshot.marks (length list)).code ≡ 0 → ⊥)
      → completing_list s index snapshot list ≡ record { answer = before_list s index snapshot.marks (length list); granted = 0; snapshot = snapshot; evaluated = 0 }
  unfolding completing_list
  before-hands-back n = rw (ne_eqb (before_list s index snapshot.marks (length list)).code 0 n)

  -- the rules evaluated never exceed 32 bits
  pub list-small : (completing_list s index snapshot list).evaluated < 2 ^ 32
  unfolding completing_list
  list-small =
      cases (eqb (before_list s index snapshot.marks (length list)).code 0)
      (λ e. let (x, l) = before-passes s index snapshot.marks (length list) (eqb-true (before_list s index snapshot.marks (length list)).code 0 e) in
      let (p, _) = index-passes s index x in
      rw e (looked-in-small s p.formed p.acyclic list snapshot.marks l))
      (λ e. rw e (omega arith))

  -- two results that meet the contract coincide
  pub list-determined : (x y : ListCompletion) → x ≡ completing_list s index snapshot list → y ≡ completing_list s index snapshot list → x ≡ y
  list-determined x y e f = coincide e f

-- and no other numbers and snapshot are those of one call after another
pub in-turn-one : {s index : List ℕ} {x y z : Snapshot} {list : List ℕ} {n m k l : ℕ} → InTurn s index x list n y k → InTurn s index x list m z l → (n ≡ m) × (y ≡ z) × (k ≡ l)
in-turn-one turn.InTurn.ended turn.InTurn.ended = (refl, refl, refl)
in-turn-one {s} {index} {x} (turn.InTurn.goes {t = t} e g) (turn.InTurn.goes f h) =
    let (a, b, c) = in-turn-one g h in
    (ap suc a, b, ap (λ (k : ℕ). (completing_indexed s index x t).evaluated + k) c)
in-turn-one (turn.InTurn.goes e g) (turn.InTurn.stops n) = absurd (n e)
in-turn-one (turn.InTurn.stops n) (turn.InTurn.goes f h) = absurd (n f)
in-turn-one (turn.InTurn.stops n) (turn.InTurn.stops m) = (refl, refl, refl)
