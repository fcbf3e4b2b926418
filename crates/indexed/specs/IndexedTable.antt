-- The rows of the request's table for a completion through the index, in the order 20 to 26, 34, 28, 29, 30; that the answer is given exactly as they say; how many rules
-- it looks at; and that it is the completion along the order that the check writes. Assumes nothing.
use Rattle.std.specs.Prelude.{◌≡◌, Bool, true, false, List, ℕ, ◌≤◌, ◌<◌, eqb, ltb, length, take, drop}
use Rattle.std.proofs.Math.Path.{sym}
use Rattle.std.proofs.Common.{ap, subst, ◌∙◌, arith, take_at}
use borrow.Author.Tests.{eqb-true, eqb-false, eq-eqb, ne_eqb, ltb-true, ltb-false, lt-ltb, le-ltb}
use Rattle.paper.specs.Limits.{max_marks, max_rules, clash, mark_above, no_such_stage, stage_closed, index_unfit}
use Rattle.paper.specs.Answers.{granted, refusal}
use Rattle.paper.specs.declared.Answer.{Answer}
use Rattle.general.specs.Cases.{contra, cases, coincide, not_so}
use Rattle.order_theory.specs.Order.{counted_rules}
use Rattle.book.specs.Text.{snap_of}
use Rattle.book.specs.Image.{stages_in, marks_in, rules_in, book_of}
use Rattle.book.specs.WellFormed.{WellFormed}
use Rattle.book.specs.declared.Snapshot.{Snapshot}
use Rattle.rule_order.specs.Nets.{rules_of}
use Rattle.judge.specs.Checking.{book_answer, Checked, checking, checked_room, book-is, order-fit, acyclic-at}
use Rattle.judge.proofs.Checking.{book-passes, is-book, granted-room, passed_is}
use Rattle.runner.specs.Completing.{any_from, snapshot_answer, completion_answer, completing}
use Rattle.runner.specs.Table.{Passes, Belongs, belongs-none, none-belongs, some-above, above-some, order-granted}
use Rattle.runner.specs.Walks.{looks-length, goes-run}
use Rattle.index.specs.Index.{order_of, NoLoops}
use Rattle.index.specs.Reading.{count_small}
use Rattle.general.specs.Comparing.{same_bytes, same-so, so-same}
use Rattle.index_builder.specs.Building.{index_of, passes-zero, building, built_room, build-passes, built-is}
use Rattle.indexed.specs.Indexed.{index_answer, open_answer, marks_answer, indexed_answer, looked_at, completing_indexed, completion_of}
use Rattle.indexed.specs.declared.IndexedCompletion.{IndexedCompletion}

pub data Indexed (s index : List ℕ) (marks : List Bool) (stage : ℕ) : Answer → Type 0 where
  -- 20 to 26, of the book alone
  refused : (a : Answer) → Checked s 0 (rules_in s) a → (a.code ≡ 0 → ⊥) → a.code ≤ clash → Indexed s index marks stage a
  unfit : Passes s → (index ≡ index_of s → ⊥) → Indexed s index marks stage (refusal index_unfit)
  above : Passes s → index ≡ index_of s → (m : ℕ) → marks_in s ≤ m → m < max_marks → snap_of marks m ≡ true → Indexed s index marks stage (refusal mark_above)
  nowhere : Passes s → index ≡ index_of s → Belongs s marks → stages_in s ≤ stage → Indexed s index marks stage (refusal no_such_stage)
  closed : Passes s → index ≡ index_of s → Belongs s marks → stage < stages_in s → snap_of marks stage ≡ false → Indexed s index marks stage (refusal stage_closed)
  completed : Passes s → index ≡ index_of s → Belongs s marks → stage < stages_in s → snap_of marks stage ≡ true → Indexed s index marks stage granted

module _ (s index : List ℕ) where
  pub index-granted : Passes s → index ≡ index_of s → index_answer s index ≡ granted
  unfolding index_answer
  index-granted p e = rw (eq-eqb (book_answer s).code 0 (passes-zero s p), e, so-same (index_of s))

  pub index-unfit : Passes s → (index ≡ index_of s → ⊥) → index_answer s index ≡ refusal index_unfit
  unfolding index_answer
  index-unfit p n = rw (eq-eqb (book_answer s).code 0 (passes-zero s p), not_so (λ t. n (same-so index (index_of s) t)))

  pub index-refused : {a : Answer} → book_answer s ≡ a → (a.code ≡ 0 → ⊥) → index_answer s index ≡ a
  unfolding index_answer
  index-refused {a} z n = rw (z, ne_eqb a.code 0 n)

  -- 20 to 26 and 34 are ruled out only if the book passes and the index is the one that the builder writes; `index-granted` is the converse
  pub index-passes : (index_answer s index).code ≡ 0 → Passes s × (index ≡ index_of s)
  unfolding index_answer
  index-passes e =
      cases (eqb (book_answer s).code 0)
      (λ x. cases (same_bytes index (index_of s)) (λ y. (book-passes s (eqb-true (book_answer s).code 0 x), same-so index (index_of s) y))
      (λ y. let z : index_unfit ≡ 0 = rw (x, y) at e in absurd (omega arith)))
      (λ x. let z : (book_answer s).code ≡ 0 = rw x at e in absurd (eqb-false (book_answer s).code 0 x z))

  module _ (marks : List Bool) (stage : ℕ) where
    pub then : Passes s → index ≡ index_of s → indexed_answer s index marks stage ≡ marks_answer s marks stage
    unfolding indexed_answer
    then p e = rw (index-granted p e)

    pub then-open : Passes s → index ≡ index_of s → Belongs s marks → indexed_answer s index marks stage ≡ open_answer s marks stage
    unfolding marks_answer
    then-open p e b = then p e ∙ rw (belongs-none s marks b)

    -- at most one row holds
    pub indexed-is : (a : Answer) → Indexed s index marks stage a → a ≡ indexed_answer s index marks stage
    unfolding indexed_answer marks_answer open_answer index_answer
    indexed-is a (refused b c n l) = let z : book_answer s ≡ a = book-is s 0 (rules_in s) a c n l in rw (z, ne_eqb a.code 0 n, ne_eqb a.code 0 n)
    indexed-is a (unfit p n) = rw (index-unfit p n)
    indexed-is a (above p e m l i x) = sym (then p e ∙ rw (above-some s marks m l i x))
    indexed-is a (nowhere p e b h) = sym (then-open p e b ∙ rw (le-ltb stage (stages_in s) h))
    indexed-is a (closed p e b h x) = sym (then-open p e b ∙ rw (lt-ltb stage (stages_in s) h, x))
    indexed-is a (completed p e b h x) = sym (then-open p e b ∙ rw (lt-ltb stage (stages_in s) h, x))

    -- some row holds
    row-fit : Passes s → index ≡ index_of s → (a : Answer) × Indexed s index marks stage a
    row-fit p e =
        cases (any_from (marks_in s) marks)
        (λ u. let (m, l, i, x) = some-above s marks u in (refusal mark_above, above p e m l i x))
        (λ u. let b : Belongs s marks = none-belongs s marks u in
        cases (ltb stage (stages_in s))
        (λ v. let h = ltb-true stage (stages_in s) v in cases (snap_of marks stage) (λ x. (granted, completed p e b h x)) (λ x. (refusal stage_closed, closed p e b h x)))
        (λ v. (refusal no_such_stage, nowhere p e b (ltb-false stage (stages_in s) v))))

    row : (a : Answer) × Indexed s index marks stage a
    row =
        cases (eqb (book_answer s).code 0)
        (λ e. let p = book-passes s (eqb-true (book_answer s).code 0 e) in
        cases (same_bytes index (index_of s)) (λ t. row-fit p (same-so index (index_of s) t)) (λ t. (refusal index_unfit, unfit p (λ q. contra (rw q (so-same (index_of s))) t))))
        (λ e. let n = eqb-false (book_answer s).code 0 e in let (c, l) = is-book s 0 (rules_in s) n in (book_answer s, refused (book_answer s) c n l))

    -- the answer's row holds: with `indexed-is`, every answer of a completion through the index is given exactly as the table says
    pub indexed : Indexed s index marks stage (indexed_answer s index marks stage)
    indexed = let t = row in subst (λ (a : Answer). Indexed s index marks stage a) (indexed-is t.0 t.1) t.1

  -- a refusal hands back the snapshot that was given
  pub indexed-hands-back : (snapshot : Snapshot) (stage : ℕ) → ((completing_indexed s index snapshot stage).answer.code ≡ 0 → ⊥) → (completing_indexed s index snapshot stage).snapshot ≡ snapshot
  unfolding completing_indexed
  indexed-hands-back snapshot stage n = rw (ne_eqb (indexed_answer s index snapshot.marks stage).code 0 n)

  -- "A refused completion reports 0."
  pub indexed-none : (snapshot : Snapshot) (stage : ℕ) → ((completing_indexed s index snapshot stage).answer.code ≡ 0 → ⊥) → (completing_indexed s index snapshot stage).evaluated ≡ 0
  unfolding completing_indexed
  indexed-none snapshot stage n = rw (ne_eqb (indexed_answer s index snapshot.marks stage).code 0 n)

  -- and one that is granted the length of the walk
  pub indexed-looked : (snapshot : Snapshot) (stage : ℕ) → (completing_indexed s index snapshot stage).answer.code ≡ 0
      → (completing_indexed s index snapshot stage).evaluated ≡ looked_at s snapshot.marks stage
  unfolding completing_indexed
  indexed-looked snapshot stage e = rw (eq-eqb (indexed_answer s index snapshot.marks stage).code 0 e)

  -- what is granted is a stage of the book
  pub indexed-known : (snapshot : Snapshot) (stage : ℕ) → (completing_indexed s index snapshot stage).answer.code ≡ 0 → stage < stages_in s
  unfolding completing_indexed
  indexed-known snapshot stage z = go (indexed_answer s index snapshot.marks stage) (indexed snapshot.marks stage) z
    where
      go : (a : Answer) → Indexed s index snapshot.marks stage a → a.code ≡ 0 → stage < stages_in s
      go a (refused b c n l) e = absurd (n e)
      go a (unfit p n) e = absurd (omega arith)
      go a (above p q m l i x) e = absurd (omega arith)
      go a (nowhere p q b h) e = absurd (omega arith)
      go a (closed p q b h x) e = absurd (omega arith)
      go a (completed p q b h x) e = h

  -- two results that meet the contract coincide
  pub indexed-determined : (snapshot : Snapshot) (stage : ℕ) (x y : IndexedCompletion) → x ≡ completing_indexed s index snapshot stage → y ≡ completing_indexed s index snapshot stage → x ≡ y
  indexed-determined snapshot stage x y e f = coincide e f

-- a completion through the index is the completion along the stage's running order
pub along-order : (s index : List ℕ) → Passes s → index ≡ index_of s → (snapshot : Snapshot) (stage : ℕ) → stage < stages_in s
    → completion_of (completing_indexed s index snapshot stage) ≡ completing s (order_of (book_of s) stage) snapshot stage
unfolding completing_indexed completing completion_answer snapshot_answer marks_answer open_answer
along-order s index p q snapshot stage h =
    let f = order-fit s p.formed stage (acyclic-at s stage p.acyclic h) in
    rw (then s index snapshot.marks stage p q, order-granted s (order_of (book_of s) stage) stage p h f, lt-ltb stage (stages_in s) h)

-- ---- how many rules are looked at

-- as many as the stage's order has, whatever the snapshot
pub looked-count : (s : List ℕ) (marks : List Bool) (stage : ℕ) → looked_at s marks stage ≡ length (order_of (book_of s) stage)
unfolding looked_at
looked-count s marks stage = looks-length (book_of s) (snap_of marks) stage (goes-run (book_of s) (snap_of marks) stage (order_of (book_of s) stage) (snap_of marks))

-- at most as many as a book may have
pub looked-most : (s : List ℕ) → WellFormed s → NoLoops (book_of s) → (marks : List Bool) (stage : ℕ) → stage < stages_in s → looked_at s marks stage ≤ max_rules
looked-most s g n marks stage h = rw (looked-count s marks stage) (count_small s g n stage h)

-- ---- "For a stage the book has, a completion through the index gives the same answer and snapshot as one with the order from the check."

module _ (s : List ℕ) (stage : ℕ) (room : List ℕ) (e : (checking s stage (length room)).code ≡ 0) where
  -- the order from the check
  abbrev pub checked_order : List ℕ
  checked_order = take (counted_rules (rules_of s stage)) (checked_room s stage room)

  checked-order : checked_order ≡ order_of (book_of s) stage
  checked-order =
      let n : ℕ = counted_rules (rules_of s stage) in
      let (w, f, l) = granted-room s stage room e in
      ap (take n) w ∙ take_at (order_of (book_of s) stage) (drop n room) n l

  pub through-index : (index : List ℕ) → index ≡ index_of s → (snapshot : Snapshot) → completion_of (completing_indexed s index snapshot stage) ≡ completing s checked_order snapshot stage
  through-index index q snapshot =
      let p = passed_is s stage (length room) e in
      along-order s index (record { formed = p.formed; acyclic = p.acyclic; calm = p.calm }) q snapshot stage p.known ∙ ap (λ (l : List ℕ). completing s l snapshot stage) (sym checked-order)

-- ---- what building writes

module _ (s : List ℕ) where
  -- the index that a granted build leaves in the room
  abbrev pub built_index : List ℕ → List ℕ
  built_index lent = take (length (index_of s)) (built_room s lent)

  -- it is fit
  pub built-fit : (lent : List ℕ) → (building s (length lent)).code ≡ 0 → index_answer s (built_index lent) ≡ granted
  built-fit lent e = index-granted s (built_index lent) (build-passes s (length lent) e).0 (built-is s lent e)

  -- two indexes that are fit for a book are one
  pub fit-one : (i j : List ℕ) → (index_answer s i).code ≡ 0 → (index_answer s j).code ≡ 0 → i ≡ j
  fit-one i j e f = coincide (index-passes s i e).1 (index-passes s j f).1

  -- and through it a stage of the book is completed as along the order from the check, whatever the snapshot
  pub through-built : (lent room : List ℕ) (stage : ℕ) → (building s (length lent)).code ≡ 0 → (e : (checking s stage (length room)).code ≡ 0) → (snapshot : Snapshot)
      → completion_of (completing_indexed s (built_index lent) snapshot stage) ≡ completing s (checked_order s stage room e) snapshot stage
  through-built lent room stage b e snapshot = through-index s stage room e (built_index lent) (built-is s lent b) snapshot
