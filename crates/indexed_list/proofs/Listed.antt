-- What the functions of a list need: the refusals before it, and the walk along it. Assumes nothing.
use mathlib.Core.Path.{◌≡◌, refl, sym, ap, ◌∙◌}
use mathlib.Core.Bool.{Bool, true, false}
use mathlib.Core.List.{List, ◌∷◌}
use Prim.Native.Nat.{ℕ, ◌+◌, ◌*◌, ◌≤◌, ◌<◌, ◌^◌}
use native.Mathlib.Numerals.{add-one}
use native.Mathlib.Omega.{arith}
use lib.ListN.{length, get_or, drop, drop_of_length-le}
use lib.Seq.{drop-cons}
use borrow.Author.Tests.{eq-eqb, ne_eqb, lt-ltb, le-ltb}
use Rattle.paper.specs.Limits.{max_events, max_rules, max_list, mark_above, long_list}
use Rattle.paper.specs.Answers.{answer, granted, refusal, place_of}
use Rattle.paper.specs.Refusals.{answer_of}
use Rattle.paper.specs.declared.Answer.{Answer}
use Rattle.paper.specs.declared.Refusal.{Refusal}
use Rattle.book.specs.Image.{stages_in, marks_in, book_of}
use Rattle.book.specs.WellFormed.{WellFormed}
use Rattle.book.specs.WellRead.{Opened}
use Rattle.book.specs.declared.Counts.{Counts}
use Rattle.book.specs.declared.Snapshot.{Snapshot}
use Rattle.judge.proofs.Returns.{some-code}
use Rattle.runner.specs.Completing.{any_from}
use Rattle.index.specs.Index.{order_of, index_image, NoLoops}
use Rattle.index.specs.Reading.{count_small}
use Rattle.indexed.specs.Indexed.{index_answer, open_answer, IndexedWith}
use Rattle.indexed.specs.IndexedTable.{looked-count}
use Rattle.indexed_list.specs.InList.{completed_marks, granted_of, reached, looked_in, stopping, placed, before_list, completing_list, opens-known}
use Rattle.indexed_list.specs.declared.ListCompletion.{ListCompletion}

-- ---- before the list

module _ (s index : List ℕ) (marks : List Bool) (many : ℕ) where
  pub index-stops : (r : Refusal) → answer_of r ≡ index_answer s index → answer_of r ≡ before_list s index marks many
  unfolding before_list
  index-stops r e = rw (← e, ne_eqb (answer_of r).code 0 (some-code r))

  module _ (e : granted ≡ index_answer s index) (h : Counts) (p : IndexedWith s index h) (b : Bool) (f : b ≡ any_from h.marks marks) where
    belongs : b ≡ any_from (marks_in s) marks
    belongs = f ∙ ap (λ (x : Counts). any_from x.marks marks) p.book.counts

    pub before_above : b ≡ true → refusal mark_above ≡ before_list s index marks many
    unfolding before_list
    before_above t = rw (← e, ← belongs, t)

    module _ (t : b ≡ false) where
      pub before-long : max_list < many → (place : ℕ) → place ≡ place_of many → answer long_list place 0 ≡ before_list s index marks many
      unfolding before_list
      before-long l place q = rw (← e, ← belongs, t, lt-ltb max_list many l, q)

      pub before-granted : many ≤ max_list → granted ≡ before_list s index marks many
      unfolding before_list
      before-granted l = rw (← e, ← belongs, t, le-ltb max_list many l)

-- ---- the walk: j were granted, and what the rest gives from here is what the whole gives from the start

abbrev pub Walks : List ℕ → List Bool → List ℕ → ListCompletion
Walks s marks list =
    record {
      answer = placed (stopping s marks list) (granted_of s marks list);
      granted = granted_of s marks list;
      snapshot = record { marks = reached s marks list };
      evaluated = looked_in s marks list;
    }

module _ (s : List ℕ) (began : List Bool) (list : List ℕ) where
  pub record Gone (marks : List Bool) (looked j : ℕ) : Type 0 where
    pub few : j ≤ length list
    pub many : granted_of s began list ≡ j + granted_of s marks (drop j list)
    pub end : reached s began list ≡ reached s marks (drop j list)
    pub sum : looked_in s began list ≡ looked + looked_in s marks (drop j list)
    pub small : looked ≤ j * max_rules
    pub code : stopping s began list ≡ stopping s marks (drop j list)

  pub gone-first : Gone began 0 0
  gone-first = record { few = omega arith; many = omega arith; end = refl; sum = omega arith; small = omega arith; code = refl }

  module _ (marks : List Bool) (looked j : ℕ) (g : Gone marks looked j) where
    -- every entry was granted
    pub gone-all : (a : Answer) (n : ℕ) (held : Snapshot) → length list ≤ j → a ≡ granted → n ≡ length list → held.marks ≡ marks
        → record { answer = a; granted = n; snapshot = held; evaluated = looked } ≡ Walks s began list
    unfolding granted_of reached looked_in stopping placed
    gone-all a n held l p q m =
        let f : j ≤ length list = g.few in
        let x : n ≡ j = omega arith in
        let y : j + 0 ≡ j = omega arith in
        let v : looked + 0 ≡ looked = omega arith in
        let k : held ≡ record { marks = marks } = ap (λ (v : List Bool). record { marks = v }) m in
        rw (g.many, g.end, g.sum, g.code, drop_of_length-le list l, p, x, y, v, k)

    module _ (l : j < length list) (t : ℕ) (q : t ≡ get_or list j 0) (a : Answer) (e : a ≡ open_answer s marks t) where
      here : drop j list ≡ t ∷ drop (j + 1) list
      here = drop-cons list j 0 l ∙ rw (add-one j, q)

      -- the entry is not granted
      pub gone-stops : (b : Answer) (held : Snapshot) → (a.code ≡ 0 → ⊥) → b ≡ answer a.code j 0 → held.marks ≡ marks
          → record { answer = b; granted = j; snapshot = held; evaluated = looked } ≡ Walks s began list
      unfolding granted_of reached looked_in stopping placed
      gone-stops b held n p m =
          let x : granted_of s began list ≡ j = g.many ∙ rw (here, ← e, ne_eqb a.code 0 n) (omega arith) in
          let y : reached s began list ≡ marks = g.end ∙ rw (here, ← e, ne_eqb a.code 0 n) in
          let w : looked_in s began list ≡ looked = g.sum ∙ rw (here, ← e, ne_eqb a.code 0 n) (omega arith) in
          let v : stopping s began list ≡ a.code = g.code ∙ rw (here, ← e, ne_eqb a.code 0 n) in
          let k : held ≡ record { marks = marks } = ap (λ (u : List Bool). record { marks = u }) m in
          rw (x, y, w, v, ne_eqb a.code 0 n, p, k)

      -- it is, and its completion looked at so many rules
      module _ (z : a.code ≡ 0) (f : WellFormed s) (n : NoLoops (book_of s)) (turned : ℕ) (c : turned ≡ length (order_of (book_of s) t)) where
        turned-few : turned ≤ max_rules
        turned-few = rw c (count_small s f n t (opens-known s marks t (rw (← e) (eq-eqb a.code 0 z))))

        pub gone-fits : length list ≤ max_list → looked + turned < 2 ^ 32
        gone-fits h = let u : looked ≤ j * max_rules = g.small in omega (arith, turned-few)

        pub gone-on : (marks' : List Bool) → marks' ≡ completed_marks s marks t → Gone marks' (looked + turned) (j + 1)
        unfolding granted_of reached looked_in stopping
        gone-on marks' m =
            let u : looked ≤ j * max_rules = g.small in
            record {
              few = omega arith;
              many = g.many ∙ rw (here, ← e, z, ← m) (omega arith);
              end = g.end ∙ rw (here, ← e, z, ← m);
              sum = g.sum ∙ rw (here, ← e, z, ← m) (omega (arith, looked-count s marks t));
              small = omega (arith, turned-few);
              code = g.code ∙ rw (here, ← e, z, ← m);
            }

pub stages-few : (s : List ℕ) (h : Counts) → Opened s h → h.stages ≤ max_events
stages-few s h o = rw o.counts o.formed.headed.counted.stages

-- what the walk asks of an entry that is open
pub turn-asks : (s index : List ℕ) (h : Counts) (many : ℕ) → (Opened s h) × (NoLoops (book_of s)) × (index ≡ index_image (book_of s)) × (many ≤ max_list)
    → (marks : List Bool) (stage : ℕ) → ((s : List ℕ) → h.stages ≡ stages_in s → granted ≡ open_answer s marks stage)
    → (Opened s h) × (NoLoops (book_of s)) × (index ≡ index_image (book_of s)) × (stage < h.stages)
turn-asks s index h many p marks stage f =
    let e : h.stages ≡ stages_in s = ap (λ (x : Counts). x.stages) p.0.counts in
    (p.0, p.1, p.2, rw e (opens-known s marks stage (eq-eqb (open_answer s marks stage).code 0 (sym (ap (λ (x : Answer). x.code) (f s e))))))

-- ---- the whole call

pub walk_begins : (s index : List ℕ) (h : Counts) (many : ℕ) → IndexedWith s index h → many ≤ max_list
    → (Opened s h) × (NoLoops (book_of s)) × (index ≡ index_image (book_of s)) × (many ≤ max_list)
walk_begins s index h many p l = (record { formed = p.book.passes.formed; counts = p.book.counts }, p.book.passes.acyclic, p.same, l)

module _ (s index : List ℕ) (snapshot : Snapshot) (list : List ℕ) where
  pub list-refused : (r : Refusal) → answer_of r ≡ before_list s index snapshot.marks (length list)
      → record { answer = answer_of r; granted = 0; snapshot = snapshot; evaluated = 0 } ≡ completing_list s index snapshot list
  unfolding completing_list
  list-refused r e = rw (← e, ne_eqb (answer_of r).code 0 (some-code r))

  pub list-walked : granted ≡ before_list s index snapshot.marks (length list) → (r : ListCompletion) → r ≡ Walks s snapshot.marks list → r ≡ completing_list s index snapshot list
  unfolding completing_list
  list-walked e r q = q ∙ rw (← e)
