-- What the tables hold that the reader fills on its way: the groups and the events' nodes. Assumes nothing.
use Rattle.std.specs.Prelude.{ℕ, ◌+◌, ◌≤◌, ◌<◌, ◌≡◌, refl, Bool, true, false, not, cond, ◌&&◌, ◌||◌, List, length, get_or, set, replicate, eqb, ltb}
use Rattle.std.proofs.Common.{sym, ◌∙◌, add-one, arith, length-set, get_or-set_same, get_or-set_other, lt-ltb, ltb-true, ltb-false, ne_eqb, eqb-true}
use Rattle.std.proofs.Math.Bool.{or-false}
use Rattle.std.proofs.lemmas.List.{length-replicate, get_or-replicate}
use Rattle.std.proofs.lemmas.Bool.{eqb-false, not-true}
use Rattle.paper.specs.Limits.{max_nodes, max_events}
use Rattle.general.specs.Cases.{contra, cases, lt-suc}
use Rattle.general.specs.Below.{some, some-step, tally}
use Rattle.general.specs.Numbering.{tally-lt}
use Rattle.records.specs.Image.{nodes, parent_of, state_of, Whole}
use Rattle.nesting.specs.Nesting.{parent}

-- ---- which nodes are groups

unfoldable pub mark_at : List Bool → ℕ → ℕ → List Bool
mark_at groups n p = cond (ltb p n) (set groups p true) groups

-- the groups that the first a nodes have for parents
pub record Marks (image : List ℕ) (n a : ℕ) (groups : List Bool) : Type 0 where
  pub size : length groups ≡ max_nodes
  pub each : (i : ℕ) → i < n → get_or groups i false ≡ some a (λ x. parent image x i)

abbrev pub Groups : List ℕ → ℕ → List Bool → Type 0
Groups image n groups = Marks image n n groups

abbrev pub is_event_in : List Bool → ℕ → Bool
is_event_in groups i = not (get_or groups i false)

abbrev pub flagged_in : List ℕ → List Bool → ℕ → Bool
flagged_in image groups i = get_or groups i false && not (eqb (state_of image i) 0)

-- a is a node, and so is b: its parent is b exactly if its record says so
parent-of : (image : List ℕ) (n a b p : ℕ) → n ≡ nodes image → p ≡ parent_of image a → a < n → b < n → parent image a b ≡ eqb p b
unfolding parent
parent-of image n a b p e q h l = rw (← e, ← q, lt-ltb a n h, lt-ltb b n l)

pub marks-none : (image : List ℕ) (n k : ℕ) → Whole image n k → Marks image n 0 (replicate max_nodes false)
unfolding some
marks-none image n k w = record { size = length-replicate max_nodes false; each = λ i h. get_or-replicate max_nodes i false false (omega arith) }

pub marks-more : {image : List ℕ} {n k a p : ℕ} {groups next : List Bool} → Whole image n k → Marks image n a groups → a < n
    → p ≡ parent_of image a → next ≡ mark_at groups n p → Marks image n (a + 1) next
unfolding mark_at
marks-more {image} {n} {k} {a} {p} {groups} {next} w m h q e =
    rw e (record {
      size = cases (ltb p n) (λ t. rw t (length-set groups p true ∙ m.size)) (λ t. rw t m.size);
      each = λ i l.
          rw (some-step a (λ x. parent image x i), ← m.each i l, parent-of image n a i p w.nodes q h l)
          (cases (ltb p n)
          (λ t. rw t (cases (eqb p i)
          (λ s. rw (s, ← eqb-true p i s) (get_or-set_same groups p true false (let g = m.size in let f = w.few in let o = ltb-true p n t in omega arith) ∙ sym (or-is-true (get_or groups p false))))
          (λ s. rw s (get_or-set_other groups p i true false (λ z. eqb-false p i s (sym z)) ∙ sym (or-false (get_or groups i false))))))
          (λ t. rw (t, ne_eqb p i (λ z. let o = ltb-false p n t in omega arith)) (sym (or-false (get_or groups i false)))));
    })
  where
    or-is-true : (b : Bool) → (b || true) ≡ true
    or-is-true true = refl
    or-is-true false = refl

-- ---- the node of each event

-- of the first i nodes, each event stands at its number
pub record EventNodes (groups : List Bool) (i : ℕ) (nodes : List ℕ) : Type 0 where
  pub size : length nodes ≡ max_events
  pub each : (x : ℕ) → x < i → is_event_in groups x ≡ true → get_or nodes (tally x (is_event_in groups)) 0 ≡ x

pub numbered-none : (groups : List Bool) → EventNodes groups 0 (replicate max_events 0)
numbered-none groups = record { size = length-replicate {A = ℕ} max_events 0; each = λ x h. absurd (omega arith) }

-- one more number is below the limit, where the count of all is
pub number_fits : (f : ℕ → Bool) (n i : ℕ) → i < n → f i ≡ true → tally n f ≤ max_events → tally i f < max_events
number_fits f n i h e l = let t = tally-lt f i n h e in omega arith

pub numbered_more : {groups : List Bool} {nodes next : List ℕ} {n i e : ℕ} → EventNodes groups i nodes → e ≡ tally i (is_event_in groups) → i < n
    → tally n (is_event_in groups) ≤ max_events → next ≡ cond (get_or groups i false) nodes (set nodes e i) → EventNodes groups (i + 1) next
numbered_more {groups} {nodes} {next} {n} {i} {e} m q h l p =
    rw p (cases (get_or groups i false)
    (λ t. rw t (record { size = m.size; each = λ x o g. lt-suc (rw add-one at o) (λ z. contra (rw (← z) at t) (not-true (get_or groups x false) g)) (λ o. m.each x o g) }))
    (λ t. rw t (record {
      size = length-set nodes e i ∙ m.size;
      each = λ x o g.
          lt-suc (rw add-one at o)
          (λ z. rw (z, ← q) (get_or-set_same nodes e i 0 (let s = m.size in let y = number_fits (is_event_in groups) n i h (rw t) l in omega arith)))
          (λ o. get_or-set_other nodes e (tally x (is_event_in groups)) i 0 (λ z. let y = tally-lt (is_event_in groups) x i o g in omega arith) ∙ m.each x o g);
    })))
