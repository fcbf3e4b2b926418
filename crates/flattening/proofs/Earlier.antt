-- Laws of earlier proofs, which stood in specs/: nothing cites them now, and they stand. Assumes nothing.
use Rattle.std.specs.Prelude.{ℕ, ◌+◌, ◌-◌, ◌≤◌, ◌<◌, ◌≡◌, refl, Bool, List, length, get_or, set, eqb, ltb}
use Rattle.std.proofs.Common.{◌∙◌, arith, length-set, get_or-set_same, get_or-set_other, ltb-true, ltb-false, eqb-true}
use Rattle.std.proofs.lemmas.Bool.{eqb-false}
use Rattle.paper.specs.Limits.{max_nodes}
use Rattle.general.specs.Cases.{cases}
use Rattle.general.specs.Scan.{at-end}
use Rattle.records.specs.Image.{parent_of, node_at}
use Rattle.flattening.specs.Order.{Appended}
use Rattle.sets.specs.Set.{only}
use Rattle.flattening.specs.Rows.{take_in, Cleared, Entered, Gathered, Handed}
use Rattle.flattening.specs.Meaning.{Ground}

-- ---- a path appended to an order

pub append-none : {old path : List ℕ} {m count : ℕ} → length old ≡ max_nodes → Appended old path m count 0 old
append-none s = record { size = s; kept = λ x h. refl; added = λ x y h. absurd (omega arith) }

pub append-more : {old path new : List ℕ} {m count j : ℕ} → Appended old path m count j new → j < count → m + count ≤ max_nodes
    → Appended old path m count (j + 1) (set new (m + j) (get_or path (count - 1 - j) 0))
append-more {old} {path} {new} {m} {count} {j} a h l =
    record {
      size = length-set new (m + j) v ∙ a.size;
      kept = λ x o. get_or-set_other new (m + j) x v 0 (λ z. omega arith) ∙ a.kept x o;
      added = λ x y o e.
          cases (eqb x j)
          (λ t.
          let q : x ≡ j = eqb-true x j t in
          let r : count - 1 - j ≡ y = omega arith in
          rw (q, get_or-set_same new (m + j) v 0 (let s = a.size in omega arith), r))
          (λ t. let q = eqb-false x j t in get_or-set_other new (m + j) (m + x) v 0 (λ z. q (omega arith)) ∙ a.added x y (omega-lt x q o) e);
    }
  where
    v : ℕ
    v = get_or path (count - 1 - j) 0

    omega-lt : (x : ℕ) → (x ≡ j → ⊥) → x < j + 1 → x < j
    omega-lt x n o = cases (ltb x j) (λ t. ltb-true x j t) (λ t. absurd (n (let y = ltb-false x j t in omega arith)))

pub append-end : {old path new : List ℕ} {m count j : ℕ} → j ≤ count → count ≤ j → Appended old path m count j new → Appended old path m count count new
append-end {old} {path} {new} {m} {count} = at-end (λ (j : ℕ). Appended old path m count j new)

-- ---- rows of sets, entry by entry

pub clear_none : (rows : List ℕ) → Cleared rows 0
clear_none rows = record { each = λ g h. absurd (omega arith) }

pub enter-both : (image old mid : List ℕ) {new : List ℕ} (i p e s : ℕ) → s ≡ only e → mid ≡ take_in old i s → p ≡ parent_of image i → new ≡ take_in mid p s
    → new ≡ take_in (take_in old i (only e)) (parent_of image i) (only e)
enter-both image old mid i p e s o a b q = q ∙ rw (a, b, o)

pub enter-end : {image nodes all : List ℕ} {n events e : ℕ} → e ≤ events → events ≤ e → Entered image nodes n e all → Entered image nodes n events all
enter-end {image} {nodes} {all} {n} = at-end (λ (e : ℕ). Entered image nodes n e all)

pub gather-end : {image members gathered : List ℕ} {n κ k r : ℕ} → r ≤ k → k ≤ r → Gathered image members n κ r gathered → Gathered image members n κ k gathered
gather-end {image} {members} {gathered} {n} {κ} = at-end (λ (r : ℕ). Gathered image members n κ r gathered)

module _ {image order : List ℕ} {test : ℕ → ℕ → Bool} where
  pub hand_end : {rows : List ℕ} {groups j : ℕ} → j ≤ groups → groups ≤ j → Handed image order test j rows → Handed image order test groups rows
  hand_end {rows} = at-end (λ (j : ℕ). Handed image order test j rows)

module _ {image : List ℕ} {n k : ℕ} {nodes : List ℕ} {events : ℕ} (g : Ground image n k nodes events) where
  pub flags-in : (e : ℕ) → e < events → node_at (get_or nodes e 0) + 4 ≤ length image
  flags-in e h = let l = (g.placed e h).1 in let f = g.whole.whole in omega arith
