-- The walk that stamps each node once and finds each loop once: what the stamps say, and which nodes are noted. Assumes nothing.
use Rattle.std.specs.Prelude.{ℕ, ◌+◌, ◌≤◌, ◌<◌, ◌≡◌, refl, ◌≢◌, ◌⊎◌, Bool, true, false, not, ◌&&◌, List, length, get_or, set, replicate, Option, Some, None, eqb, ltb}
use Rattle.std.proofs.Common.{sym, ◌∙◌, inl, inr, ⊎_elim, arith, length-set, get_or-set_same, get_or-set_other, ltb-true, ltb-false, eq-eqb, ne_eqb, eqb-true}
use Rattle.std.proofs.Math.Bool.{and-false}
use Rattle.std.proofs.lemmas.List.{length-replicate, get_or-replicate}
use Rattle.std.proofs.lemmas.Bool.{eqb-false}
use Rattle.paper.specs.Limits.{max_nodes}
use Rattle.general.specs.Cases.{contra, cases}
use Rattle.general.specs.Below.{tally, tally-less}
use Rattle.closure.specs.Closure.{Way, hop, via, join}
use Rattle.records.specs.Image.{nodes, parent_of, Whole}
use Rattle.nesting.specs.Nesting.{parent, Nested, OnLoop}
use Rattle.nesting.specs.Climbing.{parent_is, is-parent}
use Rattle.nesting.specs.Loops.{loop-back, loop-on}
use Rattle.nesting.specs.Ahead.{one_parent, first-link}
use Rattle.mending.specs.Mending.{lowest_of_loop}
use Rattle.mending.specs.Cutting.{start-in, LowestOfLoop, one-a-loop}
use Rattle.mending.proofs.Cutting.{lowest-so}
use Rattle.loop_cuts.specs.Round.{LowestRound}

abbrev pub stamp_of : List ℕ → ℕ → ℕ
stamp_of stamps x = get_or stamps x 0

-- the walk has climbed from the first a nodes: what lies above a stamped node is stamped
pub record Stamps (image : List ℕ) (n a : ℕ) (stamps : List ℕ) : Type 0 where
  pub size : length stamps ≡ max_nodes
  pub closed : (x p : ℕ) → parent image x p ≡ true → stamp_of stamps x ≢ 0 → stamp_of stamps p ≢ 0
  pub old : (x : ℕ) → x < n → stamp_of stamps x ≤ a
  pub done : (x : ℕ) → x < a → stamp_of stamps x ≢ 0

-- the climb from a has come to c: what the stamp s, that was b before, says of node x
pub record Known (image : List ℕ) (a c x b s : ℕ) : Type 0 where
  pub bare : s ≡ 0 → x ≤ a → c ≡ x
  pub old : s ≤ a + 1
  pub kept : b ≢ 0 → s ≡ b
  pub fresh : b ≡ 0 → s ≢ 0 → s ≡ a + 1
  pub below : s ≡ a + 1 → c < nodes image → Nested image x c
  pub loop : s ≡ a + 1 → OnLoop image x → c < nodes image

pub record Climb (image : List ℕ) (n a c : ℕ) (before stamps : List ℕ) : Type 0 where
  pub was : Stamps image n a before
  pub size : length stamps ≡ max_nodes
  pub closed : (x p : ℕ) → parent image x p ≡ true → stamp_of stamps x ≢ 0 → (stamp_of stamps p ≢ 0) ⊎ (p ≡ c)
  pub each : (x : ℕ) → x < n → Known image a c x (stamp_of before x) (stamp_of stamps x)

-- how the climb from a ends: at the node r, or where it met no stamp of its own at n
pub record Climbed (image : List ℕ) (n a : ℕ) (before stamps : List ℕ) (r : ℕ) : Type 0 where
  pub stamped : Stamps image n (a + 1) stamps
  pub kept : (x : ℕ) → x < n → stamp_of before x ≢ 0 → stamp_of stamps x ≢ 0
  pub fresh : (x : ℕ) → x < n → stamp_of before x ≡ 0 → stamp_of stamps x ≢ 0 → OnLoop image x → (r < n) × Nested image r x
  pub met : r < n → OnLoop image r × (stamp_of stamps r ≢ 0)

-- the same of the node that it met, or of none
abbrev pub ClimbedTo : List ℕ → ℕ → ℕ → List ℕ → List ℕ → Option ℕ → Type 0
ClimbedTo image n a before stamps None = Climbed image n a before stamps n
ClimbedTo image n a before stamps (Some r) = (r < n) × Climbed image n a before stamps r

-- the nodes that have no stamp
abbrev pub blank : List ℕ → ℕ → Bool
blank stamps x = eqb (stamp_of stamps x) 0

pub stamps-none : (image : List ℕ) (n k : ℕ) → Whole image n k → Stamps image n 0 (replicate max_nodes 0)
stamps-none image n k w =
    let f = w.few in
    let e = w.nodes in
    let zero-at : (x : ℕ) → x < n → get_or {A = ℕ} (replicate max_nodes 0) x 0 ≡ 0 = λ x h. get_or-replicate {A = ℕ} max_nodes x 0 0 (omega arith) in
    record {
      size = length-replicate {A = ℕ} max_nodes 0;
      closed = λ x p q s. absurd (s (zero-at x (let t = (parent_is image x p q).0 in omega arith)));
      old = λ x h. let z = zero-at x h in omega arith;
      done = λ x h. absurd (omega arith);
    }

-- all that lies above a stamped node is stamped
stamped-up : {image : List ℕ} {n a : ℕ} {stamps : List ℕ} → Stamps image n a stamps → {x y : ℕ} → Way (parent image) x y → stamp_of stamps x ≢ 0 → stamp_of stamps y ≢ 0
stamped-up m (hop {a = x} {b = y} e) s = m.closed x y e s
stamped-up m (via {a = x} {c = d} e w) s = stamped-up m w (m.closed x d e s)

module _ {image : List ℕ} {n k a : ℕ} (w : Whole image n k) where
  pub climb-none : {stamps : List ℕ} → Stamps image n a stamps → Climb image n a a stamps stamps
  climb-none {stamps} m =
      record {
        was = m;
        size = m.size;
        closed = λ x p q s. inl (m.closed x p q s);
        each = λ x h.
            let o = m.old x h in
            record {
              bare = λ z l. cases (ltb x a) (λ t. absurd (m.done x (ltb-true x a t) z)) (λ t. let g = ltb-false x a t in omega arith);
              old = omega arith;
              kept = λ s. refl;
              fresh = λ z s. absurd (s z);
              below = λ s. absurd (omega arith);
              loop = λ s. absurd (omega arith);
            };
      }

  module _ {c : ℕ} {before stamps : List ℕ} (m : Climb image n a c before stamps) where
    pub climb-more : {p : ℕ} → c < n → stamp_of stamps c ≡ 0 → p ≡ parent_of image c → Climb image n a p before (set stamps c (a + 1))
    climb-more {p} h v q =
        let e = w.nodes in
        let f = w.few in
        let z = m.size in
        let l : c < nodes image = omega arith in
        let own : stamp_of (set stamps c (a + 1)) c ≡ a + 1 = get_or-set_same stamps c (a + 1) 0 (omega arith) in
        let other : (x : ℕ) → eqb x c ≡ false → stamp_of (set stamps c (a + 1)) x ≡ stamp_of stamps x = λ x t. get_or-set_other stamps c x (a + 1) 0 (eqb-false x c t) in
        let up : OnLoop image c → p < nodes image = λ o. rw q (parent_is image c (parent_of image c) (first-link image o)).1 in
        record {
          was = m.was;
          size = length-set stamps c (a + 1) ∙ z;
          closed = λ x y i s.
              cases (eqb y c) (λ t. inl (rw (eqb-true y c t, own) (λ g. omega arith)))
              (λ t. rw (other y t) (cases (eqb x c) (λ u. inr (sym (parent_is image x y i).2 ∙ rw (eqb-true x c u, ← q)))
              (λ u. ⊎_elim inl (λ g. contra (eq-eqb y c g) t) (m.closed x y i (rw (other x u) at s)))));
          each = λ x i.
              cases (eqb x c)
              (λ t. rw (eqb-true x c t, own)
              (let o = m.each c h in
              record {
                bare = λ s. absurd (omega arith);
                old = omega arith;
                kept = λ s. absurd (s (sym (o.kept s) ∙ v));
                fresh = λ s g. refl;
                below = λ s j. hop (is-parent image c p l j q);
                loop = λ s g. up g;
              }))
              (λ t. rw (other x t)
              (let o = m.each x i in
              record {
                bare = λ s j. absurd (eqb-false x c t (sym (o.bare s j)));
                old = o.old;
                kept = o.kept;
                fresh = o.fresh;
                below = λ s j. join (parent image) (o.below s l) (hop (is-parent image c p l j q));
                loop = λ s g. up (loop-on (parent image) (one_parent image) g (o.below s l));
              }));
        }

    -- one more node has its stamp
    pub climb-less : c < n → stamp_of stamps c ≡ 0 → tally n (blank (set stamps c (a + 1))) < tally n (blank stamps)
    climb-less h e =
        let f = w.few in
        let z = m.size in
        let t = tally-less n (blank stamps) (blank (set stamps c (a + 1))) c h (eq-eqb (stamp_of stamps c) 0 e)
        (rw (get_or-set_same stamps c (a + 1) 0 (omega arith)) (ne_eqb (a + 1) 0 (λ x. omega arith)))
        (λ x i o. rw (get_or-set_other stamps c x (a + 1) 0 o)) in
        omega arith

    module _ (l : a < n) where
      kept-so : (x : ℕ) → x < n → stamp_of before x ≢ 0 → stamp_of stamps x ≢ 0
      kept-so x h s z = s (sym ((m.each x h).kept s) ∙ z)

      -- where c is no node without a stamp
      stamps-so : (c < n → stamp_of stamps c ≢ 0) → Stamps image n (a + 1) stamps
      stamps-so g =
          let e = w.nodes in
          record {
            size = m.size;
            closed = λ x p i s. ⊎_elim (λ t. t) (λ t. rw t (g (let j = (parent_is image x p i).1 in omega arith))) (m.closed x p i s);
            old = λ x h. (m.each x h).old;
            done = λ x h s. let i : x < n = omega arith in let q = (m.each x i).bare s (omega arith) in g (omega arith) (rw q s);
          }

      pub climb-end : n ≤ c → Climbed image n a before stamps n
      climb-end h =
          let e = w.nodes in
          record {
            stamped = stamps-so (λ i. absurd (omega arith));
            kept = kept-so;
            fresh = λ x i z s o. absurd (let t = m.each x i in let g = t.loop (t.fresh z s) o in omega arith);
            met = λ i. absurd (omega arith);
          }

      -- at an older stamp: what it has passed is on no loop, else that had its stamp before
      pub climb-older : c < n → stamp_of stamps c ≢ a + 1 → stamp_of stamps c ≢ 0 → Climbed image n a before stamps n
      climb-older h d s =
          let e = w.nodes in
          let i : c < nodes image = omega arith in
          let o = m.each c h in
          let was : stamp_of before c ≢ 0 = λ z. d (o.fresh z s) in
          record {
            stamped = stamps-so (λ i. s);
            kept = kept-so;
            fresh = λ x j z s g.
                let t = m.each x j in
                absurd (stamped-up m.was (loop-back (parent image) (one_parent image) g (t.below (t.fresh z s) i)) was z);
            met = λ i. absurd (omega arith);
          }

      -- at its own stamp
      pub climb-own : c < n → stamp_of stamps c ≡ a + 1 → Climbed image n a before stamps c
      climb-own h q =
          let e = w.nodes in
          let i : c < nodes image = omega arith in
          let s : stamp_of stamps c ≢ 0 = λ z. omega arith in
          record {
            stamped = stamps-so (λ i. s);
            kept = kept-so;
            fresh = λ x j z s g. let t = m.each x j in (h, loop-back (parent image) (one_parent image) g (t.below (t.fresh z s) i));
            met = λ i. ((m.each c h).below q (omega arith), s);
          }

-- ---- the whole walk

-- the lowest of their loops, and no others
pub record LowestCut (image : List ℕ) (n : ℕ) (cut : List Bool) : Type 0 where
  pub size : length cut ≡ max_nodes
  pub each : (x : ℕ) → x < n → get_or cut x false ≡ lowest_of_loop image x

-- so far: of the nodes that are stamped
pub record Noted (image : List ℕ) (n a : ℕ) (cut : List Bool) (stamps : List ℕ) : Type 0 where
  pub few : a ≤ n
  pub stamped : Stamps image n a stamps
  pub size : length cut ≡ max_nodes
  pub each : (x : ℕ) → x < n → get_or cut x false ≡ (not (blank stamps x) && lowest_of_loop image x)

pub noted-none : (image : List ℕ) (n k : ℕ) → Whole image n k → Noted image n 0 (replicate max_nodes false) (replicate max_nodes 0)
noted-none image n k w =
    let f = w.few in
    record {
      few = omega arith;
      stamped = stamps-none image n k w;
      size = length-replicate max_nodes false;
      each = λ x h.
          get_or-replicate max_nodes x false false (omega arith)
          ∙ rw (eq-eqb (get_or {A = ℕ} (replicate max_nodes 0) x 0) 0 (get_or-replicate {A = ℕ} max_nodes x 0 0 (omega arith)));
    }

module _ {image : List ℕ} {n a : ℕ} {cut : List Bool} {before stamps : List ℕ} {r : ℕ} (m : Noted image n a cut before) (c : Climbed image n a before stamps r) where
  -- what was noted of a node that is no lowest newly stamped one
  as-was : (x : ℕ) → x < n → (stamp_of before x ≡ 0 → stamp_of stamps x ≢ 0 → LowestOfLoop image x → ⊥)
      → (not (blank before x) && lowest_of_loop image x) ≡ (not (blank stamps x) && lowest_of_loop image x)
  as-was x h g =
      cases (lowest_of_loop image x)
      (λ t. cases (blank before x)
      (λ u. cases (blank stamps x) (λ v. rw (u, v)) (λ v. absurd (g (eqb-true (stamp_of before x) 0 u) (eqb-false (stamp_of stamps x) 0 v) ((lowest-so image x).0 t))))
      (λ u. rw (u, ne_eqb (stamp_of stamps x) 0 (c.kept x h (eqb-false (stamp_of before x) 0 u)))))
      (λ t. rw (t, and-false (not (blank before x)), and-false (not (blank stamps x))))

  -- no loop
  pub noted-same : {next : List Bool} → a < n → n ≤ r → next ≡ cut → Noted image n (a + 1) next stamps
  noted-same l h q =
      rw q (record {
        few = omega arith;
        stamped = c.stamped;
        size = m.size;
        each = λ x i. m.each x i ∙ as-was x i (λ z s o. let t = (c.fresh x i z s o.on).0 in omega arith);
      })

  -- one more loop, and its lowest
  pub noted_more : {k low : ℕ} {next : List Bool} → Whole image n k → a < n → r < n → LowestRound image r low → next ≡ set cut low true → Noted image n (a + 1) next stamps
  noted_more {k} {low} w l h o q =
      let e = w.nodes in
      let f = w.few in
      let z = m.size in
      let i : low < n = let t = start-in image o.lowest.on in omega arith in
      let s : stamp_of stamps low ≢ 0 = stamped-up c.stamped o.round (c.met h).1 in
      rw q (record {
        few = omega arith;
        stamped = c.stamped;
        size = length-set cut low true ∙ z;
        each = λ x j.
            cases (eqb x low)
            (λ t. rw (eqb-true x low t, get_or-set_same cut low true false (omega arith), ne_eqb (stamp_of stamps low) 0 s, (lowest-so image low).1 o.lowest))
            (λ t. get_or-set_other cut low x true false (eqb-false x low t) ∙ m.each x j ∙ as-was x j (λ z s p.
            eqb-false x low t (sym (one-a-loop image low x o.lowest p
            (join (parent image) (loop-back (parent image) (one_parent image) (c.met h).0 o.round) (c.fresh x j z s p.on).1)))));
      })

pub low-in : {image : List ℕ} {n k r low : ℕ} → Whole image n k → LowestRound image r low → low < max_nodes
low-in {image} w o = let t = start-in image o.lowest.on in let e = w.nodes in let f = w.few in omega arith
