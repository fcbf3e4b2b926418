-- What a pass over the rules keeps, rule by rule, and what the passes keep. Assumes nothing.
use mathlib.Core.Path.{◌≡◌, refl, sym, ap, ◌∙◌}
use mathlib.Core.Logic.{inl, inr, ⊎_elim}
use mathlib.Core.Bool.{Bool, true, false, not, ◌||◌}
use mathlib.Core.List.{List}
use Prim.Native.Nat.{ℕ, ◌+◌, ◌≤◌, ◌<◌}
use native.Mathlib.Numerals.{add-one}
use native.Mathlib.Omega.{arith}
use lib.Dec.{eqb, ltb}
use lib.ListN.{length, get_or, length-set}
use lib.Seq.{get_or-set_same, get_or-set_other}
use borrow.Author.Tests.{eqb-true, eqb-false, ltb-true, ltb-false, not-true}
use Rattle.paper.specs.Limits.{max_conditions}
use Rattle.general.specs.Cases.{contra, cases, both, either, neither, or_left, or_right, not_so, lt-suc}
use Rattle.general.specs.Below.{find}
use Rattle.sets.specs.Set.{has, union, minus}
use Rattle.sets.specs.Laws.{has-union, has-minus, none-zero, minus-none}
use Rattle.order_theory.specs.Order.{Counted}
use Rattle.order_theory.specs.Spread.{Leads, leads-join}
use Rattle.order_theory.proofs.Spread.{leads-on}
use Rattle.book.specs.Image.{rules_in}
use Rattle.book.specs.Marks.{word_bits}
use Rattle.book.specs.WellFormed.{WellFormed}
use Rattle.book.specs.WellRead.{Opened}
use Rattle.book.specs.declared.Counts.{Counts}
use Rattle.rule_order.specs.Rules.{net_of}
use Rattle.rule_order.specs.Nets.{rules_of, count-is, targets-small}
use Rattle.loop_search.specs.Spreading.{reaches, Sources, AskedAll, carried, target_of, Carried, missing, Grown, Passed, Settled}
use Rattle.loop_search.proofs.Carrying.{carried_gives, carried-takes, missing-less}

-- the first r rules are passed
pub record Passing (s : List ℕ) (n stage : ℕ) (asked start reached : List ℕ) (more : Bool) (r : ℕ) : Type 0 where
  pub formed : WellFormed s
  pub many : n ≡ rules_in s
  pub within : r ≤ rules_in s
  pub all : AskedAll s start asked
  pub sources : Sources reached
  pub grown : Grown (rules_of s stage) start reached
  pub fewer : more ≡ true → missing reached < missing start
  pub left : more ≡ false → reached ≡ start
  pub none : more ≡ false → (q : ℕ) → q < r → (rules_of s stage).counts q ≡ true → minus (carried s start asked q) (get_or start (target_of s q) 0) ≡ 0

pub grown-first : (s : List ℕ) (stage : ℕ) (reached : List ℕ) → Grown (rules_of s stage) reached reached
grown-first s stage reached = record { kept = λ x i t. t; sound = λ x i t. (x, t, inl refl) }

pub passing-first : (s : List ℕ) (n stage : ℕ) (asked reached : List ℕ) → WellFormed s → n ≡ rules_in s → Sources reached → AskedAll s reached asked
    → Passing s n stage asked reached reached false 0
passing-first s n stage asked reached w e k a = record {
  formed = w;
  many = e;
  within = omega arith;
  all = a;
  sources = k;
  grown = grown-first s stage reached;
  fewer = λ t. contra t refl;
  left = λ t. refl;
  none = λ t q l. absurd (omega arith);
}

module _ (s : List ℕ) (n stage : ℕ) (asked start reached : List ℕ) (more : Bool) (r : ℕ) (g : Passing s n stage asked start reached more r) (l : r < n) (x : Bool) (c : x ≡ (rules_of s stage).counts r) where
  here : r < rules_in s
  here = let m = g.many in omega arith

  -- what the rule carries is reached by a way from what was reached at the start
  carried-sound : (rules_of s stage).counts r ≡ true → (i : ℕ) → has (carried s reached asked r) i ≡ true → (y : ℕ) × (reaches start y i ≡ true) × Leads (rules_of s stage) y (target_of s r)
  unfolding net_of
  carried-sound k i e =
      let (m, f, t) = carried_gives s start reached asked g.formed r here g.all i e in
      let d : Counted (rules_of s stage) r = (rw (count-is s stage) here, k) in
      ⊎_elim
      (λ u. let (y, v, w) = g.grown.sound m i u in (y, v, inr (leads-on (rules_of s stage) y m r w d f)))
      (λ u. (m, u, inr (leads-on (rules_of s stage) m m r (inl refl) d f))) t

  start-low : (y i : ℕ) → reaches start y i ≡ true → i < word_bits
  start-low y i t = g.sources.low y i (g.grown.kept y i t)

  -- something new has a digit below 64
  new-digit : {C : Type 0} → (rules_of s stage).counts r ≡ true → (minus (carried s reached asked r) (get_or reached (target_of s r) 0) ≡ 0 → ⊥)
      → ((i : ℕ) → i < word_bits → has (carried s reached asked r) i ≡ true → reaches reached (target_of s r) i ≡ false → C) → C
  new-digit k n f =
      let a : ℕ = carried s reached asked r in
      let b : ℕ = get_or reached (target_of s r) 0 in
      find word_bits (has (minus a b))
      (λ i h e. let (u, v) = both (has a i) (not (has b i)) (sym (has-minus a b i) ∙ e) in f i h u (not-true (has b i) v))
      (λ z. absurd (n (none-zero (minus a b) (λ i. cases (ltb i word_bits) (λ t. z i (ltb-true i word_bits t))
      (λ t. not_so (λ e. let (y, v, w) = carried-sound k i (both (has a i) (not (has b i)) (sym (has-minus a b i) ∙ e)).0 in
      absurd (omega (arith, start-low y i v, ltb-false i word_bits t))))))))

  module _ (after : List ℕ) (new : Bool) (t : x ≡ true) (e : Carried s reached asked r after new) where
    counts : (rules_of s stage).counts r ≡ true
    counts = sym c ∙ t

    abbrev target : ℕ
    target = target_of s r

    target-in : target < length reached
    unfolding net_of
    target-in = let i = targets-small s stage g.formed r (rw (count-is s stage) here, counts) in let j = g.sources.room in omega arith

    -- each word is as it was, or the target's, with what the rule carries
    word : (P : ℕ → Type 0) (m : ℕ) → new ≡ true → (m ≡ target → P (union (get_or reached target 0) (carried s reached asked r))) → P (get_or reached m 0) → P (get_or after m 0)
    word P m y f h =
        rw (e.taken y) (cases (eqb m target)
        (λ z. let q : m ≡ target = eqb-true m target z in rw (q, get_or-set_same reached target (union (get_or reached target 0) (carried s reached asked r)) 0 target-in) (f q))
        (λ z. rw (get_or-set_other reached target m (union (get_or reached target 0) (carried s reached asked r)) 0 (eqb-false m target z)) h))

    joined : (i : ℕ) → has (union (get_or reached target 0) (carried s reached asked r)) i ≡ (reaches reached target i || has (carried s reached asked r) i)
    joined i = has-union (get_or reached target 0) (carried s reached asked r) i

    sources-on : new ≡ true → Sources after
    sources-on y =
        record {
          room = ap length (e.taken y) ∙ length-set reached target _ ∙ g.sources.room;
          low = λ m i. word (λ w. has w i ≡ true → i < word_bits) m y
              (λ q h. either (reaches reached target i) (has (carried s reached asked r) i) (sym (joined i) ∙ h) (g.sources.low target i)
              (λ u. let (y, v, w) = carried-sound counts i u in start-low y i v)) (g.sources.low m i);
        }

    grown-on : new ≡ true → Grown (rules_of s stage) start after
    grown-on y =
        record {
          kept = λ m i h. word (λ w. has w i ≡ true) m y
              (λ q. joined i ∙ or_left (reaches reached target i) (has (carried s reached asked r) i) (rw q at (g.grown.kept m i h))) (g.grown.kept m i h);
          sound = λ m i. word (λ w. has w i ≡ true → (y : ℕ) × (reaches start y i ≡ true) × Leads (rules_of s stage) y m) m y
              (λ q h. rw q (either (reaches reached target i) (has (carried s reached asked r) i) (sym (joined i) ∙ h) (g.grown.sound target i) (carried-sound counts i)))
              (g.grown.sound m i);
        }

    less-on : new ≡ true → missing after < missing reached
    less-on y =
        new-digit counts (e.new y) (λ i h u v. rw (e.taken y) (missing-less reached target (union (get_or reached target 0) (carried s reached asked r)) i g.sources.room
        (let j = target-in in let k = g.sources.room in omega arith) h v (joined i ∙ or_right (reaches reached target i) (has (carried s reached asked r) i) u)
        (λ d z. joined d ∙ or_left (reaches reached target d) (has (carried s reached asked r) d) z)))

    pub passing-more : (out : Bool) (last : List ℕ) → out ≡ (more || new) → last ≡ after → Passing s n stage asked start last out (r + 1)
    passing-more out last o z =
        let m = g.many in
        rw z (cases new
        (λ y. let h : out ≡ true = o ∙ or_right more new y in
        record {
          formed = g.formed;
          many = m;
          within = omega (arith, here);
          all = g.all;
          sources = sources-on y;
          grown = grown-on y;
          fewer = λ u. let i = less-on y in cases more (λ v. omega (arith, g.fewer v)) (λ v. rw (← g.left v) i);
          left = λ u. contra h u;
          none = λ u. contra h u;
        })
        (λ y. rw (e.left y) (record {
          formed = g.formed;
          many = m;
          within = omega (arith, here);
          all = g.all;
          sources = g.sources;
          grown = g.grown;
          fewer = λ u. either more new (sym o ∙ u) g.fewer (λ v. contra v y);
          left = λ u. g.left (neither more new (sym o ∙ u)).0;
          none = λ u q i k. let v = (neither more new (sym o ∙ u)).0 in
              lt-suc (rw add-one at i) (λ p. rw (p, ← g.left v) (e.none y)) (λ j. g.none v q j k);
        })))

  -- a rule that does not count
  pub passing-past : (out : Bool) (last : List ℕ) → x ≡ false → out ≡ more → last ≡ reached → Passing s n stage asked start last out (r + 1)
  passing-past out last t o z =
      let m = g.many in
      rw (o, z) (record {
        formed = g.formed;
        many = m;
        within = omega (arith, here);
        all = g.all;
        sources = g.sources;
        grown = g.grown;
        fewer = g.fewer;
        left = g.left;
        none = λ u q i k. lt-suc (rw add-one at i) (λ p. contra (rw p at k) (sym c ∙ t)) (λ j. g.none u q j k);
      })

pub passing-last : (s : List ℕ) (n stage : ℕ) (asked start reached : List ℕ) (more : Bool) (r : ℕ) → Passing s n stage asked start reached more r → n ≤ r → Passed s stage start asked reached more
passing-last s n stage asked start reached more r g l =
    let m = g.many in
    record {
      sources = g.sources;
      grown = g.grown;
      fewer = g.fewer;
      left = g.left;
      none = λ u q k. g.none u q (let i : q < rules_in s = rw (count-is s stage) at k.0 in omega arith) k.1;
    }

-- ---- the passes

pub record Spreading (s : List ℕ) (h : Counts) (stage : ℕ) (start reached asked : List ℕ) (more : Bool) : Type 0 where
  pub opened : Opened s h
  pub sources : Sources reached
  pub room : length asked ≡ max_conditions
  pub grown : Grown (rules_of s stage) start reached
  pub settled : more ≡ false → Settled s stage reached asked

module _ (s : List ℕ) (h : Counts) (stage : ℕ) (start reached asked : List ℕ) (more : Bool) (g : Spreading s h stage start reached asked more) (next : List ℕ) (a : AskedAll s reached next)
    (after : List ℕ) (out : Bool) (p : Passed s stage reached next after out) where
  pub spreading-more : Spreading s h stage start after next out
  unfolding net_of
  spreading-more = record {
    opened = g.opened;
    sources = p.sources;
    room = a.room;
    grown = record {
      kept = λ x i t. p.grown.kept x i (g.grown.kept x i t);
      sound = λ x i t. let (y, u, v) = p.grown.sound x i t in let (z, w, d) = g.grown.sound y i u in (z, w, leads-join (rules_of s stage) z y x d v);
    };
    settled = λ t. rw (p.left t) (record {
      all = a;
      closed = λ r x i c e u. minus-none (carried s reached next r) (get_or reached (target_of s r) 0) (p.none t r c) i
          (carried-takes s reached next g.opened.formed r (rw (count-is s stage) at c.0) a x i e u);
    });
  }
