-- The sources that rules carry on to themselves are the marks of the round that rules on a loop target, and the lowest of all rounds is the place. Assumes nothing.
use mathlib.Core.Path.{◌≡◌, refl, sym, ap, ◌∙◌}
use mathlib.Core.Logic.{◌≢◌, ⊎_elim, ◌↔◌}
use mathlib.Core.Bool.{Bool, true, false, ◌&&◌, ◌||◌, and-true, and-false, or-false}
use mathlib.Core.List.{List}
use Rattle.std.specs.Prelude.{Some, None}
use Prim.Native.Nat.{ℕ, ◌+◌, ◌-◌, ◌%◌, ◌≤◌, ◌<◌}
use native.Mathlib.Omega.{arith}
use lib.Dec.{eqb, ltb}
use lib.ListN.{length, replicate, length-replicate}
use borrow.Author.Tests.{eqb-true, eqb-false, eq-eqb, ne_eqb, ltb-true, ltb-false, lt-ltb}
use Rattle.paper.specs.Limits.{max_conditions}
use Rattle.general.specs.Cases.{contra, cases, both, not_so}
use Rattle.general.specs.Below.{found, some, some_of, some_at, some-step, first_found, first-none}
use Rattle.sets.specs.Set.{has, only, put_if, lowest}
use Rattle.sets.specs.Laws.{has-union, has-only, has-empty, lowest-least, lowest-has}
use Rattle.closure.specs.Closure.{within}
use Rattle.order_theory.specs.Order.{OnLoop, NoLoop}
use Rattle.order_theory.specs.Loops.{leads}
use Rattle.order_theory.proofs.Loops.{loop-found}
use Rattle.order_theory.specs.Spread.{Spread, Back}
use Rattle.order_theory.proofs.Spread.{spread-loop}
use Rattle.book.specs.Image.{rules_in, marks_in, book_of}
use Rattle.book.specs.Marks.{word_bits}
use Rattle.book.specs.WellFormed.{WellFormed}
use Rattle.book.specs.WellRead.{Opened}
use Rattle.book.specs.declared.Counts.{Counts}
use Rattle.rule_order.specs.Rules.{net_of}
use Rattle.rule_order.specs.Nets.{rules_of, count-is}
use Rattle.loop_search.specs.Spreading.{reaches, Begun, carried, target_of, Grown, Settled, hit, WithHit, Hits, LowestSource}
use Rattle.loop_search.specs.Places.{stage_place, found-some, found-none, stage-place}
use Rattle.loop_search.specs.Searching.{targets-exist}
use Rattle.loop_search.proofs.Reading.{marks-many}
use Rattle.loop_search.proofs.Carrying.{carried_gives, carried-takes}

-- ---- one rule

has-put_if : (s e : ℕ) (b : Bool) (f : ℕ) → has (put_if s e b) f ≡ (has s f || (eqb e f && b))
has-put_if s e true f = has-union s (only e) f ∙ ap (λ (x : Bool). has s f || x) (has-only e f ∙ sym (and-true (eqb e f)))
has-put_if s e false f = sym (ap (λ (x : Bool). has s f || x) (and-false (eqb e f)) ∙ or-false (has s f))

module _ (s : List ℕ) (base : ℕ) (reached asked : List ℕ) (r hits t : ℕ) (e : t ≡ target_of s r) where
  no_hit : ((i : ℕ) → i < word_bits → t ≡ base + i → ⊥) → WithHit s base reached asked r hits hits
  no_hit n i =
      cases (ltb i word_bits)
      (λ x. rw (x, ne_eqb (target_of s r) (base + i) (λ z. n i (ltb-true i word_bits x) (e ∙ z))) (sym (or-false (has hits i))))
      (λ x. rw x (sym (or-false (has hits i))))

  pub hit-below : t < base → WithHit s base reached asked r hits hits
  hit-below h = no_hit (λ i k z. omega arith)

  pub hit-above : base ≤ t → word_bits ≤ t - base → WithHit s base reached asked r hits hits
  hit-above h l = no_hit (λ i k z. omega arith)

  pub hit-here : (from after : ℕ) (b : Bool) → base ≤ t → t - base < word_bits → from ≡ carried s reached asked r → b ≡ has from (t - base) → after ≡ put_if hits (t - base) b
      → WithHit s base reached asked r hits after
  hit-here from after b h l f p q i =
      ap (λ (x : ℕ). has x i) q ∙ has-put_if hits (t - base) b i
      ∙ ap (λ (x : Bool). has hits i || x) (cases (eqb (t - base) i)
      (λ x. let z : t - base ≡ i = eqb-true (t - base) i x in
      rw (x, lt-ltb i word_bits (omega arith), eq-eqb (target_of s r) (base + i) (omega arith), p, f, z))
      (λ x. let z : t - base ≢ i = eqb-false (t - base) i x in
      rw (x, ne_eqb (target_of s r) (base + i) (λ y. z (omega arith))) (sym (and-false (ltb i word_bits)))))

-- ---- the loop over the rules: those of the first r are in the set

pub record Hitting (s : List ℕ) (n stage base : ℕ) (reached asked : List ℕ) (hits r : ℕ) : Type 0 where
  pub formed : WellFormed s
  pub many : n ≡ rules_in s
  pub within : r ≤ rules_in s
  pub digits : (i : ℕ) → has hits i ≡ some r (λ q. (rules_of s stage).counts q && hit s base reached asked q i)

pub hitting-first : (s : List ℕ) (n stage base : ℕ) (reached asked : List ℕ) → WellFormed s → n ≡ rules_in s → Hitting s n stage base reached asked 0 0
unfolding some
hitting-first s n stage base reached asked w e = record { formed = w; many = e; within = omega arith; digits = λ i. has-empty i }

module _ (s : List ℕ) (n stage base : ℕ) (reached asked : List ℕ) (hits r : ℕ) (g : Hitting s n stage base reached asked hits r) (l : r < n) (x : Bool) (c : x ≡ (rules_of s stage).counts r) where
  pub hitting-more : (after out : ℕ) → x ≡ true → WithHit s base reached asked r hits after → out ≡ after → Hitting s n stage base reached asked out (r + 1)
  hitting-more after out t k z =
      let m = g.many in
      rw z (record {
        formed = g.formed;
        many = m;
        within = omega arith;
        digits = λ i. k i ∙ rw (some-step r (λ q. (rules_of s stage).counts q && hit s base reached asked q i), sym c ∙ t) (ap (λ (b : Bool). b || hit s base reached asked r i) (g.digits i));
      })

  pub hitting-past : (out : ℕ) → x ≡ false → out ≡ hits → Hitting s n stage base reached asked out (r + 1)
  hitting-past out t z =
      let m = g.many in
      rw z (record {
        formed = g.formed;
        many = m;
        within = omega arith;
        digits = λ i. rw (some-step r (λ q. (rules_of s stage).counts q && hit s base reached asked q i), sym c ∙ t) (g.digits i ∙ sym (or-false _));
      })

pub hitting-last : (s : List ℕ) (n stage base : ℕ) (reached asked : List ℕ) (hits r : ℕ) → Hitting s n stage base reached asked hits r → n ≤ r → Hits s stage base reached asked hits
hitting-last s n stage base reached asked hits r g l i =
    let m = g.many in let k = g.within in let z : r ≡ rules_in s = omega arith in rw (← z) (g.digits i)

-- ---- one round

pub asked-room : length {A = ℕ} (replicate max_conditions 0) ≡ max_conditions
asked-room = length-replicate {A = ℕ} max_conditions 0

module _ (s : List ℕ) (h : Counts) (stage base : ℕ) (start reached asked : List ℕ) (o : Opened s h) (b : Begun base start) (g : Grown (rules_of s stage) start reached) (k : Settled s stage reached asked) where
  -- what is reached from source i is what one gets to from it
  from-source : (i : ℕ) → i < word_bits → Spread (rules_of s stage) (base + i) (λ x. reaches reached x i)
  unfolding net_of
  from-source i l =
      record {
        sound = λ x e. let (y, t, w) = g.sound x i e in
            let q : y ≡ base + i = eqb-true y (base + i) (both (ltb i word_bits) (eqb y (base + i)) (sym (b.each y i) ∙ t)).1 in
            rw q at w;
        begun = g.kept (base + i) i (b.each (base + i) i ∙ rw (lt-ltb i word_bits l, eq-eqb (base + i) (base + i) refl));
        closed = λ r x c e t. k.closed r x i c e t;
      }

  module _ (hits : ℕ) (d : Hits s stage base reached asked hits) (i : ℕ) (l : i < word_bits) where
    hit-back : has hits i ≡ true → Back (rules_of s stage) (base + i) (λ x. reaches reached x i) (base + i)
    unfolding net_of
    hit-back e =
        let (r, m, t) = some_at (rules_in s) (λ r. (rules_of s stage).counts r && hit s base reached asked r i) (sym (d i) ∙ e) in
        let (c, u) = both ((rules_of s stage).counts r) (hit s base reached asked r i) t in
        let (x, v) = both (ltb i word_bits) (eqb (target_of s r) (base + i) && has (carried s reached asked r) i) u in
        let (y, z) = both (eqb (target_of s r) (base + i)) (has (carried s reached asked r) i) v in
        let (q, f, p) = carried_gives s reached reached asked o.formed r m k.all i z in
        (r, q, (rw (count-is s stage) m, c), eqb-true (target_of s r) (base + i) y, f, ⊎_elim (λ w. w) (λ w. w) p)

    back-hit : Back (rules_of s stage) (base + i) (λ x. reaches reached x i) (base + i) → has hits i ≡ true
    unfolding net_of
    back-hit w =
        let (r, x, c, u, f, t) = w in
        let m : r < rules_in s = rw (count-is s stage) at c.0 in
        d i ∙ some_of (rules_in s) (λ r. (rules_of s stage).counts r && hit s base reached asked r i) r m
        (rw (c.1, lt-ltb i word_bits l, eq-eqb (target_of s r) (base + i) u, carried-takes s reached asked o.formed r m k.all x i f t))

  pub source-lowest : (hits least : ℕ) → Hits s stage base reached asked hits → least ≡ lowest 64 hits → LowestSource (rules_of s stage) base least
  source-lowest hits least d e = record {
    found = λ l. (spread-loop (rules_of s stage) (base + least) (from-source least l)).1 (hit-back hits d least l (rw (← e) at (lowest-has 64 hits (rw (← e) l))));
    none = λ j m l w. contra (back-hit hits d j l ((spread-loop (rules_of s stage) (base + j) (from-source j l)).0 w)) (lowest-least 64 hits j (rw (← e) m));
  }

-- ---- all rounds

marks-said : (s : List ℕ) → (book_of s).marks ≡ marks_in s
unfolding book_of
marks-said s = refl

pub record Searched (s : List ℕ) (h : Counts) (stage base : ℕ) : Type 0 where
  pub opened : Opened s h
  pub even : base % word_bits ≡ 0
  pub none : (m : ℕ) → m < base → OnLoop (rules_of s stage) m → ⊥

module _ (s : List ℕ) (h : Counts) (stage base : ℕ) (g : Searched s h stage base) where
  on-loop : (m : ℕ) → OnLoop (rules_of s stage) m ↔ (within (leads (rules_of s stage)) (marks_in s) m m ≡ true)
  unfolding net_of book_of
  on-loop m = loop-found (rules_of s stage) (marks_in s) (λ r c. targets-exist s g.opened.formed r c.0) m

  on-loop-low : (m : ℕ) → OnLoop (rules_of s stage) m → m < marks_in s
  unfolding net_of book_of
  on-loop-low m o = rw o.2 at (targets-exist s g.opened.formed o.0 o.1.0)

  module _ (i : ℕ) (k : LowestSource (rules_of s stage) base i) where
    pub searched-found : i < word_bits → base + i ≡ stage_place (book_of s) stage
    unfolding stage_place book_of
    searched-found l =
        first_found (marks_in s) (λ m. within (leads (rules_of s stage)) (marks_in s) m m) (base + i) (on-loop-low (base + i) (k.found l))
        (λ p m. not_so (λ e. cases (ltb p base) (λ x. g.none p (ltb-true p base x) ((on-loop p).1 e))
        (λ x. let y = ltb-false p base x in let z : base + (p - base) ≡ p = omega arith in
        k.none (p - base) (omega arith) (omega arith) (rw z ((on-loop p).1 e))))) ((on-loop (base + i)).0 (k.found l))

    pub searched-some : i < word_bits → Some (base + i) ≡ found (book_of s).marks (stage_place (book_of s) stage)
    searched-some l = found-some (book_of s).marks (stage_place (book_of s) stage) (base + i) (searched-found l) (rw (marks-said s) (on-loop-low (base + i) (k.found l)))

    pub searched-more : word_bits ≤ i → Searched s h stage (base + word_bits)
    searched-more l =
        let e = g.even in
        record {
          opened = g.opened;
          even = omega arith;
          none = λ m j o. cases (ltb m base) (λ x. g.none m (ltb-true m base x) o)
              (λ x. let y = ltb-false m base x in let z : base + (m - base) ≡ m = omega arith in k.none (m - base) (omega arith) (omega arith) (rw z o));
        }

  pub searched-last : h.marks ≤ base → h.marks ≡ stage_place (book_of s) stage
  unfolding stage_place book_of
  searched-last l =
      let e = marks-many s h g.opened in
      e ∙ first-none (marks_in s) (λ m. within (leads (rules_of s stage)) (marks_in s) m m) (λ p m. not_so (λ t. g.none p (omega arith) ((on-loop p).1 t)))

  pub searched-none : h.marks ≤ base → None ≡ found (book_of s).marks (stage_place (book_of s) stage)
  searched-none l = found-none (book_of s).marks (stage_place (book_of s) stage) (marks-said s ∙ sym (marks-many s h g.opened) ∙ searched-last l)

-- where the running order lists all rules that count, there is no loop
pub through-place : (s : List ℕ) (h : Counts) (stage : ℕ) (b : Bool) → Opened s h → ((b ≡ true) ↔ NoLoop (rules_of s stage)) → b ≡ true → h.marks ≡ stage_place (book_of s) stage
unfolding book_of
through-place s h stage b o e t = marks-many s h o ∙ sym ((stage-place (book_of s) (targets-exist s o.formed) stage).1.0 (e.0 t))

pub through_none : (s : List ℕ) (h : Counts) (stage : ℕ) (b : Bool) → Opened s h → ((b ≡ true) ↔ NoLoop (rules_of s stage)) → b ≡ true → None ≡ found (book_of s).marks (stage_place (book_of s) stage)
through_none s h stage b o e t = found-none (book_of s).marks (stage_place (book_of s) stage) (marks-said s ∙ sym (marks-many s h o) ∙ through-place s h stage b o e t)
