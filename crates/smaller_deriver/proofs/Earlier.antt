-- Laws of earlier proofs, which stood in specs/: nothing cites them now, and they stand. Assumes nothing.
use Rattle.std.specs.Prelude.{ℕ, ◌+◌, ◌-◌, ◌≤◌, ◌<◌, ◌≡◌, Bool, cond, List, ◌∷◌, ◌/◌, false, true, not, []}
use Rattle.std.proofs.Math.Path.{sym, ap}
use Rattle.std.proofs.Common.{◌∙◌, arith}
use Rattle.std.proofs.lemmas.List.Edits.{sets}
use Rattle.paper.specs.Limits.{no_mark, max_rules, max_conditions, unfit}
use Rattle.general.specs.Below.{tally, tally-step, tally-le}
use Rattle.general.specs.Lists.{flat_step, each, length-each}
use Rattle.general.specs.Writing.{sets-append, Ran}
use Rattle.sets.specs.Set.{has}
use Rattle.flat_chart.specs.Flat.{FlatChart}
use Rattle.graph.specs.Flat.{Marking}
use Rattle.smaller.specs.Kept.{union_upto, executed_kept, included_kept, answered_kept}
use Rattle.smaller_deriver.specs.Marks.{numbered, marks_by, table_by}
use Rattle.std.proofs.Math.ListN.{length}
use Rattle.paper.specs.declared.Answer.{Answer}
use Rattle.smaller_deriver.specs.Book.{book_runs, Laid, sizes_by, whole_runs, Whole, whole_answer, whole_room, places-rise, rules-so, records-so}
use Rattle.paper.specs.Answers.{refusal}
use borrow.Author.Tests.{not-true, not-false}
use Rattle.flat_chart.specs.Chart.{Fit}
use Rattle.graph.specs.Fitness.{fit}
use Rattle.smaller_deriver.specs.declared.Smaller.{Smaller}
use Rattle.smaller_deriver.specs.Calling.{refusing_smaller, smaller_image, deriving_smaller, smaller_room}
use Rattle.smaller.specs.Keeping.{Keeping}
use Rattle.smaller_deriver.specs.Calling as calling

-- ---- the numbers, as a loop meets them

pub numbers_more : (start table : List ℕ) (at set next e v : ℕ) → v ≡ numbered set next e → table ≡ sets start at (each e (numbered set next))
    → lib.ListN.set table (at + e) v ≡ sets start at (each (e + 1) (numbered set next))
numbers_more start table at set next e v p q =
    rw (q, p, flat_step e (λ k. numbered set next k ∷ []))
    (sym (sets-append (each e (numbered set next)) (numbered set next e ∷ []) start at ∙ rw (length-each e (numbered set next))))

pub numbers-all : (start table : List ℕ) (at set next e n : ℕ) → e ≤ n → n ≤ e → table ≡ sets start at (each e (numbered set next)) → table ≡ sets start at (each n
    (numbered set next))
numbers-all start table at set next e n h l p = let z : e ≡ n = omega arith in p ∙ ap (λ (k : ℕ). sets start at (each k (numbered set next))) z

pub union-all : (t : List ℕ) (e n s : ℕ) → e ≤ n → n ≤ e → s ≡ union_upto e t → s ≡ union_upto n t
union-all t e n s h l p = let z : e ≡ n = omega arith in p ∙ ap (λ (k : ℕ). union_upto k t) z

-- one number more is free where the mark stays
pub free_more : (set next e free r : ℕ) (b : Bool) → b ≡ has set e → free ≡ next + tally e (has set) → r ≡ cond b 1 0 + free → r ≡ next + tally (e + 1) (has set)
free_more set next e free r b p q u = let z : tally (e + 1) (has set) ≡ cond (has set e) 1 0 + tally e (has set) = tally-step e (has set) in u ∙ rw (p, q, z) (omega arith)

pub free_all : (set next e n free : ℕ) → e ≤ n → n ≤ e → free ≡ next + tally e (has set) → free ≡ next + tally n (has set)
free_all set next e n free h l p = let z : e ≡ n = omega arith in p ∙ ap (λ (k : ℕ). next + tally k (has set)) z

pub free-few : (set next e n free : ℕ) → e < n → free ≡ next + tally e (has set) → free < next + n
free-few set next e n free h p = let l : tally e (has set) ≤ e = tally-le e (has set) in omega arith

pub number-made : (set next e free v : ℕ) (b : Bool) → b ≡ has set e → free ≡ next + tally e (has set) → v ≡ cond b free no_mark → v ≡ numbered set next e
number-made set next e free v b p q u = u ∙ rw (p, q)

-- ---- the whole book, by the sizes that the texts have

module _ (k : Keeping) (M : ℕ) (c : FlatChart) (ok : Whole k M c) (s : List ℕ) (p : s ≡ sizes_by k c) (a b d : ℕ) (laid : Laid k s c 32 a b d) (none after : List ℕ)
    (ran : Ran none 32 (book_runs k s c) d after) where
  pub counts-few : ((a - 32) / 10 ≤ max_rules) × ((b - a) / 8 ≤ max_conditions)
  counts-few = (rw (rules-so k M c ok s p laid ran) ok.rules, rw (records-so k M c ok s p laid ran) ok.records)

  pub header-fits : (room : List ℕ) → d ≤ length room → 32 ≤ length room
  header-fits room h = let t = places-rise k M c ok s p laid ran in omega (arith, t.0, t.1, t.2)

-- ---- each return, by the refusing test

module _ (c : FlatChart) (m : Marking) (room : List ℕ) (b : Bool) (p : b ≡ fit c m) where
  pub smaller-unfit : not b ≡ true → (a : Answer) (r : Smaller) → a ≡ refusal unfit → r ≡ refusing_smaller a → (r ≡ deriving_smaller c m (length room)) ×
      (room ≡ smaller_room c m room)
  smaller-unfit t a r = calling.smaller-unfit c m room b p (not-true b t)

  module _ (t : not b ≡ false) where
    pub chart-fit : Fit c
    chart-fit = calling.chart-fit c m room b p (not-false b t)

    module _ (E I A M : ℕ) (T : List ℕ) (p_e : E ≡ executed_kept c m) (p_i : I ≡ included_kept c m) (p_a : A ≡ answered_kept c m) (p_t : (T ≡ table_by c.count E I A) × (M ≡ marks_by
        c.count E I A)) where
      abbrev made : Keeping
      made = record { n = c.count; executed = E; included = I; answered = A; table = T }

      pub image-is : whole_runs made M c ≡ smaller_image c m
      image-is = calling.image-is c m room b p (not-false b t) p_e p_i p_a p_t

      pub whole : Whole made M c
      whole = calling.whole c m room b p (not-false b t) p_e p_i p_a p_t

      module _ (a : Answer) (after : List ℕ) (w : (a ≡ whole_answer made M c (length room)) × (after ≡ whole_room made M c room)) where
        pub smaller-narrow : (a.code ≡ 0 → ⊥) → (r : Smaller) → r ≡ refusing_smaller a → (r ≡ deriving_smaller c m (length room)) × (after ≡ smaller_room c m room)
        smaller-narrow n r = calling.smaller-narrow c m room b p (not-false b t) p_e p_i p_a p_t w n

        pub smaller-granted : a.code ≡ 0 → (r : Smaller) → r ≡ record { answer = a; table = T } → (r ≡ deriving_smaller c m (length room)) × (after ≡ smaller_room c m room)
        smaller-granted z r = calling.smaller-granted c m room b p (not-false b t) p_e p_i p_a p_t w z
